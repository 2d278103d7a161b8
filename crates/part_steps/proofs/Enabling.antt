-- What is possible now.
use Rattle.std.proofs.Common.{◌≡◌, ◌∙◌, ◌==◌, ◌&&◌, ◌≤◌, ℕ, Bool, true, false, cond, Option, Some, None, refl, ap, arith, eq-eqb}
use Rattle.std.specs.Prelude.{nat_le, is_some, option_map, Result, Ok, Err, IfOk, IfSome, IfNone}
use Rattle.std.proofs.lemmas.Bool.{leb-true, le-leb}
use Rattle.dura_value.specs.Ids.{Id, orchestration, entity, client}
use Rattle.dura_value.specs.Items.{Item, took, got, ran, ended, fired, trim}
use Rattle.dura_value.specs.Messages.{Body}
use Rattle.dura_value.proofs.Ids.{and_true}
use Rattle.log_items.specs.Plain.{item_of}
use Rattle.log_items.specs.declared.items.Item as logged
use Rattle.flow_syntax.specs.Syntax.{Flows}
use Rattle.flow_syntax.specs.Entity.{Entity}
use Rattle.part_rows.specs.Timers.{IsFirstDue, NoneDue}
use Rattle.dura_model.specs.Partition.{Row, Partition, instance_in, first_in, last_in, accepted}
use Rattle.dura_model.specs.Placed.{Belongs, AreOfInstances}
use Rattle.part_rows.specs.Open.{lets_in, oldest_open, last_of_entity, last_at, IsOpen, NoneOpen}
use Rattle.part_steps.specs.Enabled.{stamp_at, ComesNext, FiresFirst, IsEnabled, NoneEnabled}
use Rattle.part_steps.specs.Reached.{takes_at, fires_at}
use Rattle.part_steps.proofs.Delivering.{not_taken, nothing_there, delivered}
use Rattle.part_steps.proofs.Ending.{not_due, fires}

module _ (count place : ℕ) (p : Partition) (b : Belongs count place p) (now : ℕ) where
  stamp_by : (low : Bool) → nat_le p.stamp now ≡ low → p.stamp ≤ cond low now p.stamp
  stamp_by true is = leb-true p.stamp now is
  stamp_by false is = omega (arith)

  -- the stamp isn't before any so far
  stamp_late : p.stamp ≤ stamp_at p now
  stamp_late = stamp_by (nat_le p.stamp now) refl

  row_low : (id : Id) (row : Option Row) → p.instances id ≡ row → last_in row ≤ p.stamp
  row_low id None is = omega (arith)
  row_low id (Some row) is = b.stamps.rows id row is

  entity_low : (id : Id) (kept : Option Entity) → p.entities id ≡ kept → last_of_entity kept ≤ p.stamp
  entity_low id None is = omega (arith)
  entity_low id (Some e) is = b.stamps.lasts id e is

  last_low : (to : Id) → last_at p to ≤ p.stamp
  last_low (orchestration flow key) = row_low (orchestration flow key) (p.instances (orchestration flow key)) refl
  last_low (entity class key) = entity_low (entity class key) (p.entities (entity class key)) refl
  last_low (client name) = omega (arith)

  -- so a receiver takes now what it lets in
  takes_now : (from to : Id) → lets_in p.entities from to ≡ true → takes_at p from to (stamp_at p now) ≡ true
  takes_now from to lets = and_true (lets_in p.entities from to) (nat_le (last_at p to) (stamp_at p now)) lets (le-leb (last_at p to) (stamp_at p now) (omega (arith, last_low to, stamp_late)))

  same_stamp : (stamp_at p now == stamp_at p now) ≡ true
  same_stamp = eq-eqb (stamp_at p now) (stamp_at p now) refl

  pub open_enabled : (flows : Flows) (from to : Id) → IsOpen p from to → IsEnabled flows count p (stamp_at p now) (ran from to (stamp_at p now))
  open_enabled flows from to is = record {
    at = same_stamp;
    next = _;
    taken = delivered flows count p from to (stamp_at p now) is.body is.first (takes_now from to is.taken);
  }

  there_by : (flows : Flows) (id : Id) (task due : ℕ) (row : Option Row) → p.instances id ≡ row → is_some row ≡ true → p.timers id task ≡ Some due → due ≤ stamp_at p now
      → IsEnabled flows count p (stamp_at p now) (fired id task (stamp_at p now))
  there_by flows id task due None is there pending in_time = absurd (cc there)
  there_by flows id task due (Some row) is there pending in_time = record {
    at = same_stamp;
    next = _;
    taken = fires flows count p id task (stamp_at p now) (instance_in flows id row)
        (ap (λ (r : Option Row). fires_at r (p.timers id task) (stamp_at p now)) is
        ∙ ap (λ (timer : Option ℕ). fires_at (Some row) timer (stamp_at p now)) pending
        ∙ and_true (nat_le due (stamp_at p now)) (nat_le row.stamp (stamp_at p now)) (le-leb due (stamp_at p now) in_time)
        (le-leb row.stamp (stamp_at p now) (let low = row_low id (Some row) is in omega (arith, low, stamp_late))))
        (ap (option_map (instance_in flows id)) is);
  }

  pub due_enabled : (flows : Flows) (id : Id) (task due : ℕ) → AreOfInstances p → IsFirstDue p.timers (stamp_at p now) due id task → IsEnabled flows count p (stamp_at p now) (fired id task (stamp_at p now))
  due_enabled flows id task due owned first = there_by flows id task due (p.instances id) refl (owned.due id task due first.there) first.there first.in_time

  closed_by : (flows : Flows) (from to : Id) (found : Option Body) → first_in p.queue from to ≡ found → NoneOpen p → accepted flows count p (ran from to (stamp_at p now)) ≡ None
  closed_by flows from to None is closed = nothing_there flows count p from to (stamp_at p now) is
  closed_by flows from to (Some body) is closed =
      not_taken flows count p from to (stamp_at p now) (ap (λ (t : Bool). t && nat_le (last_at p to) (stamp_at p now)) (closed from to body is))

  waits_by : (id : Id) (task : ℕ) (row : Option Row) (timer : Option ℕ) → p.timers id task ≡ timer → NoneDue p.timers (stamp_at p now) → fires_at row timer (stamp_at p now) ≡ false
  waits_by id task None timer is none = refl
  waits_by id task (Some row) None is none = refl
  waits_by id task (Some row) (Some due) is none = by (nat_le due (stamp_at p now)) refl
    where
      by : (low : Bool) → nat_le due (stamp_at p now) ≡ low → (nat_le due (stamp_at p now) && nat_le row.stamp (stamp_at p now)) ≡ false
      by false same = ap (λ (b : Bool). b && nat_le row.stamp (stamp_at p now)) same
      by true same = absurd (let early = leb-true due (stamp_at p now) same in let late = none due id task is in omega (arith, early, late))

  pub none_enabled : (flows : Flows) → NoneOpen p → NoneDue p.timers (stamp_at p now) → NoneEnabled flows count p (stamp_at p now)
  none_enabled flows closed none = record {
    deliveries = λ from to. closed_by flows from to (first_in p.queue from to) refl closed;
    timers = λ id task. not_due flows count p id task (stamp_at p now) (waits_by id task (p.instances id) (p.timers id task) refl none);
  }

-- where no receiver takes a message, the timer that is due first comes next
comes_next : (p : Partition) (stamp : ℕ) (item : Item) → oldest_open p ≡ None → FiresFirst p stamp item → ComesNext p stamp item
comes_next p stamp (took message) none is = absurd is
comes_next p stamp (got source number message) none is = absurd is
comes_next p stamp (ran from to at) none is = absurd is
comes_next p stamp (ended id task outcome) none is = absurd is
comes_next p stamp (fired id task at) none is = (none, is.1)
comes_next p stamp (trim reader number) none is = absurd is

pub if_next : {E : Type 0} (p : Partition) (stamp : ℕ) (made : Result (Option logged.Item) E) → oldest_open p ≡ None
    → IfOk made (λ item. IfSome item (λ one. FiresFirst p stamp (item_of one))) → IfOk made (λ item. IfSome item (λ one. ComesNext p stamp (item_of one)))
if_next p stamp (Ok (Some one)) none is = comes_next p stamp (item_of one) none is
if_next p stamp (Ok None) none is = is
if_next p stamp (Err error) none is = is

-- and where none is due either, nothing is enabled
pub if_none : {E : Type 0} (count place : ℕ) (p : Partition) → Belongs count place p → (now : ℕ) (made : Result (Option logged.Item) E) → NoneOpen p
    → IfOk made (λ item. IfNone item (NoneDue p.timers (stamp_at p now))) → IfOk made (λ item. IfNone item ((flows : Flows) → NoneEnabled flows count p (stamp_at p now)))
if_none count place p b now (Ok (Some one)) closed is = is
if_none count place p b now (Ok None) closed is = λ flows. none_enabled count place p b now flows closed is
if_none count place p b now (Err error) closed is = is
