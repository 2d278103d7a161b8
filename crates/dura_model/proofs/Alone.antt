-- One partition alone: everything lives in it, and nothing comes in to it from another one.
use Rattle.std.proofs.Common.{◌≡◌, ◌<◌, ◌≤◌, ◌==◌, ◌&&◌, ℕ, Bool, true, Some, refl, ap, subst, ◌∙◌, arith}
use Rattle.std.specs.Prelude.{not, nat_lt, nat_le, length, drop, ◌++◌, ◌+◌, ◌-◌}
use Rattle.std.proofs.lemmas.Bool.{ltb-true, and_parts, not-true}
use Rattle.dura_value.specs.Ids.{Id, home}
use Rattle.dura_value.specs.Items.{Item, took, got, ran, ended, fired, trim}
use Rattle.flow_syntax.specs.Syntax.{Flows}
use Rattle.dura_model.specs.Partition.{Partition, instance_at, link_in, messages_in, accepted, label_in, shown}
use Rattle.dura_model.specs.Placed.{Belongs, AreShown, happens_at, IsOfStreams}
use Rattle.dura_model.specs.Steps.{Label, take, deliver, finish, fire, number_in}
use Rattle.dura_model.specs.World.{World}
use Rattle.dura_model.proofs.Basics.{passes, eqb_apart}
use Rattle.dura_model.specs.Entries.{shown_by}

pub home_alone : (id : Id) → home 1 id ≡ 0
home_alone id = omega arith

-- the states of partitions show what the one at home shows
pub shown_alone : (flows : Flows) (parts : ℕ → Partition) (q : Partition) → parts 0 ≡ q → shown flows 1 parts ≡ shown_by flows q
shown_alone flows parts q is = ap of_homes (λ i id. here id i)
  where
    here : (id : Id) → parts (home 1 id) ≡ q
    here id = ap parts (home_alone id) ∙ is

    of_homes : (Id → Partition) → World
    of_homes at = record {
      orchestrations = λ id. instance_at flows (at id) id;
      entities = λ id. (at id).entities id;
      links = λ from to. link_in ((at to).queue ++ messages_in (drop (((at to).inboxes (home 1 from)).next - ((at from).outboxes (home 1 to)).first) ((at from).outboxes (home 1 to)).messages)) from to;
      activities = λ id task. (at id).activities id task;
      timers = λ id task. (at id).timers id task;
      taken = λ id number. (at id).taken id number;
      answers = λ id number. (at id).answers id number;
    }

one_place : (parts : ℕ → Partition) (q : Partition) → parts 0 ≡ q → (place : ℕ) → place < 1 → parts place ≡ q
one_place parts q is place below = let first : place ≡ 0 = omega (arith, below) in ap parts first ∙ is

pub are_shown_alone : (parts : ℕ → Partition) (q : Partition) → parts 0 ≡ q → AreShown 1 parts → AreShown 1 (λ place. q)
are_shown_alone parts q is shows = record {
  each = λ place below. subst (λ (s : Partition). Belongs 1 place s) (here place below) (shows.each place below);
  readers = λ source target low below.
      let r = shows.readers source target low below in
      record {
        from_first = reads source target (λ s t. (s.outboxes target).first ≤ (t.inboxes source).next) low below r.from_first;
        to_end = reads source target (λ s t. (t.inboxes source).next ≤ (s.outboxes target).first + length (s.outboxes target).messages) low below r.to_end;
      };
}
  where
    here : (place : ℕ) → place < 1 → parts place ≡ q
    here = one_place parts q is

    reads : (source target : ℕ) (P : Partition → Partition → Type 0) → source < 1 → target < 1 → P (parts source) (parts target) → P q q
    reads source target P low below both = subst (λ (s : Partition). P s q) (here source low) (subst (λ (t : Partition). P (parts source) t) (here target below) both)

-- there is no other partition
no_other : (p : Partition) (other : ℕ) (more : Bool) → p.number ≡ 0 → (not (other == p.number) && (nat_lt other 1 && more)) ≡ true → ⊥
no_other p other more number passes_it =
    let parts = and_parts (not (other == p.number)) (nat_lt other 1 && more) passes_it in
    let below : other < 1 = ltb-true other 1 (and_parts (nat_lt other 1) more parts.1).0 in
    let same : other ≡ p.number = omega (arith, below, number) in
    eqb_apart other p.number (not-true (other == p.number) parts.0) same

-- An item that is a label: what comes in and what is let go is of other partitions.
pub record IsStep (p : Partition) (item : Item) : Type 0 where
  pub label : Label
  pub labelled : label_in item ≡ Some label
  pub id : Id
  pub happens : happens_at item ≡ Some id
  pub alone : IsOfStreams (λ place. p) 0 item

pub accepted_is_step : (flows : Flows) (p next : Partition) (item : Item) → p.number ≡ 0 → accepted flows 1 p item ≡ Some next → IsStep p item
accepted_is_step flows p next (took message) number accepts = record { label = take message.from (number_in message.body) message; labelled = refl; id = message.from; happens = refl; alone = tt }
accepted_is_step flows p next (ran from to stamp) number accepts = record { label = deliver from to stamp; labelled = refl; id = to; happens = refl; alone = tt }
accepted_is_step flows p next (ended id task outcome) number accepts = record { label = finish id task outcome; labelled = refl; id = id; happens = refl; alone = tt }
accepted_is_step flows p next (fired id task stamp) number accepts = record { label = fire id task stamp; labelled = refl; id = id; happens = refl; alone = tt }
accepted_is_step flows p next (got source at message) number accepts =
    absurd (no_other p source.partition (at == (p.inboxes source.partition).next && home 1 message.to == p.number) number (passes _ _ next accepts).0)
accepted_is_step flows p next (trim reader at) number accepts =
    absurd (no_other p reader.partition (nat_le at ((p.outboxes reader.partition).first + length (p.outboxes reader.partition).messages)) number (passes _ _ next accepts).0)
