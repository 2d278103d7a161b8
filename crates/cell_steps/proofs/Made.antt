-- What a filled entry makes of the state ahead.
use Rattle.std.proofs.Common.{◌≡◌, ◌≤◌, ◌<◌, ◌^◌, ℕ, Bool, true, false, List, [], ◌∷◌, ◌++◌, Some, None, refl, sym, ◌∙◌, ap, subst, arith}
use Rattle.std.specs.Prelude.{◌⊎◌, ◌==◌, length}
use Rattle.std.specs.List.{All}
use Rattle.std.proofs.lemmas.Bool.{eqb-true}
use Rattle.std.proofs.lemmas.Bool.Decides.{nat_tests}
use Rattle.std.proofs.lemmas.List.{append-nil, length-append, length-map, get_or_append_left}
use Rattle.std.proofs.lemmas.List.Elements.{All-head, All-tail}
use Rattle.cell_waits.specs.Waits.{Waiting, MayWait, waits_of}
use Rattle.cell_waits.specs.Indices.{IsIndexed}
use Rattle.cell_waits.specs.declared.waits.Waits.{Waits}
use Rattle.dura_model.specs.Entries.{AreGiven, all_accepted}
use Rattle.dura_model.specs.Partition.{Partition, accepted, enter}
use Rattle.dura_value.specs.Items.{Item, took, got, ran, ended, fired, trim}
use Rattle.flow_syntax.specs.Syntax.{Flows}
use Rattle.log_items.specs.Plain.{item_of, items_of}
use Rattle.log_items.specs.declared.frames.Entry.{Entry as OwnEntry}
use Rattle.log_items.specs.declared.items.Item.{Item as OwnItem}
use Rattle.log_items.specs.declared.items.Packet.{Packet}
use Rattle.part_items.specs.ItemFits.{FitsItem}
use Rattle.part_steps.specs.Enabled.{NoneEnabled, stamp_at, is_at}
use Rattle.part_steps.specs.States.{state_of, count_of}
use Rattle.cell_steps.specs.Ahead.{LeavesWaits, HasStep, Rests, Ends, ahead_of, begun_of}
use Rattle.cell_steps.specs.Fills.{IsFor, CantCome, Filled, LooksOn}
use Rattle.cell_steps.specs.Fills.Filled.{nothing, puts, lets_go, goes_on}
use Rattle.cell_steps.specs.Sent.{SendsAtOnce}
use Rattle.cell_steps.specs.Possible.{waits_first, OwnFirst}
use Rattle.cell_steps.specs.declared.mode.Mode.{Mode}
use Rattle.cell_steps.specs.declared.mode.Mode.TheVariants as modes
use Rattle.cell_steps.specs.declared.filling.Filling.{Filling}
use Rattle.cell_steps.specs.declared.live.Live.{Live}
use Rattle.cell_steps.proofs.Filled.{filled_accepted, filled_given, filled_nothing}
use Rattle.cell_steps.specs.declared.round.Round.{Round}

pub empty_is : (items : List OwnItem) (n : ℕ) (empty : Bool) → n ≡ length items → empty ≡ (n == 0) → empty ≡ true → items ≡ []
empty_is [] n empty long is yes_is = refl
empty_is (item ∷ items) n empty long is yes_is = absurd (grind (arith, nat_tests))

pub some_in : (items : List OwnItem) (n : ℕ) (empty : Bool) → n ≡ length items → empty ≡ (n == 0) → empty ≡ false → 0 < length items
some_in items n empty long is not_is = grind (arith, nat_tests)

-- one of two numbers, of which the first is this
pub either_at : (one same other number : ℕ) → one ≡ same → (number ≡ one) ⊎ (number ≡ other) → (number ≡ same) ⊎ (number ≡ other)
either_at one same other number same_is = subst (λ (n : ℕ). (number ≡ n) ⊎ (number ≡ other)) same_is

-- what is sent behind a state is sent behind the same in the entry that is next
pub sends_begun : (mode : Mode) (count incarnation : ℕ) (before after : Partition) (packets : List Packet) → SendsAtOnce mode count before after packets → SendsAtOnce mode count (enter incarnation before) after packets
sends_begun modes.Global count incarnation before after packets sends = sends
sends_begun modes.Local count incarnation before after packets sends = sends
sends_begun modes.None count incarnation before after packets sends = sends

-- what holds of all holds of the first
all_front : {X : Type 0} (P : X → Type 0) (xs ys : List X) → All P (xs ++ ys) → All P xs
all_front P xs ys all = λ k d inside. let both = length-append xs ys in subst P (get_or_append_left xs ys d k inside) (all k d (omega (arith, inside, both)))

last_of_all : {X : Type 0} (P : X → Type 0) (xs : List X) (x : X) → All P (xs ++ x ∷ []) → P x
last_of_all P [] x all = All-head P x [] all
last_of_all P (y ∷ xs) x all = last_of_all P xs x (All-tail P y (xs ++ x ∷ []) all)

no_step : (flows : Flows) (count : ℕ) (p q : Partition) (stamp : ℕ) (item : Item) → NoneEnabled flows count p stamp → is_at item stamp ≡ true → accepted flows count p item ≡ Some q → ⊥
no_step flows count p q stamp (ran from to own) none at is =
    let same : own ≡ stamp = eqb-true own stamp at in
    let not : accepted flows count p (ran from to own) ≡ None = ap (λ (n : ℕ). accepted flows count p (ran from to n)) same ∙ none.deliveries from to in
    cc (not, is)
no_step flows count p q stamp (fired id task own) none at is =
    let same : own ≡ stamp = eqb-true own stamp at in
    let not : accepted flows count p (fired id task own) ≡ None = ap (λ (n : ℕ). accepted flows count p (fired id task n)) same ∙ none.timers id task in
    cc (not, is)
no_step flows count p q stamp (took message) none at is = cc at
no_step flows count p q stamp (got source number message) none at is = cc at
no_step flows count p q stamp (ended id task outcome) none at is = cc at
no_step flows count p q stamp (trim reader number) none at is = cc at

module _ (flows : Flows) (count now : ℕ) where
  -- where nothing is possible nothing comes in
  filled_stirs : {from to : Partition} {looked : List Waiting} {items : List Item} → Filled flows count now from looked items to → All (CantCome flows count from) looked → NoneEnabled flows count from (stamp_at from now) → (items ≡ []) × (to ≡ from)
  filled_stirs nothing cant none = (refl, refl)
  filled_stirs {from} (puts {looked} {items} {p} {q} before w may_wait is_so is) cant none =
      let rest = filled_stirs before (all_front (CantCome flows count from) looked (w ∷ []) cant) none in
      let own = last_of_all (CantCome flows count from) looked w cant in
      let not : accepted flows count p w.item ≡ None = ap (λ (x : Partition). accepted flows count x w.item) rest.1 ∙ own (subst (λ (x : Partition). IsFor x w) rest.1 is_so) in
      absurd (cc (not, is))
  filled_stirs {from} (lets_go {looked} before w cant_w) cant none = filled_stirs before (all_front (CantCome flows count from) looked (w ∷ []) cant) none
  filled_stirs {from} (goes_on {looked} {items} {p} {q} before item at is) cant none =
      let rest = filled_stirs before cant none in
      absurd (no_step flows count from q (stamp_at from now) item none (ap (λ (x : Partition). is_at item (stamp_at x now)) (sym rest.1) ∙ at) (ap (λ (x : Partition). accepted flows count x item) (sym rest.1) ∙ is))

module _ (flows : Flows) (now limit : ℕ) (old : Live) (begun filled : Filling) (rest : Waits)
    (begun_is : state_of begun.state ≡ begun_of old) (many : count_of begun.state ≡ count_of (ahead_of old)) (empty : begun.items.items ≡ [])
    (on : LooksOn flows now begun filled (waits_of old.waits) (waits_of rest)) where
  more_is : on.more ≡ items_of filled.items.items
  more_is = sym (on.on.items ∙ ap (λ (l : List OwnItem). items_of l ++ on.more) empty)

  filled_from : Filled flows (count_of (ahead_of old)) now (begun_of old) on.looked (items_of filled.items.items) (state_of filled.state)
  filled_from =
      subst (λ (l : List Item). Filled flows (count_of (ahead_of old)) now (begun_of old) on.looked l (state_of filled.state)) more_is
      (subst (λ (p : Partition). Filled flows (count_of (ahead_of old)) now p on.looked on.more (state_of filled.state)) begun_is
      (subst (λ (n : ℕ). Filled flows n now (state_of begun.state) on.looked on.more (state_of filled.state)) many on.on.filled))

  leaves : (new : Live) → new.base ≡ old.base → new.incarnation ≡ old.incarnation → new.given ≡ old.given → new.waits ≡ rest → IsIndexed rest → All MayWait (waits_of rest) → LeavesWaits old new on.looked
  leaves new base incarnation given waits indexed may = record {
    base = base;
    incarnation = incarnation;
    given = given;
    left = on.left ∙ ap (λ (w : Waits). on.looked ++ waits_of w) (sym waits);
    indexed = subst IsIndexed (sym waits) indexed;
    waits = subst (λ (w : Waits). All MayWait (waits_of w)) (sym waits) may;
  }

  none_behind : NoneEnabled flows (count_of begun.state) (state_of filled.state) (stamp_at (state_of filled.state) now) → NoneEnabled flows (count_of (ahead_of old)) (state_of filled.state) (stamp_at (state_of filled.state) now)
  none_behind none = subst (λ (n : ℕ). NoneEnabled flows n (state_of filled.state) (stamp_at (state_of filled.state) now)) many none

  -- where no item came in nothing is possible
  pub rests : (new : Live) → new.base ≡ old.base → new.steps ≡ old.steps → new.incarnation ≡ old.incarnation → new.given ≡ old.given → new.waits ≡ rest → IsIndexed rest → All MayWait (waits_of rest) → filled.items.items ≡ [] → waits_of rest ≡ []
      → NoneEnabled flows (count_of begun.state) (state_of filled.state) (stamp_at (state_of filled.state) now) → Rests flows now old new
  rests new base steps incarnation given waits indexed may none gone behind =
      let still = filled_nothing flows (count_of (ahead_of old)) now filled_from (ap items_of none) in
      let all : waits_of old.waits ≡ on.looked = on.left ∙ ap (λ (l : List Waiting). on.looked ++ l) gone ∙ append-nil on.looked in
      record {
        steps = steps;
        looked = on.looked;
        leaves = leaves new base incarnation given waits indexed may;
        gone = ap waits_of waits ∙ gone;
        none = record {
          waits_not = subst (All (CantCome flows (count_of (ahead_of old)) (begun_of old))) (sym all) still.1;
          none = subst (λ (p : Partition). NoneEnabled flows (count_of (ahead_of old)) p (stamp_at p now)) still.0 (none_behind behind);
        };
      }

  -- where one came in something is
  pub ends : (new : Live) (number : ℕ) → new.base ≡ old.base → new.steps ≡ old.steps → new.incarnation ≡ old.incarnation → new.given ≡ old.given → new.waits ≡ rest → IsIndexed rest → All MayWait (waits_of rest) → 0 < length filled.items.items
      → (number ≡ (state_of (ahead_of old)).position) ⊎ (number ≡ old.incarnation) → 2 ^ 62 ≤ number → Ends flows now old new number
  ends new number base steps incarnation given waits indexed may some is past = record {
    steps = steps;
    looked = on.looked;
    leaves = leaves new base incarnation given waits indexed may;
    some = λ possible.
        let cant = all_front (CantCome flows (count_of (ahead_of old)) (begun_of old)) on.looked (waits_of rest) (subst (All (CantCome flows (count_of (ahead_of old)) (begun_of old))) on.left possible.waits_not) in
        let none = (filled_stirs flows (count_of (ahead_of old)) now filled_from cant possible.none).0 in
        let lengths = sym (length-map filled.items.items item_of) ∙ ap length none in
        omega (arith, lengths, some);
    number_is = is;
    past = past;
  }

  pub has_step : (new : Live) (mode : Mode) (packets : List Packet) (round : Round) (entry : OwnEntry) → SendsAtOnce mode (count_of (ahead_of old)) (begun_of old) (state_of filled.state) packets → new.base ≡ old.base → new.incarnation ≡ old.incarnation → new.given ≡ old.given → new.waits ≡ rest → IsIndexed rest → All MayWait (waits_of rest) → new.steps.items ≡ old.steps.items ++ (record { entry = entry; after = filled.state }) ∷ []
      → entry.position ≡ (state_of (ahead_of old)).position → entry.incarnation ≡ old.incarnation → entry.items ≡ filled.items.items → (state_of (ahead_of old)).incarnation ≤ old.incarnation → 0 < length filled.items.items → length filled.items.items ≤ limit → limit ≤ 64
      → All FitsItem (items_of filled.items.items) → (entry.position < 2 ^ 62) × (entry.incarnation < 2 ^ 62)
      → (length filled.items.items < limit → waits_of rest ≡ []) → (length filled.items.items < limit → NoneEnabled flows (count_of begun.state) (state_of filled.state) (stamp_at (state_of filled.state) now))
      → (waits_first round ≡ true → 0 < length (waits_of old.waits) → length (waits_of rest) < length (waits_of old.waits))
      → OwnFirst flows (count_of begun.state) now round (state_of begun.state) (items_of filled.items.items) → HasStep flows mode now limit round old new packets
  has_step new mode packets round entry sends base incarnation given waits indexed may steps position own items younger some few most fit low gone none first own_first =
      let lengths = ap length items in
      let left = ap length on.left ∙ length-append on.looked (waits_of rest) in
      let entered : enter entry.incarnation (state_of (ahead_of old)) ≡ begun_of old = ap (λ (n : ℕ). enter n (state_of (ahead_of old))) own in
      let filled_here = subst (λ (l : List OwnItem). Filled flows (count_of (ahead_of old)) now (begun_of old) on.looked (items_of l) (state_of filled.state)) (sym items) filled_from in
      record {
        step = record { entry = entry; after = filled.state };
        steps = steps;
        makes = record {
          position = position;
          younger = omega (arith, younger, own);
          low = low.0;
          early = low.1;
          accepted = ap (λ (p : Partition). all_accepted flows (count_of (ahead_of old)) p (items_of entry.items)) entered ∙ filled_accepted flows (count_of (ahead_of old)) now filled_here;
          given = subst (λ (p : Partition). AreGiven flows (count_of (ahead_of old)) p (items_of entry.items)) (sym entered) (filled_given flows (count_of (ahead_of old)) now filled_here);
          some = omega (arith, some, lengths);
          few = omega (arith, few, most, lengths);
          fit = subst (λ (l : List OwnItem). All FitsItem (items_of l)) (sym items) fit;
          sound = on.on.way.sound;
          partitions = on.on.count ∙ many;
        };
        incarnation = own;
        few = omega (arith, few, lengths);
        looked = on.looked;
        leaves = leaves new base incarnation given waits indexed may;
        filled = filled_here;
        sends = sends;
        full = λ less. (ap waits_of waits ∙ gone (omega (arith, less, lengths)), none_behind (none (omega (arith, less, lengths))));
        first = λ first_is have. let fewer = first first_is have in omega (arith, fewer, left);
        own = subst (λ (l : List OwnItem). OwnFirst flows (count_of (ahead_of old)) now round (begun_of old) (items_of l)) (sym items)
            (subst (λ (p : Partition). OwnFirst flows (count_of (ahead_of old)) now round p (items_of filled.items.items)) begun_is
            (subst (λ (n : ℕ). OwnFirst flows n now round (state_of begun.state) (items_of filled.items.items)) many own_first));
      }
