-- What looks at the states of all partitions say.
use Rattle.std.proofs.Common.{◌≡◌, ◌∙◌, ◌<◌, ◌≤◌, ◌+◌, ◌-◌, Bor, ℕ, true, List, length, map, get_or, slice_get, option_map, Some, refl, sym, ap, subst, arith}
use Rattle.std.specs.Prelude.{nat_le}
use Rattle.std.proofs.lemmas.Bool.{leb-true, le-leb}
use Rattle.std.proofs.lemmas.Option.{slice_get-map, slice_get_read, slice_get_within, get_or_from_slice_get}
use Rattle.dura_model.specs.Partition.{Partition, fresh}
use Rattle.part_steps.specs.States.{state_of, parts_in, IsStateOf, AreStatesOfAll}
use Rattle.part_steps.specs.declared.state.PartState.{PartState}
use Rattle.rest_laws.specs.Rest.{HasRead}

-- what an index gives of references
pub referred : (refs : List (Bor PartState)) (place : ℕ) (s : Bor PartState) → s ≡ get_or refs place s → place < length refs → slice_get (map (λ (r : Bor PartState). r.now) refs) place ≡ Some s.now
referred refs place s is low =
    slice_get-map (λ (r : Bor PartState). r.now) refs place ∙ ap (option_map (λ (r : Bor PartState). r.now)) (slice_get_read refs (length refs) place s refl low is)

-- the state of a partition among those of all
pub state_at : (states : List PartState) (place : ℕ) (s : PartState) → slice_get states place ≡ Some s → parts_in states place ≡ state_of s
state_at states place s at = get_or_from_slice_get (map state_of states) place (state_of s) (fresh place) (slice_get-map state_of states place ∙ ap (option_map state_of) at)

pub among : (states : List PartState) (place : ℕ) (s : PartState) → AreStatesOfAll states → slice_get states place ≡ Some s → IsStateOf (length states) place s
among states place s all at = subst (IsStateOf (length states) place) (get_or_from_slice_get states place s s at) (all.each place s (slice_get_within states place s at))

-- a stream that was taken in, by its numbers
pub record ReadBy (parts : ℕ → Partition) (source reader first left taken : ℕ) : Type 0 where
  pub reads : first + left ≤ taken → HasRead parts source reader
  pub is : HasRead parts source reader → first + left ≤ taken

pub read_by : (states : List PartState) → AreStatesOfAll states → (source reader : ℕ) (from to : PartState) → slice_get states source ≡ Some from → slice_get states reader ≡ Some to
    → (target also place first left taken : ℕ) → target ≡ (state_of to).number → also ≡ (state_of to).number → place ≡ (state_of from).number
    → first ≡ ((state_of from).outboxes target).first → left ≡ length ((state_of from).outboxes also).messages → taken ≡ ((state_of to).inboxes place).next → ReadBy (parts_in states) source reader first left taken
read_by states all source reader from to from_at to_at target also place first left taken target_is also_is place_is first_is left_is taken_is =
    let parts = parts_in states in
    let to_is : (state_of to).number ≡ reader = (among states reader to all to_at).number in
    let from_is : (state_of from).number ≡ source = (among states source from all from_at).number in
    let first_at : first ≡ ((parts source).outboxes reader).first =
    first_is ∙ ap (λ (n : ℕ). ((state_of from).outboxes n).first) (target_is ∙ to_is) ∙ sym (ap (λ (p : Partition). (p.outboxes reader).first) (state_at states source from from_at)) in
    let left_at : left ≡ length ((parts source).outboxes reader).messages =
    left_is ∙ ap (λ (n : ℕ). length ((state_of from).outboxes n).messages) (also_is ∙ to_is) ∙ sym (ap (λ (p : Partition). length (p.outboxes reader).messages) (state_at states source from from_at)) in
    let taken_at : taken ≡ ((parts reader).inboxes source).next =
    taken_is ∙ ap (λ (n : ℕ). ((state_of to).inboxes n).next) (place_is ∙ from_is) ∙ sym (ap (λ (p : Partition). (p.inboxes source).next) (state_at states reader to to_at)) in
    record { reads = λ low. omega (arith, low, first_at, left_at, taken_at); is = λ low. omega (arith, low, first_at, left_at, taken_at) }

pub read_then : {parts : ℕ → Partition} {source reader : ℕ} (first left taken : ℕ) → ReadBy parts source reader first left taken → first ≤ taken
    → (nat_le left (taken - first) ≡ true → HasRead parts source reader) × (HasRead parts source reader → nat_le left (taken - first) ≡ true)
read_then first left taken by low = (
  λ is. by.reads (let less = leb-true left (taken - first) is in omega (arith, less, low)),
  λ read. le-leb left (taken - first) (let sum = by.is read in omega (arith, sum)),
)

pub read_else : {parts : ℕ → Partition} {source reader : ℕ} (first left taken : ℕ) → ReadBy parts source reader first left taken → taken < first
    → (nat_le first taken ≡ true → HasRead parts source reader) × (HasRead parts source reader → nat_le first taken ≡ true)
read_else first left taken by high = (
  λ is. absurd (let low = leb-true first taken is in omega (arith, low, high)),
  λ read. absurd (let sum = by.is read in omega (arith, sum, high)),
)
