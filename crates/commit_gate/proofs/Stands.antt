-- What stands in a stream by its number.
use Rattle.std.proofs.Common.{◌≡◌, ℕ, ◌-◌, ◌<◌, ◌≤◌, Bool, List, length, map, take, get_or, Some, sym, ◌∙◌, ap, subst, arith}
use Rattle.std.specs.Bool.{Decides}
use Rattle.std.specs.List.{slice_get}
use Rattle.std.specs.Option.{option_map}
use Rattle.std.proofs.lemmas.Option.{slice_get-map, slice_get-get_or}
use Rattle.std.proofs.lemmas.List.{get_or-take, length-take-le}
use Rattle.log_items.specs.Streams as plain
use Rattle.dura_value.specs.Items as items
use Rattle.dura_value.specs.declared.identity.Posted.{Posted}
use Rattle.commit_gate.specs.Met.{HasPosted}
use Rattle.dura_value.specs.Views.{posted_of}

-- what stands at a place of those settled
pub stands_at : (messages : List Posted) (settled index : ℕ) (at : Posted) → index < settled → settled ≤ length messages → at ≡ get_or messages index at
    → slice_get (map posted_of (take settled messages)) index ≡ Some (posted_of at)
stands_at messages settled index at low inside is =
    slice_get-map posted_of (take settled messages) index
    ∙ ap (option_map posted_of) (slice_get-get_or (take settled messages) index at (omega (arith, length-take-le settled messages inside)) ∙ ap (λ (x : Posted). Some x) (get_or-take settled messages index at low ∙ sym is))

pub has_there : (box : plain.Outbox) (number index : ℕ) (at wanted : items.Posted) (r : Bool) → box.first ≤ number → index ≡ number - box.first → slice_get box.messages index ≡ Some at → Decides r (at ≡ wanted) → Decides r (HasPosted box number wanted)
has_there box number index at wanted r begun is stands decides = (
  (λ yes_it. record { begun = begun; stands = subst (λ (k : ℕ). slice_get box.messages k ≡ Some wanted) is (stands ∙ ap (λ (x : items.Posted). Some x) (decides.0 yes_it)) }),
  (λ has. decides.1 (let other : slice_get box.messages index ≡ Some wanted = subst (λ (k : ℕ). slice_get box.messages k ≡ Some wanted) (sym is) has.stands in cc)),
)
