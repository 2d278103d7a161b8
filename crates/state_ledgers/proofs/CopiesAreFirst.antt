-- Messages of a stream are copied one after another.
use Rattle.std.proofs.Common.{◌≡◌, inl, inr, ℕ, suc, ◌-◌, ◌<◌, List, [], ◌∷◌, ◌++◌, length, map, take, Some, None, sym, ap, ◌∙◌, arith, length-append}
use Rattle.std.specs.List.{slice_get}
use Rattle.std.proofs.Math.Seq.{take-suc}
use Rattle.std.proofs.lemmas.List.{take_all, map-append}
use Rattle.std.proofs.lemmas.Option.{slice_get_within, slice_get_cases, get_or_from_slice_get}
use Rattle.dura_value.specs.Items as items
use Rattle.dura_value.specs.Views.{posted_of}
use Rattle.dura_value.specs.declared.identity.Posted.{Posted}

-- the copies are the first of the messages
abbrev pub AreFirst : List Posted → List items.Posted → Type 0
AreFirst copies left = map posted_of copies ≡ take (length copies) left

pub one_copied : (copies : List Posted) (left : List items.Posted) (copy : Posted) → AreFirst copies left → slice_get left (length copies) ≡ Some (posted_of copy) → AreFirst (copies ++ copy ∷ []) left
one_copied copies left copy first is =
    let one = posted_of copy in
    let low = slice_get_within left (length copies) one is in
    let here = get_or_from_slice_get left (length copies) one one is in
    let long : length (copies ++ copy ∷ []) ≡ suc (length copies) = omega (arith, length-append copies (copy ∷ [])) in
    map-append posted_of copies (copy ∷ []) ∙ ap (λ (l : List items.Posted). l ++ one ∷ []) first ∙ ap (λ (x : items.Posted). take (length copies) left ++ x ∷ []) (sym here)
    ∙ sym (ap (λ (n : ℕ). take n left) long ∙ take-suc left (length copies) one low)

pub fewer_left : (copies : List Posted) (left : List items.Posted) (copy : Posted) (one : items.Posted) → slice_get left (length copies) ≡ Some one → length left - length (copies ++ copy ∷ []) < length left - length copies
fewer_left copies left copy one is =
    let low = slice_get_within left (length copies) one is in
    let long : length (copies ++ copy ∷ []) ≡ suc (length copies) = omega (arith, length-append copies (copy ∷ [])) in
    omega (arith, low, long)

pub all_copied : (copies : List Posted) (left : List items.Posted) → AreFirst copies left → slice_get left (length copies) ≡ None → map posted_of copies ≡ left
all_copied copies left first is = elim (slice_get_cases left (length copies)).1 [
  | inl inside ↦ absurd (let wrong : None ≡ Some inside.0 = sym is ∙ inside.2 in cc wrong)
  | inr past ↦ first ∙ take_all (length copies) left past.0
]
