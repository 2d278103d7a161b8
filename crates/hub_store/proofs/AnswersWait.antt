-- An answer waits for its commit, in the examples.
use Rattle.std.proofs.Common.{◌≡◌, ℕ, zero, suc, ◌<◌, ◌≤◌, inl, inr, List, [], ◌∷◌, ◌++◌, length, refl, ap, subst, ◌∙◌, arith}
use Rattle.site_model.specs.History.{back_to}
use Rattle.dura_value.specs.Items.{Entry}
use Rattle.hub_store.specs.Trail.{Settled, Said, of_part, settling, settled_at}
use Rattle.hub_store.specs.Moments.SaidSoFar.{silent, settles as told_settles, says}
use Rattle.hub_store.specs.Examples.{frame, settled_in, settled_when, request, answer, speaking, spoken, other_file, IsTold, Stand, StandWith, StandAlways}
use Rattle.hub_store.proofs.Settling.{of_part-append, no_part}

none_in_front : (trail more : List Settled) → trail ++ more ≡ [] → trail ≡ []
none_in_front [] more none = refl
none_in_front (one ∷ trail) more none = absurd (cc none)

-- before an entry is settled no line is said
nothing_said : {trail : List Settled} {told : List Said} {lines : List ℕ} → IsTold trail told lines → trail ≡ [] → lines ≡ []
nothing_said silent none = refl
nothing_said (told_settles {trail} before partition at going may) none = nothing_said before (none_in_front trail (settling partition at going) none)
nothing_said (says before one line may) none = absurd (omega (arith, subst (λ (trail : List Settled). 0 < length trail) none may.0))

-- nothing is settled but in partition 0
none_in_1 : {trail : List Settled} {told : List Said} {lines : List ℕ} → IsTold trail told lines → of_part 1 trail ≡ []
none_in_1 silent = refl
none_in_1 (told_settles {trail} before partition at going may) =
    of_part-append 1 trail (settling partition at going)
    ∙ ap (λ (front : List Entry). front ++ of_part 1 (settling partition at going)) (none_in_1 before)
    ∙ no_part partition 1 at going (λ is. omega (arith, is, may))
none_in_1 (says before one line may) = none_in_1 before

pub frame_told : IsTold (settled_in 0 0) [] []
frame_told = told_settles silent 0 0 frame refl

pub not_other_frame : IsTold (settled_in 1 0) [] [] → ⊥
not_other_frame told = let none : frame ≡ [] = none_in_1 told in cc

pub told_behind : (moment : ℕ) → IsTold (settled_when moment) (request ∷ []) answer
told_behind moment = says (told_settles silent 0 moment frame refl) request answer (omega arith, refl)

pub not_told_before : IsTold [] (request ∷ []) answer → ⊥
not_told_before told = let none : answer ≡ [] = nothing_said told refl in cc

pub stands_behind : (moment : ℕ) → StandWith spoken (settled_when moment) (request ∷ []) []
stands_behind moment = record { lines = answer; rightly = told_behind moment; spoken = refl; images = λ partition below. absurd (omega (arith, below)); others = λ file none. refl }

pub not_before : StandWith spoken [] (request ∷ []) [] → ⊥
not_before stands =
    let tape_is : answer ≡ [] = subst (λ (lines : List ℕ). answer ≡ lines ++ []) (nothing_said stands.rightly refl) stands.spoken in
    cc

pub stands_half : Stand speaking (settled_when 0)
stands_half = record {
  told = [];
  part = 65 ∷ [];
  stands = record { lines = []; rightly = told_settles silent 0 0 frame refl; spoken = refl; images = λ partition below. absurd (omega (arith, below)); others = λ file none. refl };
  speaking = inr (record { speaking = (65, [], refl); one = request; line = answer; may = (omega arith, refl); front = (10 ∷ [], refl) });
}

pub not_half_before : Stand speaking [] → ⊥
not_half_before stands = elim stands.speaking [
  | inl none ↦
      let tape_is : 65 ∷ [] ≡ stands.part = subst (λ (lines : List ℕ). 65 ∷ [] ≡ lines ++ stands.part) (nothing_said stands.stands.rightly refl) stands.stands.spoken in
      cc
  | inr next ↦ omega (arith, next.may.0)
]

pub not_other_file : Stand other_file (settled_when 0) → ⊥
not_other_file stands = let unchanged = stands.stands.others 3 (λ partition below. absurd (omega (arith, below))) in cc

pub stands_whole : (moment : ℕ) → Stand spoken (settled_when moment)
stands_whole moment = record { told = request ∷ []; part = []; stands = stands_behind moment; speaking = inl refl }

pub stands_always : (moment : ℕ) → 0 ≤ moment → moment ≤ 2 → Stand (back_to moment spoken) (settled_at moment (settled_when 0))
stands_always zero low high = record {
  told = [];
  part = [];
  stands = record { lines = []; rightly = told_settles silent 0 0 frame refl; spoken = refl; images = λ partition below. absurd (omega (arith, below)); others = λ file none. refl };
  speaking = inl refl;
}
stands_always (suc zero) low high = stands_half
stands_always (suc (suc zero)) low high = stands_whole 0
stands_always (suc (suc (suc moment))) low high = absurd (omega (arith, high))

pub not_always : StandAlways spoken (settled_when 2) → ⊥
not_always stands = not_half_before (stands 1 (omega arith) (omega arith))
