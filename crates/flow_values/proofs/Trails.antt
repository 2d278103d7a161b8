-- Paths are kept from the inside out.
use Rattle.std.proofs.Common.{◌≡◌, ℕ, ◌+◌, ◌<◌, List, [], ◌∷◌, ◌++◌, length, get_or, drop, refl, sym, ◌∙◌, add-one}
use Rattle.std.specs.Prelude.{map, reverse}
use Rattle.std.proofs.Math.Seq.{drop-cons, drop-length}
use Rattle.std.proofs.lemmas.List.{append-nil, map-append, reverse-append}
use Rattle.std.proofs.lemmas.List.Folds.{concat-append}
use Rattle.flow_values.specs.Faults.{path_text, step_text}
use Rattle.flow_values.specs.Paths.{step_of}
use Rattle.flow_values.specs.declared.faults.Step.{Step}

pub outer : (steps : List Step) (s : Step) → reverse (map step_of (steps ++ s ∷ [])) ≡ step_of s ∷ reverse (map step_of steps)
outer steps s = rw (map-append step_of steps (s ∷ []), reverse-append (map step_of steps) (step_of s ∷ [])) refl

-- the text of the last steps
abbrev pub trail : List Step → List ℕ
trail steps = path_text (reverse (map step_of steps))

first_last : (s : Step) (steps : List Step) → trail (s ∷ steps) ≡ trail steps ++ step_text (step_of s)
first_last s steps =
    let back : reverse (step_of s ∷ map step_of steps) ≡ reverse (map step_of steps) ++ step_of s ∷ [] = reverse-append (step_of s ∷ []) (map step_of steps) in
    rw (back, map-append step_text (reverse (map step_of steps)) (step_of s ∷ []), concat-append (map step_text (reverse (map step_of steps))) (step_text (step_of s) ∷ []), append-nil) refl

pub none_left : (steps : List Step) (text : List ℕ) → text ≡ 35 ∷ [] → text ≡ trail (drop (length steps) steps)
none_left steps text is = rw (drop-length steps) is

pub one_more : (steps : List Step) (i j : ℕ) (s : Step) (text more : List ℕ) → j ≡ i + 1 → i < length steps → s ≡ get_or steps i s → text ≡ trail (drop j steps) → more ≡ text ++ step_text (step_of s) → more ≡ trail (drop i steps)
one_more steps i j s text more next lt at before is =
    let here : drop i steps ≡ s ∷ drop (i + 1) steps = rw (add-one, drop-cons steps i s lt, ← at) refl in
    let behind : text ≡ trail (drop (i + 1) steps) = rw (← next) before in
    rw here (is ∙ rw behind (sym (first_last s (drop (i + 1) steps))))

pub all : (steps : List Step) (text : List ℕ) → text ≡ trail (drop 0 steps) → text ≡ path_text (reverse (map step_of steps))
all steps text is = is
