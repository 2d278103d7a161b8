-- Claims on every moment between two histories: how they are joined, weakened and read.
use Rattle.std.proofs.Common.{◌≡◌, ◌≢◌, ◌⊎◌, inl, inr, ℕ, suc, ◌-◌, ◌≤◌, Bool, true, ◌&&◌, List, ◌∷◌, length, drop, refl, sym, ◌∙◌, ap, subst, arith, cond}
use Rattle.std.proofs.lemmas.Bool.{eq-eqb, ne_eqb, cases_eq}
use Rattle.site_model.specs.History.{Step, Change, on, changes_of, writes_inside, AllInside, Leaves, back_to}
use Rattle.site_model.specs.Moments.{Always, OnlyFile, LeavesOnly}
use Rattle.site_model.specs.Moments.Always.{begins, goes_on}

-- a change of a file is the newest of its changes
pub own_change : (file : ℕ) (change : Change) (steps : List Step) → changes_of file (on file change ∷ steps) ≡ change ∷ changes_of file steps
own_change file change steps = ap (λ b. cond b (change ∷ changes_of file steps) (changes_of file steps)) (eq-eqb file file refl)

-- and no change of another
pub other_change : (other file : ℕ) (change : Change) (steps : List Step) → other ≢ file → changes_of other (on file change ∷ steps) ≡ changes_of other steps
other_change other file change steps apart = ap (λ b. cond b (change ∷ changes_of other steps) (changes_of other steps)) (ne_eqb other file apart)

pub and_true : {a b : Bool} → a ≡ true → b ≡ true → (a && b) ≡ true
and_true {b = b} p q = ap (λ x. x && b) p ∙ q

-- one more change that began inside its file
pub inside_on : (file : ℕ) (change : Change) (steps : List Step) → AllInside steps → writes_inside (change ∷ changes_of file steps) ≡ true → AllInside (on file change ∷ steps)
inside_on file change steps before here other = elim (cases_eq other file) [
  | inl is ↦ ap (λ (f : ℕ). writes_inside (changes_of f (on file change ∷ steps))) is ∙ ap writes_inside (own_change file change steps) ∙ here
  | inr apart ↦ ap writes_inside (other_change other file change steps apart) ∙ before other
]

pub first : {P : List Step → Type 0} {old new : List Step} → Always P old new → P old
first (begins here) = here
first (goes_on path here) = first path

pub last : {P : List Step → Type 0} {old new : List Step} → Always P old new → P new
last (begins here) = here
last (goes_on path here) = here

pub together : {P : List Step → Type 0} {old mid new : List Step} → Always P old mid → Always P mid new → Always P old new
together before (begins here) = before
together before (goes_on path here) = goes_on (together before path) here

pub weaker : {P Q : List Step → Type 0} {old new : List Step} → ((steps : List Step) → P steps → Q steps) → Always P old new → Always Q old new
weaker f (begins here) = begins (f _ here)
weaker f (goes_on path here) = goes_on (weaker f path) (f _ here)

pub only_here : (file : ℕ) (steps : List Step) → OnlyFile file steps steps
only_here file steps = record { others = λ other apart. refl; same_tape = refl }

pub only_then : {file : ℕ} {old mid new : List Step} → OnlyFile file old mid → OnlyFile file mid new → OnlyFile file old new
only_then before after = record {
  others = λ other apart. after.others other apart ∙ before.others other apart;
  same_tape = after.same_tape ∙ before.same_tape;
}

pub only_change : (file : ℕ) (change : Change) (steps : List Step) → OnlyFile file steps (on file change ∷ steps)
only_change file change steps = record { others = λ other apart. other_change other file change steps apart; same_tape = refl }

-- what a crash leaves of a file now, at no moment since the old one anything else
pub stays : (file : ℕ) (steps : List Step) (P : List ℕ → Type 0) → ((image : List ℕ) → Leaves (changes_of file steps) image → P image) → LeavesOnly file steps steps P
stays file steps P images = begins (record { only = only_here file steps; images = images })

pub leaves_first : {file : ℕ} {old new : List Step} {P : List ℕ → Type 0} → LeavesOnly file old new P → (image : List ℕ) → Leaves (changes_of file old) image → P image
leaves_first path = (first path).images

pub leaves_last : {file : ℕ} {old new : List Step} {P : List ℕ → Type 0} → LeavesOnly file old new P → (image : List ℕ) → Leaves (changes_of file new) image → P image
leaves_last path = (last path).images

pub leaves_only : {file : ℕ} {old new : List Step} {P : List ℕ → Type 0} → LeavesOnly file old new P → OnlyFile file old new
leaves_only path = (last path).only

pub leaves_weaker : {file : ℕ} {old new : List Step} {P Q : List ℕ → Type 0} → ((image : List ℕ) → P image → Q image) → LeavesOnly file old new P → LeavesOnly file old new Q
leaves_weaker f = weaker (λ steps keeps. record { only = keeps.only; images = λ image left. f image (keeps.images image left) })

-- two calls on one file
pub leaves_then : {file : ℕ} {old mid new : List Step} {P : List ℕ → Type 0} → LeavesOnly file old mid P → LeavesOnly file mid new P → LeavesOnly file old new P
leaves_then {old = old} before after = together before (weaker (λ steps keeps. record { only = only_then (leaves_only before) keeps.only; images = keeps.images }) after)

-- one device call: one step or none
pub one_call : (file : ℕ) (change : Change) (old new : List Step) (P : List ℕ → Type 0) → (new ≡ on file change ∷ old) ⊎ (new ≡ old)
    → ((image : List ℕ) → Leaves (changes_of file old) image → P image)
    → ((image : List ℕ) → Leaves (change ∷ changes_of file old) image → P image)
    → LeavesOnly file old new P
one_call file change old new P (inl is) before after =
    subst (λ (steps : List Step). LeavesOnly file old steps P) (sym is) (goes_on (stays file old P before) (record {
      only = only_change file change old;
      images = λ image left. after image (subst (λ (changes : List Change). Leaves changes image) (own_change file change old) left);
    }))
one_call file change old new P (inr is) before after = subst (λ (steps : List Step). LeavesOnly file old steps P) (sym is) (stays file old P before)

-- from a path to moments by number
pub each_moment : {P : List Step → Type 0} {old new : List Step} → Always P old new → (moment : ℕ) → length old ≤ moment → moment ≤ length new → P (back_to moment new)
each_moment {P} {old} (begins here) moment low high =
    let none : length old - moment ≡ 0 = omega arith in
    subst (λ (n : ℕ). P (drop n old)) (sym none) here
each_moment {P} {old} (goes_on {new} {step} path here) moment low high = elim (cases_eq moment (suc (length new))) [
  | inl is ↦
      let none : suc (length new) - moment ≡ 0 = omega arith in
      subst (λ (n : ℕ). P (drop n (step ∷ new))) (sym none) here
  | inr apart ↦
      let one_more : suc (length new) - moment ≡ suc (length new - moment) = omega arith in
      subst (λ (n : ℕ). P (drop n (step ∷ new))) (sym one_more) (each_moment path moment low (omega arith))
]

-- a history goes on from an earlier one, so it is no shorter
pub no_shorter : {P : List Step → Type 0} {old new : List Step} → Always P old new → length old ≤ length new
no_shorter (begins here) = omega arith
no_shorter (goes_on path here) = omega (arith, no_shorter path)
