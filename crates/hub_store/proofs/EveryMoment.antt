-- A run goes on along a path, and says what held at each moment by its number.
use Rattle.std.proofs.Common.{◌≡◌, inl, inr, ℕ, suc, ◌-◌, ◌≤◌, List, [], ◌∷◌, ◌++◌, length, drop, cond, refl, sym, ◌∙◌, ap, subst, arith}
use Rattle.std.specs.List.{AllByRecursion}
use Rattle.std.proofs.lemmas.Bool.{le-leb, lt-leb, cases_eq}
use Rattle.std.proofs.lemmas.List.{append-nil}
use Rattle.std.proofs.lemmas.List.Elements.{filter-append, recursion_from_All}
use Rattle.site_model.specs.History.{Step, back_to}
use Rattle.site_model.specs.Moments.{Always}
use Rattle.site_model.specs.Moments.Always.{begins, goes_on}
use Rattle.hub_store.specs.Trail.{Settled, settled_at}
use Rattle.hub_store.specs.Runs.{Runs}
use Rattle.hub_store.specs.Runs.Runs.{starts, steps_on, settles}

-- a run goes on along a path that settles nothing
pub runs_along : {P : List Step → List Settled → Type 0} {Q : List Step → Type 0} {begin old new : List Step} {trail : List Settled} → Runs P begin old trail → Always Q old new
    → ((steps : List Step) → Q steps → P steps trail) → Runs P begin new trail
runs_along run (begins here) f = run
runs_along run (goes_on path here) f = steps_on _ (runs_along run path f) (f _ here)

-- what was settled at one moment is settled by then
settled_all : (at moment : ℕ) (more : List Settled) → at ≤ moment → AllByRecursion (λ one. one.at ≡ at) more → settled_at moment more ≡ more
settled_all at moment [] low each = refl
settled_all at moment (one ∷ more) low each =
    ap (λ b. cond b (one ∷ settled_at moment more) (settled_at moment more)) (le-leb one.at moment (omega (arith, each.0)))
    ∙ ap (λ (l : List Settled). one ∷ l) (settled_all at moment more low each.1)

-- and isn't before
settled_none : (at moment : ℕ) (more : List Settled) → suc moment ≤ at → AllByRecursion (λ one. one.at ≡ at) more → settled_at moment more ≡ []
settled_none at moment [] high each = refl
settled_none at moment (one ∷ more) high each =
    ap (λ b. cond b (one ∷ settled_at moment more) (settled_at moment more)) (lt-leb one.at moment (omega (arith, each.0)))
    ∙ settled_none at moment more high each.1

-- all that a run settled is settled by its last moment
pub all_settled : {P : List Step → List Settled → Type 0} {begin now : List Step} {trail : List Settled} → Runs P begin now trail → (moment : ℕ) → length now ≤ moment → settled_at moment trail ≡ trail
all_settled (starts here) moment high = refl
all_settled (steps_on {now} step run here) moment high = all_settled run moment (omega (arith, high))
all_settled (settles {now} {trail} more run at here) moment high =
    filter-append _ trail more
    ∙ ap (λ (l : List Settled). l ++ settled_at moment more) (all_settled run moment high)
    ∙ ap (λ (l : List Settled). trail ++ l) (settled_all (length now) moment more high (recursion_from_All _ more at))

-- from a run to moments by number
pub every_moment : {P : List Step → List Settled → Type 0} {begin now : List Step} {trail : List Settled} → Runs P begin now trail
    → (moment : ℕ) → length begin ≤ moment → moment ≤ length now → P (back_to moment now) (settled_at moment trail)
every_moment {P} {begin} (starts here) moment low high =
    let none : length begin - moment ≡ 0 = omega arith in
    subst (λ (n : ℕ). P (drop n begin) []) (sym none) here
every_moment {P} {begin} (steps_on {now} {trail} step run here) moment low high = elim (cases_eq moment (suc (length now))) [
  | inl is ↦
      let none : suc (length now) - moment ≡ 0 = omega arith in
      subst (λ (n : ℕ). P (drop n (step ∷ now)) (settled_at moment trail)) (sym none)
      (subst (λ (l : List Settled). P (step ∷ now) l) (sym (all_settled run moment (omega arith))) here)
  | inr apart ↦
      let one_more : suc (length now) - moment ≡ suc (length now - moment) = omega arith in
      subst (λ (n : ℕ). P (drop n (step ∷ now)) (settled_at moment trail)) (sym one_more) (every_moment run moment low (omega arith))
]
every_moment {P} {begin} (settles {now} {trail} more run at here) moment low high = elim (cases_eq moment (length now)) [
  | inl is ↦
      let none : length now - moment ≡ 0 = omega arith in
      subst (λ (n : ℕ). P (drop n now) (settled_at moment (trail ++ more))) (sym none)
      (subst (λ (l : List Settled). P now l) (sym (all_settled (settles more run at here) moment (omega arith))) here)
  | inr apart ↦
      let same : settled_at moment (trail ++ more) ≡ settled_at moment trail =
      filter-append _ trail more
      ∙ ap (λ (l : List Settled). settled_at moment trail ++ l) (settled_none (length now) moment more (omega arith) (recursion_from_All _ more at))
      ∙ append-nil (settled_at moment trail) in
      subst (λ (l : List Settled). P (back_to moment now) l) (sym same) (every_moment run moment low high)
]
