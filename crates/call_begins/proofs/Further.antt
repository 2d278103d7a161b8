-- What a store has lived through goes on from where it began, and nothing was settled before.
use Rattle.std.proofs.Common.{◌≡◌, ◌≤◌, ◌<◌, ℕ, List, [], ◌∷◌, ◌++◌, length, cond, refl, ◌∙◌, ap, arith}
use Rattle.std.specs.List.{AllByRecursion}
use Rattle.std.proofs.lemmas.Bool.{lt-leb}
use Rattle.std.proofs.lemmas.List.Elements.{filter-append, recursion_from_All}
use Rattle.hub_store.specs.Runs.{Runs}
use Rattle.hub_store.specs.Runs.Runs.{starts, steps_on, settles}
use Rattle.hub_store.specs.Trail.{Settled, settled_at}
use Rattle.site_model.specs.History.{Step}
use Rattle.site_model.specs.Moments.{Always}
use Rattle.site_model.specs.Moments.Always.{begins, goes_on}

pub run_further : {P : List Step → List Settled → Type 0} {begin now : List Step} {trail : List Settled} → Runs P begin now trail → Always (λ moment. Unit {0}) begin now
run_further (starts here) = begins tt
run_further (steps_on step run here) = goes_on (run_further run) tt
run_further (settles more run at here) = run_further run

no_shorter : {P : List Step → List Settled → Type 0} {begin now : List Step} {trail : List Settled} → Runs P begin now trail → length begin ≤ length now
no_shorter {P} {begin} (starts here) = omega arith
no_shorter (steps_on step run here) = let before = no_shorter run in omega (arith, before)
no_shorter (settles more run at here) = no_shorter run

-- what comes later isn't settled yet
settled_none : (at moment : ℕ) (more : List Settled) → moment < at → AllByRecursion (λ one. one.at ≡ at) more → settled_at moment more ≡ []
settled_none at moment [] high each = refl
settled_none at moment (one ∷ more) high each =
    ap (λ b. cond b (one ∷ settled_at moment more) (settled_at moment more)) (lt-leb one.at moment (omega (arith, high, each.0)))
    ∙ settled_none at moment more high each.1

pub nothing_before : {P : List Step → List Settled → Type 0} {begin now : List Step} {trail : List Settled} → Runs P begin now trail → (moment : ℕ) → moment < length begin → settled_at moment trail ≡ []
nothing_before (starts here) moment low = refl
nothing_before (steps_on step run here) moment low = nothing_before run moment low
nothing_before {P} {begin} (settles {now} {trail} more run at here) moment low =
    let before = no_shorter run in
    filter-append _ trail more
    ∙ ap (λ (l : List Settled). l ++ settled_at moment more) (nothing_before run moment low)
    ∙ settled_none (length now) moment more (omega (arith, low, before)) (recursion_from_All _ more at)
