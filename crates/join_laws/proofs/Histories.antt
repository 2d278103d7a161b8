-- Histories that go on, and what a crash leaves of any.
use Rattle.std.proofs.Common.{◌≡◌, ◌≤◌, ◌-◌, ℕ, suc, List, [], ◌∷◌, length, drop, refl, ◌∙◌, ap, arith}
use Rattle.site_model.proofs.Images.{torn_as_it_was}
use Rattle.site_model.proofs.Paths.{no_shorter}
use Rattle.site_model.specs.History.{Change, wrote, synced, reads, Step, changes_of, back_to, Leaves, IsImage}
use Rattle.site_model.specs.Moments.{Always}
use Rattle.site_model.specs.Moments.Always.{begins, goes_on}

-- a crash always leaves something of a file
some_left : (changes : List Change) → (image : List ℕ) × Leaves changes image
some_left [] = ([], refl)
some_left (wrote at size bytes ∷ changes) = let before = some_left changes in (before.0, (before.0, before.1, torn_as_it_was at size before.0))
some_left (synced ∷ changes) = (reads changes, refl)

-- and of all files
pub some_image : (steps : List Step) → (image : ℕ → List ℕ) × IsImage steps image
some_image steps = (λ file. (some_left (changes_of file steps)).0, record { each = λ file. (some_left (changes_of file steps)).1 })

-- an earlier moment of a history that goes on is one of the history before
pub earlier_moment : {P : List Step → Type 0} {old new : List Step} → Always P old new → (moment : ℕ) → moment ≤ length old → back_to moment new ≡ back_to moment old
earlier_moment (begins here) moment low = refl
earlier_moment {P} {old} (goes_on {new} {step} path here) moment low =
    let longer = no_shorter path in
    let more : suc (length new) - moment ≡ suc (length new - moment) = omega (arith, longer, low) in
    ap (λ (n : ℕ). drop n (step ∷ new)) more ∙ earlier_moment path moment low
