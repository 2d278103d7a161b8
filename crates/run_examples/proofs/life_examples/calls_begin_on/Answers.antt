use Rattle.std.proofs.Common.{◌≡◌, ◌==◌, ℕ, Bool, true, false, cond, [], ◌∷◌, refl, sym, subst, arith}
use Rattle.part_items.specs.Examples.{empty_log}
use Rattle.site_model.specs.History.{on, wrote, changes_of, Leaves, IsImage}
use Rattle.run_examples.proofs.life_examples.calls_begin_on.Goals as goal

pub returns-clause-nothing : goal.returns-clause-nothing
returns-clause-nothing c = record { reads = record { each = λ file. refl }; leaves = λ image is. is }

pub returns-clause-lost : goal.returns-clause-lost
returns-clause-lost c = λ begins. let left = begins.reads.each 16 in cc left

-- a crash may leave nothing of a log that wasn't made safe
nothing_left : IsImage (on 16 (wrote 0 34 empty_log) ∷ []) (λ file. [])
nothing_left = record { each = λ file. by file (file == 16) refl }
  where
    by : (file : ℕ) (test : Bool) → (file == 16) ≡ test → Leaves (changes_of file (on 16 (wrote 0 34 empty_log) ∷ [])) []
    by file true same = subst (λ (t : Bool). Leaves (cond t (wrote 0 34 empty_log ∷ []) []) []) (sym same) ([], refl, record { before = refl; behind = refl; no_shorter = omega arith; no_longer = omega arith })
    by file false other = subst (λ (t : Bool). Leaves (cond t (wrote 0 34 empty_log ∷ []) []) []) (sym other) refl

pub returns-clause-loose : goal.returns-clause-loose
returns-clause-loose c = λ begins. let left = (begins.leaves (λ file. []) nothing_left).each 16 in cc left
