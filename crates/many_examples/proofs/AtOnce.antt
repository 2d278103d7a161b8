-- An activity that is asked for and ends in one entry didn't run.
use Rattle.std.proofs.Common.{◌≡◌, ℕ, List, [], ◌∷◌, ◌++◌, ap, subst, arith, refl}
use Rattle.dura_model.specs.Partition.{Partition, fresh}
use Rattle.dura_value.specs.Items.{Entry, ended}
use Rattle.many_examples.specs.RulesBy.{rules_with, at_once}
use Rattle.many_logs.specs.Placing.{Commit, commits_at}
use Rattle.many_rules.specs.Leaves.{AllRan}
use Rattle.many_rules.specs.Leaves.AllRan.{nothing_ran, frame_more}
use Rattle.run_rules.specs.Examples.{summing}
use Rattle.run_rules.specs.FieldExamples.{no_sum, sum_flows}
use Rattle.run_rules.specs.Rules.{EndPending}

-- the first of entries that come together, where they are one
pub single : (more going : List Commit) (first last : Commit) → first ∷ (more ++ going) ≡ last ∷ [] → first ∷ more ≡ last ∷ []
single [] going first last is = let same : first ≡ last = cc is in ap (λ (one : Commit). one ∷ []) same
single (next ∷ more) going first last is = absurd (cc is)

in_front : (partition : ℕ) (going : List Entry) → EndPending (fresh partition) going → commits_at partition going ≡ at_once ∷ [] → ⊥
in_front partition [] pending is = cc is
in_front partition (entry ∷ going) pending is =
    let first : entry ≡ at_once.entry = ap (λ (one : Commit). one.entry) (head is) in
    let there : EndPending (fresh partition) (at_once.entry ∷ going) = subst (λ (e : Entry). EndPending (fresh partition) (e ∷ going)) first pending in
    cc (there 0 at_once.entry (omega arith) 2 (ended summing 0 no_sum) (omega arith))
  where
    head : record { partition = partition; entry = entry } ∷ commits_at partition going ≡ at_once ∷ [] → record { partition = partition; entry = entry } ≡ at_once
    head is = cc is

ran_at_once : {commits : List Commit} → AllRan (rules_with sum_flows) commits → commits ≡ at_once ∷ [] → ⊥
ran_at_once nothing_ran is = cc is
ran_at_once (frame_more {settled = []} before states made partition going pending) is =
    let begins : states ≡ fresh = cc made in
    in_front partition going (subst (λ (s : ℕ → Partition). EndPending (s partition) going) begins (pending refl)) is
ran_at_once (frame_more {settled = first ∷ more} before states made partition going pending) is = ran_at_once before (single more (commits_at partition going) first at_once is)

pub ended_at_once : AllRan (rules_with sum_flows) (at_once ∷ []) → ⊥
ended_at_once ran = ran_at_once ran refl
