use Rattle.std.proofs.Common.{◌≡◌, List, [], ◌∷◌, ◌++◌, refl, ap, subst, arith}
use Rattle.std.specs.List.{All}
use Rattle.std.proofs.lemmas.List.Elements.{All-from_recursion}
use Rattle.dura_model.specs.Partition.{Partition, fresh}
use Rattle.dura_value.specs.Items.{Entry, ended}
use Rattle.dura_value.specs.declared.outcome.Outcome.{Outcome}
use Rattle.run_laws.specs.Examples.{rules, answering}
use Rattle.run_laws.specs.Leaves.{AllRan}
use Rattle.run_laws.specs.Leaves.AllRan.{nothing_ran, frame_more}
use Rattle.run_rules.specs.Examples.{summing, ending}
use Rattle.run_rules.specs.Rules.{EndsPending, EndPending}
use Rattle.run_laws.proofs.examples.activities_ran.Goals as goal

pub returns-clause-taken : goal.returns-clause-taken
returns-clause-taken c = frame_more nothing_ran (fresh 0) refl (answering ∷ [])
    (All-from_recursion (λ (entry : Entry). All (EndsPending (fresh 0)) entry.items) (answering ∷ []) (All-from_recursion (EndsPending (fresh 0)) answering.items (tt, (tt, (tt, tt))), tt))

-- the first of entries that come together, where they are one
single : (more going : List Entry) (first only : Entry) → first ∷ (more ++ going) ≡ only ∷ [] → first ∷ more ≡ only ∷ []
single [] going first only is = let same : first ≡ only = cc is in ap (λ (e : Entry). e ∷ []) same
single (next ∷ more) going first only is = absurd (cc is)

ran_early : (outcome : Outcome) {entries : List Entry} → AllRan rules entries → entries ≡ ending 0 outcome ∷ [] → ⊥
ran_early outcome nothing_ran is = cc is
ran_early outcome (frame_more {settled = []} before state made going pending) is =
    let begins : state ≡ fresh 0 = cc made in
    let first = subst (λ (p : Partition). EndPending p going) begins pending in
    let there = subst (EndPending (fresh 0)) is first in
    cc (there 0 (ending 0 outcome) (omega arith) 0 (ended summing 3 outcome) (omega arith))
ran_early outcome (frame_more {settled = first ∷ more} before state made going pending) is = ran_early outcome before (single more going first (ending 0 outcome) is)

pub returns-clause-early : goal.returns-clause-early
returns-clause-early c = λ outcome ran. ran_early outcome ran refl
