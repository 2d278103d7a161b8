use Rattle.std.proofs.Common.{◌≡◌, List, [], ◌∷◌, refl, ap, subst, arith}
use Rattle.commit_log.specs.Segment.{header_at}
use Rattle.dura_model.specs.Partition.{Partition, fresh}
use Rattle.dura_value.specs.Items.{Entry, ended}
use Rattle.flow_syntax.specs.Machine as machine
use Rattle.run_examples.specs.Going.{at_once}
use Rattle.run_laws.specs.Leaves.{AllRan}
use Rattle.run_laws.specs.Leaves.AllRan.{nothing_ran, frame_more}
use Rattle.run_rules.specs.Examples.{rules_with, summing}
use Rattle.run_rules.specs.FieldExamples.{no_sum, sum_flows}
use Rattle.run_rules.specs.Rules.{EndPending}
use Rattle.run_examples.proofs.going_examples.crashes_stand.Goals as goal

-- no activity was pending before the first entry
ran_early : {entries : List Entry} → AllRan (rules_with sum_flows) entries → (rest : List Entry) → entries ≡ at_once ∷ rest → ⊥
ran_early nothing_ran rest is = cc is
ran_early (frame_more {settled = []} before state made going pending) rest is =
    let begins : state ≡ fresh 0 = cc made in
    let first = subst (λ (p : Partition). EndPending p going) begins pending in
    let there = subst (EndPending (fresh 0)) is first in
    cc (there 0 at_once (omega arith) 2 (ended summing 0 no_sum) (omega arith))
ran_early (frame_more {settled = first ∷ more} before state made going pending) rest is =
    let same : first ≡ at_once = cc is in
    ran_early before more (ap (λ (e : Entry). e ∷ more) same)

pub returns-clause-early : goal.returns-clause-early
returns-clause-early c = λ left. ran_early left.ran left.going refl

pub returns-clause-accepted : goal.returns-clause-accepted
unfolding machine.go_on
returns-clause-accepted c = refl

pub returns-clause-damaged : goal.returns-clause-damaged
unfolding header_at
returns-clause-damaged c = λ flows left. cc left.kept
