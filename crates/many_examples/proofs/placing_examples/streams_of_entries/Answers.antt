use Rattle.std.proofs.Common.{◌≡◌, ap, refl, arith}
use Rattle.dura_value.specs.Items.{Identity}
use Rattle.many_examples.specs.Pairs.{first_entry}
use Rattle.many_examples.specs.Placings.{first_posted}
use Rattle.many_examples.proofs.Placings.{only}
use Rattle.many_examples.proofs.placing_examples.streams_of_entries.Goals as goal

pub returns-clause-unsent : goal.returns-clause-unsent
returns-clause-unsent c = λ flows are.
    let partition : 0 ≡ 1 = ap (λ (one : Identity). one.partition) (only (first_entry 0) (first_entry 1) (are.senders 1 0 0 first_posted refl)) in
    omega (arith, partition)

pub returns-clause-unread : goal.returns-clause-unread
returns-clause-unread c = λ flows are.
    let partition : 1 ≡ 0 = ap (λ (one : Identity). one.partition) (only (first_entry 1) (first_entry 0) (are.readers 0 1 (omega arith))) in
    omega (arith, partition)
