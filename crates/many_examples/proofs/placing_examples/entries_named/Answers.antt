use Rattle.std.proofs.Common.{◌≡◌, ap, arith}
use Rattle.dura_value.specs.Items.{Identity}
use Rattle.many_examples.specs.Pairs.{coming_in, first_entry}
use Rattle.many_examples.proofs.Placings.{only}
use Rattle.many_examples.proofs.placing_examples.entries_named.Goals as goal

pub returns-clause-unknown : goal.returns-clause-unknown
returns-clause-unknown c = λ named.
    let same = only (first_entry 0) (first_entry 1) (named 0 (coming_in 0).entry (omega arith) 0 (first_entry 1) (omega arith)) in
    let partition : 0 ≡ 1 = ap (λ (one : Identity). one.partition) same in
    omega (arith, partition)
