use Rattle.std.proofs.Common.{◌≡◌, ap, arith}
use Rattle.dura_value.specs.Items.{Identity, trim}
use Rattle.many_examples.specs.Pairs.{first_entry, letting_go}
use Rattle.many_examples.proofs.Placings.{only}
use Rattle.many_examples.proofs.placing_examples.trims_named.Goals as goal

pub returns-clause-unknown : goal.returns-clause-unknown
returns-clause-unknown c = λ named.
    let same = only (first_entry 1) (first_entry 0) (named 0 letting_go.entry (omega arith) 0 (trim (first_entry 0) 1) (omega arith)) in
    let partition : 1 ≡ 0 = ap (λ (one : Identity). one.partition) same in
    omega (arith, partition)
