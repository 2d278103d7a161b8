use Rattle.std.proofs.Common.{◌≡◌, ◌∙◌, ℕ, sym, ap, length, List, arith}
use Rattle.dura_model.specs.Partition.{Partition}
use Rattle.part_steps.specs.declared.state.PartState.{PartState}
use Rattle.recover_core.specs.declared.ending.Life.{Life}
use Rattle.run_examples.proofs.recovery_examples.each_goes_on.Goals as goal

pub returns-clause-entry_counted : goal.returns-clause-entry_counted
returns-clause-entry_counted c = λ opened life at one made can.
    let none : 0 ≡ 1 = sym (ap (λ (p : Partition). p.position) made) ∙ can.counted 1 life at ∙ ap (λ (l : List ℕ). length l) one in
    omega (arith, none)

pub returns-clause-older : goal.returns-clause-older
returns-clause-older c = λ opened life at first later can. let younger = can.younger 1 life at in omega (arith, younger, first, later)

pub returns-clause-one_log : goal.returns-clause-one_log
returns-clause-one_log c = λ opened life one can. let many : 1 ≡ 2 = sym (ap (λ (l : List Life). length l) one) ∙ can.lives in omega (arith, many)

pub returns-clause-one_state : goal.returns-clause-one_state
returns-clause-one_state c = λ opened state one can. let many : 1 ≡ 2 = sym (ap (λ (l : List PartState). length l) one) ∙ can.many in omega (arith, many)
