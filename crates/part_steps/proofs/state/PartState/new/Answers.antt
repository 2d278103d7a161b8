use Rattle.std.proofs.Common.{◌<◌, ℕ, subst, sym}
use Rattle.part_steps.proofs.Sound.{fresh_sound}
use Rattle.part_steps.proofs.state.PartState.new.Goals as goal

pub returns-clause-sound : goal.returns-clause-sound
returns-clause-sound c =
    let number = c.new.ensures.number in
    let count = c.new.ensures.partitions in
    fresh_sound c.new.result c.args.number
    (subst (λ (k : ℕ). c.new.result.number < k) (sym count) (subst (λ (n : ℕ). n < c.args.partitions) (sym number) c.requires))
    number c.new.ensures.order c.new.ensures.fresh
