use Rattle.part_steps.proofs.Sound.{same_sound}
use Rattle.part_steps.proofs.state.PartState.copy.Goals as goal

pub returns-clause-sound : goal.returns-clause-sound
returns-clause-sound c =
    let copied = c.in_ok-rows.ensures in
    same_sound c.args.self.now.rows c.in_ok-rows.rows c.requires copied.order copied.partitions copied.same
