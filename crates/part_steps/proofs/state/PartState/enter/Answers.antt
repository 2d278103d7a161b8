use Rattle.std.proofs.Common.{◌+◌, refl}
use Rattle.part_rows.specs.declared.parts.PartRows.{PartRows}
use Rattle.part_steps.proofs.Sound.{entered_sound}
use Rattle.part_steps.proofs.state.PartState.enter.Goals as goal

pub returns-clause-sound : goal.returns-clause-sound
returns-clause-sound c =
    let old = c.args.self.rows in
    let new : PartRows = record old { position = old.position + 1; incarnation = c.args.incarnation } in
    entered_sound old new c.args.incarnation c.requires.sound c.requires.younger c.requires.sound.order refl refl refl
