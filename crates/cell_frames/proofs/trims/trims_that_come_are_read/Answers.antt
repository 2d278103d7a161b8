use Rattle.cell_frames.proofs.Reading.{trims_read}
use Rattle.cell_frames.proofs.trims.trims_that_come_are_read.Goals as goal

pub returns : goal.returns
returns c nexts marks ahead old new count told its trims = trims_read nexts old its marks ahead count new told trims
