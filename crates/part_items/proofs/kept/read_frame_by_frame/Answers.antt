-- A frame's entries stand before what is kept from the next gate on.
use Rattle.part_items.proofs.FrameByFrame.{left_frame}
use Rattle.part_items.proofs.kept.read_frame_by_frame.Goals as goal

pub returns-clause-frame : goal.returns-clause-frame
returns-clause-frame c = left_frame
