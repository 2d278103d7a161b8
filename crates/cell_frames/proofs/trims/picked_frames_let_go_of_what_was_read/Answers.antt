use Rattle.cell_frames.proofs.Reading.{picked_lets_go}
use Rattle.cell_frames.proofs.trims.picked_frames_let_go_of_what_was_read.Goals as goal

pub returns : goal.returns
returns c nexts ends flows count begin marks old new frame sending its above picked = picked_lets_go nexts old its ends flows count begin marks new frame sending above picked
