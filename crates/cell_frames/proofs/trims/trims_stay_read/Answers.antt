use Rattle.cell_frames.proofs.Reading.{new_read, further_read, picked_read, same_read, made_read, idle_read, spent_read, settled_read}
use Rattle.cell_frames.proofs.trims.trims_stay_read.Goals as goal

pub returns-clause-begins : goal.returns-clause-begins
returns-clause-begins c = new_read

pub returns-clause-further : goal.returns-clause-further
returns-clause-further c = further_read

pub returns-clause-picked : goal.returns-clause-picked
returns-clause-picked c nexts flows count begin marks old new frame sending its picked = picked_read nexts old its flows count begin marks new frame sending picked

pub returns-clause-unpicked : goal.returns-clause-unpicked
returns-clause-unpicked c nexts flows count begin marks old new its cant = same_read nexts old its new cant.same

pub returns-clause-turned : goal.returns-clause-turned
returns-clause-turned c nexts flows count begin mode limit old new position packets its makes = made_read nexts old its flows count begin mode limit new position packets makes

pub returns-clause-idle : goal.returns-clause-idle
returns-clause-idle c nexts flows count begin old new its idle = idle_read nexts old its flows count begin new idle

pub returns-clause-spent : goal.returns-clause-spent
returns-clause-spent c nexts flows count begin old new number its spent = spent_read nexts old its flows count begin new number spent

pub returns-clause-settled : goal.returns-clause-settled
returns-clause-settled c nexts n slot old new its settled = settled_read nexts old its n slot new settled
