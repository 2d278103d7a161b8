use Rattle.cell_frames.proofs.Reading.{rewound_read, reset_read, kept_read}
use Rattle.cell_frames.proofs.trims.what_is_given_up_leaves_trims_read.Goals as goal

pub returns-clause-rewound : goal.returns-clause-rewound
returns-clause-rewound c nexts flows count begin marks old new from lost its rewound = rewound_read nexts old its flows count begin marks new from lost rewound

pub returns-clause-reset : goal.returns-clause-reset
returns-clause-reset c nexts old new from its reset = reset_read nexts old its new from reset

pub returns-clause-kept : goal.returns-clause-kept
returns-clause-kept c nexts flows count begin marks old new its kept = kept_read nexts old its flows count begin marks new kept
