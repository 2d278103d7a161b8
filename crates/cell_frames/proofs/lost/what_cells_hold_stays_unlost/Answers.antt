use Rattle.cell_frames.proofs.Unlost.{made_unlost, settled_unlost, rewound_unlost, reset_unlost}
use Rattle.cell_frames.proofs.lost.what_cells_hold_stays_unlost.Goals as goal

pub returns-clause-turns : goal.returns-clause-turns
returns-clause-turns c position floors flows count begin mode limit old new at packets holds makes = made_unlost position floors old holds flows count begin mode limit new at packets makes

pub returns-clause-settled : goal.returns-clause-settled
returns-clause-settled c position floors old new n slot holds settled = settled_unlost position floors old holds n slot new settled

pub returns-clause-rewound : goal.returns-clause-rewound
returns-clause-rewound c position floors flows count begin marks old new from lost holds facts here rewound = rewound_unlost position floors old holds flows count begin facts here marks new from lost rewound

pub returns-clause-reset : goal.returns-clause-reset
returns-clause-reset c position floors flows count begin old new from holds facts here reset = reset_unlost position floors old holds flows count begin facts here new from reset
