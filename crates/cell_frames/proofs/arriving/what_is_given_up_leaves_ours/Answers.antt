use Rattle.cell_frames.proofs.GivenUp.{rewound_ours, reset_ours, kept_ours, trims_ours}
use Rattle.cell_frames.proofs.arriving.what_is_given_up_leaves_ours.Goals as goal

pub returns-clause-rewound : goal.returns-clause-rewound
returns-clause-rewound c rules latest told flows count begin marks old new from lost ours waits rewound = rewound_ours rules latest told old ours waits flows count begin marks new from lost rewound

pub returns-clause-reset : goal.returns-clause-reset
returns-clause-reset c rules latest told old new from ours waits reset = reset_ours rules latest told old ours waits new from reset

pub returns-clause-kept : goal.returns-clause-kept
returns-clause-kept c rules latest told flows count begin marks old new ours waits kept = kept_ours rules latest told old ours waits flows count begin marks new kept

pub returns-clause-trims : goal.returns-clause-trims
returns-clause-trims c rules latest told marks ahead old new count ours waits trims = trims_ours rules latest told old ours waits marks ahead count new trims
