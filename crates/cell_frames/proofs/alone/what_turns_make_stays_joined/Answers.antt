use Rattle.cell_frames.proofs.ByItself.{made_joined, idle_joined, spent_joined, turned_joined}
use Rattle.cell_frames.proofs.alone.what_turns_make_stays_joined.Goals as goal

pub returns-clause-turns : goal.returns-clause-turns
returns-clause-turns c rules s partition mode limit old new position packets facts most joined makes = made_joined rules s partition old joined facts mode limit most new position packets makes

pub returns-clause-idle : goal.returns-clause-idle
returns-clause-idle c rules s partition old new joined idle = idle_joined rules s partition old joined new idle

pub returns-clause-spent : goal.returns-clause-spent
returns-clause-spent c rules s partition old new number joined spent = spent_joined rules s partition old joined new number spent

pub returns-clause-turned : goal.returns-clause-turned
returns-clause-turned c rules s partition mode limit old new turned facts most joined is = turned_joined rules s partition old joined facts mode limit most turned new is
