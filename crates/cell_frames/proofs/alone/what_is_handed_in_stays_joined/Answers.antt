use Rattle.cell_frames.proofs.ByItself.{fired_joined, heard_joined, owned_joined, tasks_joined}
use Rattle.cell_frames.proofs.alone.what_is_handed_in_stays_joined.Goals as goal

pub returns-clause-fires : goal.returns-clause-fires
returns-clause-fires c rules s partition old new now later low above none joined is = fired_joined rules s partition old joined now later new low above none is

pub returns-clause-others : goal.returns-clause-others
returns-clause-others c rules s partition cell later above same joined = heard_joined rules s partition cell joined later above same

pub returns-clause-owned : goal.returns-clause-owned
returns-clause-owned c rules s partition old new node joined is = owned_joined rules s partition old joined node new is

pub returns-clause-tasks : goal.returns-clause-tasks
returns-clause-tasks c rules s partition old new joined is = tasks_joined rules s partition old joined new is
