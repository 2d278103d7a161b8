-- When nothing is possible in a partition without a request.
use Rattle.std.specs.Prelude.{◌≡◌, ℕ, None}
use Rattle.dura_value.specs.Ids.{Id}
use Rattle.part_rows.specs.Timers.{NoTimer}
use Rattle.dura_model.specs.Partition.{Partition}
use Rattle.part_rows.specs.Open.{NoneOpen}

-- no activity is pending
abbrev pub NoActivity : Partition → Type 0
NoActivity p = (id : Id) (task : ℕ) → p.activities id task ≡ None

pub record IsQuiet (p : Partition) : Type 0 where
  -- no receiver takes a message that is on its way
  pub deliveries : NoneOpen p
  pub activities : NoActivity p
  pub timers : NoTimer p.timers
