-- Why a file of flows is refused.
use Rattle.flow_values.specs.Faults.{Path}

-- the bytes are no JSON; a value isn't of the shape wanted, the first that is looked at; every shape is right, and a name
-- stands for nothing, the first that is looked up
pub data Fault : Type 0 where
  not_json : Fault
  bad_shape : (path : Path) → Fault
  unknown_name : (path : Path) → Fault
