-- The texts of faults.
use Rattle.std.specs.Prelude.{ℕ, List, codes}
use Rattle.flow_eval.specs.declared.fault.Fault.{Fault}
use Rattle.flow_eval.specs.declared.fault.Fault.TheVariants as faults

abbrev pub fault_text : Fault → List ℕ
fault_text faults.Type = codes "type"
fault_text faults.Unset = codes "unset"
fault_text faults.Overflow = codes "overflow"
fault_text faults.DivZero = codes "divzero"
fault_text faults.Size = codes "size"
fault_text faults.Range = codes "range"
fault_text faults.Key = codes "key"
