-- The plain data that steps stand for, and what the parts of the reader answer.
use Rattle.flow_values.specs.Faults as plain
use Rattle.flow_values.specs.declared.faults.Step.{Step}
use Rattle.flow_values.specs.declared.faults.Step.TheVariants.{Word, Name, Part}

abbrev pub step_of : Step → plain.Step
step_of (Word word) = plain.to_key word.now
step_of (Name name) = plain.to_key name
step_of (Part index) = plain.to_part index
