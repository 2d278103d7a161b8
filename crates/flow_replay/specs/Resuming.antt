-- What an event makes of a machine.
use Rattle.std.specs.Prelude.{◌≡◌, map}
use Rattle.dura_value.specs.Views.{messages_of}
use Rattle.flow_syntax.specs.Eval.{Variables}
use Rattle.flow_syntax.specs.Syntax.{Block}
use Rattle.flow_syntax.specs.Machine as plain
use Rattle.flow_machine.specs.declared.machine.Machine.{Machine}
use Rattle.flow_machine.specs.Views.{machine_of}
use Rattle.flow_messages.specs.declared.made.Made.{Made}
use Rattle.flow_messages.specs.Views.{asked_of}

-- A machine has become the one of this result, and this is all that it made.
pub record Resumes (made : Made) (m : Machine) (r : plain.Resumed) : Type 0 where
  pub machine : machine_of m ≡ r.machine
  pub sent : messages_of made.messages.items ≡ r.sent
  pub asked : map asked_of made.asked.items ≡ r.asked

-- a machine that has these variables, and the statements of a body before it
abbrev pub begun : plain.Machine → Variables → Block → plain.Machine
begun m variables body = record m { variables = variables; rest = plain.todo body; progress = plain.running }
