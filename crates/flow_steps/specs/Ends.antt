-- What follows an event.
use Rattle.std.specs.Prelude.{List, [], ◌++◌, true, false, Option, Some, None}
use Rattle.dura_value.specs.Messages.{Answer, Message}
use Rattle.flow_syntax.specs.Machine.{Asked}
use Rattle.dura_model.specs.World.{Orchestration}
use Rattle.dura_model.specs.Deliveries.{Effect, answering_all}

-- an instance that has come to its end, and all that wait are answered behind what is sent
abbrev pub ended_with : Orchestration → List Message → Answer → Effect
ended_with o sent answer = record {
  instance = Some (record o { waiting = [] });
  sent = sent ++ answering_all o.machine.id o.waiting answer;
  asked = [];
  gives_up = true;
}

-- what follows all that is sent and asked for, as the instance has come to an end or not
abbrev pub settled_with : Orchestration → List Message → List Asked → Option Answer → Effect
settled_with o sent asked None = record { instance = Some o; sent = sent; asked = asked; gives_up = false }
settled_with o sent asked (Some answer) = ended_with o sent answer
