-- The event that a message is to an instance that may be there.
use Rattle.std.proofs.Common.{◌≡◌, ◌∙◌, Option, Some, ap, sym, option_map}
use Rattle.dura_value.specs.Ids.{Id}
use Rattle.dura_value.specs.Messages.{Body}
use Rattle.flow_syntax.specs.Syntax.{Flows}
use Rattle.flow_syntax.specs.Machine.{Event}
use Rattle.dura_model.specs.Partition.{event_of}
use Rattle.flow_steps.specs.declared.instance.Instance.{Instance}
use Rattle.flow_steps.specs.Views.{instance_of}

pub of_it : (flows : Flows) (o : Option Instance) (i : Instance) (from to : Id) (body : Body) (e : Option Event) → o ≡ Some i → ((f : Flows) → e ≡ event_of f (Some (instance_of i)) from to body)
    → e ≡ event_of flows (option_map instance_of o) from to body
of_it flows o i from to body e is all = all flows ∙ ap (λ (one : Option Instance). event_of flows (option_map instance_of one) from to body) (sym is)
