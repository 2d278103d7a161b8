use Rattle.std.proofs.Common.{◌∙◌, ap, sym}
use Rattle.dura_value.specs.Views.{id_of}
use Rattle.flow_syntax.specs.Views.{flows_of}
use Rattle.dura_model.specs.Deliveries.{flow_of}
use Rattle.flow_steps.proofs.absent.flow_in.Goals as goal

pub returns-in-Flow : goal.returns-in-Flow
returns-in-Flow c = c.body_of.ensures ∙ ap (λ id. flow_of (flows_of c.args.flows.now) (id_of id)) (sym c.in-Flow.is)
