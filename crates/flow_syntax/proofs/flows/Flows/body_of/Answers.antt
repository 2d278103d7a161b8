use Rattle.std.proofs.Common.{ap, ◌∙◌, Some, None, List}
use Rattle.flow_syntax.specs.declared.syntax.Stmt.{Stmt}
use Rattle.flow_syntax.specs.Views.{block_of, body_in}
use Rattle.flow_syntax.proofs.Maps.{found_in}
use Rattle.flow_syntax.proofs.flows.Flows.body_of.Goals as goal

pub returns-in-Some : goal.returns-in-Some
returns-in-Some c = ap (λ (body : List Stmt). Some (block_of body)) c.deref.ensures.value ∙ found_in body_in c.args.self.now.flows.entries c.args.name.now (Some c.in-Some.body.now) c.in-Some.ensures.value

pub returns-in-None : goal.returns-in-None
returns-in-None c = found_in body_in c.args.self.now.flows.entries c.args.name.now None c.in-None.ensures.value
