use Rattle.std.proofs.Common.{◌≡◌, ◌∙◌, Option, Some, None, sym, subst}
use Rattle.std.specs.Prelude.{IfSome}
use Rattle.flow_syntax.specs.Syntax.{Flows}
use Rattle.log_items.specs.Plain.{item_of}
use Rattle.log_items.specs.declared.items.Item.{Item}
use Rattle.dura_model.specs.Partition.{accepted}
use Rattle.part_steps.specs.declared.state.Verdict.{Verdict}
use Rattle.part_steps.specs.Applied.{Becomes}
use Rattle.part_steps.specs.Enabled.{stamp_at, IsEnabled}
use Rattle.part_steps.specs.Outputs.{outputs_by}
use Rattle.part_steps.specs.States.{state_of, count_of}
use Rattle.part_steps.proofs.Batching.{one_item_more}
use Rattle.part_steps.proofs.batch.add_next.Goals as goal

pub unreachable-requires : goal.unreachable-requires
unreachable-requires g c =
    let s = c.args.batch.state in
    let flows = g.R.Reactions.flows c.args.reactions.now in
    let item = item_of c.in-Some.item in
    let enabled = subst (λ (x : Option Item). IfSome x (λ one. (f : Flows) → IsEnabled f (count_of s) (state_of s) (stamp_at (state_of s) c.args.now) (item_of one))) c.in-Some.is c.in-Ok.ensures.some flows in
    let refused = subst (λ (v : Verdict). Becomes v s (accepted flows (count_of s) (state_of s) item) (outputs_by flows (state_of s) item)) c.in-Refused.is c.in-Ok-apply.ensures in
    let wrong : None ≡ Some enabled.next = sym refused.0 ∙ enabled.taken in
    cc wrong

pub returns : goal.returns
returns g c =
    let s = c.args.batch.state in
    let flows = g.R.Reactions.flows c.args.reactions.now in
    let item = item_of c.in-Some.item in
    let enabled = subst (λ (x : Option Item). IfSome x (λ one. (f : Flows) → IsEnabled f (count_of s) (state_of s) (stamp_at (state_of s) c.args.now) (item_of one))) c.in-Some.is c.in-Ok.ensures.some flows in
    let done = subst (λ (v : Verdict). Becomes v s (accepted flows (count_of s) (state_of s) item) (outputs_by flows (state_of s) item)) c.in-Accepted.is c.in-Ok-apply.ensures in
    one_item_more flows c.args.now c.args.batch c.in_ok-next-in-Accepted.next c.in-Some.item c.in-Accepted.made c.in-Accepted.state
    enabled.at done.0 done.1 done.2 done.3 done.4 c.in_ok-next-in-Accepted.ensures.state c.in_ok-next-in-Accepted.ensures.items c.in_ok-next-in-Accepted.ensures.outputs
