use Rattle.std.proofs.Common.{length}
use Rattle.dura_model.specs.Partition.{shown}
use Rattle.part_steps.specs.States.{parts_in}
use Rattle.site_model.specs.History.{tape}
use Rattle.state_lines.proofs.Saying.{table_said, stops_in_instances, on_ok, on_err}
use Rattle.state_lines.proofs.table.say_table.Goals as goal

pub returns-clause-said : goal.returns-clause-said
returns-clause-said g c =
    let flows = g.R.Reactions.flows c.args.reactions.now in
    let world = shown flows (length c.args.states.now) (parts_in c.args.states.now) in
    let old = tape (g.V.Site.history c.args.site.now) in
    let mid = tape (g.V.Site.history c.say_lines.new.site) in
    let new = tape (g.V.Site.history c.say_lines-2.new.site) in
    on_ok c.say_lines-2.result (table_said flows world old mid new c.in_ok-say_lines.ensures.said) c.say_lines-2.ensures.said

pub returns-clause-part : goal.returns-clause-part
returns-clause-part g c =
    let flows = g.R.Reactions.flows c.args.reactions.now in
    let world = shown flows (length c.args.states.now) (parts_in c.args.states.now) in
    let old = tape (g.V.Site.history c.args.site.now) in
    let mid = tape (g.V.Site.history c.say_lines.new.site) in
    let new = tape (g.V.Site.history c.say_lines-2.new.site) in
    on_err c.say_lines-2.result (λ error stops. stops_in_instances flows world error old mid new c.in_ok-say_lines.ensures.said stops) c.say_lines-2.ensures.part
