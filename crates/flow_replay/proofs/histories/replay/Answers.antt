use Rattle.std.proofs.Common.{◌∙◌, map, option_map, ap, sym}
use Rattle.std.proofs.lemmas.List.{at_drop_all}
use Rattle.dura_value.specs.Views.{id_of}
use Rattle.flow_syntax.specs.Machine.{new_machine, replayed}
use Rattle.flow_messages.specs.Views.{past_of}
use Rattle.flow_machine.specs.Views.{machine_of, body_of}
use Rattle.flow_replay.proofs.Replayed.{one_more}
use Rattle.flow_replay.proofs.histories.replay.Goals as goal

pub loop-past-preserved : goal.loop-past-preserved
loop-past-preserved c =
    let total = replayed (new_machine (id_of c.args.id.now) (option_map body_of c.args.body)) (map past_of (map (λ past. past.now) c.args.history.now)) in
    one_more (machine_of c.loop-past.machine) (machine_of c.advance.new.machine) total c.args.history.now c.loop-past.past-index c.past-item.result c.loop-past-test.true c.past-item.is c.in-Ok.ensures.machine c.loop-past.invariant

pub returns : goal.returns
returns c =
    sym (at_drop_all (λ past. replayed (machine_of c.loop-past.machine) (map past_of (map (λ past'. past'.now) past))) c.args.history.now c.loop-past.past-index c.loop-past-test.false) ∙ c.loop-past.invariant

pub loop-past-init : goal.loop-past-init
loop-past-init c = ap (λ m. replayed m (map past_of (map (λ past. past.now) c.args.history.now))) c.in_ok-machine.ensures
