use Rattle.std.proofs.Common.{◌∙◌, drop, ap, sym}
use Rattle.std.specs.Option.{option_copied_mut}
use Rattle.flow_tasks.proofs.ByName.{written}
use Rattle.flow_tasks.proofs.by_name.NumbersByName.take_first.Goals as goal

pub returns-in-Some-clause-rest : goal.returns-in-Some-clause-rest
returns-in-Some-clause-rest c =
    let found = sym c.get_mut.ensures.value ∙ ap option_copied_mut c.in-Some.is in
    let now = c.pop_front.new.self in
    written c.args.self.now.queues (c.get_mut.follows.lender now) c.args.name.now c.in-Some.queue.now now (drop 1) found ((c.get_mut.follows.holds now).3) c.pop_front.ensures.rest
