use Rattle.std.proofs.Common.{◌∙◌, ap, sym}
use Rattle.std.specs.Option.{option_copied_mut}
use Rattle.flow_tasks.specs.Numbers.{without}
use Rattle.flow_tasks.proofs.ByName.{written}
use Rattle.flow_tasks.proofs.by_name.NumbersByName.leave_out.Goals as goal

pub returns-in-Some : goal.returns-in-Some
returns-in-Some c =
    let found = sym c.get_mut.ensures.value ∙ ap option_copied_mut c.in-Some.is in
    let now = c.leave_out.new.numbers in
    written c.args.self.now.queues (c.get_mut.follows.lender now) c.args.name.now c.in-Some.queue.now now (without c.args.number) found ((c.get_mut.follows.holds now).3) c.leave_out.ensures
