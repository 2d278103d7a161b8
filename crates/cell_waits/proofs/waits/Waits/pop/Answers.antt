use Rattle.std.proofs.Common.{◌∙◌, sym, subst, map}
use Rattle.cell_waits.specs.Indices.{Agrees}
use Rattle.cell_waits.specs.Waits.{wait_of}
use Rattle.cell_waits.proofs.Keeping.{first_seen, nothing_left}
use Rattle.cell_waits.proofs.waits.Waits.pop.Goals as goal

pub returns-in-None-clause-popped : goal.returns-in-None-clause-popped
returns-in-None-clause-popped c = (nothing_left c.args.self.now.queue c.in-None.ensures.cases.0, nothing_left c.pop_front.new.self c.in-None.ensures.cases.1)

pub returns-in-None-clause-indexed : goal.returns-in-None-clause-indexed
returns-in-None-clause-indexed c =
    let old = c.args.self.now in
    subst (Agrees old.indices old.first) (nothing_left old.queue c.in-None.ensures.cases.0 ∙ sym (nothing_left c.pop_front.new.self c.in-None.ensures.cases.1)) c.requires

pub returns-in-Ok-clause-popped : goal.returns-in-Ok-clause-popped
returns-in-Ok-clause-popped c = first_seen c.args.self.now.queue.items c.pop_front.new.self.items c.pop_front.result c.in-Some.wait c.pop_front.ensures.items c.in-Some.is

pub returns-in-Ok-clause-indexed : goal.returns-in-Ok-clause-indexed
returns-in-Ok-clause-indexed c =
    let old = c.args.self.now in
    c.in-Ok.ensures (map wait_of c.pop_front.new.self.items) (subst (Agrees old.indices old.first) (first_seen old.queue.items c.pop_front.new.self.items c.pop_front.result c.in-Some.wait c.pop_front.ensures.items c.in-Some.is) c.requires)
