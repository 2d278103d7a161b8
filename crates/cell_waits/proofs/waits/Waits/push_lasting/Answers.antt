use Rattle.std.proofs.Common.{◌++◌, map, refl}
use Rattle.std.specs.List.{filter}
use Rattle.cell_waits.specs.Waits.{wait_of, waits_of, lasting}
use Rattle.cell_waits.proofs.Keeping.{first_seen, one_filtered, nothing_left, all_kept}
use Rattle.cell_waits.proofs.waits.Waits.push_lasting.Goals as goal

pub waiting-preserved : goal.waiting-preserved
waiting-preserved c = (
  c.in_ok-push_where.ensures.indexed,
  one_filtered lasting (waits_of c.waiting.self) (waits_of c.push_where.new.self) (waits_of c.args.self.now ++ filter lasting (map wait_of c.args.queue.now.items)) (map wait_of c.waiting.queue.items) (map wait_of c.pop_front.new.self.items) (wait_of c.in-Some.wait) c.is_lasting-stays.result
      (first_seen c.waiting.queue.items c.pop_front.new.self.items c.pop_front.result c.in-Some.wait c.pop_front.ensures.items c.in-Some.is) c.is_lasting-stays.ensures c.in_ok-push_where.ensures.pushed c.waiting.invariant.1,
)

pub returns-clause-pushed : goal.returns-clause-pushed
returns-clause-pushed c =
    all_kept (waits_of c.waiting.self) (map wait_of c.waiting.queue.items) (waits_of c.args.self.now ++ filter lasting (map wait_of c.args.queue.now.items)) (filter lasting) (nothing_left c.waiting.queue c.in_default.ensures.cases.0) refl c.waiting.invariant.1
