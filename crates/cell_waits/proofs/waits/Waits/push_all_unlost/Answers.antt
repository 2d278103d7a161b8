use Rattle.std.proofs.Common.{◌∙◌, ◌++◌, map, refl, ap}
use Rattle.std.specs.List.{filter}
use Rattle.spec_tracker.specs.Marks.{floors_of}
use Rattle.cell_waits.specs.CutStreams.{stays, goes}
use Rattle.cell_waits.specs.Waits.{wait_of, waits_of, sender_of, lost_by, without_lost}
use Rattle.cell_waits.proofs.CutStreams.{all_stay}
use Rattle.cell_waits.proofs.Keeping.{first_seen, one_uncut, nothing_left, all_kept}
use Rattle.cell_waits.proofs.waits.Waits.push_all_unlost.Goals as goal

pub waiting-init : goal.waiting-init
waiting-init c = (
  c.requires,
  ap (λ l. waits_of c.args.self.now ++ filter (stays l) (without_lost (lost_by (floors_of c.args.marks.now)) (map wait_of c.args.queue.now.items))) c.new-cut.ensures.items
      ∙ ap (λ l. waits_of c.args.self.now ++ l) (all_stay (without_lost (lost_by (floors_of c.args.marks.now)) (map wait_of c.args.queue.now.items))),
)

pub waiting-preserved : goal.waiting-preserved
waiting-preserved c = (
  c.in_ok-push_unlost.ensures.indexed,
  one_uncut (lost_by (floors_of c.args.marks.now)) c.waiting.cut.items c.push_unlost.new.cut.items (waits_of c.waiting.self) (waits_of c.push_unlost.new.self)
      (waits_of c.args.self.now ++ without_lost (lost_by (floors_of c.args.marks.now)) (map wait_of c.args.queue.now.items)) (map wait_of c.waiting.queue.items) (map wait_of c.pop_front.new.self.items) (wait_of c.in-Some.wait)
      (goes (lost_by (floors_of c.args.marks.now)) c.waiting.cut.items (sender_of (wait_of c.in-Some.wait).item))
      (first_seen c.waiting.queue.items c.pop_front.new.self.items c.pop_front.result c.in-Some.wait c.pop_front.ensures.items c.in-Some.is) refl c.in_ok-push_unlost.ensures.cut c.in_ok-push_unlost.ensures.pushed c.waiting.invariant.1,
)

pub returns-clause-pushed : goal.returns-clause-pushed
returns-clause-pushed c =
    all_kept (waits_of c.waiting.self) (map wait_of c.waiting.queue.items) (waits_of c.args.self.now ++ without_lost (lost_by (floors_of c.args.marks.now)) (map wait_of c.args.queue.now.items))
    (λ l. filter (stays c.waiting.cut.items) (without_lost (lost_by (floors_of c.args.marks.now)) l)) (nothing_left c.waiting.queue c.in_default.ensures.cases.0) refl c.waiting.invariant.1
