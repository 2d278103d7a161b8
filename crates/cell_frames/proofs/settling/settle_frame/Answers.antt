use Rattle.std.proofs.Common.{◌∙◌, ◌<◌, ◌++◌, ℕ, List, [], take, None, Err, refl, sym, ap, subst}
use Rattle.cell_frames.proofs.Calls.{may_go, stays, others_keep, others_settled, rests_none, going_is, on_ok, failed_joined}
use Rattle.cell_frames.proofs.Cells.{settled_joined}
use Rattle.cell_frames.proofs.Stays.{own_then}
use Rattle.cell_frames.specs.Joined.{view_of}
use Rattle.dura_value.specs.Items.{Entry}
use Rattle.hub_store.specs.Trail.{of_part}
use Rattle.hub_store.specs.declared.way.Stage.TheVariants as stages
use Rattle.spec_cell.specs.Seats.{Slot}
use Rattle.hub_store.specs.Ways.{way_of, is_open}
use Rattle.spec_cell.specs.Views.{HasSettled}
use Rattle.cell_frames.proofs.settling.settle_frame.Goals as goal

pub returns-in-Err-SiteFault-clause-joined : goal.returns-in-Err-SiteFault-clause-joined
returns-in-Err-SiteFault-clause-joined g c = λ going.
    failed_joined g.M.Picked.rules c.args.part (view_of c.args.store.now) (view_of c.settle.new.self) c.args.cell.now
    (stays g.M.Picked.rules c.args.part c.args.store.now c.settle.new.self c.settle.ensures.keeps (c.in-Err-SiteFault.ensures.no_trail) c.args.part) (c.in-Err-SiteFault.ensures.frame)
    (λ none.
    let closed = c.settle.ensures.no_frame.1 (ap is_open (c.requires.joined.out.rests none).0) in
    let failed = c.in-Err-SiteFault.is ∙ ap Err c.in-Err-SiteFault.field-0-is in
    cc (closed, failed))
    c.requires.joined

pub returns-in-Err-SiteFault-clause-others : goal.returns-in-Err-SiteFault-clause-others
returns-in-Err-SiteFault-clause-others g c = others_keep g.M.Picked.rules c.args.part c.args.store.now c.settle.new.self c.settle.ensures.keeps (c.in-Err-SiteFault.ensures.no_trail)

pub settled-stub-requires-clause-mine : goal.settled-stub-requires-clause-mine
settled-stub-requires-clause-mine g c =
    let rules = g.M.Picked.rules in
    let cell = c.args.cell.now in
    let old = c.args.store.now in
    let new = c.settle.new.self in
    let keeps = c.settle.ensures.keeps in
    let settles = c.in-Ok.ensures.trail in
    let frame = going_is (view_of old) c.args.part cell settles.entries c.requires.joined.out settles.frame in
    let makes = may_go rules g.M.Picked.origin.count c.args.part old settles.entries (subst (λ (n : ℕ). c.args.part < n) g.M.Picked.counts c.requires.place) c.requires.kept settles.frame in
    c.of-seat.ensures.mine ∙ ap (of_part c.args.part) c.settled.ensures ∙ own_then rules c.args.part settles.at settles.entries (view_of old) (view_of new) settles.trail makes
    ∙ ap (λ (l : List Entry). of_part c.args.part (view_of old).trail ++ l) frame ∙ ap (λ (l : List Entry). l ++ take cell.out cell.entries) (sym c.requires.joined.goes.mine) ∙ ap (λ (n : ℕ). cell.slot.mine ++ take n cell.entries) (sym c.out-count.ensures)

pub returns-in-Ok-packets-clause-joined : goal.returns-in-Ok-packets-clause-joined
returns-in-Ok-packets-clause-joined g c = λ going.
    let rules = g.M.Picked.rules in
    let cell = c.args.cell.now in
    let old = c.args.store.now in
    let new = c.settle.new.self in
    let keeps = c.settle.ensures.keeps in
    let settles = c.in-Ok.ensures.trail in
    let frame = going_is (view_of old) c.args.part cell settles.entries c.requires.joined.out settles.frame in
    let makes = may_go rules g.M.Picked.origin.count c.args.part old settles.entries (subst (λ (n : ℕ). c.args.part < n) g.M.Picked.counts c.requires.place) c.requires.kept settles.frame in
    let slot : Slot = record { token = 0; mine = c.of-seat.result.mark.mine; under_way = None; stage = stages.Resting; floors = [] } in
    let facts = c.if-not-is_going.ensures.facts refl in
    let has = on_ok (HasSettled c.out-count.result slot cell c.settled-stub.new.self) c.settled-stub.result.1 c.in-Ok-packets.packets c.in-Ok-packets.is c.settled-stub.ensures.settled in
    settled_joined rules c.args.part settles.at settles.entries (view_of old) (view_of new) settles.trail makes keeps.logs.latest keeps.logs.said (ap (λ f. f c.args.part) keeps.floors) cell c.settled-stub.new.self slot
    facts.within frame (subst (λ (n : ℕ). HasSettled n slot cell c.settled-stub.new.self) c.out-count.ensures has)
    (c.of-seat.ensures.mine ∙ ap (of_part c.args.part) c.settled.ensures) c.requires.joined.goes c.in-Ok.ensures.ok (rests_none (way_of new.logs.ways.items c.args.part) c.in-Ok.ensures.ok)

pub returns-in-Ok-packets-clause-others : goal.returns-in-Ok-packets-clause-others
returns-in-Ok-packets-clause-others g c =
    let rules = g.M.Picked.rules in
    let cell = c.args.cell.now in
    let old = c.args.store.now in
    let new = c.settle.new.self in
    let keeps = c.settle.ensures.keeps in
    let settles = c.in-Ok.ensures.trail in
    let frame = going_is (view_of old) c.args.part cell settles.entries c.requires.joined.out settles.frame in
    let makes = may_go rules g.M.Picked.origin.count c.args.part old settles.entries (subst (λ (n : ℕ). c.args.part < n) g.M.Picked.counts c.requires.place) c.requires.kept settles.frame in
    others_settled rules c.args.part old new keeps settles.at settles.entries settles.trail makes

pub returns-in-Err-clause-others : goal.returns-in-Err-clause-others
returns-in-Err-clause-others g c =
    let rules = g.M.Picked.rules in
    let cell = c.args.cell.now in
    let old = c.args.store.now in
    let new = c.settle.new.self in
    let keeps = c.settle.ensures.keeps in
    let settles = c.in-Ok.ensures.trail in
    let frame = going_is (view_of old) c.args.part cell settles.entries c.requires.joined.out settles.frame in
    let makes = may_go rules g.M.Picked.origin.count c.args.part old settles.entries (subst (λ (n : ℕ). c.args.part < n) g.M.Picked.counts c.requires.place) c.requires.kept settles.frame in
    others_settled rules c.args.part old new keeps settles.at settles.entries settles.trail makes
