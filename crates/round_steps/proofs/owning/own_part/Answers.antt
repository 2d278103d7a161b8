use Rattle.std.proofs.Common.{arith, subst, sym}
use Rattle.hub_store.specs.Changes.{trail_in}
use Rattle.round_steps.proofs.Counts.{counted_on, wave_few}
use Rattle.round_steps.specs.Labels.{IsCounted}
use Rattle.round_steps.specs.declared.course.Seen.{Seen}
use Rattle.round_steps.proofs.owning.own_part.Goals as goal

pub returns-in_err-fits-clause-fewer : goal.returns-in_err-fits-clause-fewer
returns-in_err-fits-clause-fewer g c = λ few.
    let h = c.own.ensures in
    let low = c.if-pace-course.false in
    wave_few g.M.Picked.rules c.args.pace.now.steps _ _ (trail_in c.args.store.now.logs) (trail_in c.own.new.store.logs) c.args.course.now.seen c.requires.counted (omega (arith, low)) h.grows.grows (let one = h.few in let some = c.requires.serving.running.some in omega (arith, one, some))

pub returns-in_err-look-clause-fewer : goal.returns-in_err-look-clause-fewer
returns-in_err-look-clause-fewer g c = λ few.
    let h = c.own.ensures in
    let low = c.if-pace-course.false in
    wave_few g.M.Picked.rules c.args.pace.now.steps _ _ (trail_in c.args.store.now.logs) (trail_in c.own.new.store.logs) c.args.course.now.seen c.requires.counted (omega (arith, low)) h.grows.grows (let one = h.few in let some = c.requires.serving.running.some in omega (arith, one, some))

pub returns-clause-fewer : goal.returns-clause-fewer
returns-clause-fewer g c = λ few.
    let h = c.own.ensures in
    let low = c.if-pace-course.false in
    wave_few g.M.Picked.rules c.args.pace.now.steps _ _ (trail_in c.args.store.now.logs) (trail_in c.own.new.store.logs) c.args.course.now.seen c.requires.counted (omega (arith, low)) h.grows.grows (let one = h.few in let some = c.requires.serving.running.some in omega (arith, one, some))

pub returns-clause-counted : goal.returns-clause-counted
returns-clause-counted g c =
    let h = c.own.ensures in
    let ok = c.in_ok-look.ensures in
    let before = c.note_room.new.self.seen in
    let counted = subst (λ (seen : Seen). IsCounted seen (trail_in c.args.store.now.logs)) (sym c.note_room.ensures.seen) c.requires.counted in
    counted_on g.M.Picked.rules _ _ (trail_in c.args.store.now.logs) (trail_in c.own.new.store.logs) before c.look.new.course.seen counted h.grows.grows ok.entries ok.labels
