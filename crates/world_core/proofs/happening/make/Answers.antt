use Rattle.std.proofs.Common.{◌≡◌, ℕ, false, length, sym, subst, arith}
use Rattle.world_core.proofs.Happened.{may_there, ago_place}
use Rattle.world_core.specs.Happens.{HasWritten, HasJudged, HasTrimmed, Makes}
use Rattle.world_core.specs.Unmet.{names_nothing}
use Rattle.world_core.specs.World.{world}
use Rattle.world_core.specs.declared.event.Event.{Event}
use Rattle.world_core.proofs.happening.make.Goals as goal

pub record-requires-clause-may : goal.record-requires-clause-may
record-requires-clause-may g c =
    may_there _ _ (subst (λ (e : Event). names_nothing g.M.Picked.rules.count c.args.life.now.nodes (world c.args.store.now c.args.life.now.cells.items c.args.life.now.packets.items c.args.life.now.marks.items c.args.life.now.ended) e ≡ false) c.in-Outcome.is c.requires.met)

pub returns-in-Body-clause-makes : goal.returns-in-Body-clause-makes
returns-in-Body-clause-makes g c =
    let long : c.len.result ≡ length c.args.life.now.marks.items = let a = c.len.ensures in let b = c.args.life.now.marks.ok.0 in omega (arith, a, b) in
    subst (λ (e : Event). Makes g.M.Picked.rules c.args.life.now.mode (world c.args.store.now c.args.life.now.cells.items c.args.life.now.packets.items c.args.life.now.marks.items c.args.life.now.ended) e c.body.result (world c.body.new.store c.body.new.life.cells.items c.body.new.life.packets.items c.body.new.life.marks.items c.body.new.life.ended)) (sym c.in-Body.is)
    (subst (λ (k : ℕ). HasWritten g.M.Picked.rules c.in-Body.partition k (world c.args.store.now c.args.life.now.cells.items c.args.life.now.packets.items c.args.life.now.marks.items c.args.life.now.ended) (world c.body.new.store c.body.new.life.cells.items c.body.new.life.packets.items c.body.new.life.marks.items c.body.new.life.ended) c.body.result) (ago_place (length c.args.life.now.marks.items) c.len.result c.in-Body.ago long) c.body.ensures.makes)

pub returns-in-Judge-clause-makes : goal.returns-in-Judge-clause-makes
returns-in-Judge-clause-makes g c =
    let long : c.len-in-Judge.result ≡ length c.args.life.now.marks.items = let a = c.len-in-Judge.ensures in let b = c.args.life.now.marks.ok.0 in omega (arith, a, b) in
    subst (λ (e : Event). Makes g.M.Picked.rules c.args.life.now.mode (world c.args.store.now c.args.life.now.cells.items c.args.life.now.packets.items c.args.life.now.marks.items c.args.life.now.ended) e c.judge.result (world c.judge.new.store c.judge.new.life.cells.items c.judge.new.life.packets.items c.judge.new.life.marks.items c.judge.new.life.ended)) (sym c.in-Judge.is)
    (subst (λ (k : ℕ). HasJudged g.M.Picked.rules c.in-Judge.partition k (world c.args.store.now c.args.life.now.cells.items c.args.life.now.packets.items c.args.life.now.marks.items c.args.life.now.ended) (world c.judge.new.store c.judge.new.life.cells.items c.judge.new.life.packets.items c.judge.new.life.marks.items c.judge.new.life.ended) c.judge.result) (ago_place (length c.args.life.now.marks.items) c.len-in-Judge.result c.in-Judge.ago long) c.judge.ensures.makes)

pub returns-in-Trim-clause-makes : goal.returns-in-Trim-clause-makes
returns-in-Trim-clause-makes g c =
    let long : c.len-in-Trim.result ≡ length c.args.life.now.marks.items = let a = c.len-in-Trim.ensures in let b = c.args.life.now.marks.ok.0 in omega (arith, a, b) in
    subst (λ (e : Event). Makes g.M.Picked.rules c.args.life.now.mode (world c.args.store.now c.args.life.now.cells.items c.args.life.now.packets.items c.args.life.now.marks.items c.args.life.now.ended) e c.trim.result (world c.args.store.now c.trim.new.life.cells.items c.trim.new.life.packets.items c.trim.new.life.marks.items c.trim.new.life.ended)) (sym c.in-Trim.is)
    (subst (λ (k : ℕ). HasTrimmed g.M.Picked.rules c.in-Trim.partition k (world c.args.store.now c.args.life.now.cells.items c.args.life.now.packets.items c.args.life.now.marks.items c.args.life.now.ended) (world c.args.store.now c.trim.new.life.cells.items c.trim.new.life.packets.items c.trim.new.life.marks.items c.trim.new.life.ended) c.trim.result) (ago_place (length c.args.life.now.marks.items) c.len-in-Trim.result c.in-Trim.ago long) c.trim.ensures.makes)
