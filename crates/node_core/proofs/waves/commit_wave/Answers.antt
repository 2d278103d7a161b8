use Rattle.std.proofs.Common.{◌∙◌, ap, arith, length, List}
use Rattle.hub_store.specs.Trail.{Settled}
use Rattle.node_core.proofs.Growing.{grows_on_same, grows_on_then}
use Rattle.node_core.proofs.Steps.{then_all}
use Rattle.node_core.proofs.waves.commit_wave.Goals as goal

pub returns-in_err-sync_all-clause-grows : goal.returns-in_err-sync_all-clause-grows
returns-in_err-sync_all-clause-grows g c =
    let a = c.args.store.now in
    let keeps = (then_all a.logs c.write_now.new.store.logs c.sync_all.new.store.logs c.write_now.ensures.keeps c.sync_all.ensures.keeps) in
    let trail = (c.sync_all.ensures.trail ∙ c.write_now.ensures.trail) in
    grows_on_same g.M.Picked.rules a c.sync_all.new.store keeps trail

pub returns-in_err-open_all-clause-grows : goal.returns-in_err-open_all-clause-grows
returns-in_err-open_all-clause-grows g c =
    let a = c.args.store.now in
    let keeps = (then_all a.logs c.sync_all.new.store.logs c.open_all.new.store.logs (then_all a.logs c.write_now.new.store.logs c.sync_all.new.store.logs c.write_now.ensures.keeps c.sync_all.ensures.keeps) c.open_all.ensures.keeps) in
    let trail = (c.open_all.ensures.trail ∙ (c.sync_all.ensures.trail ∙ c.write_now.ensures.trail)) in
    grows_on_same g.M.Picked.rules a c.open_all.new.store keeps trail

pub returns-in_err-sync_all-2-clause-grows : goal.returns-in_err-sync_all-2-clause-grows
returns-in_err-sync_all-2-clause-grows g c =
    let a = c.args.store.now in
    let keeps = (then_all a.logs c.open_all.new.store.logs c.sync_all-2.new.store.logs (then_all a.logs c.sync_all.new.store.logs c.open_all.new.store.logs (then_all a.logs c.write_now.new.store.logs c.sync_all.new.store.logs c.write_now.ensures.keeps c.sync_all.ensures.keeps) c.open_all.ensures.keeps) c.sync_all-2.ensures.keeps) in
    let trail = (c.sync_all-2.ensures.trail ∙ (c.open_all.ensures.trail ∙ (c.sync_all.ensures.trail ∙ c.write_now.ensures.trail))) in
    grows_on_same g.M.Picked.rules a c.sync_all-2.new.store keeps trail

pub returns-in_err-fits-clause-grows : goal.returns-in_err-fits-clause-grows
returns-in_err-fits-clause-grows g c =
    let a = c.args.store.now in
    let keeps = (then_all a.logs c.open_all.new.store.logs c.sync_all-2.new.store.logs (then_all a.logs c.sync_all.new.store.logs c.open_all.new.store.logs (then_all a.logs c.write_now.new.store.logs c.sync_all.new.store.logs c.write_now.ensures.keeps c.sync_all.ensures.keeps) c.open_all.ensures.keeps) c.sync_all-2.ensures.keeps) in
    let trail = (c.sync_all-2.ensures.trail ∙ (c.open_all.ensures.trail ∙ (c.sync_all.ensures.trail ∙ c.write_now.ensures.trail))) in
    grows_on_then g.M.Picked.rules a c.sync_all-2.new.store c.settle_all.new.store (grows_on_same g.M.Picked.rules a c.sync_all-2.new.store keeps trail) c.settle_all.ensures.grows

pub returns-in_err-fits-clause-few : goal.returns-in_err-fits-clause-few
returns-in_err-fits-clause-few g c =
    let a = c.args.store.now in
    let keeps = (then_all a.logs c.open_all.new.store.logs c.sync_all-2.new.store.logs (then_all a.logs c.sync_all.new.store.logs c.open_all.new.store.logs (then_all a.logs c.write_now.new.store.logs c.sync_all.new.store.logs c.write_now.ensures.keeps c.sync_all.ensures.keeps) c.open_all.ensures.keeps) c.sync_all-2.ensures.keeps) in
    let trail = (c.sync_all-2.ensures.trail ∙ (c.open_all.ensures.trail ∙ (c.sync_all.ensures.trail ∙ c.write_now.ensures.trail))) in
    let long = ap (λ (l : List Settled). length l) trail in
    let few = c.settle_all.ensures.few in
    omega (arith, long, few)

pub returns-clause-grows : goal.returns-clause-grows
returns-clause-grows g c =
    let a = c.args.store.now in
    let keeps = (then_all a.logs c.open_all.new.store.logs c.sync_all-2.new.store.logs (then_all a.logs c.sync_all.new.store.logs c.open_all.new.store.logs (then_all a.logs c.write_now.new.store.logs c.sync_all.new.store.logs c.write_now.ensures.keeps c.sync_all.ensures.keeps) c.open_all.ensures.keeps) c.sync_all-2.ensures.keeps) in
    let trail = (c.sync_all-2.ensures.trail ∙ (c.open_all.ensures.trail ∙ (c.sync_all.ensures.trail ∙ c.write_now.ensures.trail))) in
    grows_on_then g.M.Picked.rules a c.sync_all-2.new.store c.settle_all.new.store (grows_on_same g.M.Picked.rules a c.sync_all-2.new.store keeps trail) c.settle_all.ensures.grows

pub returns-clause-few : goal.returns-clause-few
returns-clause-few g c =
    let a = c.args.store.now in
    let keeps = (then_all a.logs c.open_all.new.store.logs c.sync_all-2.new.store.logs (then_all a.logs c.sync_all.new.store.logs c.open_all.new.store.logs (then_all a.logs c.write_now.new.store.logs c.sync_all.new.store.logs c.write_now.ensures.keeps c.sync_all.ensures.keeps) c.open_all.ensures.keeps) c.sync_all-2.ensures.keeps) in
    let trail = (c.sync_all-2.ensures.trail ∙ (c.open_all.ensures.trail ∙ (c.sync_all.ensures.trail ∙ c.write_now.ensures.trail))) in
    let long = ap (λ (l : List Settled). length l) trail in
    let few = c.settle_all.ensures.few in
    omega (arith, long, few)
