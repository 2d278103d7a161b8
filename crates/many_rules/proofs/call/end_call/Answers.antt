use Rattle.hub_store.specs.Trail.{settled_at}
use Rattle.hub_store.specs.Changes.{trail_in}
use Rattle.site_model.specs.History.{back_to}
use Rattle.many_rules.proofs.GateMoments.{every_moment}
use Rattle.many_rules.proofs.Moments.{moment_stands}
use Rattle.many_rules.proofs.call.end_call.Goals as goal

pub returns-clause-every : goal.returns-clause-every
returns-clause-every g c digest tells begins numbered =
    every_moment g.M.Picked.rules begins.made numbered c.args.store.logs.latest g.M.Picked.origin (g.V.Site.history c.args.store.logs.site) (trail_in c.args.store.logs) (c.end.ensures.every tells)

pub returns-clause-crash : goal.returns-clause-crash
returns-clause-crash g c digest tells begins numbered moment low high files image =
    let now = g.V.Site.history c.args.store.logs.site in
    moment_stands g.M.Picked.rules c.args.store.logs.latest g.M.Picked.origin digest begins (back_to moment now) (settled_at moment (trail_in c.args.store.logs)) files (returns-clause-every g c digest tells begins numbered moment low high) image
