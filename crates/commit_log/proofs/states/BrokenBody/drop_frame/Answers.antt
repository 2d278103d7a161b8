use Rattle.std.proofs.Common.{List, refl}
use Rattle.site_model.specs.History.{Change}
use Rattle.commit_log.specs.States.{IsBrokenBody}
use Rattle.commit_log.proofs.Opens.{opening_during, drop_rests}
use Rattle.commit_log.proofs.Steps.{after_sync, untried_synced}
use Rattle.commit_log.proofs.states.BrokenBody.drop_frame.Goals as goal

pub returns-in-Ok-clause-during : goal.returns-in-Ok-clause-during
returns-in-Ok-clause-during g c tells = opening_during _ _ _ _ _ (c.sync.ensures.done) refl (g.met.V.Site.inside _ _ (c.sync.ensures.tells tells))

pub returns-in-Err-clause-during : goal.returns-in-Err-clause-during
returns-in-Err-clause-during g c tells = opening_during _ _ _ _ _ (c.sync.ensures.done) refl (g.met.V.Site.inside _ _ (c.sync.ensures.tells tells))

pub returns-in-Ok-clause-after : goal.returns-in-Ok-clause-after
returns-in-Ok-clause-after g c h payloads broken = drop_rests _ _ _ h payloads _ broken (c.in-Ok.ensures.done).ok

pub returns-in-Err-clause-after : goal.returns-in-Err-clause-after
returns-in-Err-clause-after g c h payloads broken =
    after_sync _ _ _ _ (λ (changes : List Change). IsBrokenBody changes h payloads c.args.self.gate) (c.sync.ensures.done) broken (untried_synced h payloads _ _ broken)
