use Rattle.std.proofs.Common.{ℕ, List, sym, subst}
use Rattle.site_model.specs.History.{Change, changes_of}
use Rattle.commit_log.specs.States.{IsBrokenGate}
use Rattle.commit_log.proofs.Steps.{gated_images, gated_synced_images, after_sync, sync_during}
use Rattle.commit_log.proofs.states.Gated.settle.Goals as goal

pub returns-in-Ok-clause-during : goal.returns-in-Ok-clause-during
returns-in-Ok-clause-during g c h payloads payload gated =
    sync_during _ _ _ _ _ (c.sync.ensures.done) (gated_images h payloads payload _ _ _ gated) (gated_synced_images h payloads payload _ _ _ gated)

pub returns-in-Err-clause-during : goal.returns-in-Err-clause-during
returns-in-Err-clause-during g c h payloads payload gated =
    sync_during _ _ _ _ _ (c.sync.ensures.done) (gated_images h payloads payload _ _ _ gated) (gated_synced_images h payloads payload _ _ _ gated)

pub returns-in-Err-clause-after : goal.returns-in-Err-clause-after
returns-in-Err-clause-after g c h payloads payload gated =
    let leaves = c.failed.ensures.after h payloads payload (changes_of c.args.self.file (g.V.Site.history c.args.site.now)) gated in
    subst (λ (f : ℕ). IsBrokenGate (changes_of f (g.V.Site.history c.sync.new.self)) h payloads payload c.failed.result.gate c.failed.result.next) (sym (c.failed.ensures.place).0)
    (after_sync _ _ _ _ (λ (changes : List Change). IsBrokenGate changes h payloads payload c.failed.result.gate c.failed.result.next) (c.sync.ensures.done) leaves.0 leaves.1)
