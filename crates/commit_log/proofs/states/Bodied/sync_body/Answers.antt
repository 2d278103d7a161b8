use Rattle.std.proofs.Common.{ℕ, List, sym, subst}
use Rattle.site_model.specs.History.{Change, changes_of}
use Rattle.commit_log.specs.States.{IsBrokenBody}
use Rattle.commit_log.proofs.Steps.{bodied_images, bodied_synced_images, after_sync, sync_during}
use Rattle.commit_log.proofs.states.Bodied.sync_body.Goals as goal

pub returns-in-Ok-clause-during : goal.returns-in-Ok-clause-during
returns-in-Ok-clause-during g c h payloads payload bodied =
    sync_during _ _ _ _ _ (c.sync.ensures.done) (bodied_images h payloads payload _ _ _ bodied) (bodied_synced_images h payloads payload _ _ _ bodied)

pub returns-in-Err-clause-during : goal.returns-in-Err-clause-during
returns-in-Err-clause-during g c h payloads payload bodied =
    sync_during _ _ _ _ _ (c.sync.ensures.done) (bodied_images h payloads payload _ _ _ bodied) (bodied_synced_images h payloads payload _ _ _ bodied)

pub returns-in-Err-clause-after : goal.returns-in-Err-clause-after
returns-in-Err-clause-after g c h payloads payload bodied =
    let leaves = c.failed.ensures.after h payloads payload (changes_of c.args.self.file (g.V.Site.history c.args.site.now)) bodied in
    subst (λ (f : ℕ). IsBrokenBody (changes_of f (g.V.Site.history c.sync.new.self)) h payloads c.failed.result.gate) (sym (c.failed.ensures.place).0)
    (after_sync _ _ _ _ (λ (changes : List Change). IsBrokenBody changes h payloads c.failed.result.gate) (c.sync.ensures.done) leaves.0 leaves.1)
