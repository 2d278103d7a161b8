use Rattle.std.proofs.Common.{◌∷◌, [], List, subst}
use Rattle.site_model.specs.History.{Step, content_of}
use Rattle.site_model.specs.Calls.{Syncs}
use Rattle.commit_log.specs.States.{IsClosedContent}
use Rattle.commit_log.specs.Writing.{WritesSafely}
use Rattle.std.proofs.lemmas.Result.{on_ok_weaker}
use Rattle.commit_log.proofs.Formatting.{close_during, close_done, closed_during, closed_done, closed_long, closing_stays}
use Rattle.commit_log.proofs.format.close.Goals as goal

pub returns-in-Ok-true-clause-during : goal.returns-in-Ok-true-clause-during
returns-in-Ok-true-clause-during g c tells kept =
    closed_during _ _ _ _ kept
    (subst (λ (steps : List Step). Syncs c.args.file steps (g.V.Site.history c.sync.new.self) c.sync.result) c.is_closed.ensures.unchanged c.sync.ensures.done)

pub returns-in-Ok-true-clause-ok : goal.returns-in-Ok-true-clause-ok
returns-in-Ok-true-clause-ok g c tells kept =
    on_ok_weaker _ (closed_done c.args.file (g.V.Site.history c.args.site.now) _ (subst (IsClosedContent (content_of c.args.file (g.V.Site.history c.args.site.now))) c.in-Ok-true.field-0-test (c.in-Ok-true.ensures.value (c.sync.ensures.tells tells))))
    (subst (λ (steps : List Step). Syncs c.args.file steps (g.V.Site.history c.sync.new.self) c.sync.result) c.is_closed.ensures.unchanged c.sync.ensures.done).ok

pub returns-in-Ok-true-clause-long : goal.returns-in-Ok-true-clause-long
returns-in-Ok-true-clause-long g c tells =
    on_ok_weaker _ (closed_long c.args.file (g.V.Site.history c.args.site.now) _ (subst (IsClosedContent (content_of c.args.file (g.V.Site.history c.args.site.now))) c.in-Ok-true.field-0-test (c.in-Ok-true.ensures.value (c.sync.ensures.tells tells))))
    (subst (λ (steps : List Step). Syncs c.args.file steps (g.V.Site.history c.sync.new.self) c.sync.result) c.is_closed.ensures.unchanged c.sync.ensures.done).ok

pub returns-in-Ok-false-clause-during : goal.returns-in-Ok-false-clause-during
returns-in-Ok-false-clause-during g c tells kept =
    close_during _ _ _ _ kept (subst (IsClosedContent (content_of c.args.file (g.V.Site.history c.args.site.now))) c.in-Ok-false.field-0-test (c.in-Ok-false.ensures.value (c.write_safely.ensures.tells tells)))
    (subst (λ (steps : List Step). WritesSafely c.args.file 0 (0 ∷ []) steps (g.V.Site.history c.write_safely.new.site) c.write_safely.result) c.is_closed.ensures.unchanged c.write_safely.ensures.done)

pub returns-in-Ok-false-clause-ok : goal.returns-in-Ok-false-clause-ok
returns-in-Ok-false-clause-ok g c tells kept = on_ok_weaker _ (close_done _ _ _) c.write_safely.ensures.done.ok

pub returns-in-Err-clause-during : goal.returns-in-Err-clause-during
returns-in-Err-clause-during g c tells kept = closing_stays _ _ _ c.is_closed.ensures.unchanged kept
