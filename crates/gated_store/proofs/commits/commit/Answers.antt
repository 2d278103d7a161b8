use Rattle.std.proofs.Common.{sym, subst}
use Rattle.commit_gate.specs.Ledgers.{log_length}
use Rattle.commit_gate.specs.Unlost.{IsFrameUnlost}
use Rattle.commit_gate.specs.Views.{floors_of}
use Rattle.hub_store.specs.Changes.{trail_in}
use Rattle.hub_store.specs.Trail.{of_part}
use Rattle.log_items.specs.Plain.{entry_of}
use Rattle.hub_store.proofs.Refusals.{on_ok}
use Rattle.hub_store.proofs.Trails.{settled_one}
use Rattle.gated_store.proofs.commits.commit.Goals as goal

pub write-requires-clause-unlost : goal.write-requires-clause-unlost
write-requires-clause-unlost g c =
    subst (IsFrameUnlost (log_length (g.L.Local.ledgers c.args.part (of_part c.args.part (trail_in c.args.store.now.logs)))) (floors_of c.args.store.now.ledgers.items c.args.part)) (sym c.in_ok-frame.ensures) c.requires.unlost

pub returns-clause-trail : goal.returns-clause-trail
returns-clause-trail g c = on_ok c.open.result (λ settles. settled_one _ _ _ _ (trail_in c.args.store.now.logs) _ _ _ (entry_of c.args.entry) settles c.write.ensures.trail c.in_ok-write.ensures.frame c.in_ok-frame.ensures) c.open.ensures.trail
