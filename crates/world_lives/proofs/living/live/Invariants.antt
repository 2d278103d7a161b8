use Rattle.world_lives.proofs.living.live.Given as goal

-- what happened before the site was handed over
abbrev pub ghosts-live_since : goal.ghosts-live_since
ghosts-live_since g a = record { steps = g.V.Site.history a.site }
