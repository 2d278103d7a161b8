use Rattle.engine_rounds.proofs.serving.serve.Given as goal

-- what happened before the site was handed over
abbrev pub ghosts-serve_since : goal.ghosts-serve_since
ghosts-serve_since g a = record { steps = g.V.Site.history a.site }
