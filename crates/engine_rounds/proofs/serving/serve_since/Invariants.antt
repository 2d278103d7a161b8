-- Where a call begins: at the logs as they were opened, by the entries that were recovered.
use Rattle.call_begins.specs.Begins.{call_rules}
use Rattle.open_logs.specs.Begun.{MadeBy, AreTheirs}
use Rattle.open_logs.specs.Picks.{origin_of}
use Rattle.request_reader.specs.Line.{request_of}
use Rattle.site_model.specs.History.{content_of}
use Rattle.std.specs.Prelude.{map, true, refl}
use Rattle.engine_rounds.proofs.serving.serve_since.Given as goal

abbrev pub ghosts-placed_by : goal.ghosts-placed_by
ghosts-placed_by g a = record {
  holds = λ run. MadeBy (g.R.Reactions.flows a._reactions.now) a._count a._begun.now run × (g.V.Site.tells a._site.now → AreTheirs a._count a._digest (λ file. content_of file g.S.Since.steps) run);
}

abbrev pub ghosts-serve_named : goal.ghosts-serve_named
ghosts-serve_named g a = record {
  origin = origin_of a.shape.count a.shape.digest (g.V.Site.history a.site) a.begun;
  rules = call_rules (g.R.Reactions.flows a.reactions.now) a.shape.count a.begun a.placed.run a.since a.shape.pace.batch (map request_of a.requests.items) true;
  counts = refl;
}
