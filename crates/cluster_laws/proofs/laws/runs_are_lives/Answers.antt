use Rattle.cluster_laws.proofs.Runs.{run_is_life}
use Rattle.cluster_laws.proofs.laws.runs_are_lives.Goals as goal

pub returns : goal.returns
returns g c options flows digest heard old new trail cause moment site it comes asks begun within = run_is_life options flows digest heard (g.V.Site.tells site) it old new trail cause moment comes asks begun within
