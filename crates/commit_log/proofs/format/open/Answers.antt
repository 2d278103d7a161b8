use Rattle.std.proofs.lemmas.Result.{on_ok_weaker}
use Rattle.commit_log.proofs.Formatting.{open_during, open_done}
use Rattle.commit_log.proofs.format.open.Goals as goal

pub returns-clause-during : goal.returns-clause-during
returns-clause-during g c h stands = open_during _ _ _ h _ stands (c.write_safely.ensures.done)

pub returns-clause-ok : goal.returns-clause-ok
returns-clause-ok g c h stands = on_ok_weaker _ (open_done _ _ _ h stands) (c.write_safely.ensures.done).ok
