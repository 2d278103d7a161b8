use Rattle.std.proofs.lemmas.Result.{on_ok_weaker}
use Rattle.commit_log.proofs.Formatting.{header_during, header_done}
use Rattle.commit_log.proofs.format.write_header.Goals as goal

pub returns-clause-during : goal.returns-clause-during
returns-clause-during g c stands = header_during _ _ stands _ _ _ (c.write_safely.ensures.done)

pub returns-clause-ok : goal.returns-clause-ok
returns-clause-ok g c stands =
    on_ok_weaker _ (header_done _ _ stands c.args.header _ _ (c.behind_format_gate-bytes.ensures.fits c.requires.base) c.behind_format_gate-bytes.ensures.bytes) (c.write_safely.ensures.done).ok
