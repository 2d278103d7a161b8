use Rattle.std.proofs.Common.{sym, subst}
use Rattle.std.specs.Str.{IsUtf8}
use Rattle.round_steps.proofs.Names.{name_utf8}
use Rattle.round_steps.proofs.tasks.run.Goals as goal

pub unreachable-requires : goal.unreachable-requires
unreachable-requires g c = c.in_default.ensures.cases.0 (subst IsUtf8 (sym c.as_bytes.ensures.same) (name_utf8 c.args.activity.now.name c.as_bytes.ensures.name))
