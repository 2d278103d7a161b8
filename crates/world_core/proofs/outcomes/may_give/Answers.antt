use Rattle.std.proofs.Common.{sym, subst}
use Rattle.std.specs.Str.{IsUtf8}
use Rattle.world_core.proofs.Names.{name_utf8}
use Rattle.world_core.proofs.outcomes.may_give.Goals as goal

pub unreachable-requires : goal.unreachable-requires
unreachable-requires c = c.in_default.ensures.cases.0 (subst IsUtf8 (sym c.as_bytes.ensures.same) (name_utf8 c.args.activity.now.name c.as_bytes.ensures.name))
