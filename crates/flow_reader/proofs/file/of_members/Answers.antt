use Rattle.std.proofs.Common.{refl}
use Rattle.flow_reader.proofs.Shapes.{no_file}
use Rattle.flow_reader.proofs.file.of_members.Goals as goal

pub returns-in_default : goal.returns-in_default
returns-in_default c = rw (c.misshapen.ensures, no_file c.args.members.now c.in_default.len_at_least) refl
