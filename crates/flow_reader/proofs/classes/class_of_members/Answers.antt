use Rattle.std.proofs.Common.{refl}
use Rattle.flow_reader.proofs.Shapes.{no_class, one_member}
use Rattle.flow_reader.proofs.classes.class_of_members.Goals as goal

pub returns-in_default : goal.returns-in_default
returns-in_default c = rw (c.misshapen-in_default.ensures, no_class c.args.members.now c.in_default.len_at_least) refl

pub returns-in-len1 : goal.returns-in-len1
returns-in-len1 c = rw (c.misshapen-in-len1.ensures, one_member c.args.members.now c.in-len1.len_at_least c.in-len1.len_below) refl
