-- All keys are names where those that are left are.
use Rattle.std.proofs.Common.{◌≡◌}
use Rattle.json_tree.specs.View.{members_view}
use Rattle.flow_reader.specs.Classes.{have_names}
use Rattle.flow_reader.proofs.Members.{names_from}
use Rattle.flow_reader.proofs.classes.have_names.Given as goal

abbrev pub invariant-loop-member : goal.invariant-loop-member
invariant-loop-member l = names_from l.member-index l.members ≡ have_names (members_view l.members)
