-- The members that are still to be read lead on to all of them, and their keys are names.
use Rattle.std.proofs.Common.{◌≡◌, [], drop, true}
use Rattle.json_tree.specs.View.{members_view}
use Rattle.flow_syntax.specs.Views.{bodies_of}
use Rattle.flow_reader.specs.Classes.{named_after}
use Rattle.flow_reader.specs.Statements.{body_in}
use Rattle.flow_reader.proofs.Members.{names_from}
use Rattle.flow_reader.proofs.classes.bodies_from.Given as goal

abbrev pub invariant-loop-member : goal.invariant-loop-member
invariant-loop-member l = (named_after (body_in l.inside) (bodies_of l.bodies) (members_view (drop l.member-index l.members)) ≡ named_after (body_in l.inside) [] (members_view l.members)) × (names_from l.member-index l.members ≡ true)
