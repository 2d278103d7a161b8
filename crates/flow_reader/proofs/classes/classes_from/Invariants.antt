-- The members that are still to be read lead on to all of them, and their keys are names.
use Rattle.std.proofs.Common.{◌≡◌, [], drop, true}
use Rattle.json_tree.specs.View.{members_view}
use Rattle.flow_syntax.specs.Views.{class_of, named_by}
use Rattle.flow_reader.specs.Classes.{class_in, named_after}
use Rattle.flow_reader.proofs.Members.{names_from}
use Rattle.flow_reader.proofs.classes.classes_from.Given as goal

abbrev pub invariant-loop-member : goal.invariant-loop-member
invariant-loop-member l = (named_after class_in (named_by class_of l.classes.entries) (members_view (drop l.member-index l.members)) ≡ named_after class_in [] (members_view l.members)) × (names_from l.member-index l.members ≡ true)
