-- One member more was read and went into the map, or ends the reading.
use Rattle.std.proofs.Common.{◌≡◌, [], Ok, true, rules}
use Rattle.json_tree.specs.View.{view, members_view}
use Rattle.json_tree.proofs.Members.{Entry}
use Rattle.dura_value.specs.Names.{is_name}
use Rattle.flow_syntax.specs.Views as views
use Rattle.flow_syntax.specs.Views.{bodies_of}
use Rattle.flow_values.specs.Answers.{PartFails}
use Rattle.flow_values.specs.Faults.{at, to_key}
use Rattle.flow_reader.specs.Classes.{named_after}
use Rattle.flow_reader.specs.Statements.{body_in}
use Rattle.flow_reader.proofs.Members.{all, ends, first_is_name, put, rest_are_names}
use Rattle.flow_reader.proofs.classes.bodies_from.Goals as goal

pub of-requires : goal.of-requires
of-requires c =
    let e : Entry = c.member-item.result in
    let named : is_name e.0.now ≡ true = first_is_name c.args.members.now c.loop-member.member-index e c.loop-member-test.true c.member-item.is c.loop-member.invariant.1 in
    search rules

pub loop-member-preserved : goal.loop-member-preserved
loop-member-preserved c =
    let e : Entry = c.member-item.result in
    let i = c.loop-member.member-index in
    let named : c.in_ok-name.name ≡ e.0.now = search rules in
    let here : at (to_key c.in_ok-name.name) (body_in c.args.inside (view e.1)) ≡ Ok (views.body_in c.in-Ok.body) = search rules in (
      put (body_in c.args.inside) views.body_in (named_after (body_in c.args.inside) [] (members_view c.args.members.now)) c.loop-member.bodies.entries c.insert.new.self.entries c.args.members.now i e c.in_ok-name.name c.in-Ok.body c.loop-member-test.true c.member-item.is named c.in_ok-insert-in-Ok.ensures.entries c.loop-member.invariant.0 here,
      rest_are_names c.args.members.now i e c.loop-member-test.true c.member-item.is c.loop-member.invariant.1,
    )

pub returns-in-Err : goal.returns-in-Err
returns-in-Err c =
    let e : Entry = c.member-item.result in
    let i = c.loop-member.member-index in
    let named : c.in_ok-name.name ≡ e.0.now = search rules in
    let fails : PartFails c.in-Err.error (at (to_key c.in_ok-name.name) (body_in c.args.inside (view e.1))) = search rules in
    ends (body_in c.args.inside) (named_after (body_in c.args.inside) [] (members_view c.args.members.now)) (bodies_of c.loop-member.bodies) c.args.members.now i e c.in_ok-name.name c.in-Err.error c.loop-member-test.true c.member-item.is named c.loop-member.invariant.0 fails

pub returns : goal.returns
returns c = all (body_in c.args.inside) (named_after (body_in c.args.inside) [] (members_view c.args.members.now)) (bodies_of c.loop-member.bodies) c.args.members.now c.loop-member.member-index c.loop-member-test.false c.loop-member.invariant.0
