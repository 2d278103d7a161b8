use Rattle.std.proofs.Common.{◌≡◌, ◌∙◌, Some, true, false, option_map, ap, sym, subst}
use Rattle.dura_model.specs.World.{Activity}
use Rattle.dura_value.specs.declared.data.Value.{Value}
use Rattle.dura_value.specs.contracts.data.ValuePartialEq.TheImpl as same_values
use Rattle.part_rows.specs.Views.{activity_of}
use Rattle.cell_steps.proofs.SameValues.{bytes_same, value_same, value_self}
use Rattle.cell_steps.proofs.waiting.is_pending.Goals as goal

pub returns-then-eq-clause-pending : goal.returns-then-eq-clause-pending
returns-then-eq-clause-pending c = λ holds.
    let name = bytes_same c.in-Some.activity.now.name c.args.ended.now.activity.name (sym c.eq.ensures ∙ c.if-eq.true) in
    let argument = value_same c.in-Some.activity.now.argument c.args.ended.now.activity.argument (sym c.eq-then-eq.ensures ∙ holds) in
    sym c.activity.ensures ∙ ap (option_map (λ a. activity_of a.now)) c.in-Some.is ∙ (λ i. Some (record { name = name i; argument = argument i }))

pub returns-then-eq-clause-gone : goal.returns-then-eq-clause-gone
returns-then-eq-clause-gone c = λ differs pending.
    let there : Some (activity_of c.in-Some.activity.now) ≡ Some (activity_of c.args.ended.now.activity) = sym (sym c.activity.ensures ∙ ap (option_map (λ a. activity_of a.now)) c.in-Some.is) ∙ pending in
    let same : activity_of c.in-Some.activity.now ≡ activity_of c.args.ended.now.activity = cc there in
    let argument = ap (λ (a : Activity). a.argument) same in
    let wrong : false ≡ true = sym (sym c.eq-then-eq.ensures ∙ differs) ∙ subst (λ (v : Value). same_values.ghosts.eq c.in-Some.activity.now.argument v ≡ true) argument (value_self c.in-Some.activity.now.argument) in
    cc wrong
