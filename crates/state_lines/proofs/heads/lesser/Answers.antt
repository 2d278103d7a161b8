use Rattle.std.proofs.Common.{◌∙◌, sym}
use Rattle.dura_value.specs.Views.{id_of}
use Rattle.state_lines.proofs.Least.{first_one, new_one, old_one}
use Rattle.state_lines.proofs.heads.lesser.Goals as goal

pub returns-in-None-least : goal.returns-in-None-least
returns-in-None-least c = rw (c.in-Some.is, c.in-None-least.is) (λ heads long none. first_one heads c.args.place (id_of c.in-Some.id.now) long none)

pub returns-then-comes_before : goal.returns-then-comes_before
returns-then-comes_before c = rw (c.in-Some.is, c.in-Some-least.is) (λ heads long is.
    new_one heads c.args.place (id_of c.in-Some.id.now) (c.in-Some-least.at, id_of c.in-Some-least.first.now) long is (sym c.comes_before.ensures ∙ c.if-comes_before.true))

pub returns-else-comes_before : goal.returns-else-comes_before
returns-else-comes_before c = rw (c.in-Some.is, c.in-Some-least.is) (λ heads long is.
    old_one heads (id_of c.in-Some.id.now) (c.in-Some-least.at, id_of c.in-Some-least.first.now) is (sym c.comes_before.ensures ∙ c.if-comes_before.false))
