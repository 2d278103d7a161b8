use Rattle.std.proofs.Common.{◌≡◌, ◌∙◌, Ok, ap, refl, sym}
use Rattle.json_tree.specs.View.{view}
use Rattle.flow_syntax.specs.Syntax.{signal}
use Rattle.flow_syntax.specs.Views.{expression_of}
use Rattle.flow_values.specs.Expressions.{expression_in}
use Rattle.flow_values.specs.Faults.{at, to_part}
use Rattle.flow_values.specs.Values.{name_in}
use Rattle.flow_reader.proofs.simple.signal_in.Goals as goal

pub returns-in-Ok : goal.returns-in-Ok
returns-in-Ok c =
    let operation : at (to_part 3) (name_in (view c.in-Some.operation.now)) ≡ Ok c.in_ok-operation-in-Some.operation = rw c.in_ok-operation-in-Some.ensures.ok.0 at c.name_at-in-Some.ensures in
    let argument : at (to_part 4) (expression_in (view c.in-Some.argument.now)) ≡ Ok (expression_of c.in-Ok.argument) = rw c.in-Ok.ensures.ok.0 at c.expression_at-in-Some.ensures in
    let same : c.in_ok-key-in-Some.key ≡ c.in-Ok.key = sym (c.in-Ok.ensures.ok.1 ∙ c.in_ok-operation-in-Some.ensures.ok.1) in
    rw (← c.in-Some.ensures, c.in_ok-class-in-Some.ensures, c.in_ok-key-in-Some.ensures, operation, argument)
    (ap (λ key. Ok (signal c.in_ok-class-in-Some.class (expression_of key) c.in_ok-operation-in-Some.operation (expression_of c.in-Ok.argument))) same)

pub returns-in-None : goal.returns-in-None
returns-in-None c = rw (c.misshapen.ensures, ← c.in-None.ensures) refl
