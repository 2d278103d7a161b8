use Rattle.std.proofs.Common.{◌≡◌, ℕ, List, refl}
use Rattle.flow_syntax.specs.Syntax.{Expression, await_any}
use Rattle.flow_syntax.specs.Views.{expression_of}
use Rattle.flow_reader.specs.declared.words.Word.{Word}
use Rattle.flow_reader.specs.declared.words.Word.TheVariants as words
use Rattle.flow_reader.specs.ByWord.{of_variable}
use Rattle.flow_reader.proofs.simple.of_variable.Goals as goal

of_any : (word : Word) (x : List ℕ) (e : Expression) → ¬ word ≡ words.Let → ¬ word ≡ words.Timer → ¬ word ≡ words.Await → ¬ word ≡ words.All → await_any x e ≡ of_variable word x e
of_any words.Let x e no_let no_timer no_await no_all = absurd (no_let refl)
of_any words.Timer x e no_let no_timer no_await no_all = absurd (no_timer refl)
of_any words.Await x e no_let no_timer no_await no_all = absurd (no_await refl)
of_any words.All x e no_let no_timer no_await no_all = absurd (no_all refl)
of_any _ x e no_let no_timer no_await no_all = refl

pub returns-in_default : goal.returns-in_default
returns-in_default c =
    of_any c.args.word c.args.variable (expression_of c.args.value) c.in_default.not-Let c.in_default.not-Timer c.in_default.not-Await c.in_default.not-All
