use Rattle.std.proofs.Common.{◌≡◌, ◌∙◌, Option, Some, None, ap, refl}
use Rattle.std.specs.Prelude.{is_some}
use Rattle.std.specs.Option.{option_map}
use Rattle.flow_reader.proofs.lookups.has_class.Goals as goal

is_there : {A B : Type 0} (f : A → B) (o : Option A) → is_some o ≡ is_some (option_map f o)
is_there f None = refl
is_there f (Some x) = refl

pub returns : goal.returns
returns c = c.is_some.ensures ∙ is_there _ c.class_of.result ∙ ap is_some c.class_of.ensures
