-- How the lines of one kind are said: one after another.
use Rattle.std.specs.Prelude.{◌≡◌, ℕ, Bool, List, [], ◌++◌, Option}
use Rattle.dura_value.specs.Ids.{Id}
use Rattle.dura_value.specs.Messages.{Answer}
use Rattle.state_lines.specs.declared.error.ShowError.{ShowError}
use Rattle.state_lines.specs.declared.error.ShowError.TheVariants.{Memory}
use Rattle.state_lines.specs.Fronts.{AreFirst}
use Rattle.state_lines.specs.Table.{table_lines, AreAll}

-- Of a line a part was said, and none where memory ran out.
pub record SaysPart (line : List ℕ) (error : ShowError) (old new : List ℕ) : Type 0 where
  pub part : List ℕ
  pub rest : List ℕ
  pub said : new ≡ old ++ part
  pub front : line ≡ part ++ rest
  pub whole : error ≡ Memory → part ≡ []

-- The lines of all ids were said.
pub record SaysAll (there : Id → Bool) (standing : Id → Option Answer) (old new : List ℕ) : Type 0 where
  pub ids : List Id
  pub all : AreAll there ids
  pub said : new ≡ old ++ table_lines standing ids

-- The lines of the first ids were said, and a part of the next one, or none where memory ran out.
pub record StopsAt (there : Id → Bool) (standing : Id → Option Answer) (error : ShowError) (old new : List ℕ) : Type 0 where
  pub lines : List ℕ
  pub part : List ℕ
  pub first : AreFirst there standing lines part
  pub said : new ≡ old ++ lines ++ part
  pub whole : error ≡ Memory → part ≡ []
