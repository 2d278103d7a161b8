use Rattle.std.proofs.Common.{refl}
use Rattle.part_items.specs.Grammar.{entry_at}
use Rattle.dura_codec.proofs.Steps.{leaves}
use Rattle.part_items.proofs.reading.take_entry.Goals as goal

pub returns : goal.returns
unfolding entry_at
returns c = rw (c.in_ok-position.ensures, c.in_ok-incarnation.ensures, c.in_ok-items.ensures) refl

pub returns-in_err-position : goal.returns-in_err-position
unfolding entry_at
returns-in_err-position c = leaves _ _ _ _ _ c.from_residual.ensures.1 c.in_err-position.ensures

pub returns-in_err-incarnation : goal.returns-in_err-incarnation
unfolding entry_at
returns-in_err-incarnation c = rw c.in_ok-position.ensures (leaves _ _ _ _ _ c.from_residual-in_err-incarnation.ensures.1 c.in_err-incarnation.ensures)

pub returns-in_err-items : goal.returns-in_err-items
unfolding entry_at
returns-in_err-items c = rw (c.in_ok-position.ensures, c.in_ok-incarnation.ensures) (leaves _ _ _ _ _ c.from_residual-in_err-items.ensures.1 c.in_err-items.ensures)
