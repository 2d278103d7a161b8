use Rattle.std.proofs.Common.{refl}
use Rattle.part_items.specs.Grammar.{trim_at}
use Rattle.dura_codec.proofs.Steps.{stops, leaves}
use Rattle.part_items.proofs.reading.take_trim.Goals as goal

pub returns-in-Ok : goal.returns-in-Ok
unfolding trim_at
returns-in-Ok c = rw (c.in_ok-dst.ensures, c.in_ok-upto.ensures, c.in_ok-inc.ensures, c.in-Ok.ensures) refl

pub returns-in-Err : goal.returns-in-Err
unfolding trim_at
returns-in-Err c = rw (c.in_ok-dst.ensures, c.in_ok-upto.ensures, c.in_ok-inc.ensures) (stops _ _ _ c.in-Err.ensures)

pub returns-in_err-dst : goal.returns-in_err-dst
unfolding trim_at
returns-in_err-dst c = leaves _ _ _ _ _ c.from_residual.ensures.1 c.in_err-dst.ensures

pub returns-in_err-upto : goal.returns-in_err-upto
unfolding trim_at
returns-in_err-upto c = rw c.in_ok-dst.ensures (leaves _ _ _ _ _ c.from_residual-in_err-upto.ensures.1 c.in_err-upto.ensures)

pub returns-in_err-inc : goal.returns-in_err-inc
unfolding trim_at
returns-in_err-inc c = rw (c.in_ok-dst.ensures, c.in_ok-upto.ensures) (leaves _ _ _ _ _ c.from_residual-in_err-inc.ensures.1 c.in_err-inc.ensures)
