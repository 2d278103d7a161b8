use Rattle.std.proofs.Common.{refl}
use Rattle.part_items.specs.Grammar.{got_at}
use Rattle.dura_codec.proofs.Steps.{stops, leaves}
use Rattle.part_items.proofs.reading.take_got.Goals as goal

pub returns-in-Ok : goal.returns-in-Ok
unfolding got_at
returns-in-Ok c = rw (c.in_ok-src.ensures, c.in_ok-inc.ensures, c.in_ok-pos.ensures, c.in_ok-seq.ensures, c.in-Ok.ensures) refl

pub returns-in-Err : goal.returns-in-Err
unfolding got_at
returns-in-Err c = rw (c.in_ok-src.ensures, c.in_ok-inc.ensures, c.in_ok-pos.ensures, c.in_ok-seq.ensures) (stops _ _ _ c.in-Err.ensures)

pub returns-in_err-src : goal.returns-in_err-src
unfolding got_at
returns-in_err-src c = leaves _ _ _ _ _ c.from_residual.ensures.1 c.in_err-src.ensures

pub returns-in_err-inc : goal.returns-in_err-inc
unfolding got_at
returns-in_err-inc c = rw c.in_ok-src.ensures (leaves _ _ _ _ _ c.from_residual-in_err-inc.ensures.1 c.in_err-inc.ensures)

pub returns-in_err-pos : goal.returns-in_err-pos
unfolding got_at
returns-in_err-pos c = rw (c.in_ok-src.ensures, c.in_ok-inc.ensures) (leaves _ _ _ _ _ c.from_residual-in_err-pos.ensures.1 c.in_err-pos.ensures)

pub returns-in_err-seq : goal.returns-in_err-seq
unfolding got_at
returns-in_err-seq c = rw (c.in_ok-src.ensures, c.in_ok-inc.ensures, c.in_ok-pos.ensures) (leaves _ _ _ _ _ c.from_residual-in_err-seq.ensures.1 c.in_err-seq.ensures)
