use Rattle.log_tests.proofs.Going.{sound_at}
use Rattle.log_tests.proofs.store_tests.play.Goals as goal

pub loop-line-init : goal.loop-line-init
loop-line-init g c = c.requires

pub call-next-requires : goal.call-next-requires
call-next-requires g c = c.loop-line.invariant

pub loop-line-preserved : goal.loop-line-preserved
loop-line-preserved g c = c.call-next.ensures

pub returns : goal.returns
returns g c = sound_at _ _ c.loop-line.invariant
