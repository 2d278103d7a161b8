use Rattle.crossing_tests.proofs.play.make_all.Goals as goal

pub returns : goal.returns
returns g c = (c.loop-made.places, c.loop-made.invariant)
