use Rattle.std.proofs.lemmas.List.{nil_from_length}
use Rattle.commit_log.proofs.Fronts.{falls_short}
use Rattle.commit_log.proofs.parse.read_constant.Goals as goal

pub returns-in-None-clause-gives : goal.returns-in-None-clause-gives
returns-in-None-clause-gives c =
    falls_short c.args.wanted.now c.loop-byte.byte-index c.loop-byte.at c.loop-byte.rest.now _ c.loop-byte-test.true (nil_from_length c.loop-byte.rest.now c.in-None.ensures.cases) c.loop-byte.invariant.rest
