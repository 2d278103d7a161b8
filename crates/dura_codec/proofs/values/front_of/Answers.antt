use Rattle.std.proofs.Common.{refl}
use Rattle.dura_codec.specs.Grammar.{value_front}
use Rattle.dura_codec.proofs.Fronts.{is_whole, is_cut, is_short}
use Rattle.dura_codec.proofs.values.front_of.Goals as goal

pub returns-then-bytes-lt-SCALARS_BYTES_LIMIT-clause-front : goal.returns-then-bytes-lt-SCALARS_BYTES_LIMIT-clause-front
returns-then-bytes-lt-SCALARS_BYTES_LIMIT-clause-front c = is_whole c.args.bytes.now c.if-bytes-lt-SCALARS_BYTES_LIMIT.true

pub returns-else-bytes-lt-SCALARS_BYTES_LIMIT-clause-front : goal.returns-else-bytes-lt-SCALARS_BYTES_LIMIT-clause-front
returns-else-bytes-lt-SCALARS_BYTES_LIMIT-clause-front c = is_cut c.args.bytes.now _ refl

pub returns-else-bytes-lt-SCALARS_BYTES_LIMIT-clause-short : goal.returns-else-bytes-lt-SCALARS_BYTES_LIMIT-clause-short
unfolding value_front
returns-else-bytes-lt-SCALARS_BYTES_LIMIT-clause-short c = is_short c.args.bytes.now
