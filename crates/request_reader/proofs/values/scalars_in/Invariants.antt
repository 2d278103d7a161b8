-- The parts that are still to be read lead on to all of them.
use Rattle.std.proofs.Common.{◌≡◌, drop}
use Rattle.serde_json.specs.View.{items_view}
use Rattle.request_reader.specs.Values.{scalars_in}
use Rattle.request_reader.proofs.Scalars.{with_rest}
use Rattle.request_reader.proofs.values.scalars_in.Given as goal

abbrev pub invariant-loop-part : goal.invariant-loop-part
invariant-loop-part l = with_rest l.scalars.items (items_view (drop l.part-index l.parts)) ≡ scalars_in (items_view l.parts)
