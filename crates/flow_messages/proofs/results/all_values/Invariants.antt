use Rattle.std.proofs.Common.{◌≡◌, drop}
use Rattle.flow_syntax.specs.Machine.{all_values}
use Rattle.flow_messages.proofs.AllValues.{behind}
use Rattle.flow_messages.proofs.results.all_values.Given as goal

-- the values so far, and those of the rest
abbrev pub invariant-loop-outcome : goal.invariant-loop-outcome
invariant-loop-outcome l = behind l.values.items (all_values (drop l.outcome-index l.outcomes)) ≡ all_values l.outcomes
