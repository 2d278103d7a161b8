use Rattle.std.proofs.Common.{◌≡◌, drop}
use Rattle.flow_syntax.specs.Eval.{eval_parts}
use Rattle.flow_syntax.specs.Views.{parts_of}
use Rattle.flow_eval.proofs.Sequences.{behind}
use Rattle.flow_eval.proofs.expressions.+eval.Given as goal

-- the values so far, and what the rest of the parts gives
abbrev pub invariant-eval_parts-loop-part : goal.invariant-eval_parts-loop-part
invariant-eval_parts-loop-part l = behind l.values.items (eval_parts l.variables (parts_of (drop l.part-index l.parts))) ≡ eval_parts l.variables (parts_of l.parts)
