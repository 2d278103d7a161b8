-- The rules of a life.
use Rattle.std.specs.Prelude.{ℕ, false, List, []}
use Rattle.call_begins.specs.Begins.{call_rules}
use Rattle.flow_syntax.specs.Syntax.{Flows}
use Rattle.many_logs.specs.Placing.{Commit}
use Rattle.many_rules.specs.Rules.{Rules}
use Rattle.open_logs.specs.declared.begun.Begun.{Begun}

-- the rules of a life from what was recovered on, whose entries were accepted in this order: it serves nobody, and takes what comes
abbrev pub rules_of : Flows → (count : ℕ) → Begun → List Commit → Rules
rules_of flows count begun run = call_rules flows count begun run 0 64 [] false
