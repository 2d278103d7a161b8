use Rattle.std.proofs.Common.{◌≡◌, take, map, string_bytes}
use Rattle.std.specs.List.{All}
use Rattle.dura_value.specs.Text.{IsText}
use Rattle.cli_call.proofs.call.words_of.Given as goal

-- the words so far are those before the index, and texts
abbrev pub invariant-loop-argument : goal.invariant-loop-argument
invariant-loop-argument l = record {
  same : l.words.items ≡ map string_bytes (take l.argument-index l.arguments);
  texts : All IsText l.words.items;
}
