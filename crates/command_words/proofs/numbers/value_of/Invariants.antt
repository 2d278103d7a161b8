-- The digits that are still to be read lead on to the whole number.
use Rattle.std.proofs.Common.{◌≡◌, ◌≤◌, drop}
use Rattle.std.specs.Prelude.{fold}
use Rattle.command_words.specs.Numbers.{with_digit, decimal}
use Rattle.command_words.proofs.numbers.value_of.Given as goal

abbrev pub invariant-loop-byte : goal.invariant-loop-byte
invariant-loop-byte l = (fold with_digit l.value (drop l.byte-index l.text) ≡ decimal l.text) × (l.value ≤ l.most)
