-- A number that is too great already is too great in the end.
use Rattle.std.proofs.Common.{ℕ, ◌+◌, ◌*◌, sym, ap}
use Rattle.command_words.proofs.Decimals.{too_great}
use Rattle.command_words.proofs.numbers.value_of.Goals as goal

pub returns-then-next-most : goal.returns-then-next-most
returns-then-next-most c =
    let next : ℕ = c.loop-byte.value * 10 + c.saturating_sub.result in
    let is = ap (λ (digit : ℕ). c.loop-byte.value * 10 + digit) c.saturating_sub.ensures in
    sym (too_great c.args.text.now c.loop-byte.byte-index c.loop-byte.value next c.args.most c.loop-byte-test.true c.loop-byte.invariant.0 is c.if-next-most.true)
