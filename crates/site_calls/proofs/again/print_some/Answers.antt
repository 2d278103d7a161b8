use Rattle.std.proofs.Common.{ℕ, take, drop, refl}
use Rattle.site_calls.specs.Events.{Event, printed, unprinted}
use Rattle.site_calls.specs.Failures.{is_say_failure}
use Rattle.site_calls.proofs.Signals.{was_cut_off, told_behind, noted_behind, fails_behind}
use Rattle.site_calls.proofs.again.print_some.Goals as goal

pub loop-preserved : goal.loop-preserved
loop-preserved g c =
    let call = c.print_some-answer-in-loop in
    let event : ℕ → Event = λ count. printed (take count (drop c.args.done c.args.line.now)) in
    let still = was_cut_off _ _ _ c.loop.answer c.if-not-is_cut_off.false c.is_cut_off.ensures c.loop.invariant.noted in
    record {
      told = told_behind event unprinted _ _ _ call.result call.ensures.noted c.loop.invariant.told;
      some = call.ensures.some;
      count = call.ensures.count;
      noted = noted_behind event unprinted _ _ _ call.result call.ensures.noted (λ unseen. refl) still;
      failure = fails_behind event unprinted _ _ _ call.result call.ensures.noted is_say_failure refl c.loop.invariant.failure.kept;
    }
