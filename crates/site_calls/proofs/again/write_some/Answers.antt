use Rattle.std.proofs.Common.{ℕ, ◌+◌, take, refl, arith}
use Rattle.site_calls.specs.Events.{Event, put, lost}
use Rattle.site_calls.specs.Failures.{is_disk_failure}
use Rattle.site_calls.proofs.Signals.{was_cut_off, told_behind, fails_behind, writing_behind}
use Rattle.site_calls.proofs.again.write_some.Goals as goal

pub loop-preserved : goal.loop-preserved
loop-preserved g c =
    let call = c.write_some-answer-in-loop in
    let event : ℕ → Event = λ count. put (take (c.args.done + count) c.args.bytes.now) in
    let failure = lost (take c.args.done c.args.bytes.now) in
    record {
      told = told_behind event failure _ _ _ call.result call.ensures.noted c.loop.invariant.told;
      some = call.ensures.some;
      count = call.ensures.count;
      writing = λ unseen start before.
          let writing = was_cut_off _ _ _ c.loop.answer c.if-not-is_cut_off.false c.is_cut_off.ensures (c.loop.invariant.writing unseen start before) in
          writing_behind c.args.file c.args.at c.args.done c.args.bytes.now unseen start _ _ call.result (omega (arith, c.requires)) call.ensures.count call.ensures.noted writing;
      failure = fails_behind event failure _ _ _ call.result call.ensures.noted is_disk_failure refl c.loop.invariant.failure.kept;
    }
