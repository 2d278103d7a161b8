use Rattle.std.proofs.Common.{ℕ, ◌≡◌, ◌+◌, ◌≤◌, ◌∷◌, length, take, refl, subst, ◌∙◌}
use Rattle.std.specs.Prelude.{IfOk, MatchResult}
use Rattle.site_calls.specs.Events.{Event, got, failed}
use Rattle.site_calls.specs.Failures.{is_disk_failure}
use Rattle.site_calls.proofs.Signals.{was_cut_off, told_behind, noted_behind, fails_behind}
use Rattle.site_calls.proofs.again.read_some.Goals as goal

pub loop-preserved : goal.loop-preserved
loop-preserved g c =
    let call = c.read_some-answer-in-loop in
    let mid = g.C.Calls.events c.loop.calls in
    let new = g.C.Calls.events call.new.self in
    let event : ℕ → ℕ → Event = λ want count. got c.args.file c.args.at want count (take (c.args.done + count) call.new.out) in
    let long : length c.loop.out ≡ length c.args.out.now = c.loop.auto.out ∙ c.read_some-answer.auto.out in
    let noted = subst (λ (want : ℕ). MatchResult call.result (λ count. new ≡ event want count ∷ mid) (λ _. new ≡ failed c.args.file ∷ mid)) long call.ensures.noted in
    let still = was_cut_off _ _ _ c.loop.answer c.if-not-is_cut_off.false c.is_cut_off.ensures c.loop.invariant.noted in
    record {
      told = told_behind (event (length c.args.out.now)) (failed c.args.file) _ _ _ call.result noted c.loop.invariant.told;
      front = call.ensures.front ∙ c.loop.invariant.front;
      count = subst (λ (want : ℕ). IfOk call.result (λ count. c.args.done + count ≤ want)) long call.ensures.count;
      noted = noted_behind (event (length c.args.out.now)) (failed c.args.file) _ _ _ call.result noted (λ unseen. refl) still;
      failure = fails_behind (event (length c.args.out.now)) (failed c.args.file) _ _ _ call.result noted is_disk_failure refl c.loop.invariant.failure.kept;
    }
