use Rattle.std.proofs.Common.{◌≡◌, ℕ, List, length, map, Some, None, sym, ap, subst, ◌∙◌}
use Rattle.std.specs.List.{slice_get}
use Rattle.dura_value.specs.Views.{posted_of}
use Rattle.dura_value.specs.declared.identity.Posted.{Posted}
use Rattle.part_steps.specs.States.{state_of}
use Rattle.state_ledgers.proofs.CopiesAreFirst.{AreFirst, one_copied, all_copied}
use Rattle.state_ledgers.proofs.streams.stream_to.Goals as goal

pub loop-posted-preserved : goal.loop-posted-preserved
loop-posted-preserved c =
    let left = ((state_of c.args.state.now).outboxes c.args.target).messages in
    let copies = c.loop-posted.messages.items in
    let copy = c.in_ok-copy_posted.field-0 in
    let there : slice_get left (length copies) ≡ Some (posted_of copy) = ap (slice_get left) (sym {A = ℕ} (c.len.ensures ∙ c.loop-posted.messages.ok.0)) ∙ sym c.in-Some.ensures ∙ ap (λ (x : Posted). Some (posted_of x)) (sym c.in_ok-copy_posted.ensures) in
    subst (λ (l : List Posted). AreFirst l left) (sym {A = List Posted} c.in_ok-push_back.ensures.items) (one_copied copies left copy c.loop-posted.invariant there)

pub returns-clause-settled : goal.returns-clause-settled
returns-clause-settled c =
    let left = ((state_of c.args.state.now).outboxes c.args.target).messages in
    let copies = c.loop-posted.messages.items in
    let none : slice_get left (length copies) ≡ None = ap (slice_get left) (sym {A = ℕ} (c.len.ensures ∙ c.loop-posted.messages.ok.0)) ∙ sym c.in_default.ensures in
    let all : map posted_of copies ≡ left = all_copied copies left c.loop-posted.invariant none in
    let first = c.first_left.ensures in
    let same : record { first = c.first_left.result; messages = map posted_of copies } ≡ (state_of c.args.state.now).outboxes c.args.target = λ i. record { first = first i; messages = all i } in
    c.of.ensures.settled ∙ same
