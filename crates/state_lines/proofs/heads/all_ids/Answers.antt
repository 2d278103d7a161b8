use Rattle.std.proofs.Common.{ℕ, Bool, ◌∙◌, ◌+◌, ◌∷◌, [], length, ap, sym, subst}
use Rattle.std.proofs.lemmas.List.{length-append}
use Rattle.dura_value.specs.Ids.{Id}
use Rattle.part_steps.specs.States.{parts_in, state_of}
use Rattle.state_lines.specs.Heads.{AreListed}
use Rattle.state_lines.specs.Kinds.{keeps}
use Rattle.state_lines.proofs.Kept.{part_at}
use Rattle.state_lines.proofs.Listing.{list_more}
use Rattle.state_lines.proofs.heads.all_ids.Goals as goal

pub loop-state-preserved : goal.loop-state-preserved
loop-state-preserved c =
    let kind = c.args.kind in
    let states = c.args.states.now in
    let state = c.state-item.result in
    let place = c.loop-state.state-index in
    let lists = c.loop-state.lists.items in
    let ids = c.in_ok-ids.field-0 in
    let kept : ℕ → Id → Bool = λ place. keeps kind (parts_in states place) in
    let new = c.in_ok-ids.ensures ∙ ap (keeps kind) (ap state_of c.state-item.is ∙ sym (part_at states place state c.loop-state-test.true))
    ∙ ap (λ n. keeps kind (parts_in states n)) (sym c.loop-state.invariant.long) in
    record {
      long = ap length c.in_ok-push.ensures.items ∙ length-append lists (ids ∷ []) ∙ ap (λ n. n + 1) c.loop-state.invariant.long;
      lists = subst (AreListed kept) (sym c.in_ok-push.ensures.items) (list_more kept lists ids c.loop-state.invariant.lists new);
    }
