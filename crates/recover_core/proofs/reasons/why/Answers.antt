use Rattle.std.proofs.Common.{◌≡◌, ◌∙◌, ◌+◌, ℕ, length, Option, sym, ap, subst}
use Rattle.std.specs.Prelude.{option_map}
use Rattle.log_items.specs.Plain.{items_of, entry_of}
use Rattle.dura_model.specs.Partition.{Partition, enter}
use Rattle.many_logs.specs.Unplaced.{unplaced_by, first_refused}
use Rattle.part_steps.specs.States.{state_of, parts_in}
use Rattle.recover_core.specs.declared.error.RecoverError.{RecoverError}
use Rattle.recover_core.specs.Reasons.{SaysReason}
use Rattle.recover_core.proofs.FirstRefused.{state_at, is_why, has_why, no_fault}
use Rattle.recover_core.proofs.reasons.why.Goals as goal

pub returns-in-Some-clause-why : goal.returns-in-Some-clause-why
returns-in-Some-clause-why g c = λ refused at young room.
    let flows = g.R.Reactions.flows c.args.reactions.now in
    let count = length c.args.states.now in
    let parts = parts_in c.args.states.now in
    let entry = entry_of c.args.entry.now in
    let p = state_of c.enter-entered.result in
    let items = items_of c.as_slice.result.now in
    let begun : p ≡ enter entry.incarnation (parts c.args.place) =
    c.enter-entered.ensures.entered ∙ ap (enter entry.incarnation) (c.in_ok-state.ensures.same ∙ sym (state_at c.args.states.now c.args.place c.index-states-place.result c.requires.place c.index-states-place.is)) in
    let next : entry.position + 1 ≡ p.position = sym (ap (λ (q : Partition). q.position) begun ∙ ap (λ (n : ℕ). n + 1) at) in
    let says = subst (λ (o : Option RecoverError). SaysReason o (option_map (unplaced_by c.args.place entry.position) (first_refused flows count parts c.args.place p items))) c.in-Some.is (c.in_ok-found.ensures entry.position next) in
    is_why flows count parts c.args.place entry p items begun (ap items_of c.as_slice.ensures) c.in-Some.found says

pub returns-in-None-clause-why : goal.returns-in-None-clause-why
returns-in-None-clause-why g c = λ refused at young room.
    let flows = g.R.Reactions.flows c.args.reactions.now in
    let count = length c.args.states.now in
    let parts = parts_in c.args.states.now in
    let entry = entry_of c.args.entry.now in
    let p = state_of c.enter-entered.result in
    let items = items_of c.as_slice.result.now in
    let begun : p ≡ enter entry.incarnation (parts c.args.place) =
    c.enter-entered.ensures.entered ∙ ap (enter entry.incarnation) (c.in_ok-state.ensures.same ∙ sym (state_at c.args.states.now c.args.place c.index-states-place.result c.requires.place c.index-states-place.is)) in
    let next : entry.position + 1 ≡ p.position = sym (ap (λ (q : Partition). q.position) begun ∙ ap (λ (n : ℕ). n + 1) at) in
    let says = subst (λ (o : Option RecoverError). SaysReason o (option_map (unplaced_by c.args.place entry.position) (first_refused flows count parts c.args.place p items))) c.in-None.is (c.in_ok-found.ensures entry.position next) in
    absurd (has_why flows count parts c.args.place entry p items begun (ap items_of c.as_slice.ensures) refused says)

pub returns-in-Some-clause-no_fault : goal.returns-in-Some-clause-no_fault
returns-in-Some-clause-no_fault g c =
    let flows = g.R.Reactions.flows c.args.reactions.now in
    let count = length c.args.states.now in
    let parts = parts_in c.args.states.now in
    let before = (state_of c.in_ok-state.state).position in
    let p = state_of c.enter-entered.result in
    let items = items_of c.as_slice.result.now in
    let says = subst (λ (o : Option RecoverError). SaysReason o (option_map (unplaced_by c.args.place before) (first_refused flows count parts c.args.place p items))) c.in-Some.is
    (c.in_ok-found.ensures before (sym (ap (λ (q : Partition). q.position) c.enter-entered.ensures.entered))) in
    no_fault c.in-Some.found _ says
