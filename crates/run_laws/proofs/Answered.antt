-- The lines that were said are the run's answers.
use Rattle.std.proofs.Common.{◌≡◌, ℕ, List, [], ◌++◌, refl, sym, ◌∙◌, ap, subst, append_assoc}
use Rattle.std.proofs.lemmas.List.{append-nil}
use Rattle.dura_model.specs.Legal.{Legal}
use Rattle.dura_model.specs.Partition.{fresh}
use Rattle.dura_model.proofs.Kept.{fresh_shown}
use Rattle.dura_model.specs.Steps.{Label}
use Rattle.dura_value.specs.Items.{Entry}
use Rattle.hub_store.specs.Moments.{SaidSoFar, SaysNext}
use Rattle.hub_store.specs.Moments.SaidSoFar.{silent, settles, says}
use Rattle.hub_store.specs.Origin.{Origin}
use Rattle.hub_store.specs.Trail.{Settled, Said, of_part, settling}
use Rattle.hub_store.proofs.Settling.{of_part-append}
use Rattle.dura_model.specs.Entries.{labels_in, shown_by}
use Rattle.many_logs.specs.Labels.{state_next}
use Rattle.dura_model.proofs.Alone.{are_shown_alone}
use Rattle.dura_model.proofs.Appending.{labels_both}
use Rattle.part_items.proofs.Behind.{numbered_both}
use Rattle.run_rules.proofs.EntriesLead.{entries_lead}
use Rattle.part_items.specs.Numbered.{IsNumbered}
use Rattle.run_rules.specs.Rules.{Rules}
use Rattle.run_laws.specs.Begins.{BeginsAlone, may_follow, may_say}
use Rattle.run_laws.specs.Leaves.{IsAnswered, AllAnswered, IsHalfSaid}
use Rattle.run_laws.specs.Leaves.AllAnswered.{nothing_said, one_more}
use Rattle.run_laws.proofs.Trails.{Goes, trail_goes}
use Rattle.run_laws.proofs.Whole.{whole}
use Rattle.site_model.specs.History.{Step}

module _ (o : Origin) (rules : Rules) (latest digest : ℕ) (begins : BeginsAlone o rules digest) (settled : List Entry) (numbered : IsNumbered (state_next (fresh 0)) ((o.logs 0).entries ++ settled)) where
  -- where the run comes to by the first of what was settled
  legal_front : (before behind : List Entry) → settled ≡ before ++ behind → (goes : Goes rules latest before) → Legal rules.flows (labels_in (o.logs 0).entries ++ labels_in before) (shown_by rules.flows goes.state)
  legal_front before behind front goes =
      let all = whole o rules latest digest begins before goes in
      let longer : IsNumbered (state_next (fresh 0)) (((o.logs 0).entries ++ before) ++ behind) =
      subst (IsNumbered (state_next (fresh 0))) (ap (λ (l : List Entry). (o.logs 0).entries ++ l) front ∙ sym (append_assoc (o.logs 0).entries before behind)) numbered in
      let shorter = ((numbered_both (state_next (fresh 0)) ((o.logs 0).entries ++ before) behind).0 longer).0 in
      subst (λ (run : List Label). Legal rules.flows run (shown_by rules.flows goes.state)) (labels_both (o.logs 0).entries before)
      (entries_lead rules.flows (fresh 0) goes.state ((o.logs 0).entries ++ before) (are_shown_alone fresh (fresh 0) refl (fresh_shown 1)) shorter all.1 all.0).0

  -- a line that may be said
  line_answered : (trail : List Settled) (told : List Said) (one : Said) (line : List ℕ) (behind : List Entry) → settled ≡ of_part 0 trail ++ behind → Goes rules latest (of_part 0 trail) → may_say rules trail told one line
      → IsAnswered rules o settled told one line
  line_answered trail told one line behind front goes may = record {
    request = may.request;
    next = may.next;
    number_is = may.number_is;
    before = of_part 0 trail;
    behind = behind;
    front = front;
    world = shown_by rules.flows may.state;
    legal = legal_front (of_part 0 trail) behind front (record { state = may.state; made = may.made; given = goes.given; ran = goes.ran; own = goes.own });
    answer = may.answer;
    has = may.has;
    line_is = may.line_is;
  }

  -- all that were said
  pub all_answered : {trail : List Settled} {told : List Said} {lines : List ℕ} → SaidSoFar (may_follow rules latest) (may_say rules) trail told lines → (behind : List Entry) → settled ≡ of_part 0 trail ++ behind → AllAnswered rules o settled told lines
  all_answered silent behind front = nothing_said
  all_answered (settles {trail} before partition at going follows) behind front =
      let more = of_part 0 (settling partition at going) in
      all_answered before (more ++ behind) (front ∙ ap (λ (l : List Entry). l ++ behind) (of_part-append 0 trail (settling partition at going)) ∙ append_assoc (of_part 0 trail) more behind)
  all_answered (says {trail} {told} before one line may) behind front =
      one_more (all_answered before behind front) one line (line_answered trail told one line behind front (trail_goes rules latest before) may)

  pub half_said : (trail : List Settled) (told : List Said) (steps : List Step) (part : List ℕ) → settled ≡ of_part 0 trail → Goes rules latest (of_part 0 trail) → SaysNext (may_follow rules latest) (may_say rules) trail told steps part
      → IsHalfSaid rules o settled told steps part
  half_said trail told steps part front goes next = record {
    speaking = next.speaking;
    one = next.one;
    line = next.line;
    answered = line_answered trail told next.one next.line [] (front ∙ sym (append-nil (of_part 0 trail))) goes next.may;
    front = next.front;
  }
