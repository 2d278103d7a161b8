-- The lines that were said are the run's answers.
use Rattle.std.proofs.Common.{◌≡◌, ℕ, List, [], ◌++◌, sym, ◌∙◌, ap, subst, append_assoc, append-nil}
use Rattle.dura_model.specs.Legal.{Legal, after_from}
use Rattle.dura_model.specs.Partition.{Partition, fresh, shown}
use Rattle.dura_model.specs.Steps.{Label}
use Rattle.dura_model.proofs.Kept.{fresh_shown}
use Rattle.hub_store.specs.Moments.{SaidSoFar, SaysNext}
use Rattle.hub_store.specs.Moments.SaidSoFar.{silent, settles, says}
use Rattle.hub_store.specs.Origin.{Origin}
use Rattle.hub_store.specs.Trail.{Settled, Said, settling}
use Rattle.many_logs.specs.Placing.{Commit}
use Rattle.many_logs.specs.Labels.{labels_of_commits, AllGiven, AreNumbered}
use Rattle.many_logs.proofs.Frames.{put_then, below_both, given_both}
use Rattle.many_logs.proofs.Leads.{commits_lead}
use Rattle.many_rules.specs.Rules.{Rules, commits_of, Follows, Answers}
use Rattle.many_rules.specs.Leaves.{Begins, IsAnswered, AllAnswered, IsHalfSaid}
use Rattle.many_rules.specs.Leaves.AllAnswered.{nothing_said, one_more}
use Rattle.many_rules.specs.Appended.{puts_both}
use Rattle.many_rules.proofs.Trails.{Goes, trail_goes, labels_split, numbered_front}
use Rattle.site_model.specs.History.{Step}
use Rattle.dura_value.proofs.Basics.{some_same}

module _ (o : Origin) (rules : Rules) (latest digest : ℕ) (begins : Begins o rules digest) (settled : List Commit) (numbered : AreNumbered fresh (rules.recovered ++ settled)) where
  -- where the run comes to by the first of what was settled
  legal_front : (trail : List Settled) (behind : List Commit) → settled ≡ commits_of trail ++ behind → (goes : Goes rules latest trail) → Legal rules.flows (labels_of_commits rules.recovered ++ labels_of_commits (commits_of trail)) (shown rules.flows rules.count goes.states)
  legal_front trail behind front goes =
      let run = rules.recovered ++ commits_of trail in
      let made = put_then rules.flows rules.count fresh rules.begin goes.states rules.recovered (commits_of trail) begins.made goes.made in
      let given = given_both rules.flows rules.count rules.recovered (commits_of trail) fresh begins.given (λ middle all. subst (λ (f : ℕ → Partition). AllGiven rules.flows rules.count f (commits_of trail)) (some_same (sym begins.made ∙ all)) goes.given) in
      let longer = subst (AreNumbered fresh) (ap (λ (l : List Commit). rules.recovered ++ l) front ∙ sym (append_assoc rules.recovered (commits_of trail) behind)) numbered in
      let lead = commits_lead rules.flows rules.count run fresh goes.states (fresh_shown rules.count) (below_both rules.count rules.recovered (commits_of trail) begins.below goes.below) (numbered_front run behind longer) given made in
      subst (λ (labels : List Label). Legal rules.flows labels (shown rules.flows rules.count goes.states)) (labels_split rules.recovered (commits_of trail))
      (ap (after_from rules.flows (shown rules.flows rules.count fresh)) (sym (append-nil (labels_of_commits run))) ∙ lead.comes [])

  -- a line that may be said
  line_answered : (trail : List Settled) (told : List Said) (one : Said) (line : List ℕ) (behind : List Commit) → settled ≡ commits_of trail ++ behind → Goes rules latest trail → Answers rules trail told one line → IsAnswered rules settled told one line
  line_answered trail told one line behind front goes may = record {
    next = may.next;
    before = commits_of trail;
    behind = behind;
    front = front;
    world = shown rules.flows rules.count may.states;
    legal = subst (λ (f : ℕ → Partition). Legal rules.flows (labels_of_commits rules.recovered ++ labels_of_commits (commits_of trail)) (shown rules.flows rules.count f)) (some_same (sym goes.made ∙ may.made)) (legal_front trail behind front goes);
    answer = may.answer;
    has = may.has;
    line_is = may.line_is;
  }

  -- all that were said
  pub all_answered : {trail : List Settled} {told : List Said} {lines : List ℕ} → SaidSoFar (Follows rules latest) (Answers rules) trail told lines → (behind : List Commit) → settled ≡ commits_of trail ++ behind → AllAnswered rules settled told lines
  all_answered silent behind front = nothing_said
  all_answered (settles {trail} before partition at going follows) behind front =
      let more = commits_of (settling partition at going) in
      all_answered before (more ++ behind) (front ∙ ap (λ (l : List Commit). l ++ behind) (puts_both trail (settling partition at going)) ∙ append_assoc (commits_of trail) more behind)
  all_answered (says {trail} {told} before one line may) behind front = one_more (all_answered before behind front) one line (line_answered trail told one line behind front (trail_goes rules latest before) may)

  pub half_said : (trail : List Settled) (told : List Said) (steps : List Step) (part : List ℕ) → settled ≡ commits_of trail → Goes rules latest trail → SaysNext (Follows rules latest) (Answers rules) trail told steps part → IsHalfSaid rules settled told steps part
  half_said trail told steps part front goes next = record {
    speaking = next.speaking;
    one = next.one;
    line = next.line;
    answered = line_answered trail told next.one next.line [] (front ∙ sym (append-nil (commits_of trail))) goes next.may;
    front = next.front;
  }
