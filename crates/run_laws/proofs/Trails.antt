-- What was settled is accepted, entry by entry.
use Rattle.std.proofs.Common.{◌≡◌, ℕ, List, ◌++◌, Ok, refl, sym, ◌∙◌, ap, subst, arith}
use Rattle.std.specs.List.{All}
use Rattle.std.proofs.lemmas.List.Elements.{All-append}
use Rattle.dura_model.specs.Partition.{Partition}
use Rattle.dura_value.specs.Items.{Entry}
use Rattle.hub_store.specs.Moments.{SaidSoFar as StoreTold}
use Rattle.hub_store.specs.Moments.SaidSoFar.{silent, settles, says}
use Rattle.hub_store.specs.Trail.{Settled, Said, of_part, settling}
use Rattle.hub_store.proofs.Settling.{of_part-append, own_part}
use Rattle.dura_model.specs.Entries.{placed, AllGiven}
use Rattle.run_rules.specs.Rules.{Rules, Told, IsOurs}
use Rattle.run_rules.proofs.Going.{followed_made, followed_given}
use Rattle.run_laws.specs.Begins.{pairs_of, may_follow, may_say}
use Rattle.run_laws.specs.Leaves.{IsOfCall, AllRan}
use Rattle.run_laws.specs.Leaves.AllRan.{nothing_ran, frame_more}

-- these entries of a call are accepted one after another, each outcome one that its activity may give
pub record Goes (rules : Rules) (latest : ℕ) (entries : List Entry) : Type 0 where
  pub state : Partition
  pub made : placed rules.flows 1 rules.begin entries ≡ Ok state
  pub given : AllGiven rules.flows 1 rules.begin entries
  pub ran : AllRan rules entries
  pub own : All (IsOfCall rules latest) entries

module _ (rules : Rules) (latest : ℕ) where
  own_frame : (going : List Entry) (told : Told) → All (IsOurs rules latest told) going → All (IsOfCall rules latest) going
  own_frame going told ours = λ k d inside. let one = ours k d inside in record { incarnation = one.incarnation; timely = one.timely }

  -- a frame that may follow
  pub goes_on : (trail : List Settled) (told : List Said) (going : List Entry) → Goes rules latest (of_part 0 trail) → may_follow rules latest trail told 0 going → Goes rules latest (of_part 0 trail ++ going)
  goes_on trail told going goes follows = record {
    state = follows.1.after;
    made = followed_made rules latest (of_part 0 trail) going (pairs_of told) follows.1;
    given = followed_given rules latest (of_part 0 trail) going (pairs_of told) goes.given follows.1;
    ran = frame_more goes.ran follows.1.before follows.1.made going follows.1.pending;
    own = All-append (IsOfCall rules latest) (of_part 0 trail) going goes.own (own_frame going (pairs_of told) follows.1.ours);
  }

  -- all that was settled
  pub trail_goes : {trail : List Settled} {told : List Said} {lines : List ℕ} → StoreTold (may_follow rules latest) (may_say rules) trail told lines → Goes rules latest (of_part 0 trail)
  trail_goes silent = record { state = rules.begin; made = refl; given = tt; ran = nothing_ran; own = λ k d inside. absurd (omega (arith, inside)) }
  trail_goes (settles {trail} {told} before partition at going follows) =
      let own : of_part 0 (trail ++ settling partition at going) ≡ of_part 0 trail ++ going =
      of_part-append 0 trail (settling partition at going) ∙ ap (λ (p : ℕ). of_part 0 trail ++ of_part 0 (settling p at going)) follows.0 ∙ ap (λ (l : List Entry). of_part 0 trail ++ l) (own_part 0 at going) in
      subst (Goes rules latest) (sym own) (goes_on trail told going (trail_goes before) (refl, follows.1))
  trail_goes (says before one line may) = trail_goes before
