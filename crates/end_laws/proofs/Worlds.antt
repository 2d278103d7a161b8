-- What was recovered and settled is a legal run to the world that all partitions show.
use Rattle.std.proofs.Common.{◌≡◌, ◌∙◌, ℕ, List, [], ◌∷◌, ◌++◌, Some, refl, sym, ap, subst, append_assoc, append-nil}
use Rattle.dura_model.proofs.Kept.{fresh_shown}
use Rattle.dura_model.specs.Legal.{Legal, after_from}
use Rattle.dura_model.specs.Partition.{Partition, fresh, shown, with_part}
use Rattle.end_laws.specs.Rested.{AreAccepted}
use Rattle.end_laws.specs.Served.{IsWorldAfter}
use Rattle.flow_syntax.specs.Syntax.{Flows}
use Rattle.hub_store.specs.Trail.{Settled}
use Rattle.many_logs.proofs.Frames.{put_then}
use Rattle.many_logs.proofs.Leads.{commits_lead}
use Rattle.many_logs.specs.Labels.{labels_of_commits, AllGiven, AreNumbered}
use Rattle.many_logs.specs.Placing.{Commit, states_after, AllBelow}
use Rattle.many_rules.proofs.Trails.{labels_split, numbered_front}
use Rattle.many_rules.specs.Appended.{puts_both}
use Rattle.many_rules.specs.Rules.{Rules, commits_of}
use Rattle.trail_states.specs.HaveMade.{HaveMade}

-- what holds of entries holds of the first of them
below_front : (count : ℕ) (a b : List Commit) → AllBelow count (a ++ b) → AllBelow count a
below_front count [] b below = tt
below_front count (one ∷ a) b below = (below.0, below_front count a b below.1)

given_front : (flows : Flows) (count : ℕ) (parts : ℕ → Partition) (a b : List Commit) → AllGiven flows count parts (a ++ b) → AllGiven flows count parts a
given_front flows count parts [] b given = tt
given_front flows count parts (one ∷ a) b given = (given.0, λ next is. given_front flows count (with_part parts one.partition next) a b (given.1 next is))

front_of : (rules : Rules) (trail more : List Settled) → rules.recovered ++ commits_of (trail ++ more) ≡ (rules.recovered ++ commits_of trail) ++ commits_of more
front_of rules trail more = ap (λ (l : List Commit). rules.recovered ++ l) (puts_both trail more) ∙ sym (append_assoc rules.recovered (commits_of trail) (commits_of more))

pub accepted_front : (rules : Rules) (trail more : List Settled) → AreAccepted rules (trail ++ more) → AreAccepted rules trail
accepted_front rules trail more accepted = record {
  begin = accepted.begin;
  below = below_front rules.count (rules.recovered ++ commits_of trail) (commits_of more) (subst (AllBelow rules.count) (front_of rules trail more) accepted.below);
  given = given_front rules.flows rules.count fresh (rules.recovered ++ commits_of trail) (commits_of more) (subst (AllGiven rules.flows rules.count fresh) (front_of rules trail more) accepted.given);
}

pub numbered_by : (rules : Rules) (trail more : List Settled) → AreNumbered fresh (rules.recovered ++ commits_of (trail ++ more)) → AreNumbered fresh (rules.recovered ++ commits_of trail)
numbered_by rules trail more numbered = numbered_front (rules.recovered ++ commits_of trail) (commits_of more) (subst (AreNumbered fresh) (front_of rules trail more) numbered)

pub world_at : (rules : Rules) (trail : List Settled) (states : ℕ → Partition) → states_after rules.flows rules.count rules.begin (commits_of trail) ≡ Some states → AreNumbered fresh (rules.recovered ++ commits_of trail) → AreAccepted rules trail
    → IsWorldAfter rules trail (shown rules.flows rules.count states)
world_at rules trail states made numbered accepted = record { states = states; made = made; world = refl; legal = legal }
  where
    whole : List Commit
    whole = rules.recovered ++ commits_of trail

    made_whole : states_after rules.flows rules.count fresh whole ≡ Some states
    made_whole = put_then rules.flows rules.count fresh rules.begin states rules.recovered (commits_of trail) accepted.begin made

    legal : Legal rules.flows (labels_of_commits rules.recovered ++ labels_of_commits (commits_of trail)) (shown rules.flows rules.count states)
    legal = ap (after_from rules.flows (shown rules.flows rules.count fresh)) (sym (labels_split rules.recovered (commits_of trail)) ∙ sym (append-nil (labels_of_commits whole)))
        ∙ (commits_lead rules.flows rules.count whole fresh states (fresh_shown rules.count) accepted.below numbered accepted.given made_whole).comes []

pub world_after : (rules : Rules) (trail : List Settled) (made : HaveMade rules trail) → AreAccepted rules trail → IsWorldAfter rules trail (shown rules.flows rules.count made.states)
world_after rules trail made accepted = world_at rules trail made.states made.made made.numbered accepted
