-- What a call ran and answered does not hang on the order of what was recovered.
use Rattle.std.proofs.Common.{ℕ, List, sym, ◌∙◌}
use Rattle.std.specs.List.{All}
use Rattle.dura_model.specs.Legal.{Legal}
use Rattle.dura_model.specs.World.{World, empty}
use Rattle.dura_value.specs.Items.{Entry}
use Rattle.hub_store.specs.Trail.{Said}
use Rattle.many_logs.proofs.Leads.{after_both}
use Rattle.many_logs.specs.Labels.{labels_of_commits}
use Rattle.many_logs.specs.Placing.{Commit}
use Rattle.many_rules.specs.Leaves.{AllRan, IsAnswered, AllAnswered, IsHalfSaid}
use Rattle.many_rules.specs.Leaves.AllAnswered.{nothing_said, one_more}
use Rattle.many_rules.specs.Leaves.AllRan.{nothing_ran, frame_more}
use Rattle.many_rules.specs.Rules.{Rules, IsNext, IsOurs, pairs_of}
use Rattle.site_model.specs.History.{Step}

module _ (rules : Rules) (kept : List Commit) where
  -- the same call, where these were recovered
  abbrev pub other : Rules
  other = record rules { recovered = kept }

  -- entries of the one call are of the other
  pub own_alike : (latest : ℕ) (told : List Said) (partition : ℕ) (entries : List Entry) → All (IsOurs rules latest (pairs_of told) partition) entries → All (IsOurs other latest (pairs_of told) partition) entries
  own_alike latest told partition entries own = λ k d inside. let one = own k d inside in record { incarnation = one.incarnation; some = one.some; few = one.few; asked = one.asked; since = one.since; timely = one.timely }

  -- what ran only once its task was settled did so
  pub ran_alike : {settled : List Commit} → AllRan rules settled → AllRan other settled
  ran_alike nothing_ran = nothing_ran
  ran_alike (frame_more before states made partition going ran) = frame_more (ran_alike before) states made partition going ran

  -- a client's next request in the one call is its next in the other
  next_alike : (told : List Said) (one : Said) → IsNext rules told one → IsNext other told one
  next_alike told one next = record { request = next.request; asked = next.asked; number_is = next.number_is }

  -- both were recovered to one world
  module _ (w : World) (first : Legal rules.flows (labels_of_commits rules.recovered) w) (second : Legal rules.flows (labels_of_commits kept) w) (settled : List Commit) where
    -- a line that answers behind the one answers behind the other
    pub answered_alike : (told : List Said) (one : Said) (line : List ℕ) → IsAnswered rules settled told one line → IsAnswered other settled told one line
    answered_alike told one line is = record {
      next = λ serves. next_alike told one (is.next serves);
      before = is.before;
      behind = is.behind;
      front = is.front;
      world = is.world;
      legal =
          after_both rules.flows empty w (labels_of_commits kept) (labels_of_commits is.before) second
          ∙ sym (after_both rules.flows empty w (labels_of_commits rules.recovered) (labels_of_commits is.before) first)
          ∙ is.legal;
      answer = is.answer;
      has = is.has;
      line_is = is.line_is;
    }

    -- and so do all that were said
    pub all_alike : {told : List Said} {lines : List ℕ} → AllAnswered rules settled told lines → AllAnswered other settled told lines
    all_alike nothing_said = nothing_said
    all_alike (one_more {told} before one line is) = one_more (all_alike before) one line (answered_alike told one line is)

    -- and the one that is being said
    pub half_alike : (told : List Said) (steps : List Step) (part : List ℕ) → IsHalfSaid rules settled told steps part → IsHalfSaid other settled told steps part
    half_alike told steps part half = record {
      speaking = half.speaking;
      one = half.one;
      line = half.line;
      answered = answered_alike told half.one half.line half.answered;
      front = half.front;
    }
