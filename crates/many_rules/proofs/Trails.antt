-- What was settled is accepted in its order.
use Rattle.std.proofs.Common.{◌≡◌, ◌<◌, ◌==◌, ℕ, zero, suc, Bool, true, false, List, [], ◌∷◌, ◌++◌, Some, refl, sym, ap, subst, ◌∙◌, append_assoc, append-nil, get_or, arith}
use Rattle.std.specs.List.{All}
use Rattle.std.proofs.lemmas.List.Elements.{All-append}
use Rattle.dura_model.specs.Partition.{Partition, fresh}
use Rattle.dura_model.specs.Steps.{Label}
use Rattle.dura_model.proofs.Basics.{eqb_apart}
use Rattle.dura_value.specs.Items.{Identity, Entry}
use Rattle.hub_store.specs.Moments.{SaidSoFar as StoreTold}
use Rattle.hub_store.specs.Moments.SaidSoFar.{silent, settles, says}
use Rattle.hub_store.specs.Trail.{Settled, Said, of_part, settling}
use Rattle.hub_store.proofs.Settling.{of_part-append, own_part, no_part}
use Rattle.dura_model.specs.Entries.{labels_of}
use Rattle.part_items.proofs.Behind.{numbered_both}
use Rattle.part_items.specs.Numbered.{IsNumbered}
use Rattle.std.proofs.lemmas.Bool.{eqb-true}
use Rattle.many_logs.specs.Placing.{Commit, states_after, of_partition, AllBelow, commits_at, frames_in_order}
use Rattle.many_logs.specs.Labels.{labels_of_commits, AllGiven, AreNumbered, state_next}
use Rattle.many_logs.proofs.Frames.{of_both, below_both, below_at, put_then, given_both, frames_go}
use Rattle.many_rules.specs.Ours.{ours_still}
use Rattle.many_rules.specs.Rules.{Rules, commits_of, pairs_of, HaveRun, IsOurs, GoesFrom, Follows, Answers}
use Rattle.run_rules.specs.Rules.{Told}
use Rattle.many_logs.specs.Names.{identities_in}
use Rattle.many_rules.specs.Leaves.{AllRan}
use Rattle.many_rules.specs.Leaves.AllRan.{nothing_ran, frame_more}
use Rattle.many_rules.specs.Appended.{puts_both, puts_settling, pairs_both}
use Rattle.many_rules.proofs.Founding.{AllNamed, named_both, named_frame}
use Rattle.dura_value.proofs.Basics.{some_same}

pub labels_split : (a b : List Commit) → labels_of_commits (a ++ b) ≡ labels_of_commits a ++ labels_of_commits b
labels_split [] b = refl
labels_split (one ∷ a) b = ap (λ (l : List Label). labels_of one.entry.items ++ l) (labels_split a b) ∙ sym (append_assoc (labels_of one.entry.items) (labels_of_commits a) (labels_of_commits b))

-- the first entries are numbered where all are
pub numbered_front : (a b : List Commit) → AreNumbered fresh (a ++ b) → AreNumbered fresh a
numbered_front a b numbered partition =
    ((numbered_both (state_next (fresh partition)) (of_partition partition a) (of_partition partition b)).0 (subst (IsNumbered (state_next (fresh partition))) (of_both partition a b) (numbered partition))).0

-- all that was settled is accepted in its order
pub record Goes (rules : Rules) (latest : ℕ) (trail : List Settled) : Type 0 where
  pub states : ℕ → Partition
  pub made : states_after rules.flows rules.count rules.begin (commits_of trail) ≡ Some states
  pub given : AllGiven rules.flows rules.count rules.begin (commits_of trail)
  pub below : AllBelow rules.count (commits_of trail)
  pub ran : AllRan rules (commits_of trail)
  pub named : AllNamed (identities_in rules.recovered) (commits_of trail)

module _ (rules : Rules) (latest : ℕ) where
  -- the entries of a frame that follows are the call's
  own_more : (trail : List Settled) (told : List Said) (partition at : ℕ) (going : List Entry) → ((other : ℕ) → All (IsOurs rules latest (pairs_of told) other) (of_part other trail)) → Follows rules latest trail told partition going
      → (other : ℕ) → All (IsOurs rules latest (pairs_of told) other) (of_part other (trail ++ settling partition at going))
  own_more trail told partition at going before follows other = subst (All Its) (sym (of_part-append other trail (settling partition at going))) (All-append Its (of_part other trail) (of_part other (settling partition at going)) (before other) (by (partition == other) refl))
    where
      Its : Entry → Type 0
      Its = IsOurs rules latest (pairs_of told) other

      by : (test : Bool) → (partition == other) ≡ test → All Its (of_part other (settling partition at going))
      by true same = mine other (eqb-true partition other same)
        where
          mine : (p : ℕ) → partition ≡ p → All (IsOurs rules latest (pairs_of told) p) (of_part p (settling partition at going))
          mine p is = subst (λ (q : ℕ). All (IsOurs rules latest (pairs_of told) q) (of_part q (settling partition at going))) is (subst (All (IsOurs rules latest (pairs_of told) partition)) (sym (own_part partition at going)) follows.ours)
      by false apart = subst (All Its) (sym (no_part partition other at going (eqb_apart partition other apart))) (λ k d inside. absurd (omega (arith, inside)))

  -- they are so still once one answer more was said
  said_more : (told : List Said) (one : Said) (other : ℕ) (entries : List Entry) → All (IsOurs rules latest (pairs_of told) other) entries → All (IsOurs rules latest (pairs_of (told ++ one ∷ [])) other) entries
  said_more told one other entries ours = λ k d inside.
      subst (λ (t : Told). IsOurs rules latest t other (get_or entries k d)) (sym (pairs_both told (one ∷ []))) (ours_still rules latest other (get_or entries k d) (pairs_of told) (pairs_of (one ∷ [])) (ours k d inside))

  -- all that was settled is the call's, by what was said
  pub ours_so_far : {trail : List Settled} {told : List Said} {lines : List ℕ} → StoreTold (Follows rules latest) (Answers rules) trail told lines → (other : ℕ) → All (IsOurs rules latest (pairs_of told) other) (of_part other trail)
  ours_so_far silent other = λ k d inside. absurd (omega (arith, inside))
  ours_so_far (settles {trail} {told} before partition at going follows) other = own_more trail told partition at going (ours_so_far before) follows other
  ours_so_far (says {trail} {told} before one line may) other = said_more told one other (of_part other trail) (ours_so_far before other)

  pub trail_goes : {trail : List Settled} {told : List Said} {lines : List ℕ} → StoreTold (Follows rules latest) (Answers rules) trail told lines → Goes rules latest trail
  trail_goes silent = record { states = rules.begin; made = refl; given = tt; below = tt; ran = nothing_ran; named = tt }
  trail_goes (settles {trail} {told} before partition at going follows) =
      let goes = trail_goes before in
      let next = follows.goes goes.states goes.made in
      let after = next.accepted in
      let is : commits_of trail ++ commits_at partition going ≡ commits_of (trail ++ settling partition at going) = sym (puts_both trail (settling partition at going) ∙ ap (λ (l : List Commit). commits_of trail ++ l) (puts_settling partition at going)) in
      record {
        states = after.0;
        made = subst (λ (l : List Commit). states_after rules.flows rules.count rules.begin l ≡ Some after.0) is (put_then rules.flows rules.count rules.begin goes.states after.0 (commits_of trail) (commits_at partition going) goes.made after.1);
        given = subst (AllGiven rules.flows rules.count rules.begin) is (given_both rules.flows rules.count (commits_of trail) (commits_at partition going) rules.begin goes.given
            (λ middle all. subst (λ (f : ℕ → Partition). AllGiven rules.flows rules.count f (commits_at partition going)) (some_same (sym goes.made ∙ all)) next.given));
        below = subst (AllBelow rules.count) is (below_both rules.count (commits_of trail) (commits_at partition going) goes.below (below_at rules.count partition going follows.below));
        ran = subst (AllRan rules) is (frame_more goes.ran goes.states goes.made partition going next.pending);
        named = subst (AllNamed (identities_in rules.recovered)) is (named_both (identities_in rules.recovered) (commits_of trail) (commits_at partition going) goes.named (named_frame (identities_in rules.recovered ++ identities_in (commits_of trail)) partition going next.named));
      }
  trail_goes (says before one line may) = trail_goes before

  -- frames of different partitions ran what was pending
  pub frames_ran : (known : List Identity) (most : ℕ) (settled : List Commit) (states : ℕ → Partition) (going : ℕ → List Entry) → AllRan rules settled → states_after rules.flows rules.count rules.begin settled ≡ Some states → ((partition : ℕ) → partition < most → GoesFrom rules known states partition (going partition)) → AllRan rules (settled ++ frames_in_order most going)
  frames_ran known zero settled states going ran made each = subst (AllRan rules) (sym (append-nil settled)) ran
  frames_ran known (suc most) settled states going ran made each =
      let before = frames_ran known most settled states going ran made (λ partition low. each partition (omega (arith, low))) in
      let they = frames_go rules.flows rules.count most states going (λ partition low. (each partition (omega (arith, low))).accepted) (λ partition low. (each partition (omega (arith, low))).given) in
      let all = put_then rules.flows rules.count rules.begin states they.after settled (frames_in_order most going) made they.all in
      let own = each most (omega arith) in
      subst (AllRan rules) (append_assoc settled (frames_in_order most going) (commits_at most (going most)))
      (frame_more before they.after all most (going most) (subst (λ (s : Partition). HaveRun rules s (going most)) (sym (they.there most (omega arith))) own.pending))
