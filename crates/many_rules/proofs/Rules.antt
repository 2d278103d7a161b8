-- What may be committed may be committed still once more of other partitions was settled and more was said, and up to a later stamp.
use Rattle.std.proofs.Common.{◌≡◌, ◌≢◌, ◌≤◌, ℕ, List, [], ◌++◌, Some, refl, get_or, sym, ap, subst, ◌∙◌, append_assoc}
use Rattle.std.proofs.lemmas.List.{append-nil}
use Rattle.std.proofs.lemmas.List.Elements.{Contains-append_left}
use Rattle.dura_model.specs.Partition.{Partition}
use Rattle.dura_value.specs.Items.{Identity, Entry}
use Rattle.hub_store.specs.Trail.{Settled, Said, of_part, settling}
use Rattle.hub_store.proofs.Settling.{no_part}
use Rattle.many_logs.specs.Placing.{Commit, states_after, of_partition}
use Rattle.many_logs.proofs.Frames.{put_apart, run_grows, run_leaves, frame_still, given_still}
use Rattle.many_rules.specs.Appended.{puts_both, puts_part, pairs_both, names_both}
use Rattle.many_rules.specs.Rules.{Rules, IsOurs, commits_of, pairs_of, known_of, HaveRun, GoesFrom, Follows}
use Rattle.many_logs.specs.Names.{identities_in, AreNamed}
use Rattle.many_rules.specs.Ours.{ours_still, ours_later}
use Rattle.run_rules.specs.Rules.{Told}

-- what is named among some is named among more
pub named_more : (known more : List Identity) (going : List Entry) → AreNamed known going → AreNamed (known ++ more) going
named_more known more going named = λ k d inside j e below. Contains-append_left known more _ (named k d inside j e below)

module _ (rules : Rules) where
  -- a frame goes on from states where its partition is as it was and the others are as far or further
  goes_still : (known also : List Identity) (before after : ℕ → Partition) (more : List Commit) (partition : ℕ) (going : List Entry) → states_after rules.flows rules.count before more ≡ Some after → of_partition partition more ≡ [] → GoesFrom rules known before partition going → GoesFrom rules (known ++ also) after partition going
  goes_still known also before after more partition going all none goes =
      let grow = run_grows rules.flows rules.count more before after all in
      let same = run_leaves rules.flows rules.count more before after partition all none in
      let own = goes.accepted in
      record {
        accepted = (_, frame_still rules.flows rules.count going before after own.0 partition grow same own.1);
        given = given_still rules.flows rules.count going before after own.0 partition grow same own.1 goes.given;
        pending = subst (λ (s : Partition). HaveRun rules s going) (sym same) goes.pending;
        named = named_more known also going goes.named;
      }

  pub follows_still : (latest : ℕ) (trail more : List Settled) (told also : List Said) (partition : ℕ) (going : List Entry) → of_part partition more ≡ [] → Follows rules latest trail told partition going → Follows rules latest (trail ++ more) (told ++ also) partition going
  follows_still latest trail more told also partition going none follows = record {
    below = follows.below;
    ours = λ k d inside. subst (λ (t : Told). IsOurs rules latest t partition (get_or going k d)) (sym (pairs_both told also)) (ours_still rules latest partition _ (pairs_of told) (pairs_of also) (follows.ours k d inside));
    goes = λ states all.
        let both = put_apart rules.flows rules.count rules.begin states (commits_of trail) (commits_of more) (ap (states_after rules.flows rules.count rules.begin) (sym (puts_both trail more)) ∙ all) in
        let longer : known_of rules trail ++ identities_in (commits_of more) ≡ known_of rules (trail ++ more) =
        append_assoc (identities_in rules.recovered) (identities_in (commits_of trail)) (identities_in (commits_of more)) ∙ ap (λ (l : List Identity). identities_in rules.recovered ++ l) (sym (names_both (commits_of trail) (commits_of more))) ∙ ap (λ (l : List Commit). identities_in rules.recovered ++ identities_in l) (sym (puts_both trail more)) in
        subst (λ (known : List Identity). GoesFrom rules known states partition going) longer
        (goes_still (known_of rules trail) (identities_in (commits_of more)) both.0 states (commits_of more) partition going both.2 (puts_part partition more ∙ none) (follows.goes both.0 both.1));
  }

  -- once more was said, or a frame of another partition was settled
  pub follows_said : (latest : ℕ) (trail : List Settled) (told also : List Said) (partition : ℕ) (going : List Entry) → Follows rules latest trail told partition going → Follows rules latest trail (told ++ also) partition going
  follows_said latest trail told also partition going follows =
      subst (λ (l : List Settled). Follows rules latest l (told ++ also) partition going) (append-nil trail) (follows_still latest trail [] told also partition going refl follows)

  pub follows_settled : (latest : ℕ) (trail : List Settled) (told : List Said) (partition at : ℕ) (going : List Entry) (other : ℕ) (theirs : List Entry) → other ≢ partition → Follows rules latest trail told partition going
      → Follows rules latest trail told other theirs → Follows rules latest (trail ++ settling partition at going) told other theirs
  follows_settled latest trail told partition at going other theirs apart may also =
      subst (λ (l : List Said). Follows rules latest (trail ++ settling partition at going) l other theirs) (append-nil told)
      (follows_still latest trail (settling partition at going) told [] other theirs (no_part partition other at going (λ is. apart (sym is))) also)

  pub follows_later : (latest later : ℕ) (trail : List Settled) (told : List Said) (partition : ℕ) (going : List Entry) → latest ≤ later → Follows rules latest trail told partition going → Follows rules later trail told partition going
  follows_later latest later trail told partition going above follows = record {
    below = follows.below;
    ours = λ k d inside. ours_later rules latest partition _ later (pairs_of told) above (follows.ours k d inside);
    goes = follows.goes;
  }
