-- What a store whose gate compares settled makes states, which show a world.
use Rattle.std.proofs.Common.{◌≡◌, ◌==◌, ◌<◌, ◌≤◌, ℕ, ◌+◌, Bool, true, false, List, ◌++◌, length, Some, Ok, refl, sym, ap, subst, ◌∙◌, append_assoc, append-nil}
use Rattle.std.proofs.lemmas.Bool.{eqb-true}
use Rattle.commit_gate.specs.Ledgers.{Ledger}
use Rattle.dura_model.proofs.Basics.{eqb_apart}
use Rattle.dura_model.proofs.Kept.{fresh_shown}
use Rattle.dura_model.specs.Entries.{placed}
use Rattle.dura_model.specs.Partition.{Partition, fresh}
use Rattle.dura_value.specs.Items.{Entry}
use Rattle.gated_store.specs.Follows.{Follows as GateFollows}
use Rattle.gated_store.specs.Kept.{Grown}
use Rattle.gated_store.specs.Kept.Grown.{nothing, one_more}
use Rattle.hub_store.proofs.Settling.{of_part-append, own_part, no_part}
use Rattle.hub_store.specs.Trail.{Settled, Said, of_part, settling}
use Rattle.many_logs.proofs.Frames.{of_both, below_both, below_at, put_then}
use Rattle.many_logs.proofs.Own.{own_chain}
use Rattle.many_logs.specs.Labels.{AreNumbered, state_next}
use Rattle.many_logs.specs.Placing.{Commit, states_after, of_partition, AllBelow, commits_at}
use Rattle.many_rules.proofs.GateMoments.{goes_behind}
use Rattle.many_rules.proofs.Meeting.{gate_follows}
use Rattle.many_rules.specs.Appended.{puts_both, puts_part, puts_settling}
use Rattle.many_rules.specs.Ledgers.{ledgers}
use Rattle.many_rules.specs.Local.{ledger_is}
use Rattle.many_rules.specs.Makes.{Makes}
use Rattle.many_rules.specs.Rules.{Rules, commits_of, Follows}
use Rattle.part_items.proofs.Behind.{numbered_both}
use Rattle.part_items.specs.Numbered.{Next, behind_all, IsNumbered}
use Rattle.trail_states.proofs.Shown.{commits_keep}
use Rattle.trail_states.specs.HaveMade.{HaveMade}

module _ (rules : Rules) (made : states_after rules.flows rules.count fresh rules.recovered ≡ Some rules.begin) (low : AllBelow rules.count rules.recovered) (first : AreNumbered fresh rules.recovered) where
  -- all that was recovered and settled
  abbrev whole : List Settled → List Commit
  whole trail = rules.recovered ++ commits_of trail

  -- states that what was settled makes so far
  record Comes (trail : List Settled) : Type 0 where
    states : ℕ → Partition
    all : states_after rules.flows rules.count rules.begin (commits_of trail) ≡ Some states
    below : AllBelow rules.count (commits_of trail)
    numbered : AreNumbered fresh (whole trail)

  all_made : (trail : List Settled) (states : ℕ → Partition) → states_after rules.flows rules.count rules.begin (commits_of trail) ≡ Some states → states_after rules.flows rules.count fresh (whole trail) ≡ Some states
  all_made trail states all = put_then rules.flows rules.count fresh rules.begin states rules.recovered (commits_of trail) made all

  -- a partition's entries among all
  its : (q : ℕ) (trail : List Settled) → of_partition q (whole trail) ≡ of_partition q rules.recovered ++ of_part q trail
  its q trail = of_both q rules.recovered (commits_of trail) ∙ ap (λ (l : List Entry). of_partition q rules.recovered ++ l) (puts_part q trail)

  its_more : (q : ℕ) (trail more : List Settled) → of_partition q (whole (trail ++ more)) ≡ of_partition q (whole trail) ++ of_part q more
  its_more q trail more =
      its q (trail ++ more)
      ∙ ap (λ (l : List Entry). of_partition q rules.recovered ++ l) (of_part-append q trail more)
      ∙ sym (append_assoc (of_partition q rules.recovered) (of_part q trail) (of_part q more))
      ∙ ap (λ (l : List Entry). l ++ of_part q more) (sym (its q trail))

  -- a frame stands where its partition's log goes on
  numbered_more : (latest : ℕ) (trail : List Settled) (told : List Said) (partition at : ℕ) (going : List Entry) → Comes trail → GateFollows (ledgers rules) (Makes rules) latest trail told partition going → AreNumbered fresh (whole (trail ++ settling partition at going))
  numbered_more latest trail told partition at going comes follows = λ q.
      subst (IsNumbered (state_next (fresh q))) (sym (its_more q trail (settling partition at going))) ((numbered_both (state_next (fresh q)) (of_partition q (whole trail)) (of_part q (settling partition at going))).1 (comes.numbered q, goes q))
    where
      makes : Makes rules latest (of_part partition trail) told partition going
      makes = follows.makes

      chain : (q : ℕ) → placed rules.flows rules.count (rules.begin q) (of_part q trail) ≡ Ok (comes.states q)
      chain q = ap (placed rules.flows rules.count (rules.begin q)) (sym (puts_part q trail)) ∙ own_chain rules.flows rules.count (commits_of trail) rules.begin comes.states q comes.all

      there : makes.before ≡ comes.states partition
      there = let both : Ok makes.before ≡ Ok (comes.states partition) = sym makes.made ∙ chain partition in cc both

      next_of : ℕ → Next
      next_of q = behind_all (state_next (fresh q)) (of_partition q (whole trail))

      stands : state_next makes.before ≡ next_of partition
      stands =
          ap state_next there
          ∙ goes_behind rules.flows rules.count (of_partition partition (whole trail)) (fresh partition) (comes.states partition) (own_chain rules.flows rules.count (whole trail) fresh comes.states partition (all_made trail comes.states comes.all)) (comes.numbered partition)

      mine : IsNumbered (next_of partition) (of_part partition (settling partition at going))
      mine = subst (IsNumbered (next_of partition)) (sym (own_part partition at going)) (subst (λ (n : Next). IsNumbered n going) stands makes.numbered)

      by : (q : ℕ) (test : Bool) → (partition == q) ≡ test → IsNumbered (next_of q) (of_part q (settling partition at going))
      by q true same = subst (λ (k : ℕ). IsNumbered (next_of k) (of_part k (settling partition at going))) (eqb-true partition q same) mine
      by q false apart = subst (IsNumbered (next_of q)) (sym (no_part partition q at going (eqb_apart partition q apart))) tt

      goes : (q : ℕ) → IsNumbered (next_of q) (of_part q (settling partition at going))
      goes q = by q (partition == q) refl

  comes_on : {trail : List Settled} → Grown (ledgers rules) (Makes rules) trail → Comes trail
  comes_on nothing = record { states = rules.begin; all = refl; below = tt; numbered = subst (AreNumbered fresh) (sym (append-nil rules.recovered)) first }
  comes_on (one_more {trail} latest told partition at going before follows) =
      let b = comes_on before in
      let may : Follows rules latest trail told partition going = gate_follows rules made latest trail told partition going b.numbered follows in
      let next = may.goes b.states b.all in
      let after = next.accepted in
      let is : commits_of trail ++ commits_at partition going ≡ commits_of (trail ++ settling partition at going) = sym (puts_both trail (settling partition at going) ∙ ap (λ (l : List Commit). commits_of trail ++ l) (puts_settling partition at going)) in
      record {
        states = after.0;
        all = subst (λ (l : List Commit). states_after rules.flows rules.count rules.begin l ≡ Some after.0) is (put_then rules.flows rules.count rules.begin b.states after.0 (commits_of trail) (commits_at partition going) b.all after.1);
        below = subst (AllBelow rules.count) is (below_both rules.count (commits_of trail) (commits_at partition going) b.below (below_at rules.count partition going may.below));
        numbered = numbered_more latest trail told partition at going b follows;
      }

  pub makes_states : (trail : List Settled) → Grown (ledgers rules) (Makes rules) trail → HaveMade rules trail
  makes_states trail grown =
      let c = comes_on grown in
      record {
        states = c.states;
        made = c.all;
        shown = commits_keep rules.flows rules.count (whole trail) fresh c.states (fresh_shown rules.count) (below_both rules.count rules.recovered (commits_of trail) low c.below) c.numbered (all_made trail c.states c.all);
        numbered = c.numbered;
        each = λ p inside. ap (placed rules.flows rules.count (rules.begin p)) (sym (puts_part p trail)) ∙ own_chain rules.flows rules.count (commits_of trail) rules.begin c.states p c.all;
      }

-- as others see of a stream and of who reads it
pub reads_inside : (rules : Rules) (trail : List Settled) (reader source : ℕ) → HaveMade rules trail → reader < rules.count → source < rules.count
    → (ledgers rules reader (of_part reader trail)).nexts source ≤ ((ledgers rules source (of_part source trail)).boxes reader).first + length ((ledgers rules source (of_part source trail)).boxes reader).messages
reads_inside rules trail reader source have there here =
    let read = ledger_is rules reader (of_part reader trail) (have.states reader) there (have.each reader there) in
    let sent = ledger_is rules source (of_part source trail) (have.states source) here (have.each source here) in
    subst (λ (l : Ledger). l.nexts source ≤ ((ledgers rules source (of_part source trail)).boxes reader).first + length ((ledgers rules source (of_part source trail)).boxes reader).messages) (sym read)
    (subst (λ (l : Ledger). ((have.states reader).inboxes source).next ≤ (l.boxes reader).first + length (l.boxes reader).messages) (sym sent) (have.shown.readers source reader here there).to_end)
