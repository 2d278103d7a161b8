-- What a store whose gate compares commits, it commits by the rules, at every moment.
use Rattle.std.proofs.Common.{◌≡◌, inl, inr, ◌==◌, ℕ, ◌+◌, Bool, true, false, cond, List, [], ◌∷◌, ◌++◌, Some, Ok, refl, sym, ap, subst, ◌∙◌, append_assoc, append-nil, arith}
use Rattle.std.proofs.lemmas.Bool.{eqb-true}
use Rattle.dura_model.proofs.Appending.{both_placed}
use Rattle.dura_model.specs.Entries.{placed, entry_accepted}
use Rattle.dura_model.specs.Partition.{Partition, fresh}
use Rattle.dura_value.specs.Items.{Entry}
use Rattle.gated_store.specs.Follows.{Follows as GateFollows}
use Rattle.hub_store.specs.Moments.{SaidSoFar, SaysNext, StandsWith, AtEveryMoment}
use Rattle.hub_store.specs.Moments.SaidSoFar.{silent, settles, says}
use Rattle.hub_store.specs.Origin.{Origin}
use Rattle.hub_store.specs.Trail.{Settled, Said, of_part, settling}
use Rattle.flow_syntax.specs.Syntax.{Flows}
use Rattle.many_logs.proofs.Frames.{of_both}
use Rattle.many_logs.proofs.Moving.{entry_moves}
use Rattle.many_logs.proofs.Own.{own_chain}
use Rattle.many_logs.specs.Labels.{AreNumbered, state_next}
use Rattle.many_logs.specs.Placing.{Commit, states_after, of_partition, commits_at}
use Rattle.many_rules.proofs.Meeting.{gate_follows}
use Rattle.many_rules.specs.Appended.{puts_both, puts_part, puts_settling}
use Rattle.many_rules.specs.Ledgers.{ledgers}
use Rattle.many_rules.specs.Makes.{Makes}
use Rattle.many_rules.specs.Rules.{Rules, commits_of, Follows, Answers}
use Rattle.part_items.proofs.Behind.{behind_both, numbered_both}
use Rattle.part_items.specs.Numbered.{Next, behind, behind_all, IsNumbered}
use Rattle.site_model.specs.History.{Step}

-- ---- numbers

same_next : (p : Partition) (entry : Entry) → p.position ≡ entry.position + 1 → p.incarnation ≡ entry.incarnation → state_next p ≡ behind entry
same_next p entry position incarnation = λ i. record { position = position i; incarnation = incarnation i }

-- entries that stand where a partition goes on leave it where they end
pub goes_behind : (flows : Flows) (count : ℕ) (entries : List Entry) (p q : Partition) → placed flows count p entries ≡ Ok q → IsNumbered (state_next p) entries → state_next q ≡ behind_all (state_next p) entries
goes_behind flows count [] p q made numbered = let same : p ≡ q = cc made in ap state_next (sym same)
goes_behind flows count (entry ∷ entries) p q made numbered =
    let first = both_placed entry.position (entry_accepted flows count p entry) (λ next. placed flows count next entries) q made in
    let moves = entry_moves flows count entry p first.0 first.1 in
    let here : state_next first.0 ≡ behind entry = same_next first.0 entry (moves.position ∙ ap (λ (n : ℕ). n + 1) (sym numbered.0)) moves.incarnation in
    goes_behind flows count entries first.0 q first.2 (subst (λ (n : Next). IsNumbered n entries) (sym here) numbered.2) ∙ ap (λ (n : Next). behind_all n entries) here

-- a partition's entries among those of one
own_at : (partition : ℕ) (going : List Entry) → of_partition partition (commits_at partition going) ≡ going
own_at partition [] = refl
own_at partition (entry ∷ going) = let self : (partition == partition) ≡ true = grind arith in ap (λ (b : Bool). cond b (entry ∷ of_partition partition (commits_at partition going)) (of_partition partition (commits_at partition going))) self ∙ ap (λ (l : List Entry). entry ∷ l) (own_at partition going)

none_at : (partition other : ℕ) (going : List Entry) → (partition == other) ≡ false → of_partition other (commits_at partition going) ≡ []
none_at partition other [] apart = refl
none_at partition other (entry ∷ going) apart = ap (λ (b : Bool). cond b (entry ∷ of_partition other (commits_at partition going)) (of_partition other (commits_at partition going))) apart ∙ none_at partition other going apart

module _ (rules : Rules) (made : states_after rules.flows rules.count fresh rules.recovered ≡ Some rules.begin) (first : AreNumbered fresh rules.recovered) (latest : ℕ) where
  abbrev Its : List Settled → List Said → ℕ → List Entry → Type 0
  Its = GateFollows (ledgers rules) (Makes rules) latest

  abbrev Ours : List Settled → List Said → ℕ → List Entry → Type 0
  Ours = Follows rules latest

  abbrev all_of : ℕ → List Settled → List Entry
  all_of q trail = of_partition q (rules.recovered ++ commits_of trail)

  -- all that was recovered and settled is numbered
  abbrev IsInOrder : List Settled → Type 0
  IsInOrder trail = AreNumbered fresh (rules.recovered ++ commits_of trail)

  order_first : IsInOrder []
  order_first = λ q. subst (IsNumbered (state_next (fresh q))) (sym (ap (of_partition q) (append-nil rules.recovered))) (first q)

  more_of : (q : ℕ) (trail : List Settled) (partition at : ℕ) (going : List Entry) → all_of q (trail ++ settling partition at going) ≡ all_of q trail ++ of_partition q (commits_at partition going)
  more_of q trail partition at going =
      ap (λ (l : List Commit). of_partition q (rules.recovered ++ l)) (puts_both trail (settling partition at going) ∙ ap (λ (l : List Commit). commits_of trail ++ l) (puts_settling partition at going))
      ∙ ap (of_partition q) (sym (append_assoc rules.recovered (commits_of trail) (commits_at partition going))) ∙ of_both q (rules.recovered ++ commits_of trail) (commits_at partition going)

  order_more : (trail : List Settled) (told : List Said) (partition at : ℕ) (going : List Entry) → IsInOrder trail → Its trail told partition going → IsInOrder (trail ++ settling partition at going)
  order_more trail told partition at going order follows = λ q.
      subst (IsNumbered (state_next (fresh q))) (sym (more_of q trail partition at going)) ((numbered_both (state_next (fresh q)) (all_of q trail) (of_partition q (commits_at partition going))).1 (order q, goes q))
    where
      makes : Makes rules latest (of_part partition trail) told partition going
      makes = follows.makes

      next_of : ℕ → Next
      next_of q = behind_all (state_next (fresh q)) (all_of q trail)

      old : List Entry
      old = of_partition partition rules.recovered

      own : List Entry
      own = of_part partition trail

      theirs : all_of partition trail ≡ old ++ own
      theirs = of_both partition rules.recovered (commits_of trail) ∙ ap (λ (l : List Entry). old ++ l) (puts_part partition trail)

      halves : IsNumbered (state_next (fresh partition)) old × IsNumbered (behind_all (state_next (fresh partition)) old) own
      halves = (numbered_both (state_next (fresh partition)) old own).0 (subst (IsNumbered (state_next (fresh partition))) theirs (order partition))

      begun : state_next (rules.begin partition) ≡ behind_all (state_next (fresh partition)) old
      begun = goes_behind rules.flows rules.count old (fresh partition) (rules.begin partition) (own_chain rules.flows rules.count rules.recovered fresh rules.begin partition made) halves.0

      stands : state_next makes.before ≡ next_of partition
      stands =
          goes_behind rules.flows rules.count own (rules.begin partition) makes.before makes.made (subst (λ (n : Next). IsNumbered n own) (sym begun) halves.1)
          ∙ ap (λ (n : Next). behind_all n own) begun
          ∙ sym (behind_both (state_next (fresh partition)) old own)
          ∙ ap (behind_all (state_next (fresh partition))) (sym theirs)

      mine : IsNumbered (next_of partition) going
      mine = subst (λ (n : Next). IsNumbered n going) stands makes.numbered

      by : (q : ℕ) (test : Bool) → (partition == q) ≡ test → IsNumbered (next_of q) (of_partition q (commits_at partition going))
      by q true same = subst (λ (k : ℕ). IsNumbered (next_of k) (of_partition k (commits_at partition going))) (eqb-true partition q same) (subst (IsNumbered (next_of partition)) (sym (own_at partition going)) mine)
      by q false apart = subst (IsNumbered (next_of q)) (sym (none_at partition q going apart)) tt

      goes : (q : ℕ) → IsNumbered (next_of q) (of_partition q (commits_at partition going))
      goes q = by q (partition == q) refl

  follows_too : (trail : List Settled) (told : List Said) (partition : ℕ) (going : List Entry) → IsInOrder trail → Its trail told partition going → Ours trail told partition going
  follows_too trail told partition going order follows = gate_follows rules made latest trail told partition going order follows

  -- ---- all the way

  told_too : {trail : List Settled} {told : List Said} {lines : List ℕ} → SaidSoFar Its (Answers rules) trail told lines → IsInOrder trail × SaidSoFar Ours (Answers rules) trail told lines
  told_too silent = (order_first, silent)
  told_too (settles {trail} {told} before partition at going may) = let b = told_too before in (order_more trail told partition at going b.0 may, settles b.1 partition at going (follows_too trail told partition going b.0 may))
  told_too (says before one line may) = let b = told_too before in (b.0, says b.1 one line may)

  stands_too : (o : Origin) (steps : List Step) (trail : List Settled) (told : List Said) (part : List ℕ) → StandsWith Its (Answers rules) o steps trail told part → StandsWith Ours (Answers rules) o steps trail told part
  stands_too o steps trail told part stands =
      let b = told_too stands.rightly in
      record {
        lines = stands.lines;
        rightly = b.1;
        spoken = stands.spoken;
        images = λ partition below image leaves. elim (stands.images partition below image leaves) [
          | inl keeps ↦ inl keeps
          | inr next ↦ inr (record { going = next.going; follows = follows_too trail told partition next.going b.0 next.follows; gate = next.gate; keeps = next.keeps })
        ];
        others = stands.others;
      }

  speaks_too : (trail : List Settled) (told : List Said) (steps : List Step) (part : List ℕ) → SaysNext Its (Answers rules) trail told steps part → SaysNext Ours (Answers rules) trail told steps part
  speaks_too trail told steps part says_next = record { speaking = says_next.speaking; one = says_next.one; line = says_next.line; may = says_next.may; front = says_next.front }

  pub every_moment : (o : Origin) (now : List Step) (trail : List Settled) → AtEveryMoment Its (Answers rules) o now trail → AtEveryMoment Ours (Answers rules) o now trail
  every_moment o now trail every moment from to =
      let s = every moment from to in
      record {
        told = s.told;
        part = s.part;
        stands = stands_too o _ _ s.told s.part s.stands;
        speaking = elim s.speaking [
          | inl none ↦ inl none
          | inr next ↦ inr (speaks_too _ s.told _ s.part next)
        ];
      }
