-- What was said was answered, and stays so.
use Rattle.std.proofs.Common.{◌≡◌, ◌∙◌, ◌<◌, ◌+◌, ℕ, Bool, true, false, cond, List, [], ◌∷◌, ◌++◌, length, nat_lt, Some, refl, sym, ap, subst, arith}
use Rattle.std.specs.Prelude.{is_some, bytes_eq}
use Rattle.std.specs.List.{filter}
use Rattle.std.proofs.lemmas.Bool.{ltb-false, ltb-true}
use Rattle.std.proofs.lemmas.List.{length-append}
use Rattle.std.proofs.lemmas.List.Elements.{filter-append}
use Rattle.dura_model.specs.Partition.{Partition}
use Rattle.dura_value.proofs.Basics.{some_same}
use Rattle.dura_value.proofs.Ids.{same_bytes}
use Rattle.dura_value.specs.Ids.{client, home}
use Rattle.dura_value.specs.Items.{Entry}
use Rattle.hub_store.specs.Moments.{SaidSoFar}
use Rattle.hub_store.specs.Moments.SaidSoFar.{silent, settles, says}
use Rattle.hub_store.specs.Trail.{Settled, Said, settling}
use Rattle.many_logs.proofs.Frames.{put_apart}
use Rattle.many_logs.proofs.Own.{own_chain}
use Rattle.many_logs.specs.Placing.{Commit, states_after, of_partition}
use Rattle.many_rules.specs.Appended.{puts_both, pairs_both}
use Rattle.many_rules.specs.Rules.{Rules, Answers, rules_at, commits_of, pairs_of}
use Rattle.request_reader.specs.Line.{Request}
use Rattle.run_laws.proofs.Requests.{requests_stay}
use Rattle.run_rules.specs.Rules.{Told, count_told, request_at}

-- one more was said
count_on : (told : List Said) (one : Said) (name : List ℕ) → count_told (pairs_of (told ++ one ∷ [])) name ≡ count_told (pairs_of told) name + cond (bytes_eq one.client name) 1 0
count_on told one name =
    let mine = λ (pair : List ℕ × ℕ). bytes_eq pair.0 name in
    ap (λ (l : Told). length (filter mine l)) (pairs_both told (one ∷ []))
    ∙ ap length (filter-append mine (pairs_of told) (pairs_of (one ∷ [])))
    ∙ length-append (filter mine (pairs_of told)) (filter mine (pairs_of (one ∷ [])))
    ∙ ap (λ (k : ℕ). count_told (pairs_of told) name + k) (counted (bytes_eq one.client name))
  where
    counted : (b : Bool) → length {A = List ℕ × ℕ} (cond b ((one.client, one.number) ∷ []) []) ≡ cond b 1 0
    counted true = refl
    counted false = refl

module _ (rules : Rules) where
  -- whether a client's request has its answer, as its home has it
  abbrev pub has_at : (ℕ → Partition) → List ℕ → ℕ → Bool
  has_at states name number = is_some ((states (home rules.count (client name))).answers (client name) number)

  -- an answer stays, whatever is settled
  pub stays : (run : List Commit) (before later : ℕ → Partition) → states_after rules.flows rules.count before run ≡ Some later → (name : List ℕ) (number : ℕ) → has_at before name number ≡ true → has_at later name number ≡ true
  stays run before later made name number is =
      let place = home rules.count (client name) in
      (requests_stay rules.flows rules.count (before place) (later place) (of_partition place run) (own_chain rules.flows rules.count run before later place made)).answered (client name) number is

  module _ (MayFollow : List Settled → List Said → ℕ → List Entry → Type 0) (serves : rules.serves ≡ true) where
    -- each request that was said has its answer by what was settled
    pub told_answered : {trail : List Settled} {told : List Said} {lines : List ℕ} → SaidSoFar MayFollow (Answers rules) trail told lines → (states : ℕ → Partition)
        → states_after rules.flows rules.count rules.begin (commits_of trail) ≡ Some states → (name : List ℕ) (place : ℕ) (r : Request) → place < count_told (pairs_of told) name → request_at (rules_at rules 0) name place ≡ Some r
        → has_at states name r.number ≡ true
    told_answered silent states made name place r low at = absurd (omega (arith, low))
    told_answered (settles {trail} {told} before partition moment going follows) states made name place r low at =
        let frame = settling partition moment going in
        let split : states_after rules.flows rules.count rules.begin (commits_of trail ++ commits_of frame) ≡ Some states = ap (states_after rules.flows rules.count rules.begin) (sym (puts_both trail frame)) ∙ made in
        let both = put_apart rules.flows rules.count rules.begin states (commits_of trail) (commits_of frame) split in
        stays (commits_of frame) both.0 states both.2 name r.number (told_answered before both.0 both.1 name place r low at)
    told_answered (says {trail} {told} before one line may) states made name place r low at =
        by (λ early. told_answered before states made name place r early at) (bytes_eq one.client name) refl (nat_lt place (count_told (pairs_of told) name)) refl
      where
        by : (place < count_told (pairs_of told) name → has_at states name r.number ≡ true) → (mine : Bool) → bytes_eq one.client name ≡ mine → (early : Bool) → nat_lt place (count_told (pairs_of told) name) ≡ early
            → has_at states name r.number ≡ true
        by sooner mine own true early = sooner (ltb-true place (count_told (pairs_of told) name) early)
        by sooner false own false early =
            let counted : count_told (pairs_of (told ++ one ∷ [])) name ≡ count_told (pairs_of told) name + 0 = count_on told one name ∙ ap (λ (b : Bool). count_told (pairs_of told) name + cond b 1 0) own in
            let high = ltb-false place (count_told (pairs_of told) name) early in
            absurd (omega (arith, counted, high, low))
        by sooner true own false early =
            let counted : count_told (pairs_of (told ++ one ∷ [])) name ≡ count_told (pairs_of told) name + 1 = count_on told one name ∙ ap (λ (b : Bool). count_told (pairs_of told) name + cond b 1 0) own in
            let high = ltb-false place (count_told (pairs_of told) name) early in
            let place_is : place ≡ count_told (pairs_of told) name = omega (arith, counted, high, low) in
            let name_is : one.client ≡ name = same_bytes one.client name own in
            let next = may.next serves in
            let there : request_at (rules_at rules 0) name (count_told (pairs_of told) name) ≡ Some next.request =
            subst (λ (n : List ℕ). request_at (rules_at rules 0) n (count_told (pairs_of told) n) ≡ Some next.request) name_is next.asked in
            let request_is : r ≡ next.request = some_same (sym at ∙ ap (request_at (rules_at rules 0) name) place_is ∙ there) in
            let states_are : may.states ≡ states = some_same (sym may.made ∙ made) in
            let number_is : one.number ≡ r.number = sym next.number_is ∙ ap (λ (x : Request). x.number) (sym request_is) in
            let answered : has_at may.states one.client one.number ≡ true = ap is_some may.has in
            subst (λ (n : ℕ). has_at states name n ≡ true) number_is
            (subst (λ (n : List ℕ). has_at states n one.number ≡ true) name_is (subst (λ (s : ℕ → Partition). has_at s one.client one.number ≡ true) states_are answered))
