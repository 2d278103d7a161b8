-- A frame that its own state makes, and that the ledgers of the others meet, may follow by the rules.
use Rattle.std.proofs.Common.{◌≡◌, ◌⊎◌, inl, inr, ◌<◌, ◌≤◌, ◌==◌, ◌&&◌, ℕ, zero, suc, ◌+◌, ◌-◌, Bool, true, false, cond, List, [], ◌∷◌, ◌++◌, length, drop, get_or, Some, None, Ok, refl, sym, ap, subst, ◌∙◌, arith}
use Rattle.std.specs.List.{All, Contains, slice_get}
use Rattle.std.proofs.Math.Dec.{ltb}
use Rattle.std.proofs.lemmas.Bool.{lt-ltb, le-ltb, le-leb, ltb-true, ltb-false, eqb-true}
use Rattle.std.proofs.lemmas.List.Elements.{All-nil, All-cons, All-head, All-tail, Contains-append_right}
use Rattle.std.proofs.lemmas.List.Concat.{flat_map-cons}
use Rattle.std.proofs.lemmas.Option.{slice_get_within, slice_get-get_or}
use Rattle.commit_gate.proofs.Going.{all_front, all_back}
use Rattle.commit_gate.proofs.SameMessages.{posted_decides}
use Rattle.commit_gate.specs.Ledgers.{Ledger, IsKnown}
use Rattle.commit_gate.specs.Met.{HasPosted, IsMet}
use Rattle.commit_gate.specs.Views.{no_ledger}
use Rattle.dura_model.proofs.Appending.{both_placed}
use Rattle.dura_model.specs.Entries as alone
use Rattle.dura_model.specs.Partition.{Partition, fresh}
use Rattle.dura_value.specs.Items.{Identity, Item, Entry, Posted, took, got, ran, ended, fired, trim}
use Rattle.dura_value.specs.Messages.{Message}
use Rattle.dura_value.specs.Same.{identity_eq, message_eq}
use Rattle.gated_store.specs.Follows.{ledgers_at, Follows as GateFollows}
use Rattle.hub_store.specs.Trail.{Settled, Said, of_part}
use Rattle.log_items.specs.Entries.{items_in, incarnations_in}
use Rattle.many_logs.proofs.Frames.{of_both, put_then}
use Rattle.many_logs.proofs.Moving.{entry_moves}
use Rattle.many_logs.proofs.Names.{order_of}
use Rattle.many_logs.proofs.Own.{own_chain}
use Rattle.many_logs.specs.Gates.{may_pass, all_pass, frame_passes}
use Rattle.many_logs.specs.Labels.{AreNumbered, state_next}
use Rattle.many_logs.specs.Names.{identity_at, identities_in, AreOf, TrimNamed, TrimsNamed}
use Rattle.many_logs.specs.Placing.{Commit, states_after, of_partition, first_of, message_at, is_of, stands_at}
use Rattle.many_rules.specs.Local.{ledger_is, outside}
use Rattle.many_rules.proofs.Passing.{passes_goes}
use Rattle.many_rules.specs.Appended.{puts_part, names_both}
use Rattle.many_rules.specs.Ledgers.{ledger_of, all_entries, ledgers}
use Rattle.many_rules.specs.Makes.{Makes}
use Rattle.many_rules.specs.Rules.{Rules, commits_of, known_of, HaveRun, Follows}
use Rattle.part_items.specs.Numbered.{Next, behind, IsNumbered}

-- ---- lists

pub first_drop : (xs : List Posted) (n : ℕ) (x : Posted) → slice_get xs n ≡ Some x → first_of (drop n xs) ≡ Some x
first_drop [] n x is = absurd (cc is)
first_drop (y ∷ xs) zero x is = is
first_drop (y ∷ xs) (suc n) x is = first_drop xs n x is

entry_at : (entries : List Entry) (k incarnation : ℕ) → slice_get (incarnations_in entries) k ≡ Some incarnation → (entry : Entry) × (slice_get entries k ≡ Some entry) × (entry.incarnation ≡ incarnation)
entry_at [] k incarnation is = absurd (cc is)
entry_at (entry ∷ entries) zero incarnation is = (entry, refl, cc is)
entry_at (entry ∷ entries) (suc k) incarnation is = entry_at entries k incarnation is

-- numbered entries stand at their positions
pub numbered_at : (next : Next) (entries : List Entry) (i : ℕ) (entry : Entry) → IsNumbered next entries → slice_get entries i ≡ Some entry → entry.position ≡ next.position + i
numbered_at next [] i entry numbered is = absurd (cc is)
numbered_at next (first ∷ entries) zero entry numbered is = let same : first ≡ entry = cc is in let e : first.position ≡ next.position + 0 = omega (arith, numbered.0) in subst (λ (x : Entry). x.position ≡ next.position + 0) same e
numbered_at next (first ∷ entries) (suc i) entry numbered is = let rest = numbered_at (behind first) entries i entry numbered.2 is in omega (arith, rest, numbered.0)

-- an entry of a partition among all, and back
among_all : (q : ℕ) (run : List Commit) (i : ℕ) (entry : Entry) → slice_get (of_partition q run) i ≡ Some entry → Contains (identities_in run) (identity_at q entry)
among_all q [] i entry is = absurd (cc is)
among_all q (one ∷ run) i entry is = by (λ j at. among_all q run j entry at) (one.partition == q) refl i is
  where
    Behind : Type 0
    Behind = (j : ℕ) → slice_get (of_partition q run) j ≡ Some entry → Contains (identities_in run) (identity_at q entry)

    by : Behind → (test : Bool) → (one.partition == q) ≡ test → (i : ℕ) → slice_get (cond test (one.entry ∷ of_partition q run) (of_partition q run)) i ≡ Some entry → Contains (identities_in (one ∷ run)) (identity_at q entry)
    by behind true same zero at = let e : one.entry ≡ entry = cc at in (0, omega arith, ap (λ (x : Entry). identity_at one.partition x) e ∙ ap (λ (n : ℕ). identity_at n entry) (eqb-true one.partition q same))
    by behind true same (suc i) at = Contains-append_right (identity_at one.partition one.entry ∷ []) (identities_in run) (identity_at q entry) (behind i at)
    by behind false same i at = Contains-append_right (identity_at one.partition one.entry ∷ []) (identities_in run) (identity_at q entry) (behind i at)

pub own_among : (run : List Commit) (e : Identity) (k : ℕ) → slice_get (identities_in run) k ≡ Some e → (i : ℕ) × (entry : Entry) × (slice_get (of_partition e.partition run) i ≡ Some entry) × (identity_at e.partition entry ≡ e)
own_among [] e k is = absurd (cc is)
own_among (one ∷ run) e zero is =
    let same : identity_at one.partition one.entry ≡ e = cc is in
    let here : one.partition ≡ e.partition = ap (λ (x : Identity). x.partition) same in
    let test : (one.partition == e.partition) ≡ true = grind (arith, here) in
    (0, one.entry, ap (λ (b : Bool). slice_get (cond b (one.entry ∷ of_partition e.partition run) (of_partition e.partition run)) 0) test, ap (λ (n : ℕ). identity_at n one.entry) (sym here) ∙ same)
own_among (one ∷ run) e (suc k) is =
    let rest = own_among run e k is in by (one.partition == e.partition) refl rest
  where
    by : (test : Bool) → (one.partition == e.partition) ≡ test → (i : ℕ) × (entry : Entry) × (slice_get (of_partition e.partition run) i ≡ Some entry) × (identity_at e.partition entry ≡ e)
        → (i : ℕ) × (entry : Entry) × (slice_get (cond test (one.entry ∷ of_partition e.partition run) (of_partition e.partition run)) i ≡ Some entry) × (identity_at e.partition entry ≡ e)
    by true same (i, entry, at, is_e) = (suc i, entry, at, is_e)
    by false same rest = rest

pub below_or : (a b : ℕ) → (a < b) ⊎ (b ≤ a)
below_or a b = by (ltb a b) refl
  where
    by : (test : Bool) → ltb a b ≡ test → (a < b) ⊎ (b ≤ a)
    by true is = inl (ltb-true a b is)
    by false is = inr (ltb-false a b is)

and_both : (a b : Bool) → a ≡ true → b ≡ true → (a && b) ≡ true
and_both a b one other = ap (λ (x : Bool). x && b) one ∙ other

pub slice_of : {X : Type 0} (xs : List X) (i : ℕ) (x : X) → i < length xs → get_or xs i x ≡ x → slice_get xs i ≡ Some x
slice_of xs i x low is = slice_get-get_or xs i x low ∙ ap (λ (y : _). Some y) is

same_identity : (q : ℕ) (entry : Entry) (e : Identity) → q ≡ e.partition → entry.incarnation ≡ e.incarnation → entry.position ≡ e.position → identity_at q entry ≡ e
same_identity q entry e partition incarnation position = λ i. record { partition = partition i; incarnation = incarnation i; position = position i }

-- ---- states

module _ (rules : Rules) (made : states_after rules.flows rules.count fresh rules.recovered ≡ Some rules.begin) where
  -- entries move the position on by one each
  chain_position : (entries : List Entry) (p next : Partition) → alone.placed rules.flows rules.count p entries ≡ Ok next → next.position ≡ p.position + length entries
  chain_position [] p next is = let same : p ≡ next = cc is in let e : p.position ≡ p.position + 0 = omega arith in subst (λ (x : Partition). x.position ≡ p.position + 0) same e
  chain_position (entry ∷ entries) p next is =
      let first = both_placed entry.position (alone.entry_accepted rules.flows rules.count p entry) (λ s. alone.placed rules.flows rules.count s entries) next is in
      let moved = (entry_moves rules.flows rules.count entry p first.0 first.1).position in
      let rest = chain_position entries first.0 next first.2 in
      omega (arith, moved, rest)

  module _ (trail : List Settled) (numbered : AreNumbered fresh (rules.recovered ++ commits_of trail)) (states : ℕ → Partition) (all : states_after rules.flows rules.count rules.begin (commits_of trail) ≡ Some states) where
    abbrev run : List Commit
    run = rules.recovered ++ commits_of trail

    whole : states_after rules.flows rules.count fresh run ≡ Some states
    whole = put_then rules.flows rules.count fresh rules.begin states rules.recovered (commits_of trail) made all

    names : AreOf (identities_in run) states
    names = order_of rules.flows rules.count run states numbered whole

    pub own : (q : ℕ) → alone.placed rules.flows rules.count (rules.begin q) (of_part q trail) ≡ Ok (states q)
    own q = ap (alone.placed rules.flows rules.count (rules.begin q)) (sym (puts_part q trail)) ∙ own_chain rules.flows rules.count (commits_of trail) rules.begin states q all

    shows : (q : ℕ) → q < rules.count → ledgers_at (ledgers rules) trail q ≡ ledger_of (all_entries rules q (of_part q trail)) (states q)
    shows q below = ledger_is rules q (of_part q trail) (states q) below (own q)

    theirs : (q : ℕ) → of_partition q run ≡ all_entries rules q (of_part q trail)
    theirs q = of_both q rules.recovered (commits_of trail) ∙ ap (λ (l : List Entry). of_partition q rules.recovered ++ l) (puts_part q trail)

    -- an entry that its partition's ledger knows is one of all
    known_among : (e : Identity) → IsKnown (ledgers_at (ledgers rules) trail e.partition) e → Contains (identities_in run) e
    known_among e known = elim (below_or e.partition rules.count) [
      | inl below ↦
          let list = all_entries rules e.partition (of_part e.partition trail) in
          let here : slice_get (incarnations_in list) e.position ≡ Some e.incarnation = subst (λ (l : Ledger). IsKnown l e) (shows e.partition below) known in
          let (entry, at, same) = entry_at list e.position e.incarnation here in
          let there : slice_get (of_partition e.partition run) e.position ≡ Some entry = ap (λ (l : List Entry). slice_get l e.position) (theirs e.partition) ∙ at in
          let place : entry.position ≡ 0 + e.position = numbered_at (state_next (fresh e.partition)) (of_partition e.partition run) e.position entry (numbered e.partition) there in
          let is_e : identity_at e.partition entry ≡ e = same_identity e.partition entry e refl same (omega (arith, place)) in
          subst (Contains (identities_in run)) is_e (among_all e.partition run e.position entry there)
      | inr past ↦ absurd (let none : slice_get {X = ℕ} [] e.position ≡ Some e.incarnation = subst (λ (l : Ledger). IsKnown l e) (outside rules e.partition (of_part e.partition trail) past) known in cc none)
    ]

    -- and stands below its state's position
    among_below : (e : Identity) → Contains (identities_in run) e → e.position < (states e.partition).position
    among_below e (k, low, at) =
        let (i, entry, there, is_e) = own_among run e k (slice_of (identities_in run) k e low at) in
        let place : entry.position ≡ 0 + i = numbered_at (state_next (fresh e.partition)) (of_partition e.partition run) i entry (numbered e.partition) there in
        let inside : i < length (of_partition e.partition run) = slice_get_within (of_partition e.partition run) i entry there in
        let long : (states e.partition).position ≡ 0 + length (of_partition e.partition run) =
        chain_position (of_partition e.partition run) (fresh e.partition) (states e.partition) (own_chain rules.flows rules.count run fresh states e.partition whole) in
        let here : entry.position ≡ e.position = ap (λ (x : Identity). x.position) is_e in
        omega (arith, place, inside, long, here)

    -- ---- what the gate compares

    module _ (partition : ℕ) where
      abbrev May : Item → Bool
      May = may_pass states (λ p. (states p).position) (λ p source. ((states p).inboxes source).next) partition

      got_passes : (source : Identity) (number : ℕ) (message : Message) → IsMet (ledgers_at (ledgers rules) trail) partition (got source number message) → May (got source number message) ≡ true
      got_passes source number message met = elim (below_or source.partition rules.count) [
        | inl below ↦
            let posted : Posted = record { entry = source; message = message } in
            let box = (states source.partition).outboxes partition in
            let has : HasPosted box number posted = subst (λ (l : Ledger). HasPosted (l.boxes partition) number posted) (shows source.partition below) met in
            let at : message_at box number ≡ Some posted =
            ap (λ (b : Bool). cond b None (first_of (drop (number - box.first) box.messages))) (le-ltb number box.first has.begun) ∙ first_drop box.messages (number - box.first) posted has.stands in
            let same : (identity_eq posted.entry posted.entry && message_eq posted.message posted.message) ≡ true = (posted_decides posted posted _ refl).1 refl in
            let stands : stands_at box source number message ≡ true = ap (is_of source message) at ∙ same in
            let low : source.position < (states source.partition).position = among_below source (names.senders source.partition partition number posted at) in
            and_both (stands_at box source number message) _ stands (lt-ltb source.position (states source.partition).position low)
        | inr past ↦
            absurd (let has : HasPosted (no_ledger.boxes partition) number (record { entry = source; message = message }) = subst (λ (l : Ledger). HasPosted (l.boxes partition) number (record { entry = source; message = message })) (outside rules source.partition (of_part source.partition trail) past) met in
            let none : slice_get {X = Posted} [] (number - 0) ≡ Some (record { entry = source; message = message }) = has.stands in cc none)
      ]

      trim_passes : (reader : Identity) (number : ℕ) → IsMet (ledgers_at (ledgers rules) trail) partition (trim reader number) → May (trim reader number) ≡ true
      trim_passes reader number met = elim (below_or reader.partition rules.count) [
        | inl below ↦
            let low : number ≤ ((states reader.partition).inboxes partition).next = subst (λ (l : Ledger). number ≤ l.nexts partition) (shows reader.partition below) met.0 in
            le-leb number ((states reader.partition).inboxes partition).next low
        | inr past ↦
            absurd (let none : slice_get {X = ℕ} [] reader.position ≡ Some reader.incarnation = subst (λ (l : Ledger). IsKnown l reader) (outside rules reader.partition (of_part reader.partition trail) past) met.1 in cc none)
      ]

      item_passes : (item : Item) → IsMet (ledgers_at (ledgers rules) trail) partition item → May item ≡ true
      item_passes (got source number message) met = got_passes source number message met
      item_passes (trim reader number) met = trim_passes reader number met
      item_passes (took message) met = refl
      item_passes (ran from to stamp) met = refl
      item_passes (ended id task outcome) met = refl
      item_passes (fired id task stamp) met = refl

      abbrev Met : Item → Type 0
      Met = IsMet (ledgers_at (ledgers rules) trail) partition

      items_pass : (items : List Item) → All Met items → all_pass states (λ p. (states p).position) (λ p source. ((states p).inboxes source).next) partition items ≡ true
      items_pass [] met = refl
      items_pass (item ∷ items) met = and_both (May item) _ (item_passes item (All-head Met item items met)) (items_pass items (All-tail Met item items met))

      frame_passes_too : (going : List Entry) → All Met (items_in going) → frame_passes states (λ p. (states p).position) (λ p source. ((states p).inboxes source).next) partition going ≡ true
      frame_passes_too [] met = refl
      frame_passes_too (entry ∷ going) met =
          let split : All Met (entry.items ++ items_in going) = subst (All Met) (flat_map-cons (λ (e : Entry). e.items) entry going) met in
          and_both (all_pass states (λ p. (states p).position) (λ p source. ((states p).inboxes source).next) partition entry.items) _ (items_pass entry.items (all_front Met entry.items (items_in going) split))
          (frame_passes_too going (all_back Met entry.items (items_in going) split))

      trim_named : (item : Item) → Met item → TrimNamed (known_of rules trail) item
      trim_named (trim reader number) met = subst (λ (l : List Identity). Contains l reader) (names_both rules.recovered (commits_of trail)) (known_among reader met.1)
      trim_named (got source number message) met = tt
      trim_named (took message) met = tt
      trim_named (ran from to stamp) met = tt
      trim_named (ended id task outcome) met = tt
      trim_named (fired id task stamp) met = tt

      trims_in : (items : List Item) → All Met items → All (TrimNamed (known_of rules trail)) items
      trims_in [] met = All-nil (TrimNamed (known_of rules trail))
      trims_in (item ∷ items) met = All-cons (TrimNamed (known_of rules trail)) item items (trim_named item (All-head Met item items met)) (trims_in items (All-tail Met item items met))

      trims_named : (going : List Entry) → All Met (items_in going) → TrimsNamed (known_of rules trail) going
      trims_named [] met = All-nil (λ (e : Entry). All (TrimNamed (known_of rules trail)) e.items)
      trims_named (entry ∷ going) met =
          let split : All Met (entry.items ++ items_in going) = subst (All Met) (flat_map-cons (λ (e : Entry). e.items) entry going) met in
          All-cons (λ (e : Entry). All (TrimNamed (known_of rules trail)) e.items) entry going (trims_in entry.items (all_front Met entry.items (items_in going) split)) (trims_named going (all_back Met entry.items (items_in going) split))

  -- a frame that the gate lets pass may follow
  pub gate_follows : (latest : ℕ) (trail : List Settled) (told : List Said) (partition : ℕ) (going : List Entry) → AreNumbered fresh (rules.recovered ++ commits_of trail) → GateFollows (ledgers rules) (Makes rules) latest trail told partition going → Follows rules latest trail told partition going
  gate_follows latest trail told partition going numbered follows = record {
    below = follows.makes.below;
    ours = follows.makes.ours;
    goes = λ states all.
        let m = follows.makes in
        let same : m.before ≡ states partition = let both : Ok m.before ≡ Ok (states partition) = sym m.made ∙ own trail numbered states all partition in cc both in
        passes_goes rules made trail partition going numbered (record {
          settled = states;
          chains = own trail numbered states all;
          ahead = states;
          under_way = λ other. [];
          memory = λ other. refl;
          after = m.after;
          made = subst (λ (s : Partition). alone.placed rules.flows rules.count s going ≡ Ok m.after) same m.accepted;
          given = subst (λ (s : Partition). alone.AllGiven rules.flows rules.count s going) same m.given;
          pending = subst (λ (s : Partition). HaveRun rules s going) same m.pending;
          passes = frame_passes_too trail numbered states all partition going follows.met;
          trims = trims_named trail numbered states all partition going follows.met;
        }) states all;
  }
