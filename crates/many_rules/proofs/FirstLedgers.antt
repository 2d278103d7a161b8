-- What others see of each partition when a call begins.
use Rattle.std.proofs.Common.{◌≡◌, inl, inr, ◌<◌, ◌≤◌, ◌==◌, ℕ, ◌+◌, ◌-◌, Bool, false, cond, List, [], ◌∷◌, ◌++◌, drop, Some, None, refl, sym, ap, subst, ◌∙◌, append-nil, arith}
use Rattle.std.specs.Prelude.{option_map}
use Rattle.std.specs.List.{All, Contains, slice_get}
use Rattle.std.proofs.lemmas.Bool.{cases_lt, le-ltb}
use Rattle.std.proofs.lemmas.List.Elements.{All-head, All-tail}
use Rattle.std.proofs.lemmas.List.Concat.{flat_map-cons}
use Rattle.std.proofs.lemmas.Option.{slice_get-map}
use Rattle.commit_gate.proofs.Going.{all_front, all_back}
use Rattle.commit_gate.specs.Ledgers.{Ledger, IsKnown}
use Rattle.dura_model.proofs.EntriesSend.{entries_send}
use Rattle.dura_model.specs.Partition.{nobody, fresh}
use Rattle.dura_model.specs.Sends.{readers_in, IsOfOthers, Sends}
use Rattle.dura_value.specs.Items.{Identity, Item, Entry, took, got, ran, ended, fired, trim}
use Rattle.gated_store.specs.Kept.{AreRecovered}
use Rattle.log_items.specs.Entries.{items_in, incarnations_in, identity_at}
use Rattle.log_items.specs.Readings.{with_reader, readers_after, readers_behind}
use Rattle.many_logs.proofs.Frames.{of_none}
use Rattle.many_logs.proofs.Names.{order_of}
use Rattle.many_logs.proofs.Own.{own_chain}
use Rattle.many_logs.specs.Labels.{AreNumbered, state_next}
use Rattle.many_logs.specs.Names.{identities_in}
use Rattle.many_logs.specs.Placing.{states_after, of_partition, AllBelow, first_of, message_at}
use Rattle.many_rules.proofs.Meeting.{first_drop, numbered_at, own_among, slice_of}
use Rattle.many_rules.specs.Ledgers.{ledger_of, ledgers}
use Rattle.many_rules.specs.Local.{in_turn, ledger_is, outside}
use Rattle.many_rules.specs.Rules.{Rules}

-- ---- who took in the last messages

-- items of others leave it to the streams from past the count
module _ (count partition source : ℕ) (past : count ≤ source) where
  reader_stays : (readers : ℕ → Identity) (from : ℕ) (reader : Identity) → from < count → with_reader readers from reader source ≡ readers source
  reader_stays readers from reader low = let apart : (from == source) ≡ false = grind (arith, low, past) in ap (λ (b : Bool). cond b reader (readers source)) apart

  items_leave : (reader : Identity) (items : List Item) (readers : ℕ → Identity) → All (IsOfOthers count partition) items → readers_after reader readers items source ≡ readers source
  items_leave reader [] readers all = refl
  items_leave reader (got from number message ∷ items) readers all =
      items_leave reader items (with_reader readers from.partition reader) (All-tail (IsOfOthers count partition) (got from number message) items all)
      ∙ reader_stays readers from.partition reader (All-head (IsOfOthers count partition) (got from number message) items all).below
  items_leave reader (trim other number ∷ items) readers all = items_leave reader items readers (All-tail (IsOfOthers count partition) (trim other number) items all)
  items_leave reader (took message ∷ items) readers all = items_leave reader items readers (All-tail (IsOfOthers count partition) (took message) items all)
  items_leave reader (ran from to stamp ∷ items) readers all = items_leave reader items readers (All-tail (IsOfOthers count partition) (ran from to stamp) items all)
  items_leave reader (ended id task outcome ∷ items) readers all = items_leave reader items readers (All-tail (IsOfOthers count partition) (ended id task outcome) items all)
  items_leave reader (fired id task stamp ∷ items) readers all = items_leave reader items readers (All-tail (IsOfOthers count partition) (fired id task stamp) items all)

  entries_leave : (entries : List Entry) (readers : ℕ → Identity) → All (IsOfOthers count partition) (items_in entries) → readers_behind partition readers entries source ≡ readers source
  entries_leave [] readers all = refl
  entries_leave (entry ∷ entries) readers all =
      let split : All (IsOfOthers count partition) (entry.items ++ items_in entries) = subst (All (IsOfOthers count partition)) (flat_map-cons (λ (e : Entry). e.items) entry entries) all in
      entries_leave entries (readers_after (identity_at partition entry) readers entry.items) (all_back (IsOfOthers count partition) entry.items (items_in entries) split)
      ∙ items_leave (identity_at partition entry) entry.items readers (all_front (IsOfOthers count partition) entry.items (items_in entries) split)

-- ---- at the beginning of a call

module _ (rules : Rules) where
  pub begins_with : (partition : ℕ) → partition < rules.count → ledgers rules partition [] ≡ ledger_of (of_partition partition rules.recovered) (rules.begin partition)
  begins_with partition below = ledger_is rules partition [] (rules.begin partition) below refl ∙ ap (λ (l : List Entry). ledger_of l (rules.begin partition)) (append-nil (of_partition partition rules.recovered))

  module _ (made : states_after rules.flows rules.count fresh rules.recovered ≡ Some rules.begin) (numbered : AreNumbered fresh rules.recovered) where
    pub none_read_past : (partition source : ℕ) → partition < rules.count → rules.count ≤ source → ((rules.begin partition).inboxes source).reader ≡ nobody
    none_read_past partition source below past =
        let list = of_partition partition rules.recovered in
        let turn = in_turn (state_next (fresh partition)) list (numbered partition) in
        let chain = own_chain rules.flows rules.count rules.recovered fresh rules.begin partition made in
        let s : Sends rules.count partition (fresh partition) list (rules.begin partition) = entries_send rules.flows rules.count partition below (fresh partition) (rules.begin partition) list refl turn chain in
        ap (λ (f : ℕ → Identity). f source) s.readers ∙ entries_leave rules.count partition source past list (readers_in (fresh partition)) s.inside

    module _ (below : AllBelow rules.count rules.recovered) where
      -- an entry of the order is known where its partition's ledger begins
      known_first : (e : Identity) → Contains (identities_in rules.recovered) e → IsKnown (ledgers rules e.partition []) e
      known_first e (k, low, at) =
          let (i, entry, there, is_e) = own_among rules.recovered e k (slice_of (identities_in rules.recovered) k e low at) in
          let list = of_partition e.partition rules.recovered in
          let place : entry.position ≡ 0 + i = numbered_at (state_next (fresh e.partition)) list i entry (numbered e.partition) there in
          let position : e.position ≡ i = let same = ap (λ (x : Identity). x.position) is_e in omega (arith, place, same) in
          let got_it : slice_get (incarnations_in list) i ≡ Some entry.incarnation = slice_get-map (λ (x : Entry). x.incarnation) list i ∙ ap (option_map (λ (x : Entry). x.incarnation)) there in
          let known : slice_get (incarnations_in list) e.position ≡ Some e.incarnation = ap (slice_get (incarnations_in list)) position ∙ got_it ∙ ap (λ (x : Identity). Some x.incarnation) is_e in
          elim (cases_lt e.partition rules.count) [
            | inl inside ↦ subst (λ (l : Ledger). IsKnown l e) (sym (begins_with e.partition inside)) known
            | inr past ↦ absurd (let none : slice_get {X = Entry} [] i ≡ Some entry = ap (λ (l : List Entry). slice_get l i) (sym (of_none rules.count e.partition rules.recovered below past)) ∙ there in cc none)
          ]

      pub streams_known : AreRecovered (ledgers rules)
      streams_known partition target posted there = elim (cases_lt partition rules.count) [
        | inl inside ↦
            let box = (rules.begin partition).outboxes target in
            let (k, low, at) = subst (λ (l : Ledger). Contains (l.boxes target).messages posted) (begins_with partition inside) there in
            let number = box.first + k in
            let place : number - box.first ≡ k = omega arith in
            let begun : box.first ≤ number = omega arith in
            let found : message_at box number ≡ Some posted =
            ap (λ (b : Bool). cond b None (first_of (drop (number - box.first) box.messages))) (le-ltb number box.first begun) ∙ ap (λ (n : ℕ). first_of (drop n box.messages)) place ∙ first_drop box.messages k posted (slice_of box.messages k posted low at) in
            known_first posted.entry ((order_of rules.flows rules.count rules.recovered rules.begin numbered made).senders partition target number posted found)
        | inr past ↦ absurd (let (k, low, at) = subst (λ (l : Ledger). Contains (l.boxes target).messages posted) (outside rules partition [] past) there in omega (arith, low))
      ]
