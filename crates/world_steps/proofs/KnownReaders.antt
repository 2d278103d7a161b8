-- What is known of reads names entries that are known: who took in the last message of a stream was recovered or is settled.
use Rattle.std.proofs.Common.{◌≡◌, ◌<◌, ◌∙◌, inl, inr, ℕ, zero, suc, ◌+◌, List, [], ◌∷◌, ◌++◌, Some, refl, sym, ap, subst, arith, slice_get}
use Rattle.std.specs.List.{Contains}
use Rattle.std.specs.Option.{option_map}
use Rattle.std.proofs.lemmas.List.Elements.{Contains-append_cases, Contains-push_cases}
use Rattle.std.proofs.lemmas.Option.{slice_get-map, slice_get_within}
use Rattle.cell_frames.proofs.Frames.{stands_behind}
use Rattle.cell_frames.specs.Joined.{view_of}
use Rattle.commit_gate.specs.Ledgers as plain
use Rattle.commit_gate.specs.Ledgers.{IsKnown}
use Rattle.commit_gate.specs.Marking.{read_at, reads_to, all_reads}
use Rattle.commit_gate.specs.Views.{readers_in, ledger_of}
use Rattle.commit_gate.specs.declared.ledger.Ledger.{Ledger}
use Rattle.dura_model.proofs.EntriesSend.{entries_send}
use Rattle.dura_model.specs.Partition.{fresh}
use Rattle.dura_value.specs.Items.{Identity, Entry}
use Rattle.gated_store.specs.Kept.{IsKept}
use Rattle.gated_store.specs.declared.local.Gated as gated_types
use Rattle.gated_store.specs.declared.store.GatedStore.{GatedStore}
use Rattle.hub_store.specs.Trail.{Settled, of_part}
use Rattle.hub_store.specs.declared.start.Start as starts
use Rattle.log_items.specs.Entries.{incarnations_in, AreInTurn}
use Rattle.log_items.specs.Readings.{readers_behind}
use Rattle.many_logs.proofs.Frames.{of_both, put_then}
use Rattle.many_logs.proofs.Names.{order_of}
use Rattle.many_logs.proofs.Own.{own_chain}
use Rattle.many_logs.specs.Labels.{AreNumbered, state_next}
use Rattle.many_logs.specs.Names.{identities_in}
use Rattle.many_logs.specs.Placing.{states_after, of_partition, AllBelow}
use Rattle.many_rules.proofs.GateMoments.{goes_behind}
use Rattle.many_rules.proofs.Meeting.{numbered_at, own_among, slice_of}
use Rattle.many_rules.specs.Appended.{puts_part}
use Rattle.many_rules.specs.Ledgers.{ledgers, readers}
use Rattle.many_rules.specs.Local.{ledger_is, in_turn}
use Rattle.many_rules.specs.Makes.{Makes}
use Rattle.many_rules.specs.Rules.{Rules, commits_of}
use Rattle.part_items.proofs.Behind.{numbered_both}
use Rattle.part_items.specs.Numbered.{Next, IsNumbered}
use Rattle.site_model.specs.declared.site.Site as sites
use Rattle.spec_tracker.specs.declared.marks.Marks.{Marks}
use Rattle.spec_tracker.specs.declared.marks.Read.{Read}
use Rattle.trail_states.proofs.States.{makes_states}
use Rattle.trail_states.specs.HaveMade.{HaveMade}

-- ---- each read that is told is of a ledger

reads_to_hold : (P : Read → Type 0) (reader : ℕ) (ledger : Ledger) (count : ℕ) → ((source : ℕ) → source < count → P (read_at reader ledger source)) → (read : Read) → Contains (reads_to reader ledger count) read → P read
reads_to_hold P reader ledger zero all read inside = let none : inside.0 < 0 = inside.1 in absurd (omega arith)
reads_to_hold P reader ledger (suc count) all read inside = elim (Contains-push_cases (reads_to reader ledger count) (read_at reader ledger count) read inside) [
  | inl before ↦ reads_to_hold P reader ledger count (λ source low. all source (omega (arith, low))) read before
  | inr last ↦ subst P last (all count (omega arith))
]

pub reads_hold : (P : Read → Type 0) (count first : ℕ) (list : List Ledger) → ((k : ℕ) (ledger : Ledger) (source : ℕ) → slice_get list k ≡ Some ledger → source < count → P (read_at (first + k) ledger source)) → (read : Read) → Contains (all_reads count first list) read → P read
reads_hold P count first [] all read inside = let none : inside.0 < 0 = inside.1 in absurd (omega arith)
reads_hold P count first (ledger ∷ list) all read inside = elim (Contains-append_cases (reads_to first ledger count) (all_reads count (first + 1) list) read inside) [
  | inl here ↦ reads_to_hold P first ledger count (λ source low. let e : first + 0 ≡ first = omega arith in subst (λ (n : ℕ). P (read_at n ledger source)) e (all 0 ledger source refl low)) read here
  | inr there ↦ reads_hold P count (first + 1) list (λ k other source is low. let e : first + suc k ≡ (first + 1) + k = omega arith in subst (λ (n : ℕ). P (read_at n other source)) e (all (suc k) other source is low)) read there
]

-- ---- and names one who is known

-- where a stream was read, its reader is known
abbrev Tells : Rules → List Settled → Read → Type 0
Tells rules trail read = 0 < read.next → IsKnown (ledgers rules read.reader (of_part read.reader trail)) (record { partition = read.reader; incarnation = read.inc; position = read.pos })

module _ (rules : Rules) (made : states_after rules.flows rules.count fresh rules.recovered ≡ Some rules.begin) (trail : List Settled) (have : HaveMade rules trail) (p : ℕ) (below : p < rules.count) where
  -- who took in the last message of a stream, by the state that was made
  reader_known : (source : ℕ) → 0 < ((have.states p).inboxes source).next → (e : Identity) → e ≡ ((have.states p).inboxes source).reader → IsKnown (ledgers rules p (of_part p trail)) e
  reader_known source some e is =
      let whole = rules.recovered ++ commits_of trail in
      let all : states_after rules.flows rules.count fresh (rules.recovered ++ commits_of trail) ≡ Some have.states = put_then rules.flows rules.count fresh rules.begin have.states rules.recovered (commits_of trail) made have.made in
      let there = (order_of rules.flows rules.count (rules.recovered ++ commits_of trail) have.states have.numbered all).readers p source some in
      let named : Contains (identities_in (rules.recovered ++ commits_of trail)) e = subst (Contains (identities_in (rules.recovered ++ commits_of trail))) (sym is) there in
      let own = own_among (rules.recovered ++ commits_of trail) e named.0 (slice_of (identities_in (rules.recovered ++ commits_of trail)) named.0 e named.1 named.2) in
      let here : e.partition ≡ p = ap (λ (i : Identity). i.partition) is ∙ ((have.shown.each p below).inboxes.earlier source some).here in
      let its : of_partition p (rules.recovered ++ commits_of trail) ≡ of_partition p rules.recovered ++ of_part p trail = of_both p rules.recovered (commits_of trail) ∙ ap (λ (l : List Entry). of_partition p rules.recovered ++ l) (puts_part p trail) in
      let at : slice_get (of_partition p rules.recovered ++ of_part p trail) own.0 ≡ Some own.1 = subst (λ (l : List Entry). slice_get l own.0 ≡ Some own.1) its (subst (λ (k : ℕ). slice_get (of_partition k (rules.recovered ++ commits_of trail)) own.0 ≡ Some own.1) here own.2) in
      let numbered : IsNumbered (state_next (fresh p)) (of_partition p rules.recovered ++ of_part p trail) = subst (IsNumbered (state_next (fresh p))) its (have.numbered p) in
      let position = numbered_at (state_next (fresh p)) (of_partition p rules.recovered ++ of_part p trail) own.0 own.1 numbered at in
      let same : own.1.position ≡ e.position = ap (λ (i : Identity). i.position) own.3 in
      let place : own.0 ≡ e.position = omega (arith, position, same) in
      let found : slice_get (incarnations_in (of_partition p rules.recovered ++ of_part p trail)) e.position ≡ Some e.incarnation =
      slice_get-map (λ (entry : Entry). entry.incarnation) (of_partition p rules.recovered ++ of_part p trail) e.position
      ∙ ap (option_map (λ (entry : Entry). entry.incarnation)) (subst (λ (k : ℕ). slice_get (of_partition p rules.recovered ++ of_part p trail) k ≡ Some own.1) place at)
      ∙ ap (λ (i : Identity). Some i.incarnation) own.3 in
      subst (λ (l : plain.Ledger). IsKnown l e) (sym (ledger_is rules p (of_part p trail) (have.states p) below (have.each p below))) found

  -- the settled entries of the partition stand where its log went on
  in_turn_there : AreInTurn (rules.begin p).position (of_part p trail)
  in_turn_there =
      let its : of_partition p (rules.recovered ++ commits_of trail) ≡ of_partition p rules.recovered ++ of_part p trail = of_both p rules.recovered (commits_of trail) ∙ ap (λ (l : List Entry). of_partition p rules.recovered ++ l) (puts_part p trail) in
      let both = (numbered_both (state_next (fresh p)) (of_partition p rules.recovered) (of_part p trail)).0 (subst (IsNumbered (state_next (fresh p))) its (have.numbered p)) in
      let next = goes_behind rules.flows rules.count (of_partition p rules.recovered) (fresh p) (rules.begin p) (own_chain rules.flows rules.count rules.recovered fresh rules.begin p made) both.0 in
      in_turn (state_next (rules.begin p)) (of_part p trail) (subst (λ (n : Next). IsNumbered n (of_part p trail)) (sym next) both.1)

  -- what its ledger tells of a stream
  told_by : (ledger : Ledger) → ledger_of ledger ≡ ledgers rules p (of_part p trail) → readers_in ledger ≡ readers_behind p (readers rules p) (of_part p trail) → (source : ℕ) → Tells rules trail (read_at p ledger source)
  told_by ledger settled read source some =
      let shows = ledger_is rules p (of_part p trail) (have.states p) below (have.each p below) in
      let next : (ledger_of ledger).nexts source ≡ ((have.states p).inboxes source).next = ap (λ (l : plain.Ledger). l.nexts source) (settled ∙ shows) in
      let number : (rules.begin p).number ≡ p = (stands_behind rules.flows rules.count (of_partition p rules.recovered) (fresh p) (rules.begin p) (own_chain rules.flows rules.count rules.recovered fresh rules.begin p made)).number in
      let sends = entries_send rules.flows rules.count p below (rules.begin p) (have.states p) (of_part p trail) number in_turn_there (have.each p below) in
      let reader : readers_in ledger source ≡ ((have.states p).inboxes source).reader = ap (λ (f : ℕ → Identity). f source) (read ∙ sym sends.readers) in
      let taken : 0 < ((have.states p).inboxes source).next = omega (arith, next, some) in
      let here : ((have.states p).inboxes source).reader.partition ≡ p = ((have.shown.each p below).inboxes.earlier source taken).here in
      reader_known source taken (record { partition = p; incarnation = (readers_in ledger source).incarnation; position = (readers_in ledger source).position })
      (λ i. record { partition = sym here i; incarnation = (ap (λ (r : Identity). r.incarnation) reader) i; position = (ap (λ (r : Identity). r.position) reader) i })

-- so what is told of all streams names entries that are known
pub readers_known : {V L : Type 0} {G : sites.Ghosts V} {K : starts.Ghosts (gated_types.Gated L)} (rules : Rules) (count : ℕ) (store : GatedStore V L G K) (marks : Marks)
    → states_after rules.flows rules.count fresh rules.recovered ≡ Some rules.begin → AllBelow rules.count rules.recovered → AreNumbered fresh rules.recovered
    → IsKept count (ledgers rules) (readers rules) (Makes rules) store → rules.count ≡ count → marks.reads.items ≡ all_reads count 0 store.ledgers.items
    → (read : Read) → Contains marks.reads.items read → 0 < read.next → IsKnown (ledgers rules read.reader (of_part read.reader (view_of store).trail)) (record { partition = read.reader; incarnation = read.inc; position = read.pos })
readers_known rules count store marks made low first kept of_count reads read inside some =
    reads_hold (Tells rules (view_of store).trail) count 0 store.ledgers.items
    (λ k ledger source is here.
    let fits = kept.fits.each k ledger is in
    let below : k < rules.count = let low_k = slice_get_within store.ledgers.items k ledger is in let many = kept.fits.many in omega (arith, low_k, many, of_count) in
    let e : k ≡ 0 + k = omega arith in
    subst (λ (n : ℕ). Tells rules (view_of store).trail (read_at n ledger source)) e
    (told_by rules made (view_of store).trail (makes_states rules made low first (view_of store).trail kept.fits.grown) k below ledger fits.settled fits.read source))
    read (subst (λ (rs : List Read). Contains rs read) reads inside) some
