-- What is known of the logs is what the store's view has.
use Rattle.std.proofs.Common.{◌≡◌, ◌<◌, ◌∙◌, inl, inr, false, Bool, ℕ, zero, suc, ◌+◌, ◌==◌, ◌&&◌, cond, List, [], ◌∷◌, ◌++◌, map, length, Option, Some, None, sym, refl, subst, ap, arith, eq-eqb, get_or, append_assoc, length-append, slice_get}
use Rattle.std.specs.List.{Contains, flat_map, range_with_len, find}
use Rattle.std.specs.Option.{option_or, option_map}
use Rattle.std.proofs.lemmas.Bool.{cases_eq, ne_eqb, and_left, and_right, and_from}
use Rattle.std.proofs.lemmas.List.{length-map, map-append, get_or-append-add}
use Rattle.std.proofs.lemmas.List.Folds.{find-append}
use Rattle.std.proofs.lemmas.Option.{slice_get-map, slice_get_within}
use Rattle.commit_gate.specs.Ledgers as plain
use Rattle.commit_gate.specs.Marking.{length_of, read_at, reads_to, all_reads}
use Rattle.commit_gate.specs.Views.{ledger_of, floors_in, floors_of}
use Rattle.commit_gate.specs.declared.ledger.Ledger.{Ledger}
use Rattle.cell_frames.specs.Joined.{read_by, view_of}
use Rattle.dura_value.specs.Items.{Floor}
use Rattle.dura_value.specs.Views.{floor_of}
use Rattle.gated_store.specs.Kept.{IsKept}
use Rattle.gated_store.specs.declared.local.Gated as gated_types
use Rattle.gated_store.specs.declared.store.GatedStore.{GatedStore}
use Rattle.hub_store.specs.Trail.{of_part}
use Rattle.hub_store.specs.declared.start.Start as starts
use Rattle.dura_model.specs.Partition.{fresh}
use Rattle.many_logs.specs.Labels.{AreNumbered}
use Rattle.many_logs.specs.Placing.{states_after, AllBelow}
use Rattle.many_rules.specs.Ledgers.{ledgers, readers}
use Rattle.many_rules.specs.Makes.{Makes}
use Rattle.many_rules.specs.Rules.{Rules}
use Rattle.site_model.specs.declared.site.Site as sites
use Rattle.spec_tracker.specs.Marks.{or_none, is_read_of}
use Rattle.spec_tracker.specs.declared.marks.Marks.{Marks}
use Rattle.spec_tracker.specs.declared.marks.Read.{Read}
use Rattle.world_steps.proofs.KnownReaders.{reads_hold, readers_known}
use Rattle.world_steps.specs.Known.{AreMarksOf}

-- ---- and the first that is told of a stream is of its reader's

abbrev is_of : (reader source other from : ℕ) → Bool
is_of reader source other from = other == reader && from == source

-- none of those of others is
none_from : (reader source other : ℕ) (ledger : Ledger) (count : ℕ) → ((from : ℕ) → from < count → is_of reader source other from ≡ false) → find (is_read_of reader source) (reads_to other ledger count) ≡ None
none_from reader source other ledger zero apart = refl
none_from reader source other ledger (suc count) apart =
    find-append (is_read_of reader source) (reads_to other ledger count) (read_at other ledger count ∷ [])
    ∙ ap (λ (o : Option Read). option_or o (find (is_read_of reader source) (read_at other ledger count ∷ []))) (none_from reader source other ledger count (λ from low. apart from (omega (arith, low))))
    ∙ ap (λ (b : Bool). cond b (Some (read_at other ledger count)) None) (apart count (omega arith))

found_to : (reader source : ℕ) (ledger : Ledger) (count : ℕ) → source < count → find (is_read_of reader source) (reads_to reader ledger count) ≡ Some (read_at reader ledger source)
found_to reader source ledger zero low = absurd (omega (arith, low))
found_to reader source ledger (suc count) low =
    find-append (is_read_of reader source) (reads_to reader ledger count) (read_at reader ledger count ∷ [])
    ∙ elim (cases_eq source count) [
      | inl same ↦
          ap (λ (o : Option Read). option_or o (find (is_read_of reader source) (read_at reader ledger count ∷ [])))
          (none_from reader source reader ledger count (λ from below. and_right (reader == reader) (from == source) (ne_eqb from source (omega (arith, below, same)))))
          ∙ ap (λ (b : Bool). cond b (Some (read_at reader ledger count)) None) (and_from (reader == reader) (count == source) (eq-eqb reader reader refl) (eq-eqb count source (sym same)))
          ∙ ap (λ (n : ℕ). Some (read_at reader ledger n)) (sym same)
      | inr apart ↦ ap (λ (o : Option Read). option_or o (find (is_read_of reader source) (read_at reader ledger count ∷ []))) (found_to reader source ledger count (omega (arith, low, apart)))
    ]

found : (count first k source : ℕ) (list : List Ledger) (ledger : Ledger) → slice_get list k ≡ Some ledger → source < count → find (is_read_of (first + k) source) (all_reads count first list) ≡ Some (read_at (first + k) ledger source)
found count first k source [] ledger is low = absurd (let below : k < 0 = slice_get_within {A = Ledger} [] k ledger is in omega arith)
found count first zero source (here ∷ list) ledger is low =
    let e : first + 0 ≡ first = omega arith in
    let same : here ≡ ledger = cc in
    subst (λ (n : ℕ). find (is_read_of n source) (all_reads count first (here ∷ list)) ≡ Some (read_at n ledger source)) (sym e)
    (find-append (is_read_of first source) (reads_to first here count) (all_reads count (first + 1) list)
    ∙ ap (λ (o : Option Read). option_or o (find (is_read_of first source) (all_reads count (first + 1) list))) (found_to first source here count low)
    ∙ ap (λ (l : Ledger). Some (read_at first l source)) same)
found count first (suc k) source (here ∷ list) ledger is low =
    let e : first + suc k ≡ (first + 1) + k = omega arith in
    subst (λ (n : ℕ). find (is_read_of n source) (all_reads count first (here ∷ list)) ≡ Some (read_at n ledger source)) (sym e)
    (find-append (is_read_of ((first + 1) + k) source) (reads_to first here count) (all_reads count (first + 1) list)
    ∙ ap (λ (o : Option Read). option_or o (find (is_read_of ((first + 1) + k) source) (all_reads count (first + 1) list)))
    (none_from ((first + 1) + k) source first here count (λ from below. and_left (first == ((first + 1) + k)) (from == source) (ne_eqb first ((first + 1) + k) (omega arith))))
    ∙ found count (first + 1) k source list ledger is low)

-- ---- floors, partition by partition

floors_mapped : (list : List Ledger) → map floor_of (flat_map (λ (l : Ledger). l.floors.items) list) ≡ flat_map floors_in list
floors_mapped [] = refl
floors_mapped (ledger ∷ list) = map-append floor_of ledger.floors.items (flat_map (λ (l : Ledger). l.floors.items) list) ∙ ap (λ (fs : List Floor). floors_in ledger ++ fs) (floors_mapped list)

floors_by_place : (before list : List Ledger) → flat_map (floors_of (before ++ list)) (range_with_len (length before) (length list)) ≡ flat_map floors_in list
floors_by_place before [] = refl
floors_by_place before (ledger ∷ list) =
    let here : floors_of (before ++ ledger ∷ list) (length before) ≡ floors_in ledger =
    let e : length (map floors_in before) + 0 ≡ length before = omega (arith, length-map before floors_in) in
    ap (λ (l : List (List Floor)). get_or l (length before) []) (map-append floors_in before (ledger ∷ list))
    ∙ ap (λ (n : ℕ). get_or (map floors_in before ++ map floors_in (ledger ∷ list)) n []) (sym e) ∙ get_or-append-add (map floors_in before) (map floors_in (ledger ∷ list)) 0 [] in
    let e : length (before ++ ledger ∷ []) ≡ length before + 1 = simp length-append in
    let rest : flat_map (floors_of (before ++ ledger ∷ list)) (range_with_len (length before + 1) (length list)) ≡ flat_map floors_in list =
    subst (λ (l : List Ledger). flat_map (floors_of l) (range_with_len (length before + 1) (length list)) ≡ flat_map floors_in list) (append_assoc before (ledger ∷ []) list)
    (subst (λ (n : ℕ). flat_map (floors_of ((before ++ ledger ∷ []) ++ list)) (range_with_len n (length list)) ≡ flat_map floors_in list) e (floors_by_place (before ++ ledger ∷ []) list)) in
    ap (λ (fs : List Floor). fs ++ flat_map (floors_of (before ++ ledger ∷ list)) (range_with_len (length before + 1) (length list))) here ∙ ap (λ (fs : List Floor). floors_in ledger ++ fs) rest

-- ---- the marks of a store

stands : (list : List Ledger) (p : ℕ) → p < length list → (ledger : Ledger) × (slice_get list p ≡ Some ledger)
stands [] p low = absurd (let none : p < 0 = low in omega arith)
stands (ledger ∷ list) zero low = (ledger, refl)
stands (ledger ∷ list) (suc p) low = stands list p (omega (arith, low))

pub known_marks : {V L : Type 0} {G : sites.Ghosts V} {K : starts.Ghosts (gated_types.Gated L)} (rules : Rules) (count : ℕ) (store : GatedStore V L G K) (marks : Marks)
    → IsKept count (ledgers rules) (readers rules) (Makes rules) store → rules.count ≡ count
    → marks.lengths.items ≡ map length_of store.ledgers.items → marks.floors.items ≡ flat_map (λ l. l.floors.items) store.ledgers.items → marks.reads.items ≡ all_reads count 0 store.ledgers.items
    → states_after rules.flows rules.count fresh rules.recovered ≡ Some rules.begin → AllBelow rules.count rules.recovered → AreNumbered fresh rules.recovered → AreMarksOf rules (view_of store) marks
known_marks rules count store marks kept of_count lengths floors reads made low first =
    let list = store.ledgers.items in
    let s = view_of store in
    let many : length list ≡ count = kept.fits.many in
    let at : (p : ℕ) (ledger : Ledger) → slice_get list p ≡ Some ledger → ledger_of ledger ≡ ledgers rules p (of_part p s.trail) = λ p ledger is. (kept.fits.each p ledger is).settled in
    record {
      lengths = λ p low.
          let one = stands list p (omega (arith, low)) in
          ap (λ (xs : List ℕ). or_none (slice_get xs p)) lengths ∙ ap or_none (slice_get-map length_of list p ∙ ap (option_map length_of) one.1) ∙ ap plain.log_length (at p one.0 one.1);
      floors = ap (map floor_of) floors ∙ floors_mapped list ∙ sym (floors_by_place [] list) ∙ ap (λ (n : ℕ). flat_map s.floors (range_with_len 0 n)) (many ∙ sym of_count);
      reads = λ read inside. reads_hold (λ (r : Read). r.next ≡ read_by rules s r.source r.reader) count 0 list
          (λ k ledger source is low.
          let e : k ≡ 0 + k = omega arith in
          subst (λ (n : ℕ). (ledger_of ledger).nexts source ≡ (ledgers rules n (of_part n s.trail)).nexts source) e (ap (λ (l : plain.Ledger). l.nexts source) (at k ledger is)))
          read (subst (λ (rs : List Read). Contains rs read) reads inside);
      readers = readers_known rules count store marks made low first kept of_count reads;
      all = λ reader source low inside.
          let one = stands list reader (omega (arith, low)) in
          let e : 0 + reader ≡ reader = omega arith in
          let there : find (is_read_of reader source) (all_reads count 0 list) ≡ Some (read_at reader one.0 source) =
          subst (λ (n : ℕ). find (is_read_of n source) (all_reads count 0 list) ≡ Some (read_at n one.0 source)) e (found count 0 reader source list one.0 one.1 (omega (arith, inside))) in
          ap (option_map (λ (read : Read). read.next)) (ap (find (is_read_of reader source)) reads ∙ there) ∙ ap (λ (l : plain.Ledger). Some (l.nexts source)) (at reader one.0 one.1);
    }
