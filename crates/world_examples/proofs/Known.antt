-- What is known of the log of one partition of which nothing is settled.
use Rattle.std.proofs.Common.{◌≡◌, ◌∙◌, ◌<◌, ◌∷◌, ℕ, List, [], Some, map, slice_get, sym, ap, subst, arith, inl, inr}
use Rattle.std.specs.List.{Contains, find}
use Rattle.std.specs.Prelude.{option_map}
use Rattle.std.proofs.lemmas.List.Elements.{Contains-push_cases}
use Rattle.cell_frames.specs.Joined.{read_by}
use Rattle.commit_gate.specs.Ledgers.{Ledger, log_length}
use Rattle.dura_value.specs.Views.{floor_of}
use Rattle.hub_store.specs.Trail.{Settled, Said, of_part}
use Rattle.many_rules.specs.Ledgers.{ledgers}
use Rattle.spec_tracker.specs.Marks.{or_none, length_in, is_read_of, read_in}
use Rattle.spec_tracker.specs.declared.marks.Marks.{Marks}
use Rattle.spec_tracker.specs.declared.marks.Read.{Read}
use Rattle.world_steps.specs.Known.{AreMarksOf}
use Rattle.world_examples.proofs.NewWorlds.{store_with}
use Rattle.world_examples.specs.Courses.{alone, begun, nothing_read, KnowsNothing}

module _ (trail : List Settled) (told : List Said) (marks : Marks) (nothing : of_part 0 trail ≡ []) (knows : KnowsNothing marks) where
  -- its ledger is as it was when nothing was settled
  same_ledger : ledgers alone 0 (of_part 0 trail) ≡ ledgers alone 0 []
  same_ledger = ap (ledgers alone 0) nothing

  read_none : read_by alone (store_with trail told) 0 0 ≡ 0
  read_none = ap (λ (l : Ledger). l.nexts 0) same_ledger

  -- there is one read
  one_read : (read : Read) → Contains marks.reads.items read → nothing_read ≡ read
  one_read read inside = elim (Contains-push_cases [] nothing_read read (subst (λ (l : List Read). Contains l read) knows.reads inside)) [
    | inl none ↦ absurd (let e : none.0 < 0 = none.1 in omega (arith, e))
    | inr same ↦ same
  ]

  -- the partition is the first
  first_of : (P : ℕ → Type 0) → P 0 → (partition : ℕ) → partition < 1 → P partition
  first_of P is partition low = subst P (let e : 0 ≡ partition = omega (arith, low) in e) is

  all_read : option_map (λ (read : Read). read.next) (read_in marks 0 0) ≡ Some (read_by alone (store_with trail told) 0 0)
  all_read = ap (λ (l : List Read). option_map (λ (read : Read). read.next) (find (is_read_of 0 0) l)) knows.reads ∙ ap (λ (n : ℕ). Some n) (sym read_none)

  pub known_with : AreMarksOf alone (store_with trail told) marks
  known_with = record {
    lengths = first_of (λ p. length_in marks p ≡ log_length (ledgers alone p (of_part p trail))) (ap (λ (l : List ℕ). or_none (slice_get l 0)) knows.lengths ∙ sym (ap log_length same_ledger));
    floors = ap (λ l. map floor_of l) knows.floors;
    reads = λ read inside. subst (λ (r : Read). r.next ≡ read_by alone (store_with trail told) r.source r.reader) (one_read read inside) (sym read_none);
    readers = λ read inside some. absurd (let e = ap (λ (r : Read). r.next) (one_read read inside) in omega (arith, e, some));
    all = λ reader source low below.
        first_of (λ r. option_map (λ (read : Read). read.next) (read_in marks r source) ≡ Some (read_by alone (store_with trail told) source r))
        (first_of (λ n. option_map (λ (read : Read). read.next) (read_in marks 0 n) ≡ Some (read_by alone (store_with trail told) n 0)) all_read source below) reader low;
  }

pub not_settled : (marks : Marks) → marks.lengths.items ≡ 1 ∷ [] → AreMarksOf alone (begun (marks ∷ [])).store marks → ⊥
not_settled marks is known =
    let one : length_in marks 0 ≡ 1 = ap (λ (l : List ℕ). or_none (slice_get l 0)) is in
    let nothing : length_in marks 0 ≡ 0 = known.lengths 0 (omega arith) in
    omega (arith, one, nothing)
