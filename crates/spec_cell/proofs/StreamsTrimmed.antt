-- Trims wait behind what waits.
use Rattle.std.proofs.Common.{◌≡◌, ◌++◌, ◌∷◌, Bool, true, false, List, [], None, refl, ◌∙◌, ap, arith}
use Rattle.std.specs.Prelude.{◌==◌, ◌&&◌, if◌then◌else◌}
use Rattle.std.specs.List.{All}
use Rattle.std.proofs.lemmas.List.Elements.{All-append, All-cons, All-head, All-tail}
use Rattle.std.proofs.lemmas.List.{append-nil}
use Rattle.std.proofs.lemmas.List.Concat.{flat_map-cons}
use Rattle.std.proofs.lemmas.Grind.{flat_map-append}
use Rattle.cell_waits.specs.Waits.{Waiting, MayWait, IsOutside}
use Rattle.dura_model.specs.Partition.{Partition}
use Rattle.dura_value.specs.Items.{Item}
use Rattle.spec_tracker.specs.declared.marks.Read.{Read}
use Rattle.spec_cell.specs.Trims.{has_before, trim_by, trims_of, trims_by, has_trim, with_trims}

none_of : {X : Type 0} (P : X → Type 0) → All P []
none_of P = λ k d inside. absurd (omega (arith, inside))

-- each of these is a trim
are_trims : (p : Partition) (read : Read) (t : Bool) → All IsOutside (if t then trim_by read ∷ [] else [])
are_trims p read true = All-cons IsOutside (trim_by read) [] tt (none_of IsOutside)
are_trims p read false = none_of IsOutside

pub all_trims : (p : Partition) (reads : List Read) → All IsOutside (trims_by p reads)
all_trims p [] = none_of IsOutside
all_trims p (read ∷ reads) = All-append IsOutside (trims_of p read) (trims_by p reads) (are_trims p read (read.source == p.number && has_before (p.outboxes read.reader) read.next)) (all_trims p reads)

may_one : (waits : List Waiting) (item : Item) (t : Bool) → IsOutside item → All MayWait waits → All MayWait (if t then waits else waits ++ (record { item = item; activity = None }) ∷ [])
may_one waits item true is all = all
may_one waits item false is all = All-append MayWait waits ((record { item = item; activity = None }) ∷ []) all (All-cons MayWait (record { item = item; activity = None }) [] is (none_of MayWait))

-- so they may wait
pub trims_may : (waits : List Waiting) (items : List Item) → All IsOutside items → All MayWait waits → All MayWait (with_trims waits items)
trims_may waits [] outside all = all
trims_may waits (item ∷ items) outside all =
    trims_may (if has_trim waits item then waits else waits ++ (record { item = item; activity = None }) ∷ []) items (All-tail IsOutside item items outside)
    (may_one waits item (has_trim waits item) (All-head IsOutside item items outside) all)

-- ---- one after another

pub trims_joined : (p : Partition) (before : List Read) (read : Read) → trims_by p (before ++ read ∷ []) ≡ trims_by p before ++ trims_of p read
trims_joined p before read = flat_map-append (trims_of p) before (read ∷ []) ∙ ap (λ (l : List Item). trims_by p before ++ l) (flat_map-cons (trims_of p) read [] ∙ append-nil (trims_of p read))

pub with_both : (waits : List Waiting) (a b : List Item) → with_trims waits (a ++ b) ≡ with_trims (with_trims waits a) b
with_both waits [] b = refl
with_both waits (item ∷ a) b = with_both (if has_trim waits item then waits else waits ++ (record { item = item; activity = None }) ∷ []) a b
