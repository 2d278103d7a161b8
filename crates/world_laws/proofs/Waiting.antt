-- A cell that has the same entries, with other things waiting.
use Rattle.std.proofs.Common.{◌≡◌, ◌<◌, true, false, Bool, ℕ, ◌==◌, ◌&&◌, cond, List, [], ◌∷◌, ◌++◌, Option, None, Some, refl, sym, subst, arith}
use Rattle.std.specs.List.{All, flat_map}
use Rattle.std.specs.Prelude.{nat_lt, length}
use Rattle.std.proofs.lemmas.Bool.{and_parts, ltb-true}
use Rattle.std.proofs.lemmas.List.Concat.{flat_map-cons}
use Rattle.std.proofs.lemmas.List.Elements.{All-nil, All-cons, All-append, All-head, All-tail, All-contains_itself}
use Rattle.cell_frames.proofs.GivenUp.{all_unlost}
use Rattle.cell_frames.specs.Joined.{StoreView}
use Rattle.cell_steps.specs.declared.round.Round.{Round}
use Rattle.cell_tasks.specs.declared.given_out.GivenOut.{GivenOut}
use Rattle.cell_waits.specs.Waits.{Waiting, lost_by, without_lost}
use Rattle.dura_model.specs.Partition.{Partition}
use Rattle.dura_value.specs.Items.{Item, took, got, ended}
use Rattle.many_rules.specs.Rules.{Rules}
use Rattle.spec_cell.specs.Comes.{Arrives, Records, Offers, with_wait}
use Rattle.spec_cell.specs.Moves.{IsKept}
use Rattle.spec_cell.specs.Trims.{has_before, trim_by, trims_of, has_trim, with_trims, Trims}
use Rattle.spec_cell.specs.Views.{CellView}
use Rattle.spec_cell.specs.declared.coming.Arrived.{Arrived}
use Rattle.spec_cell.specs.declared.coming.Arrived.TheVariants as arrivals
use Rattle.spec_cell.specs.declared.coming.Offered.{Offered}
use Rattle.spec_cell.specs.declared.coming.Offered.TheVariants as offers
use Rattle.spec_cell.specs.declared.coming.Recorded.{Recorded}
use Rattle.spec_cell.specs.declared.coming.Recorded.TheVariants as records
use Rattle.spec_tracker.specs.Marks.{floors_of}
use Rattle.spec_tracker.specs.declared.marks.Marks.{Marks}
use Rattle.spec_tracker.specs.declared.marks.Read.{Read}
use Rattle.world_laws.specs.Made.{MadeEntry, IsTrue, CellMade, MarksHold}

-- ---- trims

module _ (P : Waiting → Type 0) where
  abbrev waiting : Item → Waiting
  waiting item = record { item = item; activity = None }

  -- trims of what was read
  all_trims : (p : Partition) → (reads : List Read) → All (λ read. 0 < read.next → P (waiting (trim_by read))) reads → (waits : List Waiting) → All P waits → All P (with_trims waits (flat_map (trims_of p) reads))
  all_trims p [] own waits all = all
  all_trims p (read ∷ reads) own waits all =
      subst (λ (l : List Item). All P (with_trims waits l)) (sym (flat_map-cons (trims_of p) read reads))
      (by (read.source == p.number && has_before (p.outboxes read.reader) read.next) refl (λ more every. all_trims p reads (All-tail (λ (one : Read). 0 < one.next → P (waiting (trim_by one))) read reads own) more every))
    where
      rest : List Item
      rest = flat_map (trims_of p) reads

      put : (test : Bool) → P (waiting (trim_by read)) → ((more : List Waiting) → All P more → All P (with_trims more rest)) → All P (with_trims (cond test waits (waits ++ waiting (trim_by read) ∷ [])) rest)
      put true one go = go waits all
      put false one go = go (waits ++ waiting (trim_by read) ∷ []) (All-append P waits (waiting (trim_by read) ∷ []) all (All-cons P (waiting (trim_by read)) [] one (All-nil P)))

      by : (test : Bool) → (read.source == p.number && has_before (p.outboxes read.reader) read.next) ≡ test → ((more : List Waiting) → All P more → All P (with_trims more rest)) → All P (with_trims waits (cond test (trim_by read ∷ []) [] ++ rest))
      by true is go =
          let two = and_parts (read.source == p.number) (has_before (p.outboxes read.reader) read.next) is in
          let begun : (p.outboxes read.reader).first < read.next = ltb-true (p.outboxes read.reader).first read.next (and_parts (nat_lt 0 (length (p.outboxes read.reader).messages)) (nat_lt (p.outboxes read.reader).first read.next) two.1).1 in
          put (has_trim waits (trim_by read)) (All-head (λ (one : Read). 0 < one.next → P (waiting (trim_by one))) read reads own (omega (arith, begun))) go
      by false is go = go waits all

-- ---- the cell

module _ (rules : Rules) (made : List MadeEntry) (s : StoreView) (p : ℕ) (c : CellView) (cell : CellMade rules made s p c) where
  abbrev True : Waiting → Type 0
  True w = IsTrue rules made s p w.item

  -- with the same entries, of which as many are out
  pub alike : (waits : List Waiting) (round : Round) (now owner : ℕ) (given : Option GivenOut) → All True waits → CellMade rules made s p (record c { waits = waits; round = round; now = now; owner = owner; given = given })
  alike waits round now owner given true_waits = record { held = cell.held; fate = cell.fate; younger = cell.younger; holds = cell.holds; waits = true_waits; ready = cell.ready }

  pub alike_by : (waits : List Waiting) (after : CellView) → All True waits → after ≡ record c { waits = waits } → CellMade rules made s p after
  alike_by waits after true_waits is = subst (CellMade rules made s p) (sym is) (alike waits c.round c.now c.owner c.given true_waits)

  same : (after : CellView) → after ≡ c → CellMade rules made s p after
  same after is = subst (CellMade rules made s p) (sym is) cell

  -- something more waits
  pub one_waits : (w : Waiting) (after : CellView) → True w → after ≡ with_wait w c → CellMade rules made s p after
  one_waits w after is becomes = alike_by (c.waits ++ w ∷ []) after (All-append True c.waits (w ∷ []) cell.waits (All-cons True w [] is (All-nil True))) becomes

  pub offered : (base ahead : Partition) (message : _) (offer : Offered) (after : CellView) → Offers base ahead message c offer after → CellMade rules made s p after
  offered base ahead message offers.Queued after is = one_waits (record { item = took message; activity = None }) after tt is.1
  offered base ahead message offers.Clash after is = same after is.1
  offered base ahead message offers.Taken after is = same after is.1
  offered base ahead message (offers.Kept answer) after is = same after is.1

  pub recorded : (ahead : Partition) (id : _) (task : ℕ) (activity outcome : _) (record_is : Recorded) (after : CellView) → Records ahead id task activity outcome c record_is after → CellMade rules made s p after
  recorded ahead id task activity outcome records.Recorded after is = one_waits (record { item = ended id task outcome; activity = Some activity }) after tt is.1
  recorded ahead id task activity outcome records.NotPending after is = same after is.1

  pub arrived : (ahead : Partition) (source : _) (number : ℕ) (message : _) (arrival : Arrived) (after : CellView) → IsTrue rules made s p (got source number message) → Arrives ahead source number message c arrival after → CellMade rules made s p after
  arrived ahead source number message arrivals.Queued after sent is = one_waits (record { item = got source number message; activity = None }) after sent is.1
  arrived ahead source number message (arrivals.Repeat next) after sent is = same after is.2
  arrived ahead source number message (arrivals.Gap next) after sent is = same after is.2

  pub trimmed : (marks : Marks) (ahead : Partition) (count : ℕ) (after : CellView) → MarksHold rules s marks → Trims marks ahead c count after → CellMade rules made s p after
  trimmed marks ahead count after hold is =
      alike_by (with_trims c.waits (flat_map (trims_of ahead) marks.reads.items)) after
      (all_trims True ahead marks.reads.items (λ k d inside some. hold.readers _ (All-contains_itself marks.reads.items k d inside) some) c.waits cell.waits) is.1

  pub kept : (flows count begin : _) (marks : Marks) (after : CellView) → IsKept flows count begin marks c after → CellMade rules made s p after
  kept flows count begin marks after is = alike_by (without_lost (lost_by (floors_of marks)) c.waits) after (all_unlost True (lost_by (floors_of marks)) c.waits cell.waits) is.becomes
