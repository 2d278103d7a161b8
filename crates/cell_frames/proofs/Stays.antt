-- What joins a cell to the store stays where the store changes elsewhere.
use Rattle.std.proofs.Common.{◌≡◌, ◌≢◌, ◌≤◌, ℕ, ◌+◌, ◌==◌, Bool, true, false, List, ◌++◌, length, refl, sym, ap, subst, ◌∙◌, arith, length-append}
use Rattle.std.proofs.lemmas.Bool.{eqb-true}
use Rattle.std.proofs.lemmas.Bool.Decides.{nat_tests}
use Rattle.std.proofs.lemmas.List.{length-map}
use Rattle.cell_frames.proofs.Fresh.{fresh_same}
use Rattle.cell_frames.specs.Fresh.{IsFresh}
use Rattle.cell_frames.specs.Joined.{StoreView, GoesOnFrom, Joined, read_by}
use Rattle.cell_frames.specs.Ours.{AreOurs, WaitOurs}
use Rattle.cell_frames.specs.Unlost.{HoldsUnlost}
use Rattle.commit_gate.proofs.Stay.{nexts_grow}
use Rattle.commit_gate.specs.Ledgers.{Ledger, log_length}
use Rattle.dura_value.specs.Items.{Entry, Floor}
use Rattle.gated_store.specs.Following.{own_after, others_after}
use Rattle.gated_store.specs.Follows.{GoesOnThere}
use Rattle.hub_store.specs.Trail.{Settled, Said, of_part, settling}
use Rattle.log_items.specs.Entries.{items_in}
use Rattle.many_rules.specs.Ledgers.{ledgers}
use Rattle.many_rules.specs.Local.{goes_on}
use Rattle.many_rules.specs.Makes.{Makes}
use Rattle.many_rules.specs.Rules.{Rules}
use Rattle.spec_cell.specs.Views.{CellView}
use Rattle.cell_frames.proofs.Reading.{further_read}

-- what a store has of a partition stays, and nobody has taken in less of its stream
pub record StaysFor (rules : Rules) (q : ℕ) (old new : StoreView) : Type 0 where
  pub latest : new.latest ≡ old.latest
  pub told : new.told ≡ old.told
  pub mine : of_part q new.trail ≡ of_part q old.trail
  pub floors : new.floors q ≡ old.floors q
  pub reads : (r : ℕ) → read_by rules old q r ≤ read_by rules new q r

module _ (rules : Rules) (q : ℕ) (old new : StoreView) (stays : StaysFor rules q old new) (c : CellView) where
  pub goes_still : GoesOnFrom rules old q c → GoesOnFrom rules new q c
  goes_still goes = record {
    number = goes.number;
    mine = goes.mine ∙ sym stays.mine;
    ours = subst (λ (n : ℕ). AreOurs rules n new.told c) (sym stays.latest) (subst (λ (t : List Said). AreOurs rules old.latest t c) (sym stays.told) goes.ours);
    waits = subst (λ (t : List Said). WaitOurs rules t c) (sym stays.told) goes.waits;
    of_call = goes.of_call;
    since = goes.since;
    timely = let timely = goes.timely in let same = stays.latest in omega (arith, timely, same);
    fresh = λ serves. subst (λ (n : ℕ). IsFresh n c) (sym stays.latest) (goes.fresh serves);
    unlost = subst (λ (l : List Entry). HoldsUnlost (log_length (ledgers rules q l)) (new.floors q) c) (sym stays.mine) (subst (λ (f : List Floor). HoldsUnlost (log_length (ledgers rules q (of_part q old.trail))) f c) (sym stays.floors) goes.unlost);
    read = further_read (read_by rules old q) (read_by rules new q) c stays.reads goes.read;
  }

  -- with the same frame under way
  pub joined_still : new.stage q ≡ old.stage q → new.going q ≡ old.going q → Joined rules old q c → Joined rules new q c
  joined_still stage going joined = record {
    goes = goes_still joined.goes;
    out = record {
      rests = λ none. let rests = joined.out.rests none in (stage ∙ rests.0, going ∙ rests.1);
      goes = λ some. going ∙ joined.out.goes some;
    };
  }

-- with another frame out
pub goes_out : (rules : Rules) (s : StoreView) (p : ℕ) (c : CellView) (n : ℕ) → GoesOnFrom rules s p c → GoesOnFrom rules s p (record c { out = n })
goes_out rules s p c n goes = record {
  number = goes.number;
  mine = goes.mine;
  ours = record { ours = goes.ours.ours; run = goes.ours.run };
  waits = record { asked = goes.waits.asked; run = goes.waits.run };
  of_call = goes.of_call;
  since = goes.since;
  timely = goes.timely;
  fresh = λ serves. fresh_same s.latest c (record c { out = n }) refl refl (goes.fresh serves);
  unlost = record { unlost = goes.unlost.unlost; latest = goes.unlost.latest };
  read = record { held = goes.read.held; waits = goes.read.waits };
}

-- a number is itself
eqb-refl_at : (r p : ℕ) → r ≡ p → (r == p) ≡ true
eqb-refl_at r p same = grind (arith, nat_tests, same)

no_path : (test : Bool) → test ≡ true → test ≡ false → ⊥
no_path true yes_is no_is = cc no_is
no_path false yes_is no_is = cc yes_is

-- nothing was settled
pub same_reads : (rules : Rules) (q : ℕ) (old new : StoreView) → new.trail ≡ old.trail → (r : ℕ) → read_by rules old q r ≤ read_by rules new q r
same_reads rules q old new trail r = let same : read_by rules new q r ≡ read_by rules old q r = ap (λ (t : List Settled). (ledgers rules r (of_part r t)).nexts q) trail in omega (arith, same)

-- a frame of a partition was
module _ (rules : Rules) (p at : ℕ) (going : List Entry) (old new : StoreView) (trail : new.trail ≡ old.trail ++ settling p at going) (makes : Makes rules old.latest (of_part p old.trail) old.told p going) where
  pub own_then : of_part p new.trail ≡ of_part p old.trail ++ going
  own_then = ap (of_part p) trail ∙ own_after old.trail p at going

  pub others_then : (q : ℕ) → q ≢ p → of_part q new.trail ≡ of_part q old.trail
  others_then q apart = ap (of_part q) trail ∙ others_after old.trail p at going q apart

  there : GoesOnThere (ledgers rules) (of_part p old.trail) p going
  there = goes_on rules old.latest (of_part p old.trail) old.told p going makes

  -- its log is longer by the frame
  pub longer : log_length (ledgers rules p (of_part p new.trail)) ≡ log_length (ledgers rules p (of_part p old.trail)) + length going
  longer =
      ap (λ (l : List Entry). log_length (ledgers rules p l)) own_then ∙ ap log_length there.1.makes
      ∙ length-append (ledgers rules p (of_part p old.trail)).incarnations _
      ∙ ap (λ (n : ℕ). log_length (ledgers rules p (of_part p old.trail)) + n) (length-map going (λ (e : Entry). e.incarnation))

  own_read : (q : ℕ) → read_by rules old q p ≤ read_by rules new q p
  own_read q =
      let same : read_by rules new q p ≡ _ = ap (λ (l : List Entry). (ledgers rules p l).nexts q) own_then ∙ ap (λ (l : Ledger). l.nexts q) there.1.makes in
      let grows = nexts_grow (ledgers rules p (of_part p old.trail)).nexts (items_in going) there.1.reads q in
      omega (arith, same, grows)

  -- nobody has taken in less
  pub more_read : (q r : ℕ) → read_by rules old q r ≤ read_by rules new q r
  more_read q r = by (r == p) refl
    where
      by : (test : Bool) → (r == p) ≡ test → read_by rules old q r ≤ read_by rules new q r
      by true is = subst (λ (k : ℕ). read_by rules old q k ≤ read_by rules new q k) (sym (eqb-true r p is)) (own_read q)
      by false is =
          let apart : r ≢ p = λ same. no_path (r == p) (eqb-refl_at r p same) is in
          let same : read_by rules new q r ≡ read_by rules old q r = ap (λ (l : List Entry). (ledgers rules r l).nexts q) (others_then r apart) in
          omega (arith, same)
