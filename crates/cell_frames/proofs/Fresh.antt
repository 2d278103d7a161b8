-- What a cell holds stays of the latest moment.
use Rattle.std.proofs.Common.{◌≡◌, ◌≤◌, ℕ, max, List, [], ◌∷◌, ◌++◌, take, drop, sym, ap, subst, arith}
use Rattle.std.specs.List.{All}
use Rattle.std.proofs.lemmas.List.{take-append-drop}
use Rattle.std.proofs.lemmas.List.Elements.{All-append, All-cons, All-nil}
use Rattle.cell_frames.specs.Fresh.{IsFresh}
use Rattle.commit_gate.proofs.Going.{all_front, all_back}
use Rattle.dura_value.specs.Items.{Entry}
use Rattle.many_rules.specs.Rules.{IsFrom}
use Rattle.spec_cell.specs.Views.{CellView}

abbrev pub From : ℕ → Entry → Type 0
From latest e = All (IsFrom latest) e.items

-- with the same entries and moment
pub fresh_same : (latest : ℕ) (old new : CellView) → new.now ≡ old.now → new.entries ≡ old.entries → IsFresh latest old → IsFresh latest new
fresh_same latest old new now entries fresh = record {
  heard = let heard = fresh.heard in omega (arith, heard, now);
  held = subst (All (From latest)) (sym entries) fresh.held;
}

-- with the first of them
pub fresh_front : (latest n : ℕ) (old new : CellView) → new.now ≡ old.now → new.entries ≡ take n old.entries → IsFresh latest old → IsFresh latest new
fresh_front latest n old new now entries fresh = record {
  heard = let heard = fresh.heard in omega (arith, heard, now);
  held = subst (All (From latest)) (sym entries) (all_front (From latest) (take n old.entries) (drop n old.entries) (subst (All (From latest)) (sym (take-append-drop n old.entries)) fresh.held));
}

-- with the last of them
pub fresh_back : (latest n : ℕ) (old new : CellView) → new.now ≡ old.now → new.entries ≡ drop n old.entries → IsFresh latest old → IsFresh latest new
fresh_back latest n old new now entries fresh = record {
  heard = let heard = fresh.heard in omega (arith, heard, now);
  held = subst (All (From latest)) (sym entries) (all_back (From latest) (take n old.entries) (drop n old.entries) (subst (All (From latest)) (sym (take-append-drop n old.entries)) fresh.held));
}

-- with one more
pub fresh_more : (latest : ℕ) (old new : CellView) (entry : Entry) → new.now ≡ old.now → new.entries ≡ old.entries ++ entry ∷ [] → From latest entry → IsFresh latest old → IsFresh latest new
fresh_more latest old new entry now entries from fresh = record {
  heard = let heard = fresh.heard in omega (arith, heard, now);
  held = subst (All (From latest)) (sym entries) (All-append (From latest) old.entries (entry ∷ []) fresh.held (All-cons (From latest) entry [] from (All-nil (From latest))));
}

-- with none, at a later moment
pub fresh_none : (latest : ℕ) (c : CellView) → latest ≤ c.now → c.entries ≡ [] → IsFresh latest c
fresh_none latest c heard none = record { heard = heard; held = subst (All (From latest)) (sym none) (All-nil (From latest)) }
