-- Packets come to the cell of a partition.
use Rattle.std.proofs.Common.{◌≡◌, ◌<◌, ◌∙◌, ℕ, zero, suc, List, [], ◌∷◌, ◌++◌, length, Some, None, refl, sym, ap, subst, arith, slice_get, slice_set}
use Rattle.std.proofs.lemmas.List.{append-nil, append_assoc, set-get_or}
use Rattle.std.proofs.lemmas.Option.{get_or_from_slice_get, slice_get_within}
use Rattle.cell_waits.specs.Waits.{Waiting}
use Rattle.dura_value.specs.Items.{got}
use Rattle.dura_value.specs.Views.{message_of}
use Rattle.gated_store.proofs.Fitting.{at_same}
use Rattle.log_items.specs.declared.items.Packet.{Packet}
use Rattle.many_rules.specs.Rules.{Rules}
use Rattle.node_core.specs.Stepping.{OnlyWaits}
use Rattle.spec_cell.specs.Views.{CellView}
use Rattle.spec_cell.specs.declared.coming.Arrived.{Arrived}
use Rattle.spec_cell.specs.declared.coming.Arrived.TheVariants as arrivals
use Rattle.world_steps.specs.Cells.{CellBecomes}
use Rattle.world_steps.specs.Comes.{ArrivesAt}

something_there : {X : Type 0} (xs : List X) (i : ℕ) → i < length xs → (x : X) × (slice_get xs i ≡ Some x)
something_there [] i low = absurd (omega (arith, low))
something_there (x ∷ xs) zero low = (x, refl)
something_there (x ∷ xs) (suc i) low = something_there xs i (omega (arith, low))

-- what stands there already was put
put_again : {X : Type 0} (xs : List X) (i : ℕ) (x : X) → slice_get xs i ≡ Some x → slice_set xs i x ≡ xs
put_again {X} xs i x is = ap (λ (y : X). slice_set xs i y) (sym (get_or_from_slice_get xs i x x is)) ∙ set-get_or xs i x

put_twice : {X : Type 0} (xs : List X) (i : ℕ) (x y : X) → slice_set (slice_set xs i x) i y ≡ slice_set xs i y
put_twice [] i x y = refl
put_twice (z ∷ zs) zero x y = refl
put_twice {X} (z ∷ zs) (suc i) x y = ap (λ (l : List X). z ∷ l) (put_twice zs i x y)

-- ---- what waits

pub nothing_came : (p : ℕ) (cells : List CellView) → p < length cells → OnlyWaits p cells cells
nothing_came p cells below =
    let it = something_there cells p below in
    record {
      cell = it.0;
      after = it.0;
      there = it.1;
      becomes = sym (put_again cells p it.0 it.1);
      does = ([], ap (λ (w : List Waiting). record it.0 { waits = w }) (sym (append-nil it.0.waits)));
    }

-- some came, and then more
pub more_came : (p : ℕ) (old mid new : List CellView) → OnlyWaits p old mid → OnlyWaits p mid new → OnlyWaits p old new
more_came p old mid new one two =
    let below : p < length old = slice_get_within old p one.cell one.there in
    let same : two.cell ≡ one.after = at_same old p one.after two.cell below (subst (λ (l : List CellView). slice_get l p ≡ Some two.cell) one.becomes two.there) in
    record {
      cell = one.cell;
      after = two.after;
      there = one.there;
      becomes = two.becomes ∙ ap (λ (l : List CellView). slice_set l p two.after) one.becomes ∙ put_twice old p one.after two.after;
      does = (one.does.0 ++ two.does.0, two.does.1 ∙ ap (λ (v : CellView). record v { waits = v.waits ++ two.does.0 }) (same ∙ one.does.1) ∙ ap (λ (w : List Waiting). record one.cell { waits = w }) (append_assoc one.cell.waits one.does.0 two.does.0));
    }

-- one that is let go of changes nothing
only_same : (p : ℕ) (cells new : List CellView) (c after : CellView) → slice_get cells p ≡ Some c → new ≡ slice_set cells p after → after ≡ c → OnlyWaits p cells new
only_same p cells new c after there becomes same = record { cell = c; after = after; there = there; becomes = becomes; does = ([], same ∙ ap (λ (w : List Waiting). record c { waits = w }) (sym (append-nil c.waits))) }

-- a packet came
pub one_came : (rules : Rules) (p : ℕ) (packet : Packet) (arrived : Arrived) (cells new : List CellView) → CellBecomes p cells new (ArrivesAt rules packet arrived) → OnlyWaits p cells new
one_came rules p packet arrivals.Queued cells new b = record {
  cell = b.cell;
  after = b.after;
  there = b.there;
  becomes = b.becomes;
  does = (record { item = got (record { partition = packet.src; incarnation = packet.inc; position = packet.pos }) packet.seq (message_of packet.message); activity = None } ∷ [], b.does.2.1);
}
one_came rules p packet (arrivals.Repeat next) cells new b = only_same p cells new b.cell b.after b.there b.becomes b.does.2.2
one_came rules p packet (arrivals.Gap next) cells new b = only_same p cells new b.cell b.after b.there b.becomes b.does.2.2
