-- What waits is looked at, one after another.
use Rattle.std.proofs.Common.{◌≡◌, ◌≤◌, ◌<◌, ◌+◌, ℕ, suc, List, ◌∷◌, refl, sym, ap, subst, arith}
use Rattle.std.specs.Prelude.{length}
use Rattle.std.specs.List.{All}
use Rattle.std.proofs.lemmas.List.Elements.{All-tail}
use Rattle.cell_waits.specs.Waits.{Waiting, MayWait, waits_of}
use Rattle.cell_waits.specs.Indices.{IsIndexed}
use Rattle.cell_waits.specs.declared.waits.Waits.{Waits}
use Rattle.flow_syntax.specs.Syntax.{Flows}
use Rattle.cell_steps.specs.Fills.{IsUnderWay, LooksOn}
use Rattle.cell_steps.specs.declared.filling.Filling.{Filling}
use Rattle.cell_steps.proofs.Filled.{looks_still, looks_both}

-- the first of what waits were looked at, up to so many items in all
pub record HasPut (flows : Flows) (limit : ℕ) (first : Filling) (before : List Waiting) (filling : Filling) (waits : Waits) : Type 0 where
  pub way : IsUnderWay filling
  pub on : (now : ℕ) → LooksOn flows now first filling before (waits_of waits)
  pub indexed : IsIndexed waits
  pub may : All MayWait (waits_of waits)
  pub few : length first.items.items ≤ limit → length filling.items.items ≤ limit
  pub fewer : length (waits_of waits) ≤ length before
  -- so long as none was looked at the filling is as it was
  pub still : length (waits_of waits) ≡ length before → length filling.items.items ≡ length first.items.items

pub has_put_nothing : (flows : Flows) (limit : ℕ) (filling : Filling) (waits : Waits) → IsUnderWay filling → IsIndexed waits → All MayWait (waits_of waits) → HasPut flows limit filling (waits_of waits) filling waits
has_put_nothing flows limit filling waits way indexed may = record {
  way = way;
  on = λ now. looks_still flows now filling (waits_of waits) way;
  indexed = indexed;
  may = may;
  few = λ low. low;
  fewer = omega arith;
  still = λ same. refl;
}

-- one more was looked at
pub has_put_one : (flows : Flows) (limit : ℕ) (first : Filling) (before : List Waiting) (filling next : Filling) (waits rest : Waits) (w : Waiting) → HasPut flows limit first before filling waits → waits_of waits ≡ w ∷ waits_of rest → IsIndexed rest → IsUnderWay next
    → ((now : ℕ) → LooksOn flows now filling next (w ∷ waits_of rest) (waits_of rest)) → length filling.items.items < limit → length next.items.items ≤ length filling.items.items + 1 → HasPut flows limit first before next rest
has_put_one flows limit first before filling next waits rest w put split indexed way looks room one =
    let lengths : length (waits_of waits) ≡ suc (length (waits_of rest)) = ap length split in
    let fewer = put.fewer in
    record {
      way = way;
      on = λ now. looks_both flows now first filling next before (waits_of waits) (waits_of rest) (put.on now) (subst (λ (l : List Waiting). LooksOn flows now filling next l (waits_of rest)) (sym split) (looks now));
      indexed = indexed;
      may = All-tail MayWait w (waits_of rest) (subst (All MayWait) split put.may);
      few = λ low. omega (arith, room, one);
      fewer = omega (arith, lengths, fewer);
      still = λ same. absurd (omega (arith, lengths, fewer, same));
    }
