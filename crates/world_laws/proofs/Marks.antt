-- What comes to be known of the logs is true.
use Rattle.std.proofs.Common.{◌≡◌, ◌<◌, ℕ, zero, suc, ◌+◌, List, sym, subst, arith}
use Rattle.std.specs.List.{Contains, flat_map, range_with_len}
use Rattle.std.proofs.lemmas.List.Elements.{Contains-append_left, Contains-append_right}
use Rattle.cell_frames.specs.Joined.{StoreView}
use Rattle.dura_value.specs.Dependencies.{Lost}
use Rattle.dura_value.specs.Items.{Identity, Floor}
use Rattle.many_rules.specs.Rules.{Rules}
use Rattle.spec_tracker.specs.Marks.{floors_of}
use Rattle.spec_tracker.specs.declared.marks.Marks.{Marks}
use Rattle.world_steps.specs.Known.{AreMarksOf}
use Rattle.world_laws.specs.Made.{MarksHold}

in_ranges : {Y : Type 0} (f : ℕ → List Y) (first n k : ℕ) (y : Y) → k < n → Contains (f (first + k)) y → Contains (flat_map f (range_with_len first n)) y
in_ranges f first zero k y low inside = absurd (omega (arith, low))
in_ranges f first (suc n) zero y low inside =
    let e : first + 0 ≡ first = omega arith in
    Contains-append_left (f first) (flat_map f (range_with_len (first + 1) n)) y (subst (λ (i : ℕ). Contains (f i) y) e inside)
in_ranges f first (suc n) (suc k) y low inside =
    let e : first + suc k ≡ (first + 1) + k = omega arith in
    Contains-append_right (f first) (flat_map f (range_with_len (first + 1) n)) y (in_ranges f (first + 1) n k y (omega (arith, low)) (subst (λ (i : ℕ). Contains (f i) y) e inside))

-- what an incarnation gave up is given up by what is known of the logs
pub lost_marked : (rules : Rules) (s : StoreView) (marks : Marks) → AreMarksOf rules s marks → (e : Identity) → e.partition < rules.count → Lost (s.floors e.partition) e → Lost (floors_of marks) e
lost_marked rules s marks are e low lost =
    let k : e.partition ≡ 0 + e.partition = omega arith in
    let there : Contains (flat_map s.floors (range_with_len 0 rules.count)) lost.floor = in_ranges s.floors 0 rules.count e.partition lost.floor low (subst (λ (i : ℕ). Contains (s.floors i) lost.floor) k lost.there) in
    record { floor = lost.floor; there = subst (λ (f : List Floor). Contains f lost.floor) (sym are.floors) there; partition = lost.partition; later = lost.later; below = lost.below }

pub marks_hold : (rules : Rules) (s : StoreView) (marks : Marks) → AreMarksOf rules s marks → MarksHold rules s marks
marks_hold rules s marks are = record {
  ready = λ e low ready. record {
    settled = let settled = ready.settled in let same = are.lengths e.partition low in omega (arith, settled, same);
    kept = λ lost. ready.kept (lost_marked rules s marks are e low lost);
  };
  readers = are.readers;
}
