-- The first that depends on what was given up.
use Rattle.std.proofs.Common.{◌≡◌, ◌≤◌, ◌<◌, ◌+◌, ℕ, zero, suc, List, [], ◌∷◌, ◌++◌, Option, Some, None, refl, sym, ◌∙◌, ap, subst, arith, append_assoc, get_or}
use Rattle.std.specs.Prelude.{IfSome, IfNone, nat_le, true, length, drop}
use Rattle.std.proofs.lemmas.Bool.Decides.{nat_tests}
use Rattle.std.specs.List.{All, Contains, HoldsAt}
use Rattle.std.proofs.Math.Seq.{drop-cons}
use Rattle.std.proofs.lemmas.List.{append-nil, length-append, length-map, get_or-map}
use Rattle.std.proofs.lemmas.List.Elements.{All-cons, All-head, All-tail, Contains-append_right}
use Rattle.dura_value.specs.Dependencies.{Lost}
use Rattle.dura_value.specs.Items.{Identity, Entry}
use Rattle.log_items.specs.Plain.{entry_of}
use Rattle.spec_tracker.specs.Marks.{identity_of, floors_of}
use Rattle.spec_tracker.specs.declared.marks.Dep.{Dep}
use Rattle.spec_tracker.specs.declared.marks.Marks.{Marks}
use Rattle.cell_steps.specs.Depends.{identity_in, depends_on, dependencies, AreKept, IsFirstLost}
use Rattle.cell_steps.specs.Steps.{entries_in}
use Rattle.cell_steps.specs.declared.step.Step.{Step}

-- the steps before a place were looked at from another on, and none depends on what was given up
pub record HasLooked (marks : Marks) (number : ℕ) (first : Option Identity) (from : ℕ) (steps : List Step) (before : Option Identity) (place : ℕ) : Type 0 where
  pub front : List (List Identity)
  pub split : dependencies number first (entries_in steps) ≡ front ++ dependencies number before (drop place (entries_in steps))
  pub long : length front ≡ place
  pub kept : All (AreKept marks) (drop from front)

pub looked_none : (marks : Marks) (number : ℕ) (first : Option Identity) (from : ℕ) (steps : List Step) → HasLooked marks number first from steps first 0
looked_none marks number first from steps = record { front = []; split = refl; long = refl; kept = by from }
  where
    by : (n : ℕ) → All (AreKept marks) (drop n [])
    by zero = λ k d inside. absurd (omega (arith, inside))
    by (suc n) = λ k d inside. absurd (omega (arith, inside))

-- one more behind
drop_one : {X : Type 0} (P : X → Type 0) (from : ℕ) (xs : List X) (x : X) → All P (drop from xs) → (from ≤ length xs → P x) → All P (drop from (xs ++ x ∷ []))
drop_one P zero [] x all own = All-cons P x [] (own (omega arith)) (λ k d inside. absurd (omega (arith, inside)))
drop_one P zero (y ∷ xs) x all own = All-cons P y (xs ++ x ∷ []) (All-head P y xs all) (drop_one P zero xs x (All-tail P y xs all) (λ low. own (omega arith)))
drop_one P (suc from) [] x all own = by from
  where
    by : (n : ℕ) → All P (drop n [])
    by zero = λ k d inside. absurd (omega (arith, inside))
    by (suc n) = λ k d inside. absurd (omega (arith, inside))
drop_one P (suc from) (y ∷ xs) x all own = drop_one P from xs x all (λ low. own (omega (arith, low)))

rest_at : (steps : List Step) (place : ℕ) (step : Step) → place < length steps → step ≡ get_or steps place step → drop place (entries_in steps) ≡ entry_of step.entry ∷ drop (suc place) (entries_in steps)
rest_at steps place step inside at =
    let long = length-map steps (λ (s : Step). entry_of s.entry) in
    drop-cons (entries_in steps) place (entry_of step.entry) (omega (arith, inside, long))
    ∙ ap (λ (e : Entry). e ∷ drop (suc place) (entries_in steps)) (get_or-map (λ (s : Step). entry_of s.entry) steps place step (entry_of step.entry) inside ∙ ap (λ (s : Step). entry_of s.entry) (sym at))

pub looked_one : (marks : Marks) (number : ℕ) (first : Option Identity) (from : ℕ) (steps : List Step) (before : Option Identity) (place : ℕ) (step : Step) → HasLooked marks number first from steps before place → place < length steps → step ≡ get_or steps place step
    → (from ≤ place → AreKept marks (depends_on before (entry_of step.entry))) → HasLooked marks number first from steps (Some (identity_in number (entry_of step.entry))) (place + 1)
looked_one marks number first from steps before place step has inside at kept =
    let own = depends_on before (entry_of step.entry) in
    let next = Some (identity_in number (entry_of step.entry)) in
    let one : suc place ≡ place + 1 = omega arith in
    let long = has.long in
    record {
      front = has.front ++ own ∷ [];
      split = has.split ∙ ap (λ (l : List Entry). has.front ++ dependencies number before l) (rest_at steps place step inside at) ∙ sym (append_assoc has.front (own ∷ []) (dependencies number next (drop (suc place) (entries_in steps))))
          ∙ ap (λ (n : ℕ). (has.front ++ own ∷ []) ++ dependencies number next (drop n (entries_in steps))) one;
      long = let both = length-append has.front (own ∷ []) in omega (arith, both, long);
      kept = drop_one (AreKept marks) from has.front own has.kept (λ low. kept (omega (arith, low, long)));
    }

-- this one is the first
pub first_is : (marks : Marks) (number : ℕ) (first : Option Identity) (from : ℕ) (steps : List Step) (before : Option Identity) (place : ℕ) (step : Step) (lost : Identity) → HasLooked marks number first from steps before place → place < length steps → step ≡ get_or steps place step → from ≤ place
    → Contains (depends_on before (entry_of step.entry)) lost → Lost (floors_of marks) lost → IsFirstLost marks (dependencies number first (entries_in steps)) from place lost
first_is marks number first from steps before place step lost has inside at behind named given = record {
  behind = behind;
  front = has.front;
  own = depends_on before (entry_of step.entry);
  back = dependencies number (Some (identity_in number (entry_of step.entry))) (drop (suc place) (entries_in steps));
  split = has.split ∙ ap (λ (l : List Entry). has.front ++ dependencies number before l) (rest_at steps place step inside at);
  place_is = has.long;
  before = has.kept;
  named = named;
  given_up = given;
}

dropped_all : (n : ℕ) (entries : List Entry) → length entries ≤ n → drop n entries ≡ []
dropped_all zero [] low = refl
dropped_all zero (e ∷ entries) low = absurd (omega (arith, low))
dropped_all (suc n) [] low = refl
dropped_all (suc n) (e ∷ entries) low = dropped_all n entries (omega (arith, low))

-- none is
pub none_is : (marks : Marks) (number : ℕ) (first : Option Identity) (from : ℕ) (steps : List Step) (before : Option Identity) (place : ℕ) → HasLooked marks number first from steps before place → length steps ≤ place → All (AreKept marks) (drop from (dependencies number first (entries_in steps)))
none_is marks number first from steps before place has end =
    let long = length-map steps (λ (s : Step). entry_of s.entry) in
    let rest : dependencies number before (drop place (entries_in steps)) ≡ [] = ap (dependencies number before) (dropped_all place (entries_in steps) (omega (arith, end, long))) in
    let whole : dependencies number first (entries_in steps) ≡ has.front = has.split ∙ ap (λ (l : List (List Identity)). has.front ++ l) rest ∙ append-nil has.front in
    subst (λ (l : List (List Identity)). All (AreKept marks) (drop from l)) (sym whole) has.kept

-- what the items name is among the dependencies
pub named_behind : (marks : Marks) (found : Option Dep) (before : Identity) (named : List Identity) → IfSome found (λ dep. Contains named (identity_of dep) × Lost (floors_of marks) (identity_of dep))
    → IfSome found (λ dep. Contains (before ∷ named) (identity_of dep) × Lost (floors_of marks) (identity_of dep))
named_behind marks None before named is = tt
named_behind marks (Some dep) before named is = (Contains-append_right (before ∷ []) named (identity_of dep) is.0, is.1)

pub kept_behind : (marks : Marks) (found : Option Dep) (before : Identity) (named : List Identity) → (Lost (floors_of marks) before → ⊥) → IfNone found (AreKept marks named) → IfNone found (AreKept marks (before ∷ named))
kept_behind marks None before named own is = All-cons (λ (e : Identity). Lost (floors_of marks) e → ⊥) before named own is
kept_behind marks (Some dep) before named own is = tt

pub looked_so : (m n : ℕ) → m ≤ n → nat_le m n ≡ true
looked_so m n low = grind (arith, nat_tests)

pub so_looked : (m n : ℕ) → nat_le m n ≡ true → m ≤ n
so_looked m n is = grind (arith, nat_tests)

-- where the first of those that are given up stands
pub floor_at : (steps : List Step) (kept : ℕ) (s : Step) → kept < length steps → s ≡ get_or steps kept s → HoldsAt (λ (e : Entry). e.position ≡ s.entry.position) (entries_in steps) kept
floor_at steps kept s inside at = λ d. ap (λ (e : Entry). e.position) (get_or-map (λ (one : Step). entry_of one.entry) steps kept s d inside) ∙ ap (λ (one : Step). one.entry.position) (sym at)
