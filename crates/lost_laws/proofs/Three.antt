-- What depends on what in the trail of three entries.
use Rattle.std.proofs.Common.{◌≡◌, inl, inr, ℕ, zero, suc, ◌+◌, ◌<◌, [], ◌∷◌, refl, ap, subst, arith}
use Rattle.std.specs.List.{Contains}
use Rattle.dura_value.specs.Dependencies.{named_by, Lost}
use Rattle.dura_value.specs.Items.{Floor, Identity}
use Rattle.gated_store.specs.Causal.{identity_of}
use Rattle.hub_store.specs.Trail.{Settled}
use Rattle.lost_laws.specs.DependsOn.{DependsOn, NoneLost}
use Rattle.lost_laws.specs.DependsOn.DependsOn.{named, before, further}
use Rattle.lost_laws.specs.Examples.{first, second, third, three, nowhere, floors_from}

-- ---- lists

of_none : {X Y : Type 0} (x : X) → Contains [] x → Y
of_none x inside = absurd (let none : inside.0 < 0 = inside.1 in omega (arith, none))

of_one : {X : Type 0} (P : X → Type 0) (a : X) → P a → (x : X) → Contains (a ∷ []) x → P x
of_one P a at_a x (zero, low, is) = subst P is at_a
of_one P a at_a x (suc k, low, is) = absurd (omega (arith, low))

of_three : {X : Type 0} (P : X → Type 0) (a b c : X) → P a → P b → P c → (x : X) → Contains (a ∷ b ∷ c ∷ []) x → P x
of_three P a b c at_a at_b at_c x (zero, low, is) = subst P is at_a
of_three P a b c at_a at_b at_c x (suc zero, low, is) = subst P is at_b
of_three P a b c at_a at_b at_c x (suc (suc zero), low, is) = subst P is at_c
of_three P a b c at_a at_b at_c x (suc (suc (suc k)), low, is) = absurd (omega (arith, low))

-- ---- what depends on what

pub second_names : DependsOn nowhere three (identity_of second) (identity_of first)
second_names = named second (identity_of first) (1, omega arith, refl) (0, omega arith, refl)

pub third_behind : DependsOn nowhere three (identity_of third) (identity_of second)
third_behind = before third (identity_of second) (2, omega arith, refl) (inr (1, omega arith, refl)) (record { partition = refl; position = refl; incarnation = omega arith })

pub third_through : DependsOn nowhere three (identity_of third) (identity_of first)
third_through = further (identity_of third) (identity_of second) (identity_of first) third_behind second_names

-- the first alone is named, by the second alone
only_named : (P : Settled → Identity → Type 0) → P second (identity_of first) → (one : Settled) → Contains three one → (d : Identity) → Contains (named_by one.entry.items) d → P one d
only_named P at = of_three (λ (one : Settled). (d : Identity) → Contains (named_by one.entry.items) d → P one d) first second third (λ d inside. of_none d inside) (of_one (P second) (identity_of first) at) (λ d inside. of_none d inside)

abbrev place : Identity → ℕ
place e = e.partition + e.position

-- each stands behind what it depends on
pub downwards : {e d : Identity} → DependsOn nowhere three e d → place d < place e
downwards (named one d at_one of_it) = only_named (λ (s : Settled). λ (i : Identity). place i < place (identity_of s)) (omega arith) one at_one d of_it
downwards (before one d at_one there is) = let own = is.partition in let position = is.position in omega (arith, own, position)
downwards (further e d f near far) = let a = downwards near in let b = downwards far in omega (arith, a, b)

-- ---- what is lost

pub first_lost : Lost (floors_from 0 0) (identity_of first)
first_lost = record { floor = record { partition = 0; incarnation = 1; from = 0 }; there = (0, omega arith, refl); partition = refl; later = omega arith; below = omega arith }

-- of partition 0 there is the first alone
abbrev IsLow : Identity → Type 0
IsLow d = d.partition ≡ 0 → d.position ≡ 0

depends_low : {e d : Identity} → DependsOn nowhere three e d → IsLow d
depends_low (named one d at_one of_it) = only_named (λ (s : Settled). IsLow) (λ own. refl) one at_one d of_it
depends_low (before one d at_one there is) = elim there [
  | inl recovered ↦ absurd (cc recovered)
  | inr on_it ↦ of_three IsLow (identity_of first) (identity_of second) (identity_of third) (λ own. refl) (λ own. refl) (λ own. absurd (cc own)) d on_it
]
depends_low (further e d f near far) = depends_low far

low_kept : (p : ℕ) (d : Identity) → d.partition ≡ p → IsLow d → Lost (floors_from 1 p) d → ⊥
low_kept zero d own low lost =
    let from : lost.floor.from ≡ 1 = of_one (λ (f : Floor). f.from ≡ 1) (record { partition = 0; incarnation = 1; from = 1 }) refl lost.floor lost.there in
    let below = lost.below in
    let position = low own in
    omega (arith, from, below, position)
low_kept (suc p) d own low lost = of_none lost.floor lost.there

pub kept_first : NoneLost nowhere three (floors_from 1) (identity_of third)
kept_first d either = low_kept d.partition d refl (elim either [
  | inl is ↦ λ own. absurd (let one = ap (λ (i : Identity). i.partition) is in omega (arith, own, one))
  | inr depends ↦ depends_low depends
])
