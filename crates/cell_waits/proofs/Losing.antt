-- An entry is lost where some floor gives it up.
use Rattle.std.proofs.Common.{◌≡◌, ◌∙◌, ◌<◌, ◌≤◌, ◌==◌, ◌||◌, ◌&&◌, ℕ, zero, suc, Bool, true, false, List, [], ◌∷◌, length, get_or, refl, ap, sym, nat_lt, nat_le, eqb-true, eq-eqb, ltb-true, lt-ltb, leb-true, le-leb, arith}
use Rattle.std.proofs.lemmas.Bool.{and_parts}
use Rattle.std.specs.List.{Contains, list_any}
use Rattle.dura_value.proofs.Ids.{and_true}
use Rattle.dura_value.specs.Dependencies.{Lost}
use Rattle.dura_value.specs.Items.{Identity, Floor}
use Rattle.spec_tracker.specs.Marks.{gives_up}
use Rattle.cell_waits.specs.Waits.{lost_by}

or_second : (a b : Bool) → b ≡ true → (a || b) ≡ true
or_second true b is = refl
or_second false b is = is

module _ (p : Floor → Bool) where
  any_at : (xs : List Floor) (x : Floor) (k : ℕ) → k < length xs → get_or xs k x ≡ x → p x ≡ true → list_any p xs ≡ true
  any_at [] x k inside is holds = absurd (omega (arith, inside))
  any_at (y ∷ ys) x zero inside is holds = ap (λ (b : Bool). b || list_any p ys) (ap p is ∙ holds)
  any_at (y ∷ ys) x (suc k) inside is holds = or_second (p y) (list_any p ys) (any_at ys x k (omega (arith, inside)) is holds)

  found_by : (b : Bool) (y : Floor) (ys : List Floor) → p y ≡ b → (b || list_any p ys) ≡ true → (list_any p ys ≡ true → (x : Floor) × Contains ys x × (p x ≡ true)) → (x : Floor) × Contains (y ∷ ys) x × (p x ≡ true)
  found_by true y ys is any more = (y, (0, omega arith, refl), is)
  found_by false y ys is any more = let rest = more any in let there = rest.1 in let inside = there.1 in (rest.0, (suc there.0, omega (arith, inside), there.2), rest.2)

  found : (xs : List Floor) → list_any p xs ≡ true → (x : Floor) × Contains xs x × (p x ≡ true)
  found [] any = absurd (cc any)
  found (y ∷ ys) any = found_by (p y) y ys refl any (found ys)

-- a floor gives up an entry of its partition that an earlier incarnation made, from where it began on
gives : (floor : Floor) (e : Identity) → floor.partition ≡ e.partition → e.incarnation < floor.incarnation → floor.from ≤ e.position → gives_up floor e ≡ true
gives floor e partition later below =
    and_true (floor.partition == e.partition && nat_lt e.incarnation floor.incarnation) (nat_le floor.from e.position)
    (and_true (floor.partition == e.partition) (nat_lt e.incarnation floor.incarnation) (eq-eqb floor.partition e.partition partition) (lt-ltb e.incarnation floor.incarnation later))
    (le-leb floor.from e.position below)

pub is_lost : (floors : List Floor) (e : Identity) → Lost floors e → true ≡ lost_by floors e
is_lost floors e lost =
    sym (any_at (λ floor. gives_up floor e) floors lost.floor lost.there.0 lost.there.1 lost.there.2 (gives lost.floor e lost.partition lost.later lost.below))

lost_where : (floors : List Floor) (e : Identity) → lost_by floors e ≡ true → Lost floors e
lost_where floors e is =
    let one = found (λ floor. gives_up floor e) floors is in
    let both = and_parts (one.0.partition == e.partition && nat_lt e.incarnation one.0.incarnation) (nat_le one.0.from e.position) one.2 in
    let first = and_parts (one.0.partition == e.partition) (nat_lt e.incarnation one.0.incarnation) both.0 in
    record {
      floor = one.0;
      there = one.1;
      partition = eqb-true one.0.partition e.partition first.0;
      later = ltb-true e.incarnation one.0.incarnation first.1;
      below = leb-true one.0.from e.position both.1;
    }

decided : (b any : Bool) → any ≡ b → (any ≡ true → ⊥) → false ≡ any
decided true any is kept = absurd (kept is)
decided false any is kept = sym is

pub not_lost : (floors : List Floor) (e : Identity) → (Lost floors e → ⊥) → false ≡ lost_by floors e
not_lost floors e kept = decided (lost_by floors e) (lost_by floors e) refl (λ is. kept (lost_where floors e is))
