-- A change at one place is a change at one number, or at one id and number.
use Rattle.std.proofs.Common.{◌≡◌, ◌∙◌, ◌&&◌, ◌==◌, ℕ, Bool, true, false, cond, Option, None, refl, ap, sym, Some, is_none, eqb-true, arith, Ordering, Less, Equal, Greater}
use Rattle.std.specs.Cmp.{unsigned_tied}
use Rattle.std.specs.Ordering.{is_eq, nat_cmp, ordering_then}
use Rattle.dura_value.specs.Ids.{Id, id_eq}
use Rattle.dura_value.specs.ById.{at_id, at_number}
use Rattle.dura_value.proofs.Ids.{id_same}
use Rattle.shared_trees.specs.Ids.{id_cmp, key_of}
use Rattle.shared_maps.specs.Digests.{digest_of, hashed_place, task_place, time_place}
use Rattle.std.proofs.lemmas.Bool.{and_parts}
use Rattle.shared_trees.specs.Places.{Place, is_same, key_place, is_key_place}
use Rattle.shared_trees.specs.Entries.{at_place}
use Rattle.shared_maps.specs.Maps.{at_key, at_time}
use Rattle.shared_trees.proofs.Ids.{is_key, plain_again}

both_eq : (r s : Ordering) → is_eq (ordering_then r s) ≡ is_eq r && is_eq s
both_eq Less s = refl
both_eq Equal s = refl
both_eq Greater s = refl

and_yes : (b : Bool) → b && true ≡ b
and_yes true = refl
and_yes false = refl

absorbed : (x y z : Bool) → (y ≡ true → x ≡ true) → x && (y && z) ≡ y && z
absorbed true y z follows = refl
absorbed false true z follows = absurd (cc (follows refl))
absorbed false false z follows = refl

pub same_keys : (a b : ℕ) → is_same (key_place a) (key_place b) ≡ (a == b)
same_keys a b = both_eq (nat_cmp a b) Equal ∙ and_yes (is_eq (nat_cmp a b)) ∙ unsigned_tied a b

same_ids : (a b : Id) → is_eq (id_cmp (key_of a) (key_of b)) ≡ id_eq a b
same_ids a b = is_key (key_of a) b ∙ ap (λ (id : Id). id_eq id b) (plain_again a)

same_rest : (a b : Id) (m n : ℕ) → is_eq (ordering_then (id_cmp (key_of a) (key_of b)) (nat_cmp m n)) ≡ id_eq a b && m == n
same_rest a b m n = both_eq (id_cmp (key_of a) (key_of b)) (nat_cmp m n) ∙ ap (λ (x : Bool). x && is_eq (nat_cmp m n)) (same_ids a b) ∙ ap (λ (x : Bool). id_eq a b && x) (unsigned_tied m n)

number_itself : (a : ℕ) → is_eq (nat_cmp a a) ≡ true
number_itself a = unsigned_tied a a ∙ grind arith

pub same_hashed : (a b : Id) (m n : ℕ) → is_same (hashed_place a m) (hashed_place b n) ≡ id_eq a b && m == n
same_hashed a b m n =
    both_eq (nat_cmp (digest_of a) (digest_of b)) (ordering_then (id_cmp (key_of a) (key_of b)) (nat_cmp m n))
    ∙ ap (λ (x : Bool). is_eq (nat_cmp (digest_of a) (digest_of b)) && x) (same_rest a b m n)
    ∙ absorbed (is_eq (nat_cmp (digest_of a) (digest_of b))) (id_eq a b) (m == n)
    (λ same. ap (λ (id : Id). is_eq (nat_cmp (digest_of a) (digest_of id))) (sym (id_same a b same)) ∙ number_itself (digest_of a))

pub same_tasks : (a b : Id) (m n : ℕ) → is_same (task_place a m) (task_place b n) ≡ id_eq a b && m == n
same_tasks a b m n = same_rest a b m n

pub same_times : (s t : ℕ) (a b : Id) (m n : ℕ) → is_same (time_place s a m) (time_place t b n) ≡ s == t && (id_eq a b && m == n)
same_times s t a b m n =
    both_eq (nat_cmp s t) (ordering_then (id_cmp (key_of a) (key_of b)) (nat_cmp m n))
    ∙ ap (λ (x : Bool). x && is_eq (ordering_then (id_cmp (key_of a) (key_of b)) (nat_cmp m n))) (unsigned_tied s t) ∙ ap (λ (x : Bool). s == t && x) (same_rest a b m n)

module _ {X : Type 0} (f g : Place → Option X) (place : Place) (w : Option X) where
  seen_at : (at : Place) → g ≡ at_place f place w → (b : Bool) → is_same place at ≡ b → g at ≡ cond b w (f at)
  seen_at at changed b same = ap (λ h. h at) changed ∙ ap (λ (x : Bool). cond x w (f at)) same

  pub key_changes : (key : ℕ) → place ≡ key_place key → g ≡ at_place f place w → (λ k. g (key_place k)) ≡ at_key (λ k. f (key_place k)) key w
  key_changes key is changed = λ i k. seen_at (key_place k) changed (key == k) (ap (λ p. is_same p (key_place k)) is ∙ same_keys key k) i

  pub id_changes : (id : Id) → place ≡ hashed_place id 0 → g ≡ at_place f place w → (λ k. g (hashed_place k 0)) ≡ at_id (λ k. f (hashed_place k 0)) id w
  id_changes id is changed = λ i k. seen_at (hashed_place k 0) changed (id_eq id k) (ap (λ p. is_same p (hashed_place k 0)) is ∙ same_hashed id k 0 0 ∙ and_yes (id_eq id k)) i

  pub number_changes : (id : Id) (number : ℕ) → place ≡ hashed_place id number → g ≡ at_place f place w → (λ k n. g (hashed_place k n)) ≡ at_number (λ k n. f (hashed_place k n)) id number w
  number_changes id number is changed = λ i k n. seen_at (hashed_place k n) changed (id_eq id k && number == n) (ap (λ p. is_same p (hashed_place k n)) is ∙ same_hashed id k number n) i

  pub task_changes : (id : Id) (number : ℕ) → place ≡ task_place id number → g ≡ at_place f place w → (λ k n. g (task_place k n)) ≡ at_number (λ k n. f (task_place k n)) id number w
  task_changes id number is changed = λ i k n. seen_at (task_place k n) changed (id_eq id k && number == n) (ap (λ p. is_same p (task_place k n)) is ∙ same_tasks id k number n) i

  pub time_changes : (time : ℕ) (id : Id) (number : ℕ) → place ≡ time_place time id number → g ≡ at_place f place w → (λ t k n. g (time_place t k n)) ≡ at_time (λ t k n. f (time_place t k n)) time id number w
  time_changes time id number is changed =
      λ i t k n. seen_at (time_place t k n) changed (time == t && (id_eq id k && number == n)) (ap (λ p. is_same p (time_place t k n)) is ∙ same_times time t id k number n) i

none_is : {A : Type 0} (o : Option A) → is_none o ≡ true → o ≡ None
none_is None is = refl
none_is (Some x) is = absurd (cc is)

-- a place of a number alone is that of its number
pub key_alone : (p : Place) → is_key_place p ≡ true → p ≡ key_place p.lead
key_alone p is =
    let both = and_parts (is_none p.id) (p.number == 0) is in
    let id = none_is p.id both.0 in
    let number = eqb-true p.number 0 both.1 in
    λ i. record { lead = p.lead; id = id i; number = number i }
