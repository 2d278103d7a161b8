-- An entity takes a lock, and an instance its grant.
use Rattle.std.proofs.Common.{◌≡◌, ◌&&◌, ◌+◌, ℕ, zero, suc, Bool, true, false, cond, List, [], ◌∷◌, ◌++◌, Option, Some, None, refl, sym, ap, subst, ◌∙◌, arith, inr}
use Rattle.dura_value.specs.Ids.{Id, orchestration, entity, client, id_eq}
use Rattle.dura_value.specs.Messages.{Spot, at_spot, entity_at, Message}
use Rattle.dura_value.proofs.Ids.{id_self, id_same}
use Rattle.dura_model.specs.World.{at_link}
use Rattle.dura_model.specs.Steps.{is_instance}
use Rattle.flow_syntax.specs.Entity.{takes}
use Rattle.run_laws.proofs.MessageKinds.{Kind, kind_of, is_lock, is_grant}
use Rattle.run_laws.proofs.Counts.{case_id, when_true, when_false, Lock, grants_in, locks_in, releases_in, grants_of, releases, behind, behind_one, where_link, count_link}
use Rattle.run_laws.proofs.Tallies.{Place, quiet, locking, granting, first, held, locks_at, grants_at, is_entity, IsSender, among, named, Tally, Shifts, count_nothing, joined, parted}
use Rattle.run_laws.proofs.Moves.{nothing_more, nothing_less, none_left, and_second, not_second, at_each, sound_each, same_held, is_unchanged, is_fewer}
use Rattle.run_laws.proofs.Sets.{is_rising}

-- ---- an entity takes a lock

pub not_both : (id : Id) → is_instance id ≡ true → is_entity id ≡ true → ⊥
not_both (orchestration flow key) instance is = cc is
not_both (entity class key) instance is = cc instance
not_both (client name) instance is = cc is

-- the lock comes from its instance's own link, with no release behind it, or from an entity
no_holder : (k a b holder : Id) (places : Id → Place) (links : Id → Id → List Message) (holders : Id → Option Id) (task : ℕ) (set : List Spot) (index : ℕ) (message : Message) (rest : List Message) → links a b ≡ message ∷ rest
    → kind_of message.body ≡ is_lock k task set index → places k ≡ locking task set index a b → IsSender k index a → Tally places links holders → holders b ≡ Some holder → holder ≡ a → ⊥
no_holder k a b holder places links holders task set (suc index) message rest there kind is sender tally named_so same =
    not_both a (subst (λ (id : Id). is_instance id ≡ true) same (tally.holder b holder named_so).0) sender
no_holder k a b holder places links holders task set zero message rest there kind is sender tally named_so same =
    let itself : holder ≡ k = same ∙ sender in
    let link : links k b ≡ message ∷ rest = ap (λ (id : Id). links id b) (sym sender) ∙ there in
    let count = tally.count k b in
    let held_none : among (held (places k)) b ≡ 0 = ap (λ (p : Place). among (held p) b) is in
    let left : releases (links k b) ≡ releases_in (is_lock k task set zero) + releases rest = ap releases link ∙ ap (λ (kind : Kind). releases_in kind + releases rest) kind in
    let none : releases rest ≡ 0 =
    sym (ap (λ (locks : List Lock). behind_one locks (releases rest) (behind k rest)) (when_true (id_eq k k) (record { task = task; set = set; index = zero } ∷ []) [] (id_self k)))
    ∙ sym (ap (λ (kind : Kind). behind_one (locks_in k kind) (releases rest) (behind k rest)) kind) ∙ sym (ap (behind k) link) ∙ tally.order k b in
    let who : named (holders b) k ≡ 1 = ap (λ (h : Option Id). named h k) named_so ∙ when_true (id_eq holder k) 1 0 (ap (λ (id : Id). id_eq id k) itself ∙ id_self k) in
    omega (arith, count, held_none, left, none, who)

-- who takes a lock has no holder
pub lock_free : (k a b : Id) (places : Id → Place) (links : Id → Id → List Message) (holders : Id → Option Id) (task : ℕ) (set : List Spot) (index : ℕ) (message : Message) (rest : List Message) → links a b ≡ message ∷ rest
    → kind_of message.body ≡ is_lock k task set index → places k ≡ locking task set index a b → IsSender k index a → Tally places links holders → (holder : Option Id) → holders b ≡ holder → takes holder a ≡ true → holders b ≡ None
lock_free k a b places links holders task set index message rest there kind is sender tally None named_so lets = named_so
lock_free k a b places links holders task set index message rest there kind is sender tally (Some holder) named_so lets =
    absurd (no_holder k a b holder places links holders task set index message rest there kind is sender tally named_so (id_same holder a lets))

pub entity_there : (set : List Spot) (index : ℕ) (at : Id) → entity_at set index ≡ Some at → is_entity at ≡ true
entity_there [] index at is = absurd (cc is)
entity_there (spot ∷ set) zero at is = let same : at_spot spot ≡ at = cc is in subst (λ (id : Id). is_entity id ≡ true) same refl
entity_there (spot ∷ set) (suc index) at is = entity_there set index at is

-- one entity more of a set
first_more : (set : List Spot) (index : ℕ) (at y : Id) → entity_at set index ≡ Some at → among (first (suc index) set) y ≡ among (first index set) y + cond (id_eq at y) 1 0
first_more [] index at y is = absurd (cc is)
first_more (spot ∷ set) zero at y is = let same : at_spot spot ≡ at = cc is in let count : cond (id_eq (at_spot spot) y) 1 0 ≡ cond (id_eq at y) 1 0 = ap {B = ℕ} (λ (id : Id). cond (id_eq id y) 1 0) same in omega (arith, count)
first_more (spot ∷ set) (suc index) at y is = omega (arith, first_more set index at y is)

-- an entity that has no holder takes the lock
pub taken : (k b : Id) (places later : Id → Place) (links : Id → Id → List Message) (holders now : Id → Option Id) (set : List Spot) (index : ℕ) → is_instance k ≡ true → entity_at set index ≡ Some b → places k ≡ quiet (first index set)
    → Shifts k places later (quiet (first (suc index) set)) → holders b ≡ None → Shifts b holders now (Some k) → Tally places links holders → Tally later links now
taken k b places later links holders now set index instance there is shift free named_now tally = record {
  locks = λ id x y. tally.locks id x y ∙ each (λ id p q. locks_at p x y ≡ locks_at q x y) refl (λ id apart p. refl) id;
  grants = λ x y. tally.grants x y ∙ each (λ id p q. grants_at p x ≡ grants_at q x) refl (λ id apart p. refl) y;
  count = λ x y.
      let more : among (held (later x)) y ≡ among (held (places x)) y + cond (id_eq k x && id_eq b y) 1 0 =
      each (λ id p q. among (held q) y ≡ among (held p) y + cond (id_eq k id && id_eq b y) 1 0)
      (first_more set index b y there ∙ ap (λ (test : Bool). among (first index set) y + cond (test && id_eq b y) 1 0) (sym (id_self k)))
      (λ id apart p. same (among (held p) y) (cond (id_eq k id && id_eq b y) 1 0) (ap (λ (test : Bool). cond (test && id_eq b y) 1 0) apart))
      x in
      let who : named (now y) x ≡ named (holders y) x + cond (id_eq k x && id_eq b y) 1 0 =
      case_id b (λ y. named (now y) x ≡ named (holders y) x + cond (id_eq k x && id_eq b y) 1 0)
      (only_one (named (now b) x) (named (holders b) x) (id_eq k x) (id_eq b b) (id_self b) (ap (λ (h : Option Id). named h x) named_now.here) (ap (λ (h : Option Id). named h x) free))
      (λ y apart. ap (λ (h : Option Id). named h x) (named_now.there y apart) ∙ same (named (holders y) x) (cond (id_eq k x && id_eq b y) 1 0) (when_false (id_eq k x && id_eq b y) 1 0 (not_second (id_eq k x) (id_eq b y) apart)))
      y in
      summed (among (held (later x)) y) (among (held (places x)) y) (releases (links x y)) (cond (id_eq k x && id_eq b y) 1 0) (named (holders y) x) (named (now y) x) more who (tally.count x y);
  order = tally.order;
  sound = sound_each k places later (quiet (first index set)) (quiet (first (suc index) set)) is shift tally.sound tt;
  holder = case_id b (λ y. (id : Id) → now y ≡ Some id → (is_instance id ≡ true) × (is_entity y ≡ true))
      (λ id named_so. let one : k ≡ id = some_same (sym named_now.here ∙ named_so) in (subst (λ (i : Id). is_instance i ≡ true) one instance, entity_there set index b there))
      (λ y apart id named_so. tally.holder y id (sym (named_now.there y apart) ∙ named_so));
}
  where
    each : (P : Id → Place → Place → Type 0) → P k (quiet (first index set)) (quiet (first (suc index) set)) → ((id : Id) → id_eq k id ≡ false → (p : Place) → P id p p) → (id : Id) → P id (places id) (later id)
    each = at_each k places later (quiet (first index set)) (quiet (first (suc index) set)) is shift

    same : (n more : ℕ) → more ≡ 0 → n ≡ n + more
    same n more none = omega (arith, none)

    some_same : {x y : Id} → Some x ≡ Some y → x ≡ y
    some_same is = cc

    only_one : (after before : ℕ) (test self : Bool) → self ≡ true → after ≡ cond test 1 0 → before ≡ 0 → after ≡ before + cond (test && self) 1 0
    only_one after before true true is one none = omega (arith, one, none)
    only_one after before false true is one none = omega (arith, one, none)
    only_one after before test false is one none = absurd (cc is)

    summed : (one was n more before who : ℕ) → one ≡ was + more → who ≡ before + more → was + n ≡ before → one + n ≡ who
    summed one was n more before who a b c = omega (arith, a, b, c)

-- ---- grants

-- a grant is sent
pub grant_pushed : (k : Id) (places later : Id → Place) (links : Id → Id → List Message) (holders : Id → Option Id) (task : ℕ) (set : List Spot) (from : Id) (message : Message) → kind_of message.body ≡ is_grant task → places k ≡ quiet set
    → Shifts k places later (granting task set from) → is_instance k ≡ true → is_rising set ≡ true → Tally places links holders → Tally later (at_link links from k (links from k ++ message ∷ [])) holders
grant_pushed k places later links holders task set from message kind is shift instance rising tally =
    joined places later links holders from k message (is_grant task) kind tally (record {
      locks = λ id x y.
          at_each k places later (quiet set) (granting task set from) is shift (λ id p q. locks_at p x y ++ where_link from k x y [] ≡ locks_at q x y)
          (nothing_more (id_eq from x && id_eq k y) [] [] refl)
          (λ id apart p. nothing_more (id_eq from x && id_eq k y) (locks_at p x y) (locks_at p x y) refl)
          id;
      grants = λ x y.
          at_each k places later (quiet set) (granting task set from) is shift (λ id p q. grants_at p x ++ where_link from k x id (task ∷ []) ≡ grants_at q x)
          (ap (λ (test : Bool). cond test (task ∷ []) []) (and_second (id_eq from x) (id_eq k k) (id_self k)))
          (λ id apart p.
          ap (λ (test : Bool). grants_at p x ++ cond test (task ∷ []) []) (not_second (id_eq from x) (id_eq k id) apart) ∙ nothing_more false (grants_at p x) (grants_at p x) refl)
          y;
      count = λ x y.
          is_unchanged (among (held (places x)) y) (among (held (later x)) y) (count_link from k x y 0) (count_nothing (id_eq from x && id_eq k y)) (same_held k places later (quiet set) (granting task set from) is shift refl x y);
      order = inr refl;
      sound = sound_each k places later (quiet set) (granting task set from) is shift tally.sound (instance, rising);
    })

granted_at : (a : Id) (task : ℕ) (rest : List ℕ) (place : Place) → task ∷ rest ≡ grants_at place a → (set : List Spot) × (place ≡ granting task set a)
granted_at a task rest (quiet set) is = absurd (cc is)
granted_at a task rest (locking other set index from at) is = absurd (cc is)
granted_at a task rest (granting other set from) is = by (id_eq from a) refl is
  where
    by : (test : Bool) → id_eq from a ≡ test → task ∷ rest ≡ cond test (other ∷ []) [] → (found : List Spot) × (granting other set from ≡ granting task found a)
    by true same is = let here = id_same from a same in let one : task ≡ other = cc is in (set, cc (here, one))
    by false apart is = absurd (cc is)

-- a grant that is delivered is the one that its instance's place says
pub grant_found : (k : Id) (places : Id → Place) (links : Id → Id → List Message) (holders : Id → Option Id) (task : ℕ) (a : Id) (message : Message) (rest : List Message) → links a k ≡ message ∷ rest → kind_of message.body ≡ is_grant task
    → Tally places links holders → (set : List Spot) × (places k ≡ granting task set a)
grant_found k places links holders task a message rest there kind tally =
    granted_at a task (grants_of rest) (places k) (ap (λ (kind : Kind). grants_in kind ++ grants_of rest) (sym kind) ∙ ap grants_of (sym there) ∙ tally.grants a k)

-- a grant leaves its link
pub grant_popped : (k : Id) (places later : Id → Place) (links : Id → Id → List Message) (holders : Id → Option Id) (task : ℕ) (set : List Spot) (a : Id) (message : Message) (rest : List Message) → links a k ≡ message ∷ rest
    → kind_of message.body ≡ is_grant task → places k ≡ granting task set a → Shifts k places later (quiet set) → Tally places links holders → Tally later (at_link links a k rest) holders
grant_popped k places later links holders task set a message rest there kind is shift tally =
    parted places later links holders holders a k message rest (is_grant task) there kind tally (record {
      locks = λ id x y.
          at_each k places later (granting task set a) (quiet set) is shift (λ id p q. (rest : List Lock) → locks_at p x y ≡ where_link a k x y [] ++ rest → rest ≡ locks_at q x y)
          (λ rest has. nothing_less (id_eq a x && id_eq k y) [] [] rest refl has)
          (λ id apart p rest has. nothing_less (id_eq a x && id_eq k y) (locks_at p x y) (locks_at p x y) rest refl has)
          id;
      grants = λ x y.
          at_each k places later (granting task set a) (quiet set) is shift (λ id p q. (rest : List ℕ) → grants_at p x ≡ where_link a k x id (task ∷ []) ++ rest → rest ≡ grants_at q x)
          (λ rest has. none_left (id_eq a x) task rest (has ∙ ap (λ (test : Bool). cond test (task ∷ []) [] ++ rest) (and_second (id_eq a x) (id_eq k k) (id_self k))))
          (λ id apart p rest has. nothing_less false (grants_at p x) (grants_at p x) rest refl (has ∙ ap (λ (test : Bool). cond test (task ∷ []) [] ++ rest) (not_second (id_eq a x) (id_eq k id) apart)))
          y;
      count = λ x y rest has.
          is_fewer (among (held (places x)) y) (among (held (later x)) y) (count_link a k x y 0) rest (named (holders y) x) (count_nothing (id_eq a x && id_eq k y)) (same_held k places later (granting task set a) (quiet set) is shift refl x y) has;
      sound = sound_each k places later (granting task set a) (quiet set) is shift tally.sound tt;
      holder = tally.holder;
    })
