-- What each lock, grant and release does to the places, the links and the holders.
use Rattle.std.proofs.Common.{◌≡◌, ◌&&◌, ◌+◌, inr, ℕ, Bool, true, false, cond, List, [], ◌∷◌, ◌++◌, Option, refl, sym, ap, subst, ◌∙◌, arith}
use Rattle.std.proofs.lemmas.List.{append-nil}
use Rattle.dura_value.specs.Ids.{Id, id_eq}
use Rattle.dura_value.specs.Messages.{Spot, Message}
use Rattle.dura_value.proofs.Ids.{id_self, id_same}
use Rattle.dura_model.specs.World.{at_link}
use Rattle.run_laws.proofs.MessageKinds.{Kind, kind_of, is_lock}
use Rattle.run_laws.proofs.Counts.{lock_of, case_id, when_true, when_false, Lock, locks_in, locks_of, where_link, count_link}
use Rattle.run_laws.proofs.Tallies.{Place, quiet, locking, granting, first, held, locks_at, grants_at, SoundLock, Sound, among, named, Tally, Shifts, where_nothing, count_nothing, joined, parted}
use Rattle.std.proofs.lemmas.Bool.{and_parts}

-- ---- of lists and tests

pub nothing_more : {X : Type 0} (test : Bool) (xs ys : List X) → xs ≡ ys → xs ++ cond test [] [] ≡ ys
nothing_more test xs ys is = ap (λ (more : List _). xs ++ more) (where_nothing test) ∙ append-nil xs ∙ is

pub nothing_less : {X : Type 0} (test : Bool) (xs ys rest : List X) → ys ≡ xs → xs ≡ cond test [] [] ++ rest → rest ≡ ys
nothing_less test xs ys rest is has = ap (λ (more : List _). more ++ rest) (sym (where_nothing test)) ∙ sym has ∙ sym is

pub none_left : {X : Type 0} (test : Bool) (x : X) (rest : List X) → cond test (x ∷ []) [] ≡ cond test (x ∷ []) [] ++ rest → rest ≡ []
none_left true x rest is = cc is
none_left false x rest is = sym is

pub none_from : {X : Type 0} (test : Bool) (xs : List X) → test ≡ false → cond test xs [] ≡ []
none_from test xs is = when_false test xs [] is

pub and_second : (a b : Bool) → b ≡ true → a && b ≡ a
and_second true b is = is
and_second false b is = refl

pub and_first : (a b : Bool) → a ≡ true → a && b ≡ b
and_first true b is = refl
and_first false b is = absurd (cc is)

pub not_second : (a b : Bool) → b ≡ false → a && b ≡ false
not_second true b is = is
not_second false b is = refl

pub not_first : (a b : Bool) → a ≡ false → a && b ≡ false
not_first true b is = absurd (cc is)
not_first false b is = refl

-- ---- what a shift leaves

module _ (k : Id) (places later : Id → Place) (was place : Place) (is : places k ≡ was) (shift : Shifts k places later place) where
  -- what holds of the place that was and of the new one holds of both at each id
  pub at_each : (P : Id → Place → Place → Type 0) → P k was place → ((id : Id) → id_eq k id ≡ false → (p : Place) → P id p p) → (id : Id) → P id (places id) (later id)
  at_each P here there = case_id k (λ id. P id (places id) (later id))
      (subst (λ (p : Place). P k p (later k)) (sym is) (subst (P k was) (sym shift.here) here))
      (λ id apart. subst (P id (places id)) (sym (shift.there id apart)) (there id apart (places id)))

  pub sound_each : (sound : (id : Id) → Sound id (places id)) → Sound k place → (id : Id) → Sound id (later id)
  sound_each sound here = case_id k (λ id. Sound id (later id)) (subst (Sound k) (sym shift.here) here) (λ id apart. subst (Sound id) (sym (shift.there id apart)) (sound id))

  pub same_held : held place ≡ held was → (id b : Id) → among (held (later id)) b ≡ among (held (places id)) b
  same_held same id b = at_each (λ id p q. among (held q) b ≡ among (held p) b) (ap (λ (set : List Spot). among set b) same) (λ id apart p. refl) id

-- ---- locks

pub is_unchanged : (before after more : ℕ) → more ≡ 0 → after ≡ before → before ≡ after + more
is_unchanged before after more none is = omega (arith, none, is)

pub is_fewer : (before after more rest who : ℕ) → more ≡ 0 → after ≡ before → before + (more + rest) ≡ who → after + rest ≡ who
is_fewer before after more rest who none same is = omega (arith, none, same, is)

-- a lock is sent
pub lock_pushed : (k : Id) (places later : Id → Place) (links : Id → Id → List Message) (holders : Id → Option Id) (task : ℕ) (set : List Spot) (index : ℕ) (from at : Id) (message : Message) → kind_of message.body ≡ is_lock k task set index
    → places k ≡ quiet (first index set) → Shifts k places later (locking task set index from at) → SoundLock k set index from at → Tally places links holders → Tally later (at_link links from at (links from at ++ message ∷ [])) holders
lock_pushed k places later links holders task set index from at message kind is shift sound tally =
    joined places later links holders from at message (is_lock k task set index) kind tally (record {
      locks = λ id x y.
          at_each k places later (quiet (first index set)) (locking task set index from at) is shift (λ id p q. locks_at p x y ++ where_link from at x y (locks_in id (is_lock k task set index)) ≡ locks_at q x y)
          (ap (where_link from at x y) (when_true (id_eq k k) (lock_of task set index ∷ []) [] (id_self k)))
          (λ id apart p. ap (λ (more : List Lock). locks_at p x y ++ where_link from at x y more) (none_from (id_eq k id) (lock_of task set index ∷ []) apart) ∙ nothing_more (id_eq from x && id_eq at y) (locks_at p x y) (locks_at p x y) refl)
          id;
      grants = λ x y.
          at_each k places later (quiet (first index set)) (locking task set index from at) is shift (λ id p q. grants_at p x ++ where_link from at x id [] ≡ grants_at q x)
          (nothing_more (id_eq from x && id_eq at k) [] [] refl)
          (λ id apart p. nothing_more (id_eq from x && id_eq at id) (grants_at p x) (grants_at p x) refl)
          y;
      count = λ x y.
          is_unchanged (among (held (places x)) y) (among (held (later x)) y) (count_link from at x y 0) (count_nothing (id_eq from x && id_eq at y)) (same_held k places later (quiet (first index set)) (locking task set index from at) is shift refl x y);
      order = inr refl;
      sound = sound_each k places later (quiet (first index set)) (locking task set index from at) is shift tally.sound sound;
    })

-- a lock that is delivered is the one that its instance's place says
found_at : (a b : Id) (task : ℕ) (set : List Spot) (index : ℕ) (rest : List Lock) (place : Place) → lock_of task set index ∷ rest ≡ locks_at place a b → place ≡ locking task set index a b
found_at a b task set index rest (quiet other) is = absurd (cc is)
found_at a b task set index rest (granting other_task other from) is = absurd (cc is)
found_at a b task set index rest (locking other_task other other_index from at) is = by (id_eq from a && id_eq at b) refl is
  where
    by : (test : Bool) → id_eq from a && id_eq at b ≡ test → lock_of task set index ∷ rest ≡ cond test (lock_of other_task other other_index ∷ []) [] → locking other_task other other_index from at ≡ locking task set index a b
    by true same is =
        let parts = and_parts (id_eq from a) (id_eq at b) same in
        let one : lock_of task set index ≡ lock_of other_task other other_index = cc is in
        let from_a = id_same from a parts.0 in
        let at_b = id_same at b parts.1 in
        let t = ap (λ (l : Lock). l.task) one in
        let s = ap (λ (l : Lock). l.set) one in
        let i = ap (λ (l : Lock). l.index) one in
        cc (t, s, i, from_a, at_b)
    by false apart is = absurd (cc is)

pub lock_found : (k : Id) (places : Id → Place) (links : Id → Id → List Message) (holders : Id → Option Id) (task : ℕ) (set : List Spot) (index : ℕ) (a b : Id) (message : Message) (rest : List Message) → links a b ≡ message ∷ rest
    → kind_of message.body ≡ is_lock k task set index → Tally places links holders → places k ≡ locking task set index a b
lock_found k places links holders task set index a b message rest there kind tally =
    found_at a b task set index (locks_of k rest) (places k)
    (ap (λ (more : List Lock). more ++ locks_of k rest) (sym (when_true (id_eq k k) (lock_of task set index ∷ []) [] (id_self k)))
    ∙ ap (λ (kind : Kind). locks_in k kind ++ locks_of k rest) (sym kind)
    ∙ ap (locks_of k) (sym there)
    ∙ tally.locks k a b)

-- a lock leaves its link
pub lock_popped : (k : Id) (places later : Id → Place) (links : Id → Id → List Message) (holders : Id → Option Id) (task : ℕ) (set : List Spot) (index : ℕ) (a b : Id) (message : Message) (rest : List Message) → links a b ≡ message ∷ rest
    → kind_of message.body ≡ is_lock k task set index → places k ≡ locking task set index a b → Shifts k places later (quiet (first index set)) → Tally places links holders → Tally later (at_link links a b rest) holders
lock_popped k places later links holders task set index a b message rest there kind is shift tally =
    parted places later links holders holders a b message rest (is_lock k task set index) there kind tally (record {
      locks = λ id x y.
          at_each k places later (locking task set index a b) (quiet (first index set)) is shift
          (λ id p q. (rest : List Lock) → locks_at p x y ≡ where_link a b x y (locks_in id (is_lock k task set index)) ++ rest → rest ≡ locks_at q x y)
          (λ rest has.
          none_left (id_eq a x && id_eq b y) (lock_of task set index) rest
          (has ∙ ap (λ (more : List Lock). where_link a b x y more ++ rest) (when_true (id_eq k k) (lock_of task set index ∷ []) [] (id_self k))))
          (λ id apart p rest has.
          nothing_less (id_eq a x && id_eq b y) (locks_at p x y) (locks_at p x y) rest refl
          (has ∙ ap (λ (more : List Lock). where_link a b x y more ++ rest) (none_from (id_eq k id) (lock_of task set index ∷ []) apart)))
          id;
      grants = λ x y.
          at_each k places later (locking task set index a b) (quiet (first index set)) is shift (λ id p q. (rest : List ℕ) → grants_at p x ≡ where_link a b x id [] ++ rest → rest ≡ grants_at q x)
          (λ rest has. nothing_less (id_eq a x && id_eq b k) [] [] rest refl has)
          (λ id apart p rest has. nothing_less (id_eq a x && id_eq b id) (grants_at p x) (grants_at p x) rest refl has)
          y;
      count = λ x y rest has.
          is_fewer (among (held (places x)) y) (among (held (later x)) y) (count_link a b x y 0) rest (named (holders y) x) (count_nothing (id_eq a x && id_eq b y)) (same_held k places later (locking task set index a b) (quiet (first index set)) is shift refl x y) has;
      sound = sound_each k places later (locking task set index a b) (quiet (first index set)) is shift tally.sound tt;
      holder = tally.holder;
    })
