-- Where each instance's one lock or grant is under way and what it has, and that links and holders say the same.
use Rattle.std.proofs.Common.{◌≡◌, ◌&&◌, ◌+◌, ◌⊎◌, inl, inr, ℕ, zero, suc, Bool, true, false, cond, List, [], ◌∷◌, ◌++◌, Option, Some, None, refl, sym, ap, ◌∙◌, arith}
use Rattle.std.proofs.lemmas.List.{append-nil}
use Rattle.dura_value.specs.Ids.{Id, entity, id_eq}
use Rattle.dura_value.specs.Messages.{Spot, at_spot, entity_at, Message}
use Rattle.dura_value.proofs.Ids.{id_self}
use Rattle.dura_model.specs.World.{at_link}
use Rattle.dura_value.specs.ById.{at_id}
use Rattle.dura_model.specs.Steps.{is_instance}
use Rattle.run_laws.proofs.MessageKinds.{Kind, kind_of, is_other}
use Rattle.run_laws.proofs.Counts.{when_true, when_false, Lock, locks_in, grants_in, releases_in, locks_of, grants_of, releases, behind, where_link, count_link, pushed_one, locks_pushed, grants_pushed, releases_pushed, behind_pushed, locks_popped, grants_popped, releases_popped, behind_popped}
use Rattle.run_laws.proofs.Sets.{is_rising}

-- Nothing is under way and it has this; its lock stands in this link; its grant stands in the link from there.
pub data Place : Type 0 where
  quiet : (set : List Spot) → Place
  locking : (task : ℕ) → (set : List Spot) → (index : ℕ) → (from at : Id) → Place
  granting : (task : ℕ) → (set : List Spot) → (from : Id) → Place

-- so many of a set, from the first on
abbrev pub first : ℕ → List Spot → List Spot
first zero set = []
first (suc count) [] = []
first (suc count) (spot ∷ set) = spot ∷ first count set

abbrev pub held : Place → List Spot
held (quiet set) = set
held (locking task set index from at) = first index set
held (granting task set from) = set

abbrev pub locks_at : Place → Id → Id → List Lock
locks_at (locking task set index from at) a b = where_link from at a b (record { task = task; set = set; index = index } ∷ [])
locks_at other a b = []

abbrev pub grants_at : Place → Id → List ℕ
grants_at (granting task set from) a = cond (id_eq from a) (task ∷ []) []
grants_at other a = []

abbrev pub is_entity : Id → Bool
is_entity (entity class key) = true
is_entity other = false

-- the instance itself sends its lock to the first entity, and then each entity to the next
abbrev pub IsSender : Id → ℕ → Id → Type 0
IsSender id zero from = from ≡ id
IsSender id (suc index) from = is_entity from ≡ true

pub record SoundLock (id : Id) (set : List Spot) (index : ℕ) (from at : Id) : Type 0 where
  pub instance : is_instance id ≡ true
  pub rising : is_rising set ≡ true
  pub is_at : entity_at set index ≡ Some at
  pub sender : IsSender id index from

abbrev pub Sound : Id → Place → Type 0
Sound id (quiet set) = Unit {0}
Sound id (locking task set index from at) = SoundLock id set index from at
Sound id (granting task set from) = (is_instance id ≡ true) × (is_rising set ≡ true)

-- how often an entity is in a set, and whether an instance is the holder
abbrev pub among : List Spot → Id → ℕ
among [] id = 0
among (spot ∷ set) id = cond (id_eq (at_spot spot) id) 1 0 + among set id

abbrev pub named : Option Id → Id → ℕ
named None id = 0
named (Some holder) id = cond (id_eq holder id) 1 0

pub record Tally (places : Id → Place) (links : Id → Id → List Message) (holders : Id → Option Id) : Type 0 where
  pub locks : (id a b : Id) → locks_of id (links a b) ≡ locks_at (places id) a b
  pub grants : (a id : Id) → grants_of (links a id) ≡ grants_at (places id) a
  pub count : (id b : Id) → among (held (places id)) b + releases (links id b) ≡ named (holders b) id
  pub order : (id b : Id) → behind id (links id b) ≡ 0
  pub sound : (id : Id) → Sound id (places id)
  pub holder : (b id : Id) → holders b ≡ Some id → (is_instance id ≡ true) × (is_entity b ≡ true)

-- a function that is another one but at one id
pub record Shifts {X : Type 0} (k : Id) (f later : Id → X) (x : X) : Type 0 where
  pub here : later k ≡ x
  pub there : (id : Id) → id_eq k id ≡ false → later id ≡ f id

pub shifts_one : {X : Type 0} (k : Id) (f : Id → X) (x : X) → Shifts k f (at_id f k x) x
shifts_one k f x = record { here = when_true (id_eq k k) x (f k) (id_self k); there = λ id apart. when_false (id_eq k id) x (f id) apart }

pub shifts_then : {X : Type 0} (k : Id) (f middle later : Id → X) (x y : X) → Shifts k f middle x → Shifts k middle later y → Shifts k f later y
shifts_then k f middle later x y one two = record { here = two.here; there = λ id apart. two.there id apart ∙ one.there id apart }

pub where_nothing : {X : Type 0} (test : Bool) → ◌≡◌ {A = List X} (cond test [] []) []
where_nothing true = refl
where_nothing false = refl

pub count_nothing : (test : Bool) → ◌≡◌ {A = ℕ} (cond test 0 0) 0
count_nothing true = refl
count_nothing false = refl

-- ---- what a message more, or less, must come to

-- a message joins the end of a link
pub record Joins (places later : Id → Place) (holders : Id → Option Id) (kind : Kind) (a b : Id) : Type 0 where
  pub locks : (id x y : Id) → locks_at (places id) x y ++ where_link a b x y (locks_in id kind) ≡ locks_at (later id) x y
  pub grants : (x y : Id) → grants_at (places y) x ++ where_link a b x y (grants_in kind) ≡ grants_at (later y) x
  pub count : (x y : Id) → among (held (places x)) y ≡ among (held (later x)) y + count_link a b x y (releases_in kind)
  pub order : (locks_at (places a) a b ≡ []) ⊎ (releases_in kind ≡ 0)
  pub sound : (id : Id) → Sound id (later id)

pub joined : (places later : Id → Place) (links : Id → Id → List Message) (holders : Id → Option Id) (a b : Id) (message : Message) (kind : Kind) → kind_of message.body ≡ kind → Tally places links holders → Joins places later holders kind a b
    → Tally later (at_link links a b (links a b ++ message ∷ [])) holders
joined places later links holders a b message kind is tally joins = record {
  locks = λ id x y.
      locks_pushed links a b message id x y
      ∙ ap (λ (kind : Kind). locks_of id (links x y) ++ where_link a b x y (locks_in id kind)) is
      ∙ ap (λ (before : List Lock). before ++ where_link a b x y (locks_in id kind)) (tally.locks id x y)
      ∙ joins.locks id x y;
  grants = λ x y.
      grants_pushed links a b message x y
      ∙ ap (λ (kind : Kind). grants_of (links x y) ++ where_link a b x y (grants_in kind)) is
      ∙ ap (λ (before : List ℕ). before ++ where_link a b x y (grants_in kind)) (tally.grants x y)
      ∙ joins.grants x y;
  count = λ x y.
      let more : releases (pushed_one links a b message x y) ≡ releases (links x y) + count_link a b x y (releases_in kind) =
      releases_pushed links a b message x y ∙ ap (λ (kind : Kind). releases (links x y) + count_link a b x y (releases_in kind)) is in
      summed (among (held (later x)) y) (among (held (places x)) y) (releases (links x y)) (count_link a b x y (releases_in kind)) (releases (pushed_one links a b message x y)) (named (holders y) x) more (joins.count x y) (tally.count x y);
  order = λ id y. behind_pushed links a b message (new joins.order) id y (tally.order id y);
  sound = joins.sound;
  holder = tally.holder;
}
  where
    summed : (one was n more now who : ℕ) → now ≡ n + more → was ≡ one + more → was + n ≡ who → one + now ≡ who
    summed one was n more now who a b c = omega (arith, a, b, c)

    new : (locks_at (places a) a b ≡ []) ⊎ (releases_in kind ≡ 0) → (locks_of a (links a b) ≡ []) ⊎ (releases_in (kind_of message.body) ≡ 0)
    new (inl none) = inl (tally.locks a a b ∙ none)
    new (inr none) = inr (ap releases_in is ∙ none)

-- the first message of a link leaves it
pub record Parts (places later : Id → Place) (holders now : Id → Option Id) (kind : Kind) (a b : Id) : Type 0 where
  pub locks : (id x y : Id) (rest : List Lock) → locks_at (places id) x y ≡ where_link a b x y (locks_in id kind) ++ rest → rest ≡ locks_at (later id) x y
  pub grants : (x y : Id) (rest : List ℕ) → grants_at (places y) x ≡ where_link a b x y (grants_in kind) ++ rest → rest ≡ grants_at (later y) x
  pub count : (x y : Id) (rest : ℕ) → among (held (places x)) y + (count_link a b x y (releases_in kind) + rest) ≡ named (holders y) x → among (held (later x)) y + rest ≡ named (now y) x
  pub sound : (id : Id) → Sound id (later id)
  pub holder : (b id : Id) → now b ≡ Some id → (is_instance id ≡ true) × (is_entity b ≡ true)

pub parted : (places later : Id → Place) (links : Id → Id → List Message) (holders now : Id → Option Id) (a b : Id) (message : Message) (rest : List Message) (kind : Kind) → links a b ≡ message ∷ rest → kind_of message.body ≡ kind → Tally places links holders
    → Parts places later holders now kind a b → Tally later (at_link links a b rest) now
parted places later links holders now a b message rest kind there is tally parts = record {
  locks = λ id x y.
      parts.locks id x y (locks_of id (at_link links a b rest x y))
      (sym (tally.locks id x y) ∙ locks_popped links a b message rest there id x y ∙ ap (λ (kind : Kind). where_link a b x y (locks_in id kind) ++ locks_of id (at_link links a b rest x y)) is);
  grants = λ x y.
      parts.grants x y (grants_of (at_link links a b rest x y))
      (sym (tally.grants x y) ∙ grants_popped links a b message rest there x y ∙ ap (λ (kind : Kind). where_link a b x y (grants_in kind) ++ grants_of (at_link links a b rest x y)) is);
  count = λ x y.
      parts.count x y (releases (at_link links a b rest x y))
      (ap (λ (n : ℕ). among (held (places x)) y + n)
      (sym (releases_popped links a b message rest there x y ∙ ap (λ (kind : Kind). count_link a b x y (releases_in kind) + releases (at_link links a b rest x y)) is))
      ∙ tally.count x y);
  order = λ id y. behind_popped links a b message rest there id y (tally.order id y);
  sound = parts.sound;
  holder = parts.holder;
}

-- ---- messages that have nothing to do with sections

pub other_pushed : (places : Id → Place) (links : Id → Id → List Message) (holders : Id → Option Id) (a b : Id) (message : Message) → kind_of message.body ≡ is_other → Tally places links holders
    → Tally places (at_link links a b (links a b ++ message ∷ [])) holders
other_pushed places links holders a b message is tally = joined places places links holders a b message is_other is tally (record {
  locks = λ id x y. ap (λ (more : List Lock). locks_at (places id) x y ++ more) (where_nothing (id_eq a x && id_eq b y)) ∙ append-nil (locks_at (places id) x y);
  grants = λ x y. ap (λ (more : List ℕ). grants_at (places y) x ++ more) (where_nothing (id_eq a x && id_eq b y)) ∙ append-nil (grants_at (places y) x);
  count = λ x y. let none : count_link a b x y 0 ≡ 0 = count_nothing (id_eq a x && id_eq b y) in same (among (held (places x)) y) (count_link a b x y 0) none;
  order = inr refl;
  sound = tally.sound;
})
  where
    same : (n more : ℕ) → more ≡ 0 → n ≡ n + more
    same n more none = omega (arith, none)

pub without : (n more rest who : ℕ) → more ≡ 0 → n + (more + rest) ≡ who → n + rest ≡ who
without n more rest who none is = omega (arith, none, is)

pub other_popped : (places : Id → Place) (links : Id → Id → List Message) (holders : Id → Option Id) (a b : Id) (message : Message) (rest : List Message) → links a b ≡ message ∷ rest → kind_of message.body ≡ is_other → Tally places links holders
    → Tally places (at_link links a b rest) holders
other_popped places links holders a b message rest there is tally = parted places places links holders holders a b message rest is_other there is tally (record {
  locks = λ id x y rest is. ap (λ (more : List Lock). more ++ rest) (sym (where_nothing (id_eq a x && id_eq b y))) ∙ sym is;
  grants = λ x y rest is. ap (λ (more : List ℕ). more ++ rest) (sym (where_nothing (id_eq a x && id_eq b y))) ∙ sym is;
  count = λ x y rest is. without (among (held (places x)) y) (count_link a b x y 0) rest (named (holders y) x) (count_nothing (id_eq a x && id_eq b y)) is;
  sound = tally.sound;
  holder = tally.holder;
})
