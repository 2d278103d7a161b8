-- A release is sent, and reaches its entity.
use Rattle.std.proofs.Common.{◌≡◌, ◌&&◌, ◌+◌, ℕ, Bool, true, false, cond, List, [], ◌∷◌, ◌++◌, Option, Some, None, refl, sym, ap, ◌∙◌, arith, inl}
use Rattle.dura_value.specs.Ids.{Id, id_eq}
use Rattle.dura_value.specs.Messages.{Spot, at_spot, Message}
use Rattle.dura_value.proofs.Ids.{id_self, id_same}
use Rattle.dura_model.specs.World.{at_link}
use Rattle.dura_model.specs.Steps.{is_instance}
use Rattle.run_laws.proofs.MessageKinds.{Kind, kind_of, is_release}
use Rattle.run_laws.proofs.Counts.{case_id, when_false, releases_in, releases, where_link, count_link}
use Rattle.run_laws.proofs.Tallies.{Place, quiet, held, locks_at, grants_at, is_entity, among, named, Tally, Shifts, joined, parted}
use Rattle.run_laws.proofs.Moves.{nothing_more, nothing_less, and_first, not_first, not_second, at_each, sound_each}

-- an instance gives back the first entity of what it has
pub release_pushed : (k : Id) (places later : Id → Place) (links : Id → Id → List Message) (holders : Id → Option Id) (spot : Spot) (set : List Spot) (message : Message) → kind_of message.body ≡ is_release → places k ≡ quiet (spot ∷ set)
    → Shifts k places later (quiet set) → Tally places links holders → Tally later (at_link links k (at_spot spot) (links k (at_spot spot) ++ message ∷ [])) holders
release_pushed k places later links holders spot set message kind is shift tally =
    joined places later links holders k (at_spot spot) message is_release kind tally (record {
      locks = λ id x y.
          each (λ id p q. locks_at p x y ++ where_link k (at_spot spot) x y [] ≡ locks_at q x y)
          (nothing_more (id_eq k x && id_eq (at_spot spot) y) [] [] refl)
          (λ id apart p. nothing_more (id_eq k x && id_eq (at_spot spot) y) (locks_at p x y) (locks_at p x y) refl)
          id;
      grants = λ x y.
          each (λ id p q. grants_at p x ++ where_link k (at_spot spot) x id [] ≡ grants_at q x)
          (nothing_more (id_eq k x && id_eq (at_spot spot) k) [] [] refl)
          (λ id apart p. nothing_more (id_eq k x && id_eq (at_spot spot) id) (grants_at p x) (grants_at p x) refl)
          y;
      count = λ x y.
          each (λ id p q. among (held p) y ≡ among (held q) y + count_link k (at_spot spot) id y 1)
          (one_less (cond (id_eq (at_spot spot) y) 1 0) (among set y) (count_link k (at_spot spot) k y 1) (ap (λ (test : Bool). cond test 1 0) (and_first (id_eq k k) (id_eq (at_spot spot) y) (id_self k))))
          (λ id apart p. same (among (held p) y) (count_link k (at_spot spot) id y 1) (when_false (id_eq k id && id_eq (at_spot spot) y) 1 0 (not_first (id_eq k id) (id_eq (at_spot spot) y) apart)))
          x;
      order = inl (ap (λ (p : Place). locks_at p k (at_spot spot)) is);
      sound = sound_each k places later (quiet (spot ∷ set)) (quiet set) is shift tally.sound tt;
    })
  where
    each : (P : Id → Place → Place → Type 0) → P k (quiet (spot ∷ set)) (quiet set) → ((id : Id) → id_eq k id ≡ false → (p : Place) → P id p p) → (id : Id) → P id (places id) (later id)
    each = at_each k places later (quiet (spot ∷ set)) (quiet set) is shift

    same : (n more : ℕ) → more ≡ 0 → n ≡ n + more
    same n more none = omega (arith, none)

    one_less : (one n more : ℕ) → more ≡ one → one + n ≡ n + more
    one_less one n more is = omega (arith, is)

-- a release comes from the holder
pub release_named : (a b : Id) (places : Id → Place) (links : Id → Id → List Message) (holders : Id → Option Id) (message : Message) (rest : List Message) → links a b ≡ message ∷ rest → kind_of message.body ≡ is_release → Tally places links holders
    → holders b ≡ Some a
release_named a b places links holders message rest there kind tally =
    by (holders b) refl (among (held (places a)) b) (releases rest)
    (ap (λ (kind : Kind). among (held (places a)) b + (releases_in kind + releases rest)) (sym kind) ∙ ap (λ (messages : List Message). among (held (places a)) b + releases messages) (sym there) ∙ tally.count a b)
  where
    by : (holder : Option Id) → holders b ≡ holder → (n rest : ℕ) → n + (1 + rest) ≡ named holder a → holders b ≡ Some a
    by None is n rest count = absurd (omega (arith, count))
    by (Some holder) is n rest count = one (id_eq holder a) refl count
      where
        one : (test : Bool) → id_eq holder a ≡ test → n + (1 + rest) ≡ cond test 1 0 → holders b ≡ Some a
        one true same count = is ∙ ap (λ (id : Id). Some id) (id_same holder a same)
        one false apart count = absurd (omega (arith, count))

-- a release leaves its link, and its entity has no holder any more
pub release_popped : (a b : Id) (places : Id → Place) (links : Id → Id → List Message) (holders now : Id → Option Id) (message : Message) (rest : List Message) → links a b ≡ message ∷ rest → kind_of message.body ≡ is_release → Shifts b holders now None
    → Tally places links holders → Tally places (at_link links a b rest) now
release_popped a b places links holders now message rest there kind shift tally =
    let named_so = release_named a b places links holders message rest there kind tally in
    parted places places links holders now a b message rest is_release there kind tally (record {
      locks = λ id x y rest has. nothing_less (id_eq a x && id_eq b y) (locks_at (places id) x y) (locks_at (places id) x y) rest refl has;
      grants = λ x y rest has. nothing_less (id_eq a x && id_eq b y) (grants_at (places y) x) (grants_at (places y) x) rest refl has;
      count = λ x. case_id b (λ y. (rest : ℕ) → among (held (places x)) y + (count_link a b x y 1 + rest) ≡ named (holders y) x → among (held (places x)) y + rest ≡ named (now y) x)
          (λ rest has.
          freed (among (held (places x)) b) rest (id_eq a x) (id_eq b b) (named (holders b) x) (named (now b) x) (id_self b) (ap (λ (h : Option Id). named h x) named_so) (ap (λ (h : Option Id). named h x) shift.here) has)
          (λ y apart rest has.
          kept (among (held (places x)) y) rest (count_link a b x y 1) (named (holders y) x) (named (now y) x) (when_false (id_eq a x && id_eq b y) 1 0 (not_second (id_eq a x) (id_eq b y) apart)) (ap (λ (h : Option Id). named h x) (shift.there y apart)) has);
      sound = tally.sound;
      holder = case_id b (λ y. (id : Id) → now y ≡ Some id → (is_instance id ≡ true) × (is_entity y ≡ true))
          (λ id is. let none : None ≡ Some id = sym shift.here ∙ is in absurd (cc none))
          (λ y apart id is. tally.holder y id (sym (shift.there y apart) ∙ is));
    })
  where
    freed : (n rest : ℕ) (test self : Bool) (before after : ℕ) → self ≡ true → before ≡ cond test 1 0 → after ≡ 0 → n + (cond (test && self) 1 0 + rest) ≡ before → n + rest ≡ after
    freed n rest true true before after is who none count = omega (arith, who, none, count)
    freed n rest false true before after is who none count = omega (arith, who, none, count)
    freed n rest test false before after is who none count = absurd (cc is)

    kept : (n rest more before after : ℕ) → more ≡ 0 → after ≡ before → n + (more + rest) ≡ before → n + rest ≡ after
    kept n rest more before after none same count = omega (arith, none, same, count)
