-- What stands in a link, and one message more.
use Rattle.std.proofs.Common.{◌≡◌, ◌&&◌, ◌+◌, ◌⊎◌, inl, inr, ℕ, Bool, true, false, cond, List, [], ◌∷◌, ◌++◌, refl, sym, ap, subst, ◌∙◌, arith, append_assoc}
use Rattle.std.proofs.lemmas.List.{append-nil}
use Rattle.dura_value.specs.Ids.{Id, id_eq}
use Rattle.dura_value.specs.Messages.{Spot, Message}
use Rattle.dura_value.proofs.Ids.{id_same, id_self}
use Rattle.dura_model.specs.World.{at_link}
use Rattle.run_laws.proofs.MessageKinds.{Kind, kind_of, is_lock, is_grant, is_release}
use Rattle.std.proofs.lemmas.Bool.{and_parts}

-- ---- cases

-- this at the place, that elsewhere
pub case_id : (k : Id) (P : Id → Type 0) → P k → ((id : Id) → id_eq k id ≡ false → P id) → (id : Id) → P id
case_id k P here there id = by (id_eq k id) refl
  where
    by : (test : Bool) → id_eq k id ≡ test → P id
    by true is = subst P (id_same k id is) here
    by false is = there id is

pub case_link : (a b : Id) (P : Id → Id → Type 0) → P a b → ((x y : Id) → id_eq a x && id_eq b y ≡ false → P x y) → (x y : Id) → P x y
case_link a b P here there x y = by (id_eq a x && id_eq b y) refl
  where
    by : (test : Bool) → id_eq a x && id_eq b y ≡ test → P x y
    by true is = let parts = and_parts (id_eq a x) (id_eq b y) is in subst (λ (p : Id). P p y) (id_same a x parts.0) (subst (P a) (id_same b y parts.1) here)
    by false is = there x y is

pub when_true : {X : Type 0} (test : Bool) (x y : X) → test ≡ true → cond test x y ≡ x
when_true true x y is = refl
when_true false x y is = absurd (cc is)

pub when_false : {X : Type 0} (test : Bool) (x y : X) → test ≡ false → cond test x y ≡ y
when_false true x y is = absurd (cc is)
when_false false x y is = refl

pub link_self : (a b : Id) → id_eq a a && id_eq b b ≡ true
link_self a b = subst (λ (test : Bool). test && id_eq b b ≡ true) (sym (id_self a)) (id_self b)

-- ---- what counts

-- a lock, as its instance sent it
pub record Lock : Type 0 where
  pub task : ℕ
  pub set : List Spot
  pub index : ℕ

abbrev pub lock_of : ℕ → List Spot → ℕ → Lock
lock_of task set index = record { task = task; set = set; index = index }

abbrev pub locks_in : Id → Kind → List Lock
locks_in id (is_lock of task set index) = cond (id_eq of id) (record { task = task; set = set; index = index } ∷ []) []
locks_in id other = []

abbrev pub grants_in : Kind → List ℕ
grants_in (is_grant task) = task ∷ []
grants_in other = []

abbrev pub releases_in : Kind → ℕ
releases_in is_release = 1
releases_in other = 0

-- the locks of an instance in a link, the grants, and how many releases
abbrev pub locks_of : Id → List Message → List Lock
locks_of id [] = []
locks_of id (message ∷ messages) = locks_in id (kind_of message.body) ++ locks_of id messages

abbrev pub grants_of : List Message → List ℕ
grants_of [] = []
grants_of (message ∷ messages) = grants_in (kind_of message.body) ++ grants_of messages

abbrev pub releases : List Message → ℕ
releases [] = 0
releases (message ∷ messages) = releases_in (kind_of message.body) + releases messages

-- the releases behind the first lock of an instance
abbrev pub behind_one : List Lock → (here later : ℕ) → ℕ
behind_one [] here later = later
behind_one (lock ∷ locks) here later = here

abbrev pub behind : Id → List Message → ℕ
behind id [] = 0
behind id (message ∷ messages) = behind_one (locks_in id (kind_of message.body)) (releases messages) (behind id messages)

-- ---- one message more at the end

pub locks_end : (id : Id) (messages : List Message) (message : Message) → locks_of id (messages ++ message ∷ []) ≡ locks_of id messages ++ locks_in id (kind_of message.body)
locks_end id [] message = append-nil (locks_in id (kind_of message.body))
locks_end id (first ∷ messages) message =
    ap (λ (rest : List Lock). locks_in id (kind_of first.body) ++ rest) (locks_end id messages message) ∙ sym (append_assoc (locks_in id (kind_of first.body)) (locks_of id messages) (locks_in id (kind_of message.body)))

pub grants_end : (messages : List Message) (message : Message) → grants_of (messages ++ message ∷ []) ≡ grants_of messages ++ grants_in (kind_of message.body)
grants_end [] message = append-nil (grants_in (kind_of message.body))
grants_end (first ∷ messages) message =
    ap (λ (rest : List ℕ). grants_in (kind_of first.body) ++ rest) (grants_end messages message) ∙ sym (append_assoc (grants_in (kind_of first.body)) (grants_of messages) (grants_in (kind_of message.body)))

pub releases_end : (messages : List Message) (message : Message) → releases (messages ++ message ∷ []) ≡ releases messages + releases_in (kind_of message.body)
releases_end [] message = omega arith
releases_end (first ∷ messages) message = omega (arith, releases_end messages message)

-- behind the first lock there is no release more, unless it is one and there is a lock
pub behind_end : (id : Id) (messages : List Message) (message : Message) → behind id messages ≡ 0 → (locks_of id messages ≡ []) ⊎ (releases_in (kind_of message.body) ≡ 0) → behind id (messages ++ message ∷ []) ≡ 0
behind_end id [] message is new = nothing (locks_in id (kind_of message.body))
  where
    nothing : (locks : List Lock) → behind_one locks 0 0 ≡ 0
    nothing [] = refl
    nothing (lock ∷ locks) = refl
behind_end id (first ∷ messages) message is new = by (locks_in id (kind_of first.body)) is new (behind_end id messages message) (releases_end messages message)
  where
    by : (locks : List Lock) → behind_one locks (releases messages) (behind id messages) ≡ 0 → (locks ++ locks_of id messages ≡ []) ⊎ (releases_in (kind_of message.body) ≡ 0)
        → (behind id messages ≡ 0 → (locks_of id messages ≡ []) ⊎ (releases_in (kind_of message.body) ≡ 0) → behind id (messages ++ message ∷ []) ≡ 0)
        → releases (messages ++ message ∷ []) ≡ releases messages + releases_in (kind_of message.body)
        → behind_one locks (releases (messages ++ message ∷ [])) (behind id (messages ++ message ∷ [])) ≡ 0
    by [] is new rest count = rest is new
    by (lock ∷ locks) is (inl none) rest count = absurd (cc none)
    by (lock ∷ locks) is (inr none) rest count = omega (arith, is, none, count)

-- ---- one message less at the front

pub behind_releases : (id : Id) (messages : List Message) → releases messages ≡ 0 → behind id messages ≡ 0
behind_releases id [] none = refl
behind_releases id (first ∷ messages) none =
    let none_later : releases messages ≡ 0 = omega (arith, none) in by (locks_in id (kind_of first.body)) none_later (behind_releases id messages none_later)
  where
    by : (locks : List Lock) → releases messages ≡ 0 → behind id messages ≡ 0 → behind_one locks (releases messages) (behind id messages) ≡ 0
    by [] here later = later
    by (lock ∷ locks) here later = here

pub behind_front : (id : Id) (message : Message) (messages : List Message) → behind id (message ∷ messages) ≡ 0 → behind id messages ≡ 0
behind_front id message messages is = by (locks_in id (kind_of message.body)) is
  where
    by : (locks : List Lock) → behind_one locks (releases messages) (behind id messages) ≡ 0 → behind id messages ≡ 0
    by [] is = is
    by (lock ∷ locks) is = behind_releases id messages is

-- ---- links

-- what one link has more
abbrev pub where_link : {X : Type 0} → (a b x y : Id) → List X → List X
where_link a b x y more = cond (id_eq a x && id_eq b y) more []

abbrev pub count_link : (a b x y : Id) → ℕ → ℕ
count_link a b x y more = cond (id_eq a x && id_eq b y) more 0

module _ (links : Id → Id → List Message) (a b : Id) where
  -- the links with this message at the end of one
  abbrev pub pushed_one : Message → Id → Id → List Message
  pushed_one message = at_link links a b (links a b ++ message ∷ [])

  link_here : (messages : List Message) → at_link links a b messages a b ≡ messages
  link_here messages = when_true (id_eq a a && id_eq b b) messages (links a b) (link_self a b)

  link_there : (messages : List Message) (x y : Id) → id_eq a x && id_eq b y ≡ false → at_link links a b messages x y ≡ links x y
  link_there messages x y apart = when_false (id_eq a x && id_eq b y) messages (links x y) apart

  pub locks_pushed : (message : Message) (id x y : Id) → locks_of id (pushed_one message x y) ≡ locks_of id (links x y) ++ where_link a b x y (locks_in id (kind_of message.body))
  locks_pushed message id = case_link a b (λ x y. locks_of id (pushed_one message x y) ≡ locks_of id (links x y) ++ where_link a b x y (locks_in id (kind_of message.body)))
      (ap (locks_of id) (link_here (links a b ++ message ∷ [])) ∙ locks_end id (links a b) message ∙ ap (λ (more : List Lock). locks_of id (links a b) ++ more) (sym (when_true (id_eq a a && id_eq b b) (locks_in id (kind_of message.body)) [] (link_self a b))))
      (λ x y apart. ap (locks_of id) (link_there (links a b ++ message ∷ []) x y apart) ∙ sym (append-nil (locks_of id (links x y)))
      ∙ ap (λ (more : List Lock). locks_of id (links x y) ++ more) (sym (when_false (id_eq a x && id_eq b y) (locks_in id (kind_of message.body)) [] apart)))

  pub grants_pushed : (message : Message) (x y : Id) → grants_of (pushed_one message x y) ≡ grants_of (links x y) ++ where_link a b x y (grants_in (kind_of message.body))
  grants_pushed message = case_link a b (λ x y. grants_of (pushed_one message x y) ≡ grants_of (links x y) ++ where_link a b x y (grants_in (kind_of message.body)))
      (ap grants_of (link_here (links a b ++ message ∷ [])) ∙ grants_end (links a b) message ∙ ap (λ (more : List ℕ). grants_of (links a b) ++ more) (sym (when_true (id_eq a a && id_eq b b) (grants_in (kind_of message.body)) [] (link_self a b))))
      (λ x y apart. ap grants_of (link_there (links a b ++ message ∷ []) x y apart) ∙ sym (append-nil (grants_of (links x y)))
      ∙ ap (λ (more : List ℕ). grants_of (links x y) ++ more) (sym (when_false (id_eq a x && id_eq b y) (grants_in (kind_of message.body)) [] apart)))

  pub releases_pushed : (message : Message) (x y : Id) → releases (pushed_one message x y) ≡ releases (links x y) + count_link a b x y (releases_in (kind_of message.body))
  releases_pushed message = case_link a b (λ x y. releases (pushed_one message x y) ≡ releases (links x y) + count_link a b x y (releases_in (kind_of message.body)))
      (ap releases (link_here (links a b ++ message ∷ [])) ∙ releases_end (links a b) message ∙ ap (λ (more : ℕ). releases (links a b) + more) (sym (when_true (id_eq a a && id_eq b b) (releases_in (kind_of message.body)) 0 (link_self a b))))
      (λ x y apart. ap releases (link_there (links a b ++ message ∷ []) x y apart) ∙ nothing (releases (links x y)) (count_link a b x y (releases_in (kind_of message.body))) (when_false (id_eq a x && id_eq b y) (releases_in (kind_of message.body)) 0 apart))
    where
      nothing : (n more : ℕ) → more ≡ 0 → n ≡ n + more
      nothing n more is = omega (arith, is)

  pub behind_pushed : (message : Message) → (locks_of a (links a b) ≡ []) ⊎ (releases_in (kind_of message.body) ≡ 0) → (id y : Id) → behind id (links id y) ≡ 0 → behind id (pushed_one message id y) ≡ 0
  behind_pushed message new = case_link a b (λ x y. behind x (links x y) ≡ 0 → behind x (pushed_one message x y) ≡ 0)
      (λ is. ap (behind a) (link_here (links a b ++ message ∷ [])) ∙ behind_end a (links a b) message is new)
      (λ x y apart is. ap (behind x) (link_there (links a b ++ message ∷ []) x y apart) ∙ is)

  -- the first message leaves a link
  module _ (message : Message) (rest : List Message) (is : links a b ≡ message ∷ rest) where
    pub locks_popped : (id x y : Id) → locks_of id (links x y) ≡ where_link a b x y (locks_in id (kind_of message.body)) ++ locks_of id (at_link links a b rest x y)
    locks_popped id = case_link a b (λ x y. locks_of id (links x y) ≡ where_link a b x y (locks_in id (kind_of message.body)) ++ locks_of id (at_link links a b rest x y))
        (ap (locks_of id) is ∙ ap (λ (more : List Lock). more ++ locks_of id rest) (sym (when_true (id_eq a a && id_eq b b) (locks_in id (kind_of message.body)) [] (link_self a b)))
        ∙ ap (λ (messages : List Message). where_link a b a b (locks_in id (kind_of message.body)) ++ locks_of id messages) (sym (link_here rest)))
        (λ x y apart. ap (λ (more : List Lock). more ++ locks_of id (links x y)) (sym (when_false (id_eq a x && id_eq b y) (locks_in id (kind_of message.body)) [] apart))
        ∙ ap (λ (messages : List Message). where_link a b x y (locks_in id (kind_of message.body)) ++ locks_of id messages) (sym (link_there rest x y apart)))

    pub grants_popped : (x y : Id) → grants_of (links x y) ≡ where_link a b x y (grants_in (kind_of message.body)) ++ grants_of (at_link links a b rest x y)
    grants_popped = case_link a b (λ x y. grants_of (links x y) ≡ where_link a b x y (grants_in (kind_of message.body)) ++ grants_of (at_link links a b rest x y))
        (ap grants_of is ∙ ap (λ (more : List ℕ). more ++ grants_of rest) (sym (when_true (id_eq a a && id_eq b b) (grants_in (kind_of message.body)) [] (link_self a b)))
        ∙ ap (λ (messages : List Message). where_link a b a b (grants_in (kind_of message.body)) ++ grants_of messages) (sym (link_here rest)))
        (λ x y apart. ap (λ (more : List ℕ). more ++ grants_of (links x y)) (sym (when_false (id_eq a x && id_eq b y) (grants_in (kind_of message.body)) [] apart))
        ∙ ap (λ (messages : List Message). where_link a b x y (grants_in (kind_of message.body)) ++ grants_of messages) (sym (link_there rest x y apart)))

    pub releases_popped : (x y : Id) → releases (links x y) ≡ count_link a b x y (releases_in (kind_of message.body)) + releases (at_link links a b rest x y)
    releases_popped = case_link a b (λ x y. releases (links x y) ≡ count_link a b x y (releases_in (kind_of message.body)) + releases (at_link links a b rest x y))
        (ap releases is ∙ ap (λ (more : ℕ). more + releases rest) (sym (when_true (id_eq a a && id_eq b b) (releases_in (kind_of message.body)) 0 (link_self a b)))
        ∙ ap (λ (messages : List Message). count_link a b a b (releases_in (kind_of message.body)) + releases messages) (sym (link_here rest)))
        (λ x y apart. nothing (releases (links x y)) (releases (at_link links a b rest x y)) (count_link a b x y (releases_in (kind_of message.body))) (ap releases (link_there rest x y apart)) (when_false (id_eq a x && id_eq b y) (releases_in (kind_of message.body)) 0 apart))
      where
        nothing : (n m more : ℕ) → m ≡ n → more ≡ 0 → n ≡ more + m
        nothing n m more same is = omega (arith, same, is)

    pub behind_popped : (id y : Id) → behind id (links id y) ≡ 0 → behind id (at_link links a b rest id y) ≡ 0
    behind_popped = case_link a b (λ x y. behind x (links x y) ≡ 0 → behind x (at_link links a b rest x y) ≡ 0)
        (λ none. ap (behind a) (link_here rest) ∙ behind_front a message rest (ap (behind a) (sym is) ∙ none))
        (λ x y apart none. ap (behind x) (link_there rest x y apart) ∙ none)
