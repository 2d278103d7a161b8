-- What is counted stands there, and what stands there is counted.
use Rattle.std.proofs.Common.{◌≡◌, ◌+◌, ◌<◌, ◌≤◌, ◌⊎◌, inl, inr, ℕ, zero, suc, Bool, true, false, cond, List, [], ◌∷◌, ◌++◌, Option, Some, None, refl, sym, ap, subst, ◌∙◌, arith}
use Rattle.std.specs.List.{Contains}
use Rattle.std.proofs.lemmas.List.Elements.{Contains-append_left, Contains-append_right, Contains-append_cases, Contains-push, Contains-push_cases}
use Rattle.std.proofs.lemmas.Bool.{and_parts}
use Rattle.dura_value.specs.Ids.{Id, id_eq}
use Rattle.dura_value.specs.Messages.{Spot, at_spot, spot_before, entity_at, Body, start, raise, query, wait, result, operate, lock, granted, release, Message}
use Rattle.dura_value.proofs.Ids.{id_same, id_self}
use Rattle.run_laws.proofs.MessageKinds.{kind_of}
use Rattle.run_laws.proofs.Counts.{lock_of, Lock, locks_in, grants_in, releases_in, locks_of, grants_of, releases, when_true}
use Rattle.run_laws.proofs.Sets.{is_below, is_rising}
use Rattle.run_laws.proofs.Tallies.{first, among, named}

-- ---- elements of a list

pub nothing_in : {X : Type 0} (x : X) → Contains {X = X} [] x → ⊥
nothing_in x has = let low = has.1 in omega (arith, low)

here : {X : Type 0} (x : X) (xs : List X) → Contains (x ∷ xs) x
here x xs = Contains-append_left (x ∷ []) xs x (Contains-push [] x)

later : {X : Type 0} (y x : X) (xs : List X) → Contains xs x → Contains (y ∷ xs) x
later y x xs has = Contains-append_right (y ∷ []) xs x has

here_or_later : {X : Type 0} (y x : X) (xs : List X) → Contains (y ∷ xs) x → (y ≡ x) ⊎ Contains xs x
here_or_later {X = X} y x xs has = by (Contains-append_cases (y ∷ []) xs x has)
  where
    one : Contains {X = X} [] x ⊎ (y ≡ x) → y ≡ x
    one (inl none) = absurd (nothing_in x none)
    one (inr is) = is

    by : Contains (y ∷ []) x ⊎ Contains xs x → (y ≡ x) ⊎ Contains xs x
    by (inl one_has) = inl (one (Contains-push_cases [] y x one_has))
    by (inr more) = inr more

-- ---- messages

-- a message of a list whose kind says this
pub record Standing (messages : List Message) (body : Body) : Type 0 where
  pub message : Message
  pub stands : Contains messages message
  pub is : message.body ≡ body

standing_here : (message : Message) (messages : List Message) (body : Body) → message.body ≡ body → Standing (message ∷ messages) body
standing_here message messages body is = record { message = message; stands = here message messages; is = is }

standing_later : (first : Message) (messages : List Message) (body : Body) → Standing messages body → Standing (first ∷ messages) body
standing_later first messages body standing = record { message = standing.message; stands = later first standing.message messages standing.stands; is = standing.is }

-- what a kind says of the body
release_body : (body : Body) (n : ℕ) → releases_in (kind_of body) ≡ suc n → body ≡ release
release_body release n is = refl
release_body (start argument reply) n is = absurd (cc is)
release_body (raise event value number) n is = absurd (cc is)
release_body (query number) n is = absurd (cc is)
release_body (wait number) n is = absurd (cc is)
release_body (result reply answer) n is = absurd (cc is)
release_body (operate operation argument reply) n is = absurd (cc is)
release_body (lock id task set index) n is = absurd (cc is)
release_body (granted task) n is = absurd (cc is)

pub release_stands : (messages : List Message) → 1 ≤ releases messages → Standing messages release
release_stands [] some = absurd (omega (arith, some))
release_stands (message ∷ messages) some = by (releases_in (kind_of message.body)) refl some (release_stands messages)
  where
    by : (n : ℕ) → releases_in (kind_of message.body) ≡ n → 1 ≤ n + releases messages → (1 ≤ releases messages → Standing messages release) → Standing (message ∷ messages) release
    by zero is some rest = standing_later message messages release (rest (omega (arith, some)))
    by (suc n) is some rest = standing_here message messages release (release_body message.body n is)

grant_body : (body : Body) (task : ℕ) (rest : List ℕ) → grants_in (kind_of body) ≡ task ∷ rest → body ≡ granted task
grant_body (granted other) task rest is = let same : other ≡ task = cc is in ap granted same
grant_body release task rest is = absurd (cc is)
grant_body (start argument reply) task rest is = absurd (cc is)
grant_body (raise event value number) task rest is = absurd (cc is)
grant_body (query number) task rest is = absurd (cc is)
grant_body (wait number) task rest is = absurd (cc is)
grant_body (result reply answer) task rest is = absurd (cc is)
grant_body (operate operation argument reply) task rest is = absurd (cc is)
grant_body (lock id other set index) task rest is = absurd (cc is)

pub grant_stands : (messages : List Message) (task : ℕ) (rest : List ℕ) → grants_of messages ≡ task ∷ rest → Standing messages (granted task)
grant_stands [] task rest is = absurd (cc is)
grant_stands (message ∷ messages) task rest is = by (grants_in (kind_of message.body)) refl is (grant_stands messages task rest)
  where
    by : (grants : List ℕ) → grants_in (kind_of message.body) ≡ grants → grants ++ grants_of messages ≡ task ∷ rest → (grants_of messages ≡ task ∷ rest → Standing messages (granted task)) → Standing (message ∷ messages) (granted task)
    by [] none is more = standing_later message messages (granted task) (more is)
    by (one ∷ grants) some is more = let same : one ≡ task = cc is in standing_here message messages (granted task) (grant_body message.body task grants (some ∙ ap (λ (t : ℕ). t ∷ grants) same))

lock_body : (id : Id) (body : Body) (task : ℕ) (set : List Spot) (index : ℕ) (rest : List Lock) → locks_in id (kind_of body) ≡ lock_of task set index ∷ rest → body ≡ lock id task set index
lock_body id (lock of other wanted at) task set index rest is = by (id_eq of id) refl is
  where
    by : (test : Bool) → id_eq of id ≡ test → cond test (lock_of other wanted at ∷ []) [] ≡ lock_of task set index ∷ rest → lock of other wanted at ≡ lock id task set index
    by true same is =
        let one : lock_of other wanted at ≡ lock_of task set index = cc is in
        let who = id_same of id same in
        let t = ap (λ (l : Lock). l.task) one in
        let s = ap (λ (l : Lock). l.set) one in
        let i = ap (λ (l : Lock). l.index) one in
        cc (who, t, s, i)
    by false apart is = absurd (cc is)
lock_body id release task set index rest is = absurd (cc is)
lock_body id (start argument reply) task set index rest is = absurd (cc is)
lock_body id (raise event value number) task set index rest is = absurd (cc is)
lock_body id (query number) task set index rest is = absurd (cc is)
lock_body id (wait number) task set index rest is = absurd (cc is)
lock_body id (result reply answer) task set index rest is = absurd (cc is)
lock_body id (operate operation argument reply) task set index rest is = absurd (cc is)
lock_body id (granted other) task set index rest is = absurd (cc is)

pub lock_stands : (id : Id) (messages : List Message) (task : ℕ) (set : List Spot) (index : ℕ) (rest : List Lock) → locks_of id messages ≡ lock_of task set index ∷ rest → Standing messages (lock id task set index)
lock_stands id [] task set index rest is = absurd (cc is)
lock_stands id (message ∷ messages) task set index rest is = by (locks_in id (kind_of message.body)) refl is (lock_stands id messages task set index rest)
  where
    by : (locks : List Lock) → locks_in id (kind_of message.body) ≡ locks → locks ++ locks_of id messages ≡ lock_of task set index ∷ rest
        → (locks_of id messages ≡ lock_of task set index ∷ rest → Standing messages (lock id task set index)) → Standing (message ∷ messages) (lock id task set index)
    by [] none is more = standing_later message messages (lock id task set index) (more is)
    by (one ∷ locks) some is more =
        let same : one ≡ lock_of task set index = cc is in standing_here message messages (lock id task set index) (lock_body id message.body task set index locks (some ∙ ap (λ (l : Lock). l ∷ locks) same))

-- a lock that stands in a link is counted there
pub lock_counted : (id : Id) (messages : List Message) (message : Message) (task : ℕ) (set : List Spot) (index : ℕ) → Contains messages message → message.body ≡ lock id task set index → Contains (locks_of id messages) (lock_of task set index)
lock_counted id [] message task set index has is = absurd (nothing_in message has)
lock_counted id (first ∷ messages) message task set index has is = by (here_or_later first message messages has) (lock_counted id messages message task set index)
  where
    by : (first ≡ message) ⊎ Contains messages message → (Contains messages message → message.body ≡ lock id task set index → Contains (locks_of id messages) (lock_of task set index))
        → Contains (locks_in id (kind_of first.body) ++ locks_of id messages) (lock_of task set index)
    by (inl same) rest =
        let body : first.body ≡ lock id task set index = ap (λ (m : Message). m.body) same ∙ is in
        let locks : locks_in id (kind_of first.body) ≡ lock_of task set index ∷ [] = ap (λ (b : Body). locks_in id (kind_of b)) body ∙ when_true (id_eq id id) (lock_of task set index ∷ []) [] (id_self id) in
        Contains-append_left (locks_in id (kind_of first.body)) (locks_of id messages) (lock_of task set index) (subst (λ (l : List Lock). Contains l (lock_of task set index)) (sym locks) (here (lock_of task set index) []))
    by (inr more) rest = Contains-append_right (locks_in id (kind_of first.body)) (locks_of id messages) (lock_of task set index) (rest more is)

pub only_one : {X : Type 0} (y x : X) → Contains (y ∷ []) x → y ≡ x
only_one {X = X} y x has = by (here_or_later y x [] has)
  where
    by : (y ≡ x) ⊎ Contains {X = X} [] x → y ≡ x
    by (inl is) = is
    by (inr none) = absurd (nothing_in x none)

-- ---- sets

pub spot_same : (a b : Spot) → at_spot a ≡ at_spot b → a ≡ b
spot_same a b is =
    let class : a.class ≡ b.class = cc is in
    let key : a.key ≡ b.key = cc is in
    λ i. record { class = class i; key = key i }

-- an entity of a set is counted
pub contains_among : (set : List Spot) (spot : Spot) → Contains set spot → 1 ≤ among set (at_spot spot)
contains_among [] spot has = absurd (nothing_in spot has)
contains_among (front ∷ set) spot has = by (here_or_later front spot set has) (contains_among set spot)
  where
    by : (front ≡ spot) ⊎ Contains set spot → (Contains set spot → 1 ≤ among set (at_spot spot)) → 1 ≤ cond (id_eq (at_spot front) (at_spot spot)) 1 0 + among set (at_spot spot)
    by (inl same) rest =
        let one : ◌≡◌ {A = ℕ} (cond (id_eq (at_spot front) (at_spot spot)) 1 0) 1 = when_true (id_eq (at_spot front) (at_spot spot)) 1 0 (subst (λ (s : Spot). id_eq (at_spot front) (at_spot s) ≡ true) same (id_self (at_spot front))) in
        omega (arith, one)
    by (inr more) rest = omega (arith, rest more)

pub among_contains : (set : List Spot) (spot : Spot) → 1 ≤ among set (at_spot spot) → Contains set spot
among_contains [] spot some = absurd (omega (arith, some))
among_contains (front ∷ set) spot some = by (id_eq (at_spot front) (at_spot spot)) refl some (among_contains set spot)
  where
    by : (test : Bool) → id_eq (at_spot front) (at_spot spot) ≡ test → 1 ≤ cond test 1 0 + among set (at_spot spot) → (1 ≤ among set (at_spot spot) → Contains set spot) → Contains (front ∷ set) spot
    by true same some rest = subst (λ (s : Spot). Contains (front ∷ set) s) (spot_same front spot (id_same (at_spot front) (at_spot spot) same)) (here front set)
    by false apart some rest = later front spot set (rest (omega (arith, some)))

-- one of the first so many of a set is at a place below
pub record PlaceBelow (set : List Spot) (index : ℕ) (spot : Spot) : Type 0 where
  pub place : ℕ
  pub before : place < index
  pub has : entity_at set place ≡ Some (at_spot spot)

pub first_place : (set : List Spot) (index : ℕ) (spot : Spot) → 1 ≤ among (first index set) (at_spot spot) → PlaceBelow set index spot
first_place set zero spot some = absurd (omega (arith, some))
first_place [] (suc index) spot some = absurd (omega (arith, some))
first_place (one ∷ set) (suc index) spot some = by (id_eq (at_spot one) (at_spot spot)) refl some (first_place set index spot)
  where
    by : (test : Bool) → id_eq (at_spot one) (at_spot spot) ≡ test → 1 ≤ cond test 1 0 + among (first index set) (at_spot spot) → (1 ≤ among (first index set) (at_spot spot) → PlaceBelow set index spot) → PlaceBelow (one ∷ set) (suc index) spot
    by true same some rest = record { place = zero; before = omega arith; has = ap (λ (id : Id). Some id) (id_same (at_spot one) (at_spot spot) same) }
    by false apart some rest = let below = rest (omega (arith, some)) in record { place = suc below.place; before = omega (arith, below.before); has = below.has }

-- in a set in order one at a smaller place is before a later one
below_at : (low : Spot) (set : List Spot) (place : ℕ) (spot : Spot) → is_below low set ≡ true → entity_at set place ≡ Some (at_spot spot) → spot_before low spot ≡ true
below_at low [] place spot below is = absurd (cc is)
below_at low (one ∷ set) zero spot below is =
    let same : at_spot one ≡ at_spot spot = cc is in subst (λ (s : Spot). spot_before low s ≡ true) (spot_same one spot same) (and_parts (spot_before low one) (is_below low set) below).0
below_at low (one ∷ set) (suc place) spot below is = below_at low set place spot (and_parts (spot_before low one) (is_below low set) below).1 is

pub first_before : (set : List Spot) (index place : ℕ) (low spot : Spot) → is_rising set ≡ true → place < index → entity_at set place ≡ Some (at_spot low) → entity_at set index ≡ Some (at_spot spot) → spot_before low spot ≡ true
first_before [] index place low spot rising before one other = absurd (cc one)
first_before (s ∷ set) zero place low spot rising before one other = absurd (omega (arith, before))
first_before (s ∷ set) (suc index) zero low spot rising before one other =
    let same : at_spot s ≡ at_spot low = cc one in
    subst (λ (l : Spot). spot_before l spot ≡ true) (spot_same s low same) (below_at s set index spot (and_parts (is_below s set) (is_rising set) rising).0 other)
first_before (s ∷ set) (suc index) (suc place) low spot rising before one other = first_before set index place low spot (and_parts (is_below s set) (is_rising set) rising).1 (omega (arith, before)) one other

-- ---- holders

pub named_one : (holder : Option Id) (id : Id) (n more : ℕ) → 1 ≤ n → n + more ≡ named holder id → holder ≡ Some id
named_one None id n more some is = absurd (omega (arith, some, is))
named_one (Some holder) id n more some is = by (id_eq holder id) refl is
  where
    by : (test : Bool) → id_eq holder id ≡ test → n + more ≡ cond test 1 0 → Some holder ≡ Some id
    by true same is = ap (λ (i : Id). Some i) (id_same holder id same)
    by false apart is = absurd (omega (arith, some, is))

pub counts_one : (holder : Option Id) (id : Id) → holder ≡ Some id → named holder id ≡ 1
counts_one holder id is = ap (λ (h : Option Id). named h id) is ∙ when_true (id_eq id id) 1 0 (id_self id)
