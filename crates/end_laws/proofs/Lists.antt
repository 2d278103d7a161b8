-- Clients of requests and their queues, and the first of a list that passes a test.
use Rattle.std.proofs.Common.{◌≡◌, ◌∙◌, ◌<◌, ◌||◌, ℕ, zero, suc, Bool, true, false, cond, List, [], ◌∷◌, ◌++◌, map, slice_get, Some, None, refl, ap, subst, arith}
use Rattle.std.specs.Prelude.{bytes_eq}
use Rattle.std.specs.List.{All, AllByRecursion, filter, find, fold, list_any}
use Rattle.std.proofs.lemmas.List.Elements.{recursion_from_All}
use Rattle.client_port.specs.Clients.{clients_of, with_client}
use Rattle.client_port.specs.Ports.{Queue, first_due, due_of}
use Rattle.dura_value.proofs.Ids.{same_bytes}
use Rattle.request_reader.specs.Line.{Request}

-- ---- clients

any_has : (P : List ℕ → Type 0) (names : List (List ℕ)) (who : List ℕ) → AllByRecursion P names → list_any (λ name. bytes_eq name who) names ≡ true → P who
any_has P [] who all is = absurd (cc is)
any_has P (name ∷ names) who all is = by (any_has P names who all.1) (bytes_eq name who) refl is
  where
    by : (list_any (λ n. bytes_eq n who) names ≡ true → P who) → (here : Bool) → bytes_eq name who ≡ here → (here || list_any (λ n. bytes_eq n who) names) ≡ true → P who
    by more true same any = subst P (same_bytes name who same) all.0
    by more false other any = more any

all_front : (P : List ℕ → Type 0) (names : List (List ℕ)) (last : List ℕ) → AllByRecursion P (names ++ last ∷ []) → AllByRecursion P names × P last
all_front P [] last all = (tt, all.0)
all_front P (name ∷ names) last all = let more = all_front P names last all.1 in ((all.0, more.0), more.1)

one_client : (P : List ℕ → Type 0) (names : List (List ℕ)) (r : Request) → AllByRecursion P (with_client names r) → AllByRecursion P names × P r.client
one_client P names r all = by (list_any (λ name. bytes_eq name r.client) names) refl all
  where
    by : (there : Bool) → list_any (λ name. bytes_eq name r.client) names ≡ there → AllByRecursion P (cond there names (names ++ r.client ∷ [])) → AllByRecursion P names × P r.client
    by true any all = (all, any_has P names r.client all any)
    by false none all = all_front P names r.client all

each_client : (P : List ℕ → Type 0) (names : List (List ℕ)) (requests : List Request) → AllByRecursion P (fold with_client names requests) → AllByRecursion P names × AllByRecursion (λ r. P r.client) requests
each_client P names [] all = (all, tt)
each_client P names (r ∷ requests) all =
    let more = each_client P (with_client names r) requests all in
    let one = one_client P names r more.0 in
    (one.0, (one.1, more.1))

-- what holds of all clients holds of each request's
pub of_clients : (P : List ℕ → Type 0) (requests : List Request) → All P (clients_of requests) → AllByRecursion (λ r. P r.client) requests
of_clients P requests all = (each_client P [] requests (recursion_from_All P (clients_of requests) all)).1

-- a client of whom something is due is one of those that have a queue
pub of_queue : (P : List ℕ → Type 0) (queues : List Queue) (name : List ℕ) (r : Request) → AllByRecursion P (map (λ (q : Queue). q.client) queues) → due_of name queues ≡ Some r → P name
of_queue P [] name r all due = absurd (cc due)
of_queue P (first ∷ queues) name r all due = by (of_queue P queues name r all.1) (bytes_eq first.client name) refl due
  where
    by : (due_of name queues ≡ Some r → P name) → (here : Bool) → bytes_eq first.client name ≡ here → cond here (first_due first) (due_of name queues) ≡ Some r → P name
    by more true same is = subst P (same_bytes first.client name same) all.0
    by more false other is = more is

-- ---- lists

pub each_of : {X : Type 0} (P : X → Type 0) (l : List X) → ((k : ℕ) (x : X) → slice_get l k ≡ Some x → P x) → AllByRecursion P l
each_of P [] f = tt
each_of P (x ∷ xs) f = (f zero x refl, each_of P xs (λ k y at. f (suc k) y at))

pub at_place : {X : Type 0} (P : X → Type 0) (l : List X) (k : ℕ) (x : X) → AllByRecursion P l → slice_get l k ≡ Some x → P x
at_place P [] k x all at = absurd (cc at)
at_place P (y ∷ ys) zero x all at = let same : y ≡ x = cc at in subst P same all.0
at_place P (y ∷ ys) (suc k) x all at = at_place P ys k x all.1 at

-- what passes a test has its place among all that do
pub filter_place : {X : Type 0} (test : X → Bool) (l : List X) (k : ℕ) (x : X) → slice_get l k ≡ Some x → test x ≡ true → (place : ℕ) × (slice_get (filter test l) place ≡ Some x)
filter_place test [] k x at pass = absurd (cc at)
filter_place test (y ∷ ys) zero x at pass =
    let same : y ≡ x = cc at in
    let passes : test y ≡ true = ap test same ∙ pass in
    (0, ap (λ b. slice_get (cond b (y ∷ filter test ys) (filter test ys)) zero) passes ∙ at)
filter_place test (y ∷ ys) (suc k) x at pass = by (test y) (filter_place test ys k x at pass)
  where
    by : (b : Bool) → (place : ℕ) × (slice_get (filter test ys) place ≡ Some x) → (place : ℕ) × (slice_get (cond b (y ∷ filter test ys) (filter test ys)) place ≡ Some x)
    by true found = (suc found.0, found.1)
    by false found = found

-- the first that passes, where it is known of each up to a place
pub found_at : {X : Type 0} (test : X → Bool) (l : List X) (k : ℕ) → ((i : ℕ) (x : X) → i < k → slice_get l i ≡ Some x → test x ≡ false) → ((x : X) → slice_get l k ≡ Some x → test x ≡ true) → find test l ≡ slice_get l k
found_at test [] k before here = refl
found_at test (x ∷ xs) zero before here = ap (λ b. cond b (Some x) (find test xs)) (here x refl)
found_at test (x ∷ xs) (suc k) before here = ap (λ b. cond b (Some x) (find test xs)) (before zero x (omega arith) refl) ∙ found_at test xs k (λ i y low at. before (suc i) y (omega (arith, low)) at) here

-- where none passes, each fails
pub none_passes : {X : Type 0} (test : X → Bool) (l : List X) → find test l ≡ None → AllByRecursion (λ x. test x ≡ false) l
none_passes test [] none = tt
none_passes {X} test (x ∷ xs) none = by (none_passes test xs) (test x) refl none
  where
    by : (find test xs ≡ None → AllByRecursion (λ (y : X). test y ≡ false) xs) → (b : Bool) → test x ≡ b → cond b (Some x) (find test xs) ≡ None → (test x ≡ false) × AllByRecursion (λ (y : X). test y ≡ false) xs
    by rest true passes is = absurd (cc is)
    by rest false fails is = (fails, rest is)
