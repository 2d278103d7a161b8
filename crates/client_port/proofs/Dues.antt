-- What is due is gathered queue by queue.
use Rattle.std.proofs.Common.{◌≡◌, ℕ, ◌+◌, ◌<◌, ◌≤◌, true, false, arith, List, [], ◌∷◌, ◌++◌, length, get_or, drop, Option, Some, None, Bor, refl, ap, sym, ◌∙◌, append_assoc, add-one}
use Rattle.std.specs.Prelude.{map, option_map, nat_lt, is_some, IfSome}
use Rattle.std.specs.List.{slice_get}
use Rattle.std.proofs.Math.Seq.{drop-cons}
use Rattle.std.proofs.lemmas.List.{map-append, length-map}
use Rattle.std.proofs.lemmas.Bool.{ltb-true, lt-ltb, ltb-false}
use Rattle.std.proofs.lemmas.Bool.Decides.{nat_tests}
use Rattle.std.proofs.lemmas.Option.{slice_get-map, slice_get-get_or, slice_get_past}
use Rattle.dura_value.specs.declared.messages.Request.{Request as OwnRequest}
use Rattle.request_reader.specs.Line.{Request, request_of}
use Rattle.client_port.specs.Ports.{all_due, first_due, with_said}
use Rattle.client_port.specs.Views.{queue_of}
use Rattle.client_port.specs.declared.queues.Queue.{Queue as OwnQueue}

-- those of the first queues, and then those of the rest
abbrev pub with_rest : List (Bor OwnRequest) → List OwnQueue → List Request
with_rest due qs = map (λ r. request_of r.now) due ++ all_due (map queue_of qs)

rest_from : (qs : List OwnQueue) (i : ℕ) (q : OwnQueue) → i < length qs → q ≡ get_or qs i q → (r : Bor OwnRequest) → first_due (queue_of q) ≡ Some (request_of r.now) → all_due (map queue_of (drop i qs)) ≡ request_of r.now ∷ all_due (map queue_of (drop (i + 1) qs))
rest_from qs i q lt at r is = rw (add-one, drop-cons qs i q lt, ← at, is) refl

pub taken : (due : List (Bor OwnRequest)) (qs : List OwnQueue) (i : ℕ) (q : OwnQueue) (r : Bor OwnRequest) → i < length qs → q ≡ get_or qs i q → first_due (queue_of q) ≡ Some (request_of r.now) → with_rest due (drop i qs) ≡ all_due (map queue_of qs) → with_rest (due ++ r ∷ []) (drop (i + 1) qs) ≡ all_due (map queue_of qs)
taken due qs i q r lt at is so = rw (map-append (λ b. request_of b.now) due (r ∷ []), append_assoc) (sym (ap (λ rs. map (λ b. request_of b.now) due ++ rs) (rest_from qs i q lt at r is)) ∙ so)

pub passed : (due : List (Bor OwnRequest)) (qs : List OwnQueue) (i : ℕ) (q : OwnQueue) → i < length qs → q ≡ get_or qs i q → first_due (queue_of q) ≡ None → with_rest due (drop i qs) ≡ all_due (map queue_of qs) → with_rest due (drop (i + 1) qs) ≡ all_due (map queue_of qs)
passed due qs i q lt at is so = sym (ap (λ rs. map (λ r. request_of r.now) due ++ rs) (rw (add-one, drop-cons qs i q lt, ← at, is) refl)) ∙ so

clients_from : (qs : List OwnQueue) (i : ℕ) (q : OwnQueue) → i < length qs → q ≡ get_or qs i q → map (λ q. q.client) (map queue_of (drop i qs)) ≡ q.client ∷ map (λ q. q.client) (map queue_of (drop (i + 1) qs))
clients_from qs i q lt at = rw (add-one, drop-cons qs i q lt, ← at) refl

-- a queue's client is named too
pub named : (names more all : List (List ℕ)) (qs : List OwnQueue) (i : ℕ) (q : OwnQueue) (name : List ℕ) → i < length qs → q ≡ get_or qs i q → name ≡ q.client → more ≡ names ++ name ∷ [] → names ++ map (λ q. q.client) (map queue_of (drop i qs)) ≡ all → more ++ map (λ q. q.client) (map queue_of (drop (i + 1) qs)) ≡ all
named names more all qs i q name lt at same longer so = rw (longer, append_assoc, same) (sym (ap (λ rs. names ++ rs) (clients_from qs i q lt at)) ∙ so)

above : (a b : ℕ) → b ≤ a → nat_lt a b ≡ false
above a b e = grind (arith, nat_tests)

-- what a look at a place gives
pub got : (o : Option (Bor OwnRequest)) (xs : List OwnRequest) (i : ℕ) → is_some o ≡ nat_lt i (length xs) → IfSome o (λ x. x.now ≡ get_or xs i x.now) → option_map (λ r. request_of r.now) o ≡ slice_get (map request_of xs) i
got (Some x) xs i there is = rw (slice_get-map request_of xs i, slice_get-get_or xs i x.now (ltb-true i (length xs) (sym there)), ← is) refl
got None xs i there is = rw (slice_get-map request_of xs i, slice_get_past xs i (ltb-false i (length xs) (sym there))) refl

pub counted : (before after : OwnQueue) → before.said < length before.requests.items → after ≡ record before { said = before.said + 1 } → queue_of after ≡ with_said (queue_of before)
counted before after low is =
    let passes : nat_lt before.said (length (map request_of before.requests.items)) ≡ true = rw (length-map before.requests.items request_of) (lt-ltb before.said (length before.requests.items) low) in
    rw (is, passes) refl

pub all_said : (q : OwnQueue) → length q.requests.items ≤ q.said → queue_of q ≡ with_said (queue_of q)
all_said q high =
    let fails : nat_lt q.said (length (map request_of q.requests.items)) ≡ false = rw (length-map q.requests.items request_of) (above q.said (length q.requests.items) high) in
    rw fails refl
