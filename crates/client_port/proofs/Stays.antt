-- What finds a client's queue stays true where the queues change.
use Rattle.std.proofs.Common.{◌≡◌, ℕ, suc, ◌+◌, ◌<◌, List, [], ◌∷◌, length, true, false, Bool, cond, Option, Some, None, refl, sym, ◌∙◌, arith, zero-add}
use Rattle.std.specs.Prelude.{map}
use Rattle.std.specs.List.{position_from}
use Rattle.std.specs.Str.{bytes_eq}
use Rattle.std.proofs.lemmas.List.{length-map}
use Rattle.std.proofs.lemmas.Slice.Eq.{bytes_eq-Decides}
use Rattle.request_reader.specs.Line.{Request}
use Rattle.request_reader.proofs.Places.{or_none, place_behind}
use Rattle.client_port.specs.Ports.{Queue, at_client, is_of, with_last, with_request, with_said}
use Rattle.client_port.specs.Views.{queue_of}
use Rattle.client_port.specs.declared.queues.Queue.{Queue as OwnQueue}
use Rattle.client_port.proofs.Changes.{nowhere_any, somewhere_any}

below_by : (k i n : ℕ) (b : Bool) (o : Option ℕ) → (o ≡ Some i → i < k + 1 + n) → cond b (Some k) o ≡ Some i → i < k + suc n
below_by k i n true o low is = let same : k ≡ i = cc in omega arith
below_by k i n false o low is = let below : i < k + 1 + n = low is in omega arith

below : {X : Type 0} (p : X → Bool) (k i : ℕ) (xs : List X) → position_from p k xs ≡ Some i → i < k + length xs
below p k i [] at = absurd (cc at)
below p k i (x ∷ xs) at = below_by k i (length xs) (p x) (position_from p (k + 1) xs) (below p (k + 1) i xs) at

pub within : (name : List ℕ) (i : ℕ) (qs : List OwnQueue) → Some i ≡ position_from (is_of name) 0 (map queue_of qs) → i < length qs
within name i qs at =
    let low : i < 0 + length (map queue_of qs) = below (is_of name) 0 i (map queue_of qs) (sym at) in
    let long : length (map queue_of qs) ≡ length qs = length-map qs queue_of in
    omega arith

-- ---- a queue is changed

kept_by : (f : Queue → Queue) (own name : List ℕ) (k : ℕ) (q : Queue) (qs : List Queue) (b : Bool) → (f q).client ≡ q.client
    → position_from (is_of name) (k + 1) (at_client f own qs) ≡ position_from (is_of name) (k + 1) qs
    → position_from (is_of name) k (cond b (f q ∷ qs) (q ∷ at_client f own qs)) ≡ position_from (is_of name) k (q ∷ qs)
kept_by f own name k q qs true stays rest = rw stays refl
kept_by f own name k q qs false stays rest = rw rest refl

kept : (f : Queue → Queue) → ((q : Queue) → (f q).client ≡ q.client) → (own name : List ℕ) (k : ℕ) (qs : List Queue) → position_from (is_of name) k (at_client f own qs) ≡ position_from (is_of name) k qs
kept f stays own name k [] = refl
kept f stays own name k (q ∷ qs) = kept_by f own name k q qs (is_of own q) (stays q) (kept f stays own name (k + 1) qs)

pub kept_joined : (r : Request) (i : ℕ) (qs : List Queue) (name : List ℕ) → Some i ≡ position_from (is_of r.client) 0 qs → position_from (is_of name) 0 (with_request qs r) ≡ position_from (is_of name) 0 qs
kept_joined r i qs name at = rw (somewhere_any (is_of r.client) 0 i qs (sym at)) (kept (with_last r) (λ q. refl) r.client name 0 qs)

said_by : (q : Queue) (b : Bool) → (cond b (record q { said = q.said + 1 }) q).client ≡ q.client
said_by q true = refl
said_by q false = refl

pub kept_said : (own name : List ℕ) (qs : List Queue) → position_from (is_of name) 0 (at_client with_said own qs) ≡ position_from (is_of name) 0 qs
kept_said own name qs = kept with_said (λ q. said_by q _) own name 0 qs

-- ---- a queue is opened

pub found_opened : (r : Request) (qs : List Queue) (name : List ℕ) (old new : Option ℕ) (test : Bool) → test ≡ bytes_eq r.client name → new ≡ cond test (Some (length qs)) old → old ≡ position_from (is_of name) 0 qs → None ≡ position_from (is_of r.client) 0 qs → new ≡ position_from (is_of name) 0 (with_request qs r)
found_opened r qs name old new true is set before free =
    let one : r.client ≡ name = (bytes_eq-Decides r.client name).0 (sym is) in
    let none : position_from (is_of name) 0 qs ≡ None = rw (← one) (sym free) in
    set ∙ sym (rw (nowhere_any (is_of r.client) 0 qs (sym free)) (place_behind (is_of name) 0 qs (record { client = r.client; requests = r ∷ []; said = 0 }) ∙ rw (none, ← is, zero-add) refl))
found_opened r qs name old new false is set before free =
    set ∙ before ∙ sym (rw (nowhere_any (is_of r.client) 0 qs (sym free)) (place_behind (is_of name) 0 qs (record { client = r.client; requests = r ∷ []; said = 0 }) ∙ rw (← is) (or_none (position_from (is_of name) 0 qs))))
