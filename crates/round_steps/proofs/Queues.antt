-- One more request of a client was said.
use Rattle.std.proofs.Common.{◌≡◌, inl, inr, ℕ, ◌+◌, Bool, true, false, List, [], ◌∷◌, ◌++◌, length, map, Option, Some, None, cond, refl, sym, ◌∙◌, ap, subst, arith}
use Rattle.std.specs.List.{filter, slice_get}
use Rattle.std.specs.Option.{option_and_then, option_map}
use Rattle.std.specs.Prelude.{nat_lt, bytes_eq}
use Rattle.std.proofs.lemmas.Bool.{lt-ltb}
use Rattle.dura_value.proofs.Ids.{same_bytes}
use Rattle.std.proofs.lemmas.List.{length-append, map-append}
use Rattle.std.proofs.lemmas.List.Elements.{filter-append}
use Rattle.std.proofs.lemmas.Option.{slice_get_within}
use Rattle.client_port.proofs.Clients.{each_its_own}
use Rattle.client_port.specs.Clients.{clients_of, queue_for, requests_of}
use Rattle.client_port.specs.Ports.{Queue, is_of, at_client, first_due, queues_of, with_said, due_of}
use Rattle.request_reader.specs.Line.{Request}
use Rattle.hub_store.specs.Changes.{asked}
use Rattle.hub_store.specs.Trail.{Said}
use Rattle.many_rules.specs.Rules.{Rules, IsNext, pairs_of, rules_at}
use Rattle.run_rules.specs.Rules.{Told, IsDue, count_told}
use Rattle.round_steps.specs.Serving.{of_client, HasSaid}
use Rattle.dura_value.proofs.Basics.{true_or_false}

-- what is due of a client is what is due of its queue
pub due_is : (name : List ℕ) (qs : List Queue) → due_of name qs ≡ option_and_then first_due (of_client name qs)
due_is name [] = refl
due_is name (q ∷ qs) = at (is_of name q) (due_is name qs)
  where
    at : (b : Bool) → due_of name qs ≡ option_and_then first_due (of_client name qs) → cond b (first_due q) (due_of name qs) ≡ option_and_then first_due (cond b (Some q) (of_client name qs))
    at true is = refl
    at false is = is

pub queue_found : (name : List ℕ) (qs : List Queue) (r : Request) → due_of name qs ≡ Some r → (q : Queue) × (of_client name qs ≡ Some q) × (first_due q ≡ Some r)
queue_found name qs r due = at (of_client name qs) refl (sym (due_is name qs) ∙ due)
  where
    at : (o : Option Queue) → of_client name qs ≡ o → option_and_then first_due o ≡ Some r → (q : Queue) × (of_client name qs ≡ Some q) × (first_due q ≡ Some r)
    at None found is = absurd (cc is)
    at (Some q) found is = (q, found, is)

same_client : (q : Queue) → (with_said q).client ≡ q.client
same_client q = at (nat_lt q.said (length q.requests))
  where
    at : (b : Bool) → (cond b (record q { said = q.said + 1 }) q).client ≡ q.client
    at true = refl
    at false = refl

same_requests : (q : Queue) → (with_said q).requests ≡ q.requests
same_requests q = at (nat_lt q.said (length q.requests))
  where
    at : (b : Bool) → (cond b (record q { said = q.said + 1 }) q).requests ≡ q.requests
    at true = refl
    at false = refl

one_said : (q : Queue) (r : Request) → first_due q ≡ Some r → (with_said q).said ≡ q.said + 1
one_said q r due = ap (λ b. (cond b (record q { said = q.said + 1 }) q).said) (lt-ltb q.said (length q.requests) (slice_get_within q.requests q.said r due))

-- the names of the clients stay
clients_stay : (name : List ℕ) (qs : List Queue) → map (λ (q : Queue). q.client) (at_client with_said name qs) ≡ map (λ (q : Queue). q.client) qs
clients_stay name [] = refl
clients_stay name (q ∷ qs) = at (is_of name q) (clients_stay name qs)
  where
    at : (b : Bool) → map (λ (q : Queue). q.client) (at_client with_said name qs) ≡ map (λ (q : Queue). q.client) qs
        → map (λ (q : Queue). q.client) (cond b (with_said q ∷ qs) (q ∷ at_client with_said name qs)) ≡ q.client ∷ map (λ (q : Queue). q.client) qs
    at true rest = ap (λ (c : List ℕ). c ∷ map (λ (q : Queue). q.client) qs) (same_client q)
    at false rest = ap (λ (l : List (List ℕ)). q.client ∷ l) rest

-- a client's queue, once one more of another's or of its own was said
found_after : (m n : List ℕ) (qs : List Queue) → of_client n (at_client with_said m qs) ≡ cond (bytes_eq m n) (option_map with_said (of_client n qs)) (of_client n qs)
found_after m n [] = at (bytes_eq m n)
  where
    at : (b : Bool) → of_client n [] ≡ cond b (option_map with_said (of_client n [])) (of_client n [])
    at true = refl
    at false = refl
found_after m n (q ∷ qs) = elim (true_or_false (is_of m q)) [
  | inl mine ↦
      ap (λ b. of_client n (cond b (with_said q ∷ qs) (q ∷ at_client with_said m qs))) mine
      ∙ ap (λ (c : List ℕ). cond (bytes_eq c n) (Some (with_said q)) (of_client n qs)) (same_client q ∙ same_bytes q.client m mine)
      ∙ own (bytes_eq m n)
      ∙ ap (λ (c : List ℕ). cond (bytes_eq m n) (option_map with_said (cond (bytes_eq c n) (Some q) (of_client n qs))) (cond (bytes_eq c n) (Some q) (of_client n qs))) (sym (same_bytes q.client m mine))
  | inr other ↦
      ap (λ b. of_client n (cond b (with_said q ∷ qs) (q ∷ at_client with_said m qs))) other
      ∙ ap (λ (o : Option Queue). cond (bytes_eq q.client n) (Some q) o) (found_after m n qs)
      ∙ apart (bytes_eq q.client n) (bytes_eq m n) (λ here there. cc (other, subst (λ (c : List ℕ). bytes_eq q.client c ≡ true) (sym (same_bytes m n there)) here))
]
  where
    own : (b : Bool) → cond b (Some (with_said q)) (of_client n qs) ≡ cond b (option_map with_said (cond b (Some q) (of_client n qs))) (cond b (Some q) (of_client n qs))
    own true = refl
    own false = refl

    apart : (a b : Bool) → (a ≡ true → b ≡ true → ⊥) → cond a (Some q) (cond b (option_map with_said (of_client n qs)) (of_client n qs)) ≡ cond b (option_map with_said (cond a (Some q) (of_client n qs))) (cond a (Some q) (of_client n qs))
    apart true true none = absurd (none refl refl)
    apart true false none = refl
    apart false true none = refl
    apart false false none = refl

pub count_on : (told : List Said) (m n : List ℕ) (number : ℕ) → count_told (pairs_of (told ++ asked m number ∷ [])) n ≡ count_told (pairs_of told) n + cond (bytes_eq m n) 1 0
count_on told m n number =
    let is_of_n = λ (one : List ℕ × ℕ). bytes_eq one.0 n in
    ap (λ (l : Told). length (filter is_of_n l)) (map-append (λ (one : Said). (one.client, one.number)) told (asked m number ∷ []))
    ∙ ap length (filter-append is_of_n (pairs_of told) ((m, number) ∷ []))
    ∙ length-append (filter is_of_n (pairs_of told)) (filter is_of_n ((m, number) ∷ []))
    ∙ ap (λ (k : ℕ). count_told (pairs_of told) n + k) (one (bytes_eq m n))
  where
    one : (b : Bool) → length {A = List ℕ × ℕ} (cond b ((m, number) ∷ []) []) ≡ cond b 1 0
    one true = refl
    one false = refl

module _ (requests : List Request) (told : List Said) (qs : List Queue) (m : List ℕ) (r : Request) (said : HasSaid requests told qs) (due : due_of m qs ≡ Some r) where
  -- what is due of a client is its next request
  pub next_due : slice_get (requests_of m requests) (count_told (pairs_of told) m) ≡ Some r
  next_due =
      let found = queue_found m qs r due in
      let is = said.each m found.0 found.1 in
      ap (λ (rs : List Request). slice_get rs (count_told (pairs_of told) m)) (sym is.0) ∙ ap (slice_get found.0.requests) (sym is.1) ∙ found.2

  -- the port has said what was told, and one more
  pub said_on : (number : ℕ) → HasSaid requests (told ++ asked m number ∷ []) (at_client with_said m qs)
  said_on number = record {
    clients = clients_stay m qs ∙ said.clients;
    each = λ n q found. by n q (bytes_eq m n) refl (sym (found_after m n qs) ∙ found) (of_client n qs) refl;
  }
    where
      by : (n : List ℕ) (q : Queue) (b : Bool) → bytes_eq m n ≡ b → cond (bytes_eq m n) (option_map with_said (of_client n qs)) (of_client n qs) ≡ Some q → (o : Option Queue) → of_client n qs ≡ o
          → (q.requests ≡ requests_of n requests) × (q.said ≡ count_told (pairs_of (told ++ asked m number ∷ [])) n)
      by n q true test found None there =
          let kept : option_map with_said (of_client n qs) ≡ Some q = sym (ap (λ (c : Bool). cond c (option_map with_said (of_client n qs)) (of_client n qs)) test) ∙ found in
          let none : None ≡ Some q = sym (ap (option_map with_said) there) ∙ kept in
          absurd (cc none)
      by n q true test found (Some before) there =
          let kept : option_map with_said (of_client n qs) ≡ Some q = sym (ap (λ (c : Bool). cond c (option_map with_said (of_client n qs)) (of_client n qs)) test) ∙ found in
          let some : Some (with_said before) ≡ Some q = sym (ap (option_map with_said) there) ∙ kept in
          let is : with_said before ≡ q = cc some in
          let was = said.each n before there in
          let mine = queue_found m qs r due in
          let both : Some mine.0 ≡ Some before = sym mine.1 ∙ ap (λ (c : List ℕ). of_client c qs) (same_bytes m n test) ∙ there in
          let own : mine.0 ≡ before = cc both in
          let one_due : first_due before ≡ Some r = ap first_due (sym own) ∙ mine.2 in (
            ap (λ (x : Queue). x.requests) (sym is) ∙ same_requests before ∙ was.0,
            ap (λ (x : Queue). x.said) (sym is) ∙ one_said before r one_due ∙ ap (λ (k : ℕ). k + 1) was.1
                ∙ sym (count_on told m n number ∙ ap (λ (c : Bool). count_told (pairs_of told) n + cond c 1 0) test),
          )
      by n q false test found o there =
          let kept : of_client n qs ≡ Some q = sym (ap (λ (c : Bool). cond c (option_map with_said (of_client n qs)) (of_client n qs)) test) ∙ found in
          let was = said.each n q kept in
          let counted : count_told (pairs_of (told ++ asked m number ∷ [])) n ≡ count_told (pairs_of told) n + 0 = count_on told m n number ∙ ap (λ (c : Bool). count_told (pairs_of told) n + cond c 1 0) test in
          (was.0, omega (arith, was.1, counted))

-- what is due of a client is the request that it may be answered next
pub is_next : (rules : Rules) (told : List Said) (qs : List Queue) (m : List ℕ) (r : Request) → HasSaid rules.requests told qs → due_of m qs ≡ Some r → IsNext rules told (asked m r.number)
is_next rules told qs m r said due = record { request = r; asked = next_due rules.requests told qs m r said due; number_is = refl }

-- and the one that it may ask next
pub is_due : (rules : Rules) (partition : ℕ) (told : List Said) (qs : List Queue) (m : List ℕ) (r : Request) → HasSaid rules.requests told qs → due_of m qs ≡ Some r → IsDue (rules_at rules partition) (pairs_of told) r.message
is_due rules partition told qs m r said due = record {
  name = m;
  place = count_told (pairs_of told) m;
  request = r;
  asked = next_due rules.requests told qs m r said due;
  sends = refl;
  answered = omega arith;
}

-- ---- nothing was said yet

unsaid_names : (requests : List Request) (names : List (List ℕ)) → map (λ (q : Queue). q.client) (map (queue_for requests) names) ≡ names
unsaid_names requests [] = refl
unsaid_names requests (n ∷ ns) = ap (λ (l : List (List ℕ)). n ∷ l) (unsaid_names requests ns)

unsaid : (requests : List Request) (names : List (List ℕ)) (m : List ℕ) (q : Queue) → of_client m (map (queue_for requests) names) ≡ Some q → (q.requests ≡ requests_of m requests) × (q.said ≡ 0)
unsaid requests [] m q found = absurd (cc found)
unsaid requests (n ∷ ns) m q found = at (bytes_eq n m) refl found (unsaid requests ns m q)
  where
    at : (b : Bool) → bytes_eq n m ≡ b → cond b (Some (queue_for requests n)) (of_client m (map (queue_for requests) ns)) ≡ Some q
        → (of_client m (map (queue_for requests) ns) ≡ Some q → (q.requests ≡ requests_of m requests) × (q.said ≡ 0)) → (q.requests ≡ requests_of m requests) × (q.said ≡ 0)
    at true test is behind =
        let same : queue_for requests n ≡ q = cc is in
        (ap (λ (x : Queue). x.requests) (sym same) ∙ ap (λ (k : List ℕ). requests_of k requests) (same_bytes n m test), ap (λ (x : Queue). x.said) (sym same))
    at false test is behind = behind is

-- a new port has said what was told, which is nothing
pub said_first : (requests : List Request) (told : List Said) (queues : List Queue) → told ≡ [] → queues ≡ queues_of requests → HasSaid requests told queues
said_first requests told queues none port =
    let all : queues ≡ map (queue_for requests) (clients_of requests) = port ∙ each_its_own requests in
    record {
      clients = ap (map (λ (q : Queue). q.client)) all ∙ unsaid_names requests (clients_of requests);
      each = λ name q found.
          let is = unsaid requests (clients_of requests) name q (ap (of_client name) (sym all) ∙ found) in
          (is.0, is.1 ∙ sym (ap (λ (t : List Said). count_told (pairs_of t) name) none));
    }
