-- The queues of a file are those of its clients.
use Rattle.std.proofs.Common.{◌≡◌, ℕ, List, [], ◌∷◌, ◌++◌, true, false, Bool, cond, refl, ap, sym, ◌∙◌, append_assoc, true≢false}
use Rattle.std.specs.Prelude.{map, ◌||◌}
use Rattle.std.specs.List.{AllByRecursion, IsDistinct, list_any}
use Rattle.std.specs.Cmp.Lexicographic.{nat_list_eq_equiv}
use Rattle.std.specs.Str.{bytes_eq}
use Rattle.std.proofs.lemmas.List.{map-append, append-nil}
use Rattle.std.proofs.lemmas.List.Elements.{filter-append}
use Rattle.std.proofs.lemmas.List.Sums.{fold-append}
use Rattle.std.proofs.lemmas.Map.Keys.{IsDistinct-head, IsDistinct-tail, IsDistinct-push}
use Rattle.request_reader.specs.Line.{Request}
use Rattle.client_port.specs.Clients.{clients_of, queue_for, requests_of, with_client}
use Rattle.client_port.specs.Ports.{at_client, is_of, queues_of, with_last, with_request}
use Rattle.dura_value.proofs.Ids.{same_bytes, bytes_turned}

-- ---- names

abbrev has : List ℕ → List (List ℕ) → Bool
has name names = list_any (λ n. bytes_eq n name) names

has_turned : (name : List ℕ) (names : List (List ℕ)) → list_any (bytes_eq name) names ≡ has name names
has_turned name [] = refl
has_turned name (n ∷ names) = rw (bytes_turned name n, has_turned name names) refl

neither : (a b : Bool) → a || b ≡ false → (a ≡ false) × (b ≡ false)
neither true b is = absurd (true≢false is)
neither false b is = (refl, is)

or_assoc : (a b c : Bool) → a || (b || c) ≡ (a || b) || c
or_assoc true b c = refl
or_assoc false b c = refl

has_append : (name : List ℕ) (names more : List (List ℕ)) → has name (names ++ more) ≡ has name names || has name more
has_append name [] more = refl
has_append name (n ∷ names) more = rw (has_append name names more) (or_assoc (bytes_eq n name) (has name names) (has name more))

none_there : (name : List ℕ) (names : List (List ℕ)) → has name names ≡ false → AllByRecursion (λ n. bytes_eq name n ≡ false) names
none_there name [] is = tt
none_there name (n ∷ names) is = let both = neither (bytes_eq n name) (has name names) is in (bytes_turned name n ∙ both.0, none_there name names both.1)

-- ---- queues

queue_other : (rs : List Request) (r : Request) (name : List ℕ) → bytes_eq r.client name ≡ false → queue_for (rs ++ r ∷ []) name ≡ queue_for rs name
queue_other rs r name apart = ap (λ own. record { client = name; requests = own; said = 0 }) (filter-append (λ a. bytes_eq a.client name) rs (r ∷ []) ∙ rw apart (append-nil (requests_of name rs)))

queue_same : (rs : List Request) (r : Request) (name : List ℕ) → bytes_eq r.client name ≡ true → queue_for (rs ++ r ∷ []) name ≡ with_last r (queue_for rs name)
queue_same rs r name one = ap (λ own. record { client = name; requests = own; said = 0 }) (filter-append (λ a. bytes_eq a.client name) rs (r ∷ []) ∙ rw one refl)

others : (rs : List Request) (r : Request) (names : List (List ℕ)) → AllByRecursion (λ n. bytes_eq r.client n ≡ false) names → map (queue_for (rs ++ r ∷ [])) names ≡ map (queue_for rs) names
others rs r [] all = refl
others rs r (n ∷ names) all = rw (queue_other rs r n all.0, others rs r names all.1) refl

joined_by : (rs : List Request) (r : Request) (n : List ℕ) (names : List (List ℕ)) (b : Bool) → bytes_eq n r.client ≡ b → AllByRecursion (λ m. bytes_eq n m ≡ false) names → b || has r.client names ≡ true
    → (has r.client names ≡ true → at_client (with_last r) r.client (map (queue_for rs) names) ≡ map (queue_for (rs ++ r ∷ [])) names)
    → cond b (with_last r (queue_for rs n) ∷ map (queue_for rs) names) (queue_for rs n ∷ at_client (with_last r) r.client (map (queue_for rs) names)) ≡ map (queue_for (rs ++ r ∷ [])) (n ∷ names)
joined_by rs r n names true is apart there rest =
    let one : n ≡ r.client = same_bytes n r.client is in
    let also : bytes_eq r.client n ≡ true = bytes_turned r.client n ∙ is in
    let all = rw one at apart in
    sym (rw (queue_same rs r n also, others rs r names all) refl)
joined_by rs r n names false is apart there rest = sym (rw (queue_other rs r n (bytes_turned r.client n ∙ is), ← rest there) refl)

joined : (rs : List Request) (r : Request) (names : List (List ℕ)) → IsDistinct bytes_eq names → has r.client names ≡ true → at_client (with_last r) r.client (map (queue_for rs) names) ≡ map (queue_for (rs ++ r ∷ [])) names
joined rs r [] once there = absurd (true≢false (sym there))
joined rs r (n ∷ names) once there = joined_by rs r n names (bytes_eq n r.client) refl (IsDistinct-head bytes_eq n names once) there (joined rs r names (IsDistinct-tail bytes_eq n names once))

opened : (rs : List Request) (r : Request) (names : List (List ℕ)) → has r.client names ≡ false → requests_of r.client rs ≡ [] → map (queue_for rs) names ++ record { client = r.client; requests = r ∷ []; said = 0 } ∷ [] ≡ map (queue_for (rs ++ r ∷ [])) (names ++ r.client ∷ [])
opened rs r names none empty =
    sym (map-append (queue_for (rs ++ r ∷ [])) names (r.client ∷ []) ∙ rw (others rs r names (none_there r.client names none), queue_same rs r r.client (nat_list_eq_equiv.refl r.client), empty) refl)

any_queue : (rs : List Request) (name : List ℕ) (names : List (List ℕ)) → list_any (is_of name) (map (queue_for rs) names) ≡ has name names
any_queue rs name [] = refl
any_queue rs name (n ∷ names) = rw (any_queue rs name names) refl

-- ---- request by request

record Holds (rs : List Request) : Type 0 where
  queues : queues_of rs ≡ map (queue_for rs) (clients_of rs)
  once : IsDistinct bytes_eq (clients_of rs)
  absent : (name : List ℕ) → has name (clients_of rs) ≡ false → requests_of name rs ≡ []

absent_by : (rs : List Request) (r : Request) (name : List ℕ) (b : Bool) → bytes_eq r.client name ≡ b → requests_of name rs ≡ [] → (b ≡ true → true ≡ false) → requests_of name (rs ++ r ∷ []) ≡ []
absent_by rs r name true is before never = absurd (true≢false (never refl))
absent_by rs r name false is before never = filter-append (λ a. bytes_eq a.client name) rs (r ∷ []) ∙ rw (is, before) refl

of_known : (rs : List Request) (r : Request) → has r.client (clients_of rs) ≡ true → Holds rs → Holds (rs ++ r ∷ [])
of_known rs r there h =
    let clients : clients_of (rs ++ r ∷ []) ≡ clients_of rs = fold-append with_client [] rs (r ∷ []) ∙ rw there refl in
    record {
      queues = fold-append with_request [] rs (r ∷ []) ∙ rw (h.queues, any_queue rs r.client (clients_of rs), there, clients) (joined rs r (clients_of rs) h.once there);
      once = rw clients h.once;
      absent = λ name none.
          let before = rw clients at none in
          absent_by rs r name (bytes_eq r.client name) refl (h.absent name before) (λ is. sym (rw (same_bytes r.client name is) at there) ∙ before);
    }

of_new : (rs : List Request) (r : Request) → has r.client (clients_of rs) ≡ false → Holds rs → Holds (rs ++ r ∷ [])
of_new rs r none h =
    let clients : clients_of (rs ++ r ∷ []) ≡ clients_of rs ++ r.client ∷ [] = fold-append with_client [] rs (r ∷ []) ∙ rw none refl in
    record {
      queues = fold-append with_request [] rs (r ∷ []) ∙ rw (h.queues, any_queue rs r.client (clients_of rs), none, clients) (opened rs r (clients_of rs) none (h.absent r.client none));
      once = rw clients (IsDistinct-push nat_list_eq_equiv (clients_of rs) r.client h.once (has_turned r.client (clients_of rs) ∙ none));
      absent = λ name nowhere.
          let parts = neither (has name (clients_of rs)) (bytes_eq r.client name || false) (sym (has_append name (clients_of rs) (r.client ∷ [])) ∙ sym (ap (has name) clients) ∙ nowhere) in
          let apart = neither (bytes_eq r.client name) false parts.1 in
          absent_by rs r name (bytes_eq r.client name) refl (h.absent name parts.0) (λ is. sym is ∙ apart.0);
    }

more_by : (rs : List Request) (r : Request) (b : Bool) → has r.client (clients_of rs) ≡ b → Holds rs → Holds (rs ++ r ∷ [])
more_by rs r true is h = of_known rs r is h
more_by rs r false is h = of_new rs r is h

all_from : (rs rest : List Request) → Holds rs → Holds (rs ++ rest)
all_from rs [] h = rw (append-nil rs) h
all_from rs (r ∷ rest) h =
    let next : (rs ++ r ∷ []) ++ rest ≡ rs ++ r ∷ rest = append_assoc rs (r ∷ []) rest in
    rw (← next) (all_from (rs ++ r ∷ []) rest (more_by rs r (has r.client (clients_of rs)) refl h))

no_client : IsDistinct bytes_eq []
unfolding IsDistinct
no_client = tt

all : (rs : List Request) → Holds rs
all rs = all_from [] rs (record { queues = refl; once = no_client; absent = λ name none. refl })

pub each_its_own : (rs : List Request) → queues_of rs ≡ map (queue_for rs) (clients_of rs)
each_its_own rs = (all rs).queues

pub all_once : (rs : List Request) → IsDistinct bytes_eq (clients_of rs)
all_once rs = (all rs).once
