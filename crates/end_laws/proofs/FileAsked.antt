-- The requests of a file are those of the failure-free machine.
use Rattle.std.proofs.Common.{◌≡◌, inl, inr, ℕ, ◌+◌, List, [], ◌∷◌, ◌++◌, Option, Some, None, Result, Ok, Err, refl, subst}
use Rattle.std.specs.Prelude.{nat_lt}
use Rattle.std.specs.List.{All, find}
use Rattle.std.specs.Option.{option_map_or}
use Rattle.std.proofs.lemmas.List.Elements.{All-append, All-from_recursion}
use Rattle.end_laws.proofs.LineAsked.{one_of, line_asked}
use Rattle.request_reader.specs.Line.{Request, request_on}
use Rattle.request_reader.specs.Requests.{Fault, bad_line, ◌>>=◌, latest, is_by, request_eq, with_new, with_used, with_request, is_blank, after_line, after_lines, lines_of, requests_in}
use Rattle.rest_laws.specs.Requests.{IsRequest}

used_asked : (requests more : List Request) (earlier r : Request) → with_used requests earlier r ≡ Ok more → All IsRequest requests → All IsRequest more
used_asked requests more earlier r is all = elim (one_of (request_eq earlier r) _ _ (Ok more) is) [
  | inl same ↦ (let stay : requests ≡ more = cc same in subst (All IsRequest) stay all)
  | inr clash ↦ absurd (cc clash)
]

new_asked : (number : ℕ) (requests more : List Request) (r : Request) → IsRequest r → with_new number requests r ≡ Ok more → All IsRequest requests → All IsRequest more
new_asked number requests more r one is all = elim (one_of (nat_lt (latest r.client requests) r.number) _ _ (Ok more) is) [
  | inl same ↦ (let longer : requests ++ r ∷ [] ≡ more = cc same in subst (All IsRequest) longer (All-append IsRequest requests (r ∷ []) all (All-from_recursion IsRequest (r ∷ []) (one, tt))))
  | inr bad ↦ absurd (cc bad)
]

request_asked : (number : ℕ) (requests more : List Request) (r : Request) → IsRequest r → with_request number requests r ≡ Ok more → All IsRequest requests → All IsRequest more
request_asked number requests more r one is all = at (find (is_by r.client r.number) requests) is
  where
    at : (o : Option Request) → option_map_or (λ earlier. with_used requests earlier r) o (with_new number requests r) ≡ Ok more → All IsRequest more
    at None new = new_asked number requests more r one new all
    at (Some earlier) used = used_asked requests more earlier r used all

line_more : (number : ℕ) (requests : List Request) (line : List ℕ) (more : List Request) → after_line number requests line ≡ Ok more → All IsRequest requests → All IsRequest more
line_more number requests line more is all = elim (one_of (is_blank line) _ _ (Ok more) is) [
  | inl same ↦ (let stay : requests ≡ more = cc same in subst (All IsRequest) stay all)
  | inr read ↦ at (request_on line) refl read
]
  where
    at : (o : Option Request) → request_on line ≡ o → option_map_or (with_request number requests) o (Err (bad_line number)) ≡ Ok more → All IsRequest more
    at None found bad = absurd (cc bad)
    at (Some r) found more_is = request_asked number requests more r (line_asked line r found) more_is all

lines_more : (number : ℕ) (lines : List (List ℕ)) (requests more : List Request) → after_lines number requests lines ≡ Ok more → All IsRequest requests → All IsRequest more
lines_more number [] requests more is all = let stay : requests ≡ more = cc is in subst (All IsRequest) stay all
lines_more number (line ∷ lines) requests more is all = at (after_line number requests line) refl is (λ m. lines_more (number + 1) lines m more)
  where
    at : (r : Result (List Request) Fault) → after_line number requests line ≡ r → (r >>= λ m. after_lines (number + 1) m lines) ≡ Ok more
        → ((m : List Request) → after_lines (number + 1) m lines ≡ Ok more → All IsRequest m → All IsRequest more) → All IsRequest more
    at (Ok m) found rest on = on m rest (line_more number requests line m found all)
    at (Err fault) found rest on = absurd (cc rest)

pub file_asked : (bytes : List ℕ) (requests : List Request) → requests_in bytes ≡ Ok requests → All IsRequest requests
file_asked bytes requests is = lines_more 1 (lines_of bytes) [] requests is (All-from_recursion IsRequest [] tt)
