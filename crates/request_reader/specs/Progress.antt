-- How far a file was read.
use Rattle.std.specs.Prelude.{◌≡◌, ℕ, List, map, unwrap_or}
use Rattle.std.specs.BTreeMap.{get}
use Rattle.std.specs.Cmp.Lexicographic.{slice_cmp}
use Rattle.std.specs.declared.cmp.Ordering.{Ordering}
use Rattle.std.specs.Ordering.{nat_cmp, ordering_then}
use Rattle.std.specs.List.{position_from}
use Rattle.request_reader.specs.Line.{Request, request_of}
use Rattle.request_reader.specs.Requests.{is_by, latest}
use Rattle.request_reader.specs.declared.progress.Progress.{Progress}

-- the requests so far
abbrev pub seen : Progress → List Request
seen p = map request_of p.requests.items

-- pairs of a client and a number, by the client first
abbrev pub pair_cmp : List ℕ × ℕ → List ℕ × ℕ → Ordering
pair_cmp a b = ordering_then (slice_cmp nat_cmp a.0 b.0) (nat_cmp a.1 b.1)

-- The place of each request is kept by its client and number, and the latest number of each client.
pub record RequestsStand (p : Progress) : Type 0 where
  pub places : (name : List ℕ) (n : ℕ) → get (λ a b. ordering_then (slice_cmp nat_cmp a.0 b.0) (nat_cmp a.1 b.1)) p.places (name, n) ≡ position_from (is_by name n) 0 (seen p)
  pub numbers : (name : List ℕ) → unwrap_or (get (slice_cmp nat_cmp) p.latest name) 0 ≡ latest name (seen p)
