-- The first stop after which all nodes are stopped is the last of the nodes' first stops.
use Rattle.std.proofs.Common.{◌≡◌, ◌≢◌, ◌⊎◌, inl, inr, ℕ, zero, suc, ◌+◌, ◌-◌, ◌<◌, ◌≤◌, max, List, [], ◌∷◌, length, Bool, true, false, Option, Some, None, refl, sym, ◌∙◌, ap, add-one, arith}
use Rattle.std.specs.Prelude.{◌==◌, ◌&&◌, ◌||◌, if◌then◌else◌, option_map}
use Rattle.std.specs.List.{All, list_any, position, position_from}
use Rattle.std.proofs.lemmas.Iterator.Adapters.{position_from-zero}
use Rattle.std.proofs.lemmas.List.Elements.{All-nil, All-cons}
use Rattle.std.proofs.lemmas.Bool.Decides.{Decides-eqb}
use Rattle.move_plan.specs.declared.entries.Stop.{Stop}
use Rattle.move_plan.specs.Plans.{are_all, all_stopped_at}

-- the greater place, where both are
abbrev pub both : Option ℕ → Option ℕ → Option ℕ
both None b = None
both (Some a) None = None
both (Some a) (Some b) = Some (max a b)

-- a place further
abbrev further : Option ℕ → Option ℕ
further o = option_map (λ place. place + 1) o

abbrev is_in : ℕ → List ℕ → Bool
is_in node stopped = list_any (λ other. other == node) stopped

-- the place of the first stop with which the node is stopped, where these are before
abbrev first : ℕ → List ℕ → List Stop → Option ℕ
first node stopped [] = None
first node stopped (stop ∷ stops) = if is_in node (stop.node ∷ stopped) then Some 0 else further (first node (stop.node ∷ stopped) stops)

-- ---- what is stopped stays so

or_stays : (a b : Bool) → b ≡ true → (a || b) ≡ true
or_stays true b is = refl
or_stays false b is = is

both_true : (a b : Bool) → (a && b) ≡ true → (a ≡ true) × (b ≡ true)
both_true true true is = (refl, refl)
both_true true false is = absurd (cc is)
both_true false b is = absurd (cc is)

all_stay : (nodes s : ℕ) (stopped : List ℕ) → are_all nodes stopped ≡ true → are_all nodes (s ∷ stopped) ≡ true
all_stay zero s stopped is = refl
all_stay (suc node) s stopped is =
    let parts = both_true (is_in node stopped) (are_all node stopped) is in
    rw (or_stays (s == node) (is_in node stopped) parts.0, all_stay node s stopped parts.1) refl

-- ---- one node more

further_both : (a b : Option ℕ) → further (both a b) ≡ both (further a) (further b)
further_both None b = refl
further_both (Some a) None = refl
further_both (Some a) (Some b) = let e : max a b + 1 ≡ max (a + 1) (b + 1) = omega arith in ap Some e

both_zero : (a : Option ℕ) → further (both a (Some 0)) ≡ both (further a) (Some 0)
both_zero None = refl
both_zero (Some a) = let e : max a 0 + 1 ≡ max (a + 1) 0 = omega arith in ap Some e

zero_both : (b : Option ℕ) → further (both (Some 0) b) ≡ both (Some 0) (further b)
zero_both None = refl
zero_both (Some b) = let e : max 0 b + 1 ≡ max 0 (b + 1) = omega arith in ap Some e

-- the node is stopped already, and not all of the others
stopped_one : (nodes : ℕ) (stopped : List ℕ) (stops : List Stop) → is_in nodes stopped ≡ true → further (both (all_stopped_at nodes stopped stops) (first nodes stopped stops)) ≡ both (further (all_stopped_at nodes stopped stops)) (Some 0)
stopped_one nodes stopped [] is = refl
stopped_one nodes stopped (stop ∷ stops) is = rw (or_stays (stop.node == nodes) (is_in nodes stopped) is) (both_zero (all_stopped_at nodes stopped (stop ∷ stops)))

-- the others are stopped already, and not the node
stopped_others : (nodes : ℕ) (stopped : List ℕ) (stops : List Stop) → are_all nodes stopped ≡ true → further (both (all_stopped_at nodes stopped stops) (first nodes stopped stops)) ≡ both (Some 0) (further (first nodes stopped stops))
stopped_others nodes stopped [] is = refl
stopped_others nodes stopped (stop ∷ stops) is = rw (all_stay nodes stop.node stopped is) (zero_both (first nodes stopped (stop ∷ stops)))

-- by whether the node, and whether all others, are stopped with the first stop
by_first : (q p : Bool) (last one : Option ℕ) → (q ≡ true → further (both last one) ≡ both (further last) (Some 0)) → (p ≡ true → further (both last one) ≡ both (Some 0) (further one)) → (if q && p then Some 0 else further (both last one)) ≡ both (if p then Some 0 else further last) (if q then Some 0 else further one)
by_first true true last one h k = refl
by_first true false last one h k = h refl
by_first false true last one h k = k refl
by_first false false last one h k = further_both last one

one_more : (nodes : ℕ) (stopped : List ℕ) (stops : List Stop) → all_stopped_at (suc nodes) stopped stops ≡ both (all_stopped_at nodes stopped stops) (first nodes stopped stops)
one_more nodes stopped [] = refl
one_more nodes stopped (stop ∷ stops) =
    let now : List ℕ = stop.node ∷ stopped in
    rw (one_more nodes now stops) (by_first (is_in nodes now) (are_all nodes now) (all_stopped_at nodes now stops) (first nodes now stops) (stopped_one nodes now stops) (stopped_others nodes now stops))

-- ---- the node's first stop

position_further : (test : Stop → Bool) (i : ℕ) (stops : List Stop) → position_from test (i + 1) stops ≡ further (position_from test i stops)
position_further test i [] = refl
position_further test i (stop ∷ stops) = here (test stop) (position_further test (i + 1) stops) where
  here : (b : Bool) → position_from test (i + 1 + 1) stops ≡ further (position_from test (i + 1) stops) → (if b then Some (i + 1) else position_from test (i + 1 + 1) stops) ≡ further (if b then Some i else position_from test (i + 1) stops)
  here true h = refl
  here false h = h

or_false : (b : Bool) → (b || false) ≡ b
or_false true = refl
or_false false = refl

first_from : (node : ℕ) (stopped : List ℕ) (stops : List Stop) → is_in node stopped ≡ false → first node stopped stops ≡ position_from (λ stop. stop.node == node) 0 stops
first_from node stopped [] out = refl
first_from node stopped (stop ∷ stops) out = rw (out, or_false (stop.node == node)) (here (stop.node == node) (first_from node (stop.node ∷ stopped) stops)) where
  rest : Option ℕ
  rest = first node (stop.node ∷ stopped) stops

  here : (b : Bool) → ((b || is_in node stopped) ≡ false → rest ≡ position_from (λ stop. stop.node == node) 0 stops) → (if b then Some 0 else further rest) ≡ (if b then Some 0 else position_from (λ stop. stop.node == node) (0 + 1) stops)
  here true h = refl
  here false h = rw (position_further (λ stop. stop.node == node) 0 stops) (ap further (h out))

first_is : (node : ℕ) (stops : List Stop) → first node [] stops ≡ position (λ stop. stop.node == node) stops
first_is node stops = first_from node [] stops refl ∙ sym (position_from-zero (λ stop. stop.node == node) stops)

-- ---- what the loop does

none_more : (nodes : ℕ) (stops : List Stop) → all_stopped_at nodes [] stops ≡ None → all_stopped_at (suc nodes) [] stops ≡ None
none_more nodes stops is = rw (one_more nodes [] stops, is) refl

none_above : (more nodes : ℕ) (stops : List Stop) → all_stopped_at nodes [] stops ≡ None → all_stopped_at (more + nodes) [] stops ≡ None
none_above zero nodes stops is = let e : 0 + nodes ≡ nodes = omega arith in rw e is
none_above (suc more) nodes stops is = let e : suc more + nodes ≡ suc (more + nodes) = omega arith in rw e (none_more (more + nodes) stops (none_above more nodes stops is))

both_none : (a : Option ℕ) → both a None ≡ None
both_none None = refl
both_none (Some a) = refl

-- no node was looked for yet
pub begins : (stops : List Stop) → false ≡ (length stops == 0) → all_stopped_at 0 [] stops ≡ Some 0
begins [] some = absurd (cc some)
begins (stop ∷ stops) some = refl

-- a node has a stop
pub goes_on : (node last place : ℕ) (stops : List Stop) → all_stopped_at node [] stops ≡ Some last → position (λ stop. stop.node == node) stops ≡ Some place → all_stopped_at (node + 1) [] stops ≡ Some (max last place)
goes_on node last place stops before found = rw (add-one, one_more node [] stops, before, first_is node stops, found) refl

-- a node has none, and the nodes are more
pub ends : (node nodes : ℕ) (stops : List Stop) → node + 1 ≤ nodes → position (λ stop. stop.node == node) stops ≡ None → all_stopped_at nodes [] stops ≡ None
ends node nodes stops within missing =
    let here : all_stopped_at (node + 1) [] stops ≡ None = rw (add-one, one_more node [] stops, first_is node stops, missing) (both_none (all_stopped_at node [] stops)) in
    let e : nodes - (node + 1) + (node + 1) ≡ nodes = omega arith in
    rw e at (none_above (nodes - (node + 1)) (node + 1) stops here)

-- ---- a node that is left

-- one of both is missing
none_of_both : (a b : Option ℕ) → both a b ≡ None → (a ≡ None) ⊎ (b ≡ None)
none_of_both None b is = inl refl
none_of_both (Some a) None is = inr refl
none_of_both (Some a) (Some b) is = absurd (cc is)

none_of_none : (node : ℕ) (stops : List Stop) → all_stopped_at 0 [] stops ≡ None → first node [] stops ≡ None
none_of_none node [] is = refl
none_of_none node (stop ∷ stops) is = absurd (cc is)

-- a node that has no stop
one_left : (nodes : ℕ) (stops : List Stop) → all_stopped_at (suc nodes) [] stops ≡ None → (node : ℕ) × (node < suc nodes) × (first node [] stops ≡ None)
one_left zero stops is = elim (none_of_both (all_stopped_at 0 [] stops) (first 0 [] stops) (sym (one_more 0 [] stops) ∙ is)) [
  | inl none ↦ (0, omega arith, none_of_none 0 stops none)
  | inr none ↦ (0, omega arith, none)
]
one_left (suc nodes) stops is = elim (none_of_both (all_stopped_at (suc nodes) [] stops) (first (suc nodes) [] stops) (sym (one_more (suc nodes) [] stops) ∙ is)) [
  | inl none ↦ let below = one_left nodes stops none in (below.0, omega arith, below.2)
  | inr none ↦ (suc nodes, omega arith, none)
]

or_none : (a b : Bool) (o : Option ℕ) → (if a || b then Some 0 else further o) ≡ None → (a ≡ false) × (o ≡ None)
or_none true b o is = absurd (cc is)
or_none false true o is = absurd (cc is)
or_none false false None is = (refl, refl)
or_none false false (Some place) is = absurd (cc is)

-- it is stopped nowhere
stopped_nowhere : (node : ℕ) (stopped : List ℕ) (stops : List Stop) → first node stopped stops ≡ None → All (λ (s : Stop). s.node ≢ node) stops
stopped_nowhere node stopped [] is = All-nil (λ (s : Stop). s.node ≢ node)
stopped_nowhere node stopped (stop ∷ stops) is =
    let parts = or_none (stop.node == node) (is_in node stopped) (first node (stop.node ∷ stopped) stops) is in
    All-cons (λ (s : Stop). s.node ≢ node) stop stops (λ same. cc (parts.0, (Decides-eqb stop.node node).1 same)) (stopped_nowhere node (stop.node ∷ stopped) stops parts.1)

-- a run that has nodes keeps one
pub node_left : (nodes : ℕ) (stops : List Stop) → all_stopped_at nodes [] stops ≡ None → 0 < nodes → (node : ℕ) × (node < nodes) × All (λ (s : Stop). s.node ≢ node) stops
node_left zero stops is some = absurd (omega arith)
node_left (suc nodes) stops is some = let left = one_left nodes stops is in (left.0, left.1, stopped_nowhere left.0 [] stops left.2)
