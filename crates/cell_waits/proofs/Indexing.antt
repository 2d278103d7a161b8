-- The indices of one more, and of one less.
use Rattle.std.proofs.Common.{◌≡◌, ◌∙◌, ◌+◌, ◌-◌, ℕ, Bool, true, false, List, [], ◌∷◌, ◌++◌, drop, length, cond, refl, ap, sym, add-zero, zero-add, arith}
use Rattle.std.proofs.lemmas.List.Sums.{sum_by-cons}
use Rattle.std.specs.List.{count_by}
use Rattle.dura_value.specs.Ids.{Id}
use Rattle.cell_waits.specs.Keys.{counts_in, places_in}
use Rattle.cell_waits.specs.Waits.{Waiting, is_of_stream, is_trim_of, is_request_of, is_of_task}
use Rattle.cell_waits.specs.Indices.{places_of, Agrees}
use Rattle.cell_waits.specs.declared.indices.Indices.{Indices}

step : (p : Waiting → Bool) (w : Waiting) (ws : List Waiting) → count_by p (w ∷ ws) ≡ cond (p w) 1 0 + count_by p ws
step p w ws = sum_by-cons (λ (x : Waiting). cond (p x) 1 0) w ws

count_more : (p : Waiting → Bool) (ws : List Waiting) (w : Waiting) → count_by p (ws ++ w ∷ []) ≡ count_by p ws + cond (p w) 1 0
count_more p [] w = step p w [] ∙ add-zero (cond (p w) 1 0) ∙ sym (zero-add (cond (p w) 1 0))
count_more p (x ∷ ws) w =
    let rest = count_more p ws w in
    let here = step p x ws in
    let there = step p x (ws ++ w ∷ []) in
    omega (arith, rest, here, there)

place_here : (b : Bool) (first place : ℕ) → place ≡ first → cond b (first ∷ []) [] ≡ cond b (place ∷ []) []
place_here b first place is = ap (λ (k : ℕ). cond b (k ∷ []) []) (sym is)

behind : (b : Bool) (first : ℕ) (rest more : List ℕ) → cond b (first ∷ (rest ++ more)) (rest ++ more) ≡ cond b (first ∷ rest) rest ++ more
behind true first rest more = refl
behind false first rest more = refl

places_more : (p : Waiting → Bool) (first place : ℕ) (ws : List Waiting) (w : Waiting) → place ≡ first + length ws → places_of p first (ws ++ w ∷ []) ≡ places_of p first ws ++ cond (p w) (place ∷ []) []
places_more p first place [] w is = place_here (p w) first place (omega (arith, is))
places_more p first place (x ∷ ws) w is =
    let rest = places_more p (first + 1) place ws w (omega (arith, is)) in
    ap (λ (l : List ℕ). cond (p x) (first ∷ l) l) rest ∙ behind (p x) first (places_of p (first + 1) ws) (cond (p w) (place ∷ []) [])

less_by : (b : Bool) (first : ℕ) (rest : List ℕ) → drop (cond b 1 0) (cond b (first ∷ rest) rest) ≡ rest
less_by true first rest = refl
less_by false first rest = refl

count_less : (p : Waiting → Bool) (ws : List Waiting) (w : Waiting) → count_by p (w ∷ ws) - cond (p w) 1 0 ≡ count_by p ws
count_less p ws w = let here = step p w ws in omega (arith, here)

-- one more waits behind the others
pub one_added : (old new : Indices) (w : Waiting) (place : ℕ)
    → ((q : ℕ) → counts_in new.packets q ≡ counts_in old.packets q + cond (is_of_stream q w) 1 0)
    → ((q : ℕ) → counts_in new.trims q ≡ counts_in old.trims q + cond (is_trim_of q w) 1 0)
    → ((id : Id) (q : ℕ) → places_in new.requests id q ≡ places_in old.requests id q ++ cond (is_request_of id q w) (place ∷ []) [])
    → ((id : Id) (q : ℕ) → places_in new.outcomes id q ≡ places_in old.outcomes id q ++ cond (is_of_task id q w) (place ∷ []) [])
    → (first : ℕ) (ws : List Waiting) → Agrees old first ws → place ≡ first + length ws → Agrees new first (ws ++ w ∷ [])
one_added old new w place packets trims requests outcomes first ws agrees is = record {
  packets = λ q. packets q ∙ ap (λ (k : ℕ). k + cond (is_of_stream q w) 1 0) (agrees.packets q) ∙ sym (count_more (is_of_stream q) ws w);
  trims = λ q. trims q ∙ ap (λ (k : ℕ). k + cond (is_trim_of q w) 1 0) (agrees.trims q) ∙ sym (count_more (is_trim_of q) ws w);
  requests = λ id q. requests id q ∙ ap (λ (l : List ℕ). l ++ cond (is_request_of id q w) (place ∷ []) []) (agrees.requests id q) ∙ sym (places_more (is_request_of id q) first place ws w is);
  outcomes = λ id q. outcomes id q ∙ ap (λ (l : List ℕ). l ++ cond (is_of_task id q w) (place ∷ []) []) (agrees.outcomes id q) ∙ sym (places_more (is_of_task id q) first place ws w is);
}

-- the first waits no more
pub one_taken : (old new : Indices) (w : Waiting)
    → ((q : ℕ) → counts_in new.packets q ≡ counts_in old.packets q - cond (is_of_stream q w) 1 0)
    → ((q : ℕ) → counts_in new.trims q ≡ counts_in old.trims q - cond (is_trim_of q w) 1 0)
    → ((id : Id) (q : ℕ) → places_in new.requests id q ≡ drop (cond (is_request_of id q w) 1 0) (places_in old.requests id q))
    → ((id : Id) (q : ℕ) → places_in new.outcomes id q ≡ drop (cond (is_of_task id q w) 1 0) (places_in old.outcomes id q))
    → (first : ℕ) (ws : List Waiting) → Agrees old first (w ∷ ws) → Agrees new (first + 1) ws
one_taken old new w packets trims requests outcomes first ws agrees = record {
  packets = λ q. packets q ∙ ap (λ (k : ℕ). k - cond (is_of_stream q w) 1 0) (agrees.packets q) ∙ count_less (is_of_stream q) ws w;
  trims = λ q. trims q ∙ ap (λ (k : ℕ). k - cond (is_trim_of q w) 1 0) (agrees.trims q) ∙ count_less (is_trim_of q) ws w;
  requests = λ id q. requests id q ∙ ap (drop (cond (is_request_of id q w) 1 0)) (agrees.requests id q) ∙ less_by (is_request_of id q w) first (places_of (is_request_of id q) (first + 1) ws);
  outcomes = λ id q. outcomes id q ∙ ap (drop (cond (is_of_task id q w) 1 0)) (agrees.outcomes id q) ∙ less_by (is_of_task id q w) first (places_of (is_of_task id q) (first + 1) ws);
}
