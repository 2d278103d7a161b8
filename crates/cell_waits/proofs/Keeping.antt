-- What is kept, one after another.
use Rattle.std.proofs.Common.{◌≡◌, ◌∙◌, ℕ, Bool, true, false, not, List, [], ◌∷◌, ◌++◌, map, Option, Some, option_to_list, cond, refl, ap, sym, append_assoc, append-nil, arith}
use Rattle.std.proofs.lemmas.List.{nil_from_length}
use Rattle.std.specs.List.{filter}
use Rattle.std.specs.VecDeque.{deque_len}
use Rattle.std.specs.declared.alloc.Global.{Global}
use Rattle.std.specs.declared.collections.VecDeque.{VecDeque}
use Rattle.dura_value.specs.Items.{Identity}
use Rattle.cell_waits.proofs.CutStreams.{cut_one}
use Rattle.cell_waits.specs.CutStreams.{stays, goes, cut_behind}
use Rattle.cell_waits.specs.Waits.{Waiting, wait_of, sender_of, without_lost}
use Rattle.cell_waits.specs.declared.wait.Wait.{Wait}

-- the first of what waits, as it is seen
pub first_seen : (items rest : List Wait) (popped : Option Wait) (w : Wait) → items ≡ option_to_list popped ++ rest → popped ≡ Some w → map wait_of items ≡ wait_of w ∷ map wait_of rest
first_seen items rest popped w is there = ap (map wait_of) (is ∙ ap (λ (o : Option Wait). option_to_list o ++ rest) there)

moved : (old new front rest whole all : List Waiting) → new ≡ old ++ front → whole ≡ front ++ rest → old ++ whole ≡ all → new ++ rest ≡ all
moved old new front rest whole all grown parts before = ap (λ (l : List Waiting). l ++ rest) grown ∙ append_assoc old front rest ∙ ap (λ (l : List Waiting). old ++ l) (sym parts) ∙ before

in_front : (b : Bool) (w : Waiting) (rest : List Waiting) → cond b (w ∷ rest) rest ≡ cond b (w ∷ []) [] ++ rest
in_front true w rest = refl
in_front false w rest = refl

-- one that passes is kept behind the others
pub one_filtered : (p : Waiting → Bool) (old new all waiting rest : List Waiting) (w : Waiting) (stays : Bool) → waiting ≡ w ∷ rest → stays ≡ p w → new ≡ old ++ cond stays (w ∷ []) []
    → old ++ filter p waiting ≡ all → new ++ filter p rest ≡ all
one_filtered p old new all waiting rest w stays first same grown before =
    moved old new (cond stays (w ∷ []) []) (filter p rest) (filter p waiting) all grown
    (ap (filter p) first ∙ in_front (p w) w (filter p rest) ∙ ap (λ (b : Bool). cond b (w ∷ []) [] ++ filter p rest) (sym same)) before

-- one whose stream isn't cut is kept behind the others
pub one_uncut : (lost : Identity → Bool) (cut next : List ℕ) (old new all waiting rest : List Waiting) (w : Waiting) (gone : Bool) → waiting ≡ w ∷ rest → gone ≡ goes lost cut (sender_of w.item)
    → next ≡ cut_behind lost cut (sender_of w.item) → new ≡ old ++ cond (not gone) (w ∷ []) []
    → old ++ filter (stays cut) (without_lost lost waiting) ≡ all → new ++ filter (stays next) (without_lost lost rest) ≡ all
one_uncut lost cut next old new all waiting rest w gone first same further grown before =
    moved old new (cond (not gone) (w ∷ []) []) (filter (stays next) (without_lost lost rest)) (filter (stays cut) (without_lost lost waiting)) all grown
    (ap (λ (l : List Waiting). filter (stays cut) (without_lost lost l)) first ∙ cut_one lost w cut rest
    ∙ ap (λ (b : Bool). cond (not b) (w ∷ []) [] ++ filter (stays (cut_behind lost cut (sender_of w.item))) (without_lost lost rest)) (sym same)
    ∙ ap (λ (l : List ℕ). cond (not gone) (w ∷ []) [] ++ filter (stays l) (without_lost lost rest)) (sym further)) before

-- nothing is left where none is popped
pub nothing_left : (queue : VecDeque Wait Global) → deque_len queue ≡ 0 → map wait_of queue.items ≡ []
nothing_left queue none = ap (map wait_of) (nil_from_length queue.items (let len = queue.ok.0 in omega (arith, none, len)))

-- all that is kept is all, where nothing is left
pub all_kept : (kept waiting all : List Waiting) (f : List Waiting → List Waiting) → waiting ≡ [] → f [] ≡ [] → kept ++ f waiting ≡ all → kept ≡ all
all_kept kept waiting all f none empty before = sym (append-nil kept) ∙ ap (λ (l : List Waiting). kept ++ l) (sym (ap f none ∙ empty)) ∙ before
