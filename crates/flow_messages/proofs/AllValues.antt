-- The values of results, one after the other.
use Rattle.std.proofs.Common.{◌≡◌, ◌<◌, ◌+◌, ◌∙◌, ◌++◌, ℕ, List, [], ◌∷◌, length, get_or, drop, Result, Ok, Err, refl, ap, sym, append_assoc}
use Rattle.std.proofs.lemmas.List.{drop_more, append-nil}
use Rattle.dura_value.specs.declared.outcome.Outcome.{Outcome}
use Rattle.dura_value.specs.declared.outcome.Outcome.TheVariants as own
use Rattle.dura_value.specs.declared.data.Value.{Value}
use Rattle.flow_syntax.specs.Eval.{◌>>=◌}
use Rattle.flow_syntax.specs.Machine.{all_values}

-- these values before those that follow, unless there is a failure
abbrev pub behind : {X : Type 0} → List X → Result (List X) (List ℕ) → Result (List X) (List ℕ)
behind values (Ok more) = Ok (values ++ more)
behind values (Err text) = Err text

pub regroup : {X : Type 0} (values : List X) (value : X) (given : Result (List X) (List ℕ)) → behind (values ++ value ∷ []) given ≡ behind values (given >>= λ rest. Ok (value ∷ rest))
regroup values value (Ok more) = ap Ok (append_assoc values (value ∷ []) more)
regroup values value (Err text) = refl

pub nothing_behind : {X : Type 0} (given : Result (List X) (List ℕ)) → behind [] given ≡ given
nothing_behind (Ok more) = refl
nothing_behind (Err text) = refl

pub none_left : (values : List Value) → behind values (all_values []) ≡ Ok values
none_left values = ap Ok (append-nil values)

pub one_done : (values : List Value) (outcomes : List Outcome) (i : ℕ) (outcome : Outcome) (value : Value) (total : Result (List Value) (List ℕ)) → i < length outcomes → outcome ≡ get_or outcomes i outcome → outcome ≡ own.Done value
    → behind values (all_values (drop i outcomes)) ≡ total → behind (values ++ value ∷ []) (all_values (drop (i + 1) outcomes)) ≡ total
one_done values outcomes i outcome value total here is done so_far =
    regroup values value (all_values (drop (i + 1) outcomes))
    ∙ ap (λ (o : Outcome). behind values (all_values (o ∷ drop (i + 1) outcomes))) (sym done ∙ is)
    ∙ ap (λ (os : List Outcome). behind values (all_values os)) (sym (drop_more outcomes i outcome here)) ∙ so_far

pub one_failed : (values : List Value) (outcomes : List Outcome) (i : ℕ) (outcome : Outcome) (text : List ℕ) (total : Result (List Value) (List ℕ)) → i < length outcomes → outcome ≡ get_or outcomes i outcome → outcome ≡ own.Failed text
    → behind values (all_values (drop i outcomes)) ≡ total → total ≡ Err text
one_failed values outcomes i outcome text total here is failed so_far =
    sym so_far ∙ ap (λ (os : List Outcome). behind values (all_values os)) (drop_more outcomes i outcome here)
    ∙ ap (λ (o : Outcome). behind values (all_values (o ∷ drop (i + 1) outcomes))) (sym is ∙ failed)
