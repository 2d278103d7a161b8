-- The entities of a lock, one after the other.
use Rattle.std.proofs.Common.{◌≡◌, ◌<◌, ◌+◌, ◌∙◌, ◌++◌, ℕ, List, [], ◌∷◌, length, get_or, drop, map, Result, Ok, Err, refl, ap, sym}
use Rattle.std.proofs.lemmas.List.{drop_more, append-nil, map-append}
use Rattle.dura_value.specs.Messages.{Spot}
use Rattle.dura_value.specs.declared.spots.Spot.{Spot as OwnSpot}
use Rattle.dura_value.specs.Views.{spot_of as spot_seen, spots_of}
use Rattle.flow_syntax.specs.Syntax.{Locked}
use Rattle.flow_syntax.specs.declared.syntax.Locked.{Locked as OwnLocked}
use Rattle.flow_syntax.specs.Views.{locked_of}
use Rattle.flow_syntax.specs.Eval.{◌>>=◌, Variables, eval, to_key}
use Rattle.flow_syntax.specs.Machine.{eval_spots, spot_of}
use Rattle.flow_eval.specs.declared.fault.EvalError.{EvalError}
use Rattle.flow_eval.specs.declared.fault.EvalError.TheVariants.{Thrown, Memory}
use Rattle.flow_eval.specs.Faults.{fault_text}
use Rattle.flow_eval.specs.Gives.{EvalFails}
use Rattle.flow_machine.specs.Values.{spot_in}
use Rattle.flow_messages.proofs.AllValues.{behind, regroup}

-- the first of them, and then the rest
first_by : (one : Locked) (key : Result (List ℕ) (List ℕ)) (rest : Result (List Spot) (List ℕ)) → (key >>= λ k. rest >>= λ more. Ok (spot_of one.class k ∷ more)) ≡ ((key >>= λ k. Ok (spot_of one.class k)) >>= λ s. rest >>= λ more. Ok (s ∷ more))
first_by one (Ok key) rest = refl
first_by one (Err fault) rest = refl

first_spot : (variables : Variables) (one : Locked) (more : List Locked) → eval_spots variables (one ∷ more) ≡ (spot_in variables one >>= λ s. eval_spots variables more >>= λ rest. Ok (s ∷ rest))
first_spot variables one more = first_by one (eval variables one.key >>= to_key) (eval_spots variables more)

pub none_left : (variables : Variables) (spots : List Spot) → behind spots (eval_spots variables []) ≡ Ok spots
none_left variables spots = ap Ok (append-nil spots)

rest_at : (variables : Variables) (spots : List Spot) (entities : List OwnLocked) (i : ℕ) (one : OwnLocked) (total : Result (List Spot) (List ℕ)) → i < length entities → one ≡ get_or entities i one
    → behind spots (eval_spots variables (map locked_of (drop i entities))) ≡ total → behind spots (spot_in variables (locked_of one) >>= λ s. eval_spots variables (map locked_of (drop (i + 1) entities)) >>= λ rest. Ok (s ∷ rest)) ≡ total
rest_at variables spots entities i one total here is so_far =
    ap (behind spots) (sym (first_spot variables (locked_of one) (map locked_of (drop (i + 1) entities))))
    ∙ ap (λ (o : OwnLocked). behind spots (eval_spots variables (locked_of o ∷ map locked_of (drop (i + 1) entities)))) is
    ∙ ap (λ (os : List OwnLocked). behind spots (eval_spots variables (map locked_of os))) (sym (drop_more entities i one here)) ∙ so_far

pub one_spot : (variables : Variables) (spots : List OwnSpot) (entities : List OwnLocked) (i : ℕ) (one : OwnLocked) (spot : OwnSpot) (total : Result (List Spot) (List ℕ)) → i < length entities → one ≡ get_or entities i one
    → spot_in variables (locked_of one) ≡ Ok (spot_seen spot) → behind (spots_of spots) (eval_spots variables (map locked_of (drop i entities))) ≡ total
    → behind (spots_of (spots ++ spot ∷ [])) (eval_spots variables (map locked_of (drop (i + 1) entities))) ≡ total
one_spot variables spots entities i one spot total here is found so_far =
    let rest = eval_spots variables (map locked_of (drop (i + 1) entities)) in
    ap (λ (ss : List Spot). behind ss rest) (map-append spot_seen spots (spot ∷ []))
    ∙ regroup (spots_of spots) (spot_seen spot) rest
    ∙ ap (λ (s : Result Spot (List ℕ)). behind (spots_of spots) (s >>= λ x. rest >>= λ more. Ok (x ∷ more))) (sym found)
    ∙ rest_at variables (spots_of spots) entities i one total here is so_far

one_fault : (variables : Variables) (spots : List Spot) (entities : List OwnLocked) (i : ℕ) (one : OwnLocked) (fault : List ℕ) (total : Result (List Spot) (List ℕ)) → i < length entities → one ≡ get_or entities i one
    → spot_in variables (locked_of one) ≡ Err fault → behind spots (eval_spots variables (map locked_of (drop i entities))) ≡ total → total ≡ Err fault
one_fault variables spots entities i one fault total here is failed so_far =
    let rest = eval_spots variables (map locked_of (drop (i + 1) entities)) in
    sym (rest_at variables spots entities i one total here is so_far) ∙ ap (λ (s : Result Spot (List ℕ)). behind spots (s >>= λ x. rest >>= λ more. Ok (x ∷ more))) failed

pub one_failed : (error : EvalError) (variables : Variables) (spots : List Spot) (entities : List OwnLocked) (i : ℕ) (one : OwnLocked) (total : Result (List Spot) (List ℕ)) → i < length entities → one ≡ get_or entities i one
    → EvalFails error (spot_in variables (locked_of one)) → behind spots (eval_spots variables (map locked_of (drop i entities))) ≡ total → EvalFails error total
one_failed (Thrown fault) variables spots entities i one total here is failed so_far = one_fault variables spots entities i one (fault_text fault) total here is failed so_far
one_failed Memory variables spots entities i one total here is failed so_far = tt
