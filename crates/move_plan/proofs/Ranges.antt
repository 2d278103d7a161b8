-- What was read is in the run's range.
use Rattle.std.proofs.Common.{◌≡◌, ℕ, ◌<◌, ◌≤◌, List, [], ◌∷◌, Bool, true, false, Option, Some, None, Result, Ok, Err, refl, arith, codes}
use Rattle.std.specs.Prelude.{nat_le, nat_lt, ok_or, IfOk}
use Rattle.std.specs.List.{All}
use Rattle.std.specs.Option.{option_map_or}
use Rattle.std.proofs.lemmas.Bool.Decides.{nat_tests}
use Rattle.std.proofs.lemmas.List.Elements.{All-nil, All-cons}
use Rattle.serde_json.specs.Data.{Data, Items, no_items, item}
use Rattle.dura_value.specs.Optional.{guard, where_it}
use Rattle.dura_value.proofs.Optional.{both_there}
use Rattle.request_reader.specs.Json.{has_members}
use Rattle.move_plan.specs.declared.entries.Move.{Move}
use Rattle.move_plan.specs.declared.entries.Stop.{Stop}
use Rattle.move_plan.specs.declared.error.Place.{Place}
use Rattle.move_plan.specs.declared.error.Place.TheVariants as places
use Rattle.move_plan.specs.declared.error.PlanError.{PlanError}
use Rattle.move_plan.specs.declared.plans.Plan.{Plan as OwnPlan}
use Rattle.move_plan.specs.Entries.{number_at, turn_in, number_below, move_in, stop_in, lists_in}
use Rattle.move_plan.specs.Plans.{Plan, plan_of, ◌>>=◌, with_first, all_in, at_place, all_stopped_at, where_a_node_is_left, plan_of_lists, plan_from, FitsRun}
use Rattle.move_plan.specs.Reading.{PlanGives}
use Rattle.move_plan.proofs.Stopping.{node_left}

guard_there : {X : Type 0} (b : Bool) (o : Option X) (x : X) → guard b o ≡ Some x → (b ≡ true) × (o ≡ Some x)
guard_there true o x is = (refl, is)
guard_there false o x is = absurd (cc is)

where_there : {X : Type 0} (test : X → Bool) (x y : X) → where_it test x ≡ Some y → test y ≡ true
where_there test x y is =
    let parts = guard_there (test x) (Some x) y is in
    let same : x ≡ y = cc parts.1 in
    rw (← same) parts.0

le_from : (a b : ℕ) → nat_le a b ≡ true → a ≤ b
le_from a b is = grind (arith, nat_tests)

lt_from : (a b : ℕ) → nat_lt a b ≡ true → a < b
lt_from a b is = grind (arith, nat_tests)

turn_fits : (d : Data) (turn : ℕ) → turn_in d ≡ Some turn → 1 ≤ turn
turn_fits d turn is =
    let number = both_there (number_at (codes "turn") d) (where_it (nat_le 1)) turn is in
    le_from 1 turn (where_there (nat_le 1) number.0 turn number.2)

below_fits : (key : List ℕ) (limit : ℕ) (d : Data) (n : ℕ) → number_below key limit d ≡ Some n → n < limit
below_fits key limit d n is =
    let number = both_there (number_at key d) (where_it (λ n. nat_lt n limit)) n is in
    lt_from n limit (where_there (λ n. nat_lt n limit) number.0 n number.2)

move_fits : (partitions nodes : ℕ) (d : Data) (m : Move) → move_in partitions nodes d ≡ Some m → (1 ≤ m.turn) × (m.partition < partitions) × (m.node < nodes)
move_fits partitions nodes d m is =
    let members = guard_there (has_members 3 d) _ m is in
    let turn = both_there (turn_in d) _ m members.1 in
    let partition = both_there (number_below (codes "partition") partitions d) _ m turn.2 in
    let node = both_there (number_below (codes "node") nodes d) _ m partition.2 in
    let made : record { turn = turn.0; partition = partition.0; node = node.0 } ≡ m = cc node.2 in
    rw (← made) (turn_fits d turn.0 turn.1, below_fits (codes "partition") partitions d partition.0 partition.1, below_fits (codes "node") nodes d node.0 node.1)

stop_fits : (nodes : ℕ) (d : Data) (s : Stop) → stop_in nodes d ≡ Some s → (1 ≤ s.turn) × (s.node < nodes)
stop_fits nodes d s is =
    let members = guard_there (has_members 2 d) _ s is in
    let turn = both_there (turn_in d) _ s members.1 in
    let node = both_there (number_below (codes "node") nodes d) _ s turn.2 in
    let made : record { turn = turn.0; node = node.0 } ≡ s = cc node.2 in
    rw (← made) (turn_fits d turn.0 turn.1, below_fits (codes "node") nodes d node.0 node.1)

first_there : {X : Type 0} (o : Option X) (rest : Result (List X) ℕ) (xs : List X) → with_first o rest ≡ Ok xs → (x : X) × (ys : List X) × (o ≡ Some x) × (rest ≡ Ok ys) × (x ∷ ys ≡ xs)
first_there None rest xs is = absurd (cc is)
first_there (Some x) (Ok ys) xs is = (x, ys, refl, refl, cc is)
first_there (Some x) (Err place) xs is = absurd (cc is)

-- what is so of each entry is so of all
all_fit : {X : Type 0} (read : Data → Option X) (P : X → Type 0) → ((d : Data) (x : X) → read d ≡ Some x → P x) → (ds : Items) (xs : List X) → all_in read ds ≡ Ok xs → All P xs
all_fit read P fits no_items xs is = let none : [] ≡ xs = cc is in rw (← none) (All-nil P)
all_fit read P fits (item d ds) xs is =
    let parts = first_there (read d) (all_in read ds) xs is in
    rw (← parts.4) (All-cons P parts.0 parts.1 (fits d parts.0 parts.2) (all_fit read P fits ds parts.1 parts.3))

placed : {X : Type 0} (list : ℕ → Place) (r : Result X ℕ) (x : X) → at_place list r ≡ Ok x → r ≡ Ok x
placed list (Ok y) x is = cc is
placed list (Err place) x is = absurd (cc is)

then_there : {X Y : Type 0} (r : Result X Place) (f : X → Result Y Place) (y : Y) → (r >>= f) ≡ Ok y → (x : X) × (r ≡ Ok x) × (f x ≡ Ok y)
then_there (Ok x) f y is = (x, refl, is)
then_there (Err place) f y is = absurd (cc is)

left_there : (o : Option ℕ) (stops after : List Stop) → option_map_or (λ place. Err (places.Stop place)) o (Ok stops) ≡ Ok after → (o ≡ None) × (stops ≡ after)
left_there None stops after is = (refl, cc is)
left_there (Some place) stops after is = absurd (cc is)

lists_fit : (partitions nodes : ℕ) (moves stops : Items) (plan : Plan) → plan_of_lists partitions nodes moves stops ≡ Ok plan → FitsRun partitions nodes plan
lists_fit partitions nodes moves stops plan is =
    let all = then_there (at_place places.Move (all_in (move_in partitions nodes) moves)) _ plan is in
    let rest = then_there (at_place places.Stop (all_in (stop_in nodes) stops) >>= where_a_node_is_left nodes) _ plan all.2 in
    let both = then_there (at_place places.Stop (all_in (stop_in nodes) stops)) (where_a_node_is_left nodes) rest.0 rest.1 in
    let left = left_there (all_stopped_at nodes [] both.0) both.0 rest.0 both.2 in
    let made : record { moves = all.0; stops = rest.0 } ≡ plan = cc rest.2 in
    rw (← made, ← left.1) (record {
      moves = all_fit (move_in partitions nodes) (λ (m : Move). (1 ≤ m.turn) × (m.partition < partitions) × (m.node < nodes)) (move_fits partitions nodes) moves all.0 (placed places.Move _ all.0 all.1);
      stops = all_fit (stop_in nodes) (λ (s : Stop). (1 ≤ s.turn) × (s.node < nodes)) (stop_fits nodes) stops both.0 (placed places.Stop _ both.0 both.1);
      left = node_left nodes both.0 left.0;
    })

plan_fits : (partitions nodes : ℕ) (d : Data) (plan : Plan) → plan_from partitions nodes d ≡ Ok plan → FitsRun partitions nodes plan
plan_fits partitions nodes d plan is =
    let lists = then_there (ok_or (lists_in d) places.Whole) _ plan is in
    lists_fit partitions nodes lists.0.0 lists.0.1 plan lists.2

-- what is answered of an object
pub fits : (partitions nodes : ℕ) (d : Data) (r : Result OwnPlan PlanError) → PlanGives plan_of r (plan_from partitions nodes d) → IfOk r (λ plan. FitsRun partitions nodes (plan_of plan))
fits partitions nodes d (Ok plan) gives = plan_fits partitions nodes d (plan_of plan) gives
fits partitions nodes d (Err e) gives = tt
