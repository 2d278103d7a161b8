-- One lane among others.
use Rattle.std.proofs.Common.{◌≡◌, ◌∙◌, ℕ, zero, suc, ◌==◌, true, false, Bool, cond, List, [], ◌∷◌, ◌++◌, drop, set, Option, Some, None, Ok, Err, Result, refl, ap, sym, subst, append_assoc, eqb-true}
use Rattle.std.specs.List.{slice_get}
use Rattle.std.specs.Option.{option_to_list}
use Rattle.std.proofs.lemmas.Bool.{eqb-false}
use Rattle.log_items.specs.declared.items.Packet.{Packet}
use Rattle.part_transport.specs.Histories.{put, take, happens, lanes_or, taken_now, there_for, all_in}
use Rattle.part_transport.specs.Lanes.{Lane, empty_lanes, lane_set, put_at, put_on, take_at, take_in}
use Rattle.part_transport.specs.declared.disturb.Disturb.{Disturb}

-- what was set stands there, where a place is
pub get_set : {X : Type 0} (xs : List X) (i : ℕ) (x y : X) → slice_get xs i ≡ Some x → slice_get (set xs i y) i ≡ Some y
get_set [] i x y is = absurd (cc is)
get_set (z ∷ xs) zero x y is = refl
get_set (z ∷ xs) (suc i) x y is = get_set xs i x y is

-- elsewhere all stays
pub get_set_other : {X : Type 0} (xs : List X) (i j : ℕ) (y : X) → (i ≡ j → ⊥) → slice_get (set xs i y) j ≡ slice_get xs j
get_set_other [] i j y apart = refl
get_set_other (z ∷ xs) zero zero y apart = absurd (apart refl)
get_set_other (z ∷ xs) zero (suc j) y apart = refl
get_set_other (z ∷ xs) (suc i) zero y apart = refl
get_set_other (z ∷ xs) (suc i) (suc j) y apart = get_set_other xs i j y (λ e. apart (ap suc e))

-- nothing is on its way at the beginning
pub empty_at : (partitions partition : ℕ) → there_for partition (empty_lanes partitions) ≡ []
empty_at zero partition = refl
empty_at (suc n) zero = refl
empty_at (suc n) (suc k) = empty_at n k

-- what is on its way to one partition stays where another packet is put
pub put_elsewhere : (disturb : Disturb) (p : Packet) (lanes : List (Lane Packet)) (k : ℕ) → (p.dst ≡ k → ⊥) → slice_get (happens disturb lanes (put p)) k ≡ slice_get lanes k
put_elsewhere disturb p lanes k apart = by (slice_get lanes p.dst)
  where
    on : (r : Result (Lane Packet) Packet) → slice_get (lanes_or lanes (lane_set lanes p.dst r)) k ≡ slice_get lanes k
    on (Ok lane) = get_set_other lanes p.dst k lane apart
    on (Err packet) = refl

    by : (o : Option (Lane Packet)) → slice_get (lanes_or lanes (put_at disturb p lanes p.dst o)) k ≡ slice_get lanes k
    by None = refl
    by (Some lane) = on (put_on disturb p lane)

-- the same where one of another is taken
pub take_elsewhere : (lanes : List (Lane Packet)) (i k : ℕ) → (i ≡ k → ⊥) → slice_get (take_in i lanes).1 k ≡ slice_get lanes k
take_elsewhere lanes i k apart = by (slice_get lanes i)
  where
    by : (o : Option (Lane Packet)) → slice_get (take_at lanes i o).1 k ≡ slice_get lanes k
    by None = refl
    by (Some lane) = get_set_other lanes i k (record lane { queue = drop 1 lane.queue }) apart

-- the first of a list, and the rest
pub first_rest : {X : Type 0} (xs : List X) → option_to_list (slice_get xs 0) ++ drop 1 xs ≡ xs
first_rest [] = refl
first_rest (x ∷ xs) = refl

-- the lane behind a take
pub take_here : (lanes : List (Lane Packet)) (k : ℕ) (lane : Lane Packet) → slice_get lanes k ≡ Some lane → slice_get (take_in k lanes).1 k ≡ Some (record lane { queue = drop 1 lane.queue })
take_here lanes k lane is = ap (λ (o : Option (Lane Packet)). slice_get (take_at lanes k o).1 k) is ∙ get_set lanes k lane (record lane { queue = drop 1 lane.queue }) is

-- what is taken is no longer there, and all else is
pub taken_left : (lanes : List (Lane Packet)) (k : ℕ) → option_to_list (take_in k lanes).0 ++ there_for k (take_in k lanes).1 ≡ there_for k lanes
taken_left lanes k = by (slice_get lanes k) refl
  where
    by : (o : Option (Lane Packet)) → slice_get lanes k ≡ o → option_to_list (take_at lanes k o).0 ++ all_in (slice_get (take_at lanes k o).1 k) ≡ all_in (slice_get lanes k)
    by None is = refl
    by (Some lane) is =
        ap (λ (o : Option (Lane Packet)). option_to_list (slice_get lane.queue 0) ++ all_in o) (get_set lanes k lane (record lane { queue = drop 1 lane.queue }) is)
        ∙ sym (append_assoc (option_to_list (slice_get lane.queue 0)) (drop 1 lane.queue) (option_to_list lane.held))
        ∙ ap (λ (l : List Packet). l ++ option_to_list lane.held) (first_rest lane.queue)
        ∙ sym (ap (λ (o : Option (Lane Packet)). all_in o) is)

-- of one partition, what is taken and what is left was there
pub take_keeps : (disturb : Disturb) (k i : ℕ) (lanes : List (Lane Packet)) → taken_now k lanes (take i) ++ there_for k (happens disturb lanes (take i)) ≡ there_for k lanes
take_keeps disturb k i lanes = by (i == k) refl
  where
    by : (b : Bool) → (i == k) ≡ b → cond b (option_to_list (take_in i lanes).0) [] ++ there_for k (take_in i lanes).1 ≡ there_for k lanes
    by true same = let e = eqb-true i k same in subst (λ (j : ℕ). option_to_list (take_in i lanes).0 ++ there_for j (take_in i lanes).1 ≡ there_for j lanes) e (taken_left lanes i)
    by false other = ap (λ (o : Option (Lane Packet)). all_in o) (take_elsewhere lanes i k (eqb-false i k other))
