-- Without disturbance all comes in order.
use Rattle.std.proofs.Common.{◌≡◌, ◌∙◌, ◌<◌, ℕ, zero, suc, ◌==◌, true, false, Bool, cond, nat_le, List, [], ◌∷◌, ◌++◌, length, Option, Some, None, Ok, Err, refl, ap, sym, subst, append_assoc, append-nil, eqb-true, arith}
use Rattle.std.specs.List.{slice_get}
use Rattle.std.specs.Option.{option_to_list}
use Rattle.std.proofs.lemmas.Bool.{eqb-false}
use Rattle.log_items.specs.declared.items.Packet.{Packet}
use Rattle.part_transport.specs.Histories.{Event, put, take, happens, run, lanes_or, put_if_ok, put_now, taken_now, put_for, taken_of, there_for, all_in, undisturbed, InOrder}
use Rattle.part_transport.specs.Lanes.{Lane, lane_after, empty_lanes, lane_set, limit, put_at, put_in, take_in}
use Rattle.part_transport.proofs.Placing.{get_set, empty_at, put_elsewhere, take_elsewhere, take_here, take_keeps}

-- there is a lane, and nothing is held
abbrev IsFree : Option (Lane Packet) → Type 0
IsFree None = ⊥
IsFree (Some lane) = lane.held ≡ None

-- what is on its way behind an event, and what it took; and that nothing is held still
record Steps (k : ℕ) (lanes : List (Lane Packet)) (e : Event) : Type 0 where
  pub same : taken_now k lanes e ++ there_for k (happens undisturbed lanes e) ≡ there_for k lanes ++ put_now undisturbed k lanes e
  pub free : IsFree (slice_get (happens undisturbed lanes e) k)

-- a packet comes behind all that is on its way
after_is : (p : Packet) (lane : Lane Packet) → lane.held ≡ None → all_in (Some (lane_after undisturbed p lane)) ≡ all_in (Some lane) ++ p ∷ []
after_is p lane none =
    append-nil (lane.queue ++ p ∷ option_to_list lane.held)
    ∙ ap (λ (h : Option Packet). lane.queue ++ p ∷ option_to_list h) none
    ∙ sym (ap (λ (h : Option Packet). (lane.queue ++ option_to_list h) ++ p ∷ []) none ∙ ap (λ (l : List Packet). l ++ p ∷ []) (append-nil lane.queue))

put_here : (p : Packet) (lanes : List (Lane Packet)) (k : ℕ) (o : Option (Lane Packet)) → slice_get lanes k ≡ o → IsFree o
    → (all_in (slice_get (lanes_or lanes (put_at undisturbed p lanes k o)) k) ≡ all_in o ++ put_if_ok p (put_at undisturbed p lanes k o)) × IsFree (slice_get (lanes_or lanes (put_at undisturbed p lanes k o)) k)
put_here p lanes k None is free = absurd free
put_here p lanes k (Some lane) is free = by (nat_le (length (lane_after undisturbed p lane).queue) limit)
  where
    by : (b : Bool) → (all_in (slice_get (lanes_or lanes (lane_set lanes k (cond b (Ok (lane_after undisturbed p lane)) (Err p)))) k) ≡ all_in (Some lane) ++ put_if_ok p (lane_set lanes k (cond b (Ok (lane_after undisturbed p lane)) (Err p)))) × IsFree (slice_get (lanes_or lanes (lane_set lanes k (cond b (Ok (lane_after undisturbed p lane)) (Err p)))) k)
    by true =
        let set_there = get_set lanes k lane (lane_after undisturbed p lane) is in
        (ap (λ (o : Option (Lane Packet)). all_in o) set_there ∙ after_is p lane free, subst IsFree (sym set_there) refl)
    by false = (ap (λ (o : Option (Lane Packet)). all_in o) is ∙ sym (append-nil (all_in (Some lane))), subst IsFree (sym is) free)

put_step : (k : ℕ) (lanes : List (Lane Packet)) (p : Packet) → IsFree (slice_get lanes k) → Steps k lanes (put p)
put_step k lanes p free = by (p.dst == k) refl
  where
    by : (b : Bool) → (p.dst == k) ≡ b → Steps k lanes (put p)
    by true same =
        let e = eqb-true p.dst k same in
        let here = put_here p lanes p.dst (slice_get lanes p.dst) refl (subst (λ (j : ℕ). IsFree (slice_get lanes j)) (sym e) free) in
        record {
          same = subst (λ (j : ℕ). there_for j (happens undisturbed lanes (put p)) ≡ there_for j lanes ++ put_if_ok p (put_in undisturbed p lanes)) e here.0
              ∙ ap (λ (b : Bool). there_for k lanes ++ cond b (put_if_ok p (put_in undisturbed p lanes)) []) (sym same);
          free = subst (λ (j : ℕ). IsFree (slice_get (happens undisturbed lanes (put p)) j)) e here.1;
        }
    by false other =
        let stays = put_elsewhere undisturbed p lanes k (eqb-false p.dst k other) in
        record {
          same = ap (λ (o : Option (Lane Packet)). all_in o) stays ∙ sym (append-nil (there_for k lanes)) ∙ ap (λ (b : Bool). there_for k lanes ++ cond b (put_if_ok p (put_in undisturbed p lanes)) []) (sym other);
          free = subst IsFree (sym stays) free;
        }

take_frees : (k i : ℕ) (lanes : List (Lane Packet)) → IsFree (slice_get lanes k) → IsFree (slice_get (take_in i lanes).1 k)
take_frees k i lanes free = by (i == k) refl
  where
    here : (o : Option (Lane Packet)) → slice_get lanes k ≡ o → IsFree o → IsFree (slice_get (take_in k lanes).1 k)
    here None is free = absurd free
    here (Some lane) is free = subst IsFree (sym (take_here lanes k lane is)) free

    by : (b : Bool) → (i == k) ≡ b → IsFree (slice_get (take_in i lanes).1 k)
    by true same = subst (λ (j : ℕ). IsFree (slice_get (take_in j lanes).1 k)) (sym (eqb-true i k same)) (here (slice_get lanes k) refl free)
    by false other = subst IsFree (sym (take_elsewhere lanes i k (eqb-false i k other))) free

step : (k : ℕ) (lanes : List (Lane Packet)) (e : Event) → IsFree (slice_get lanes k) → Steps k lanes e
step k lanes (put p) free = put_step k lanes p free
step k lanes (take i) free = record { same = take_keeps undisturbed k i lanes ∙ sym (append-nil (there_for k lanes)); free = take_frees k i lanes free }

-- what is seen behind events is what was on its way, and behind it what was put
in_order_from : (k : ℕ) (lanes : List (Lane Packet)) (es : List Event) → IsFree (slice_get lanes k) → taken_of undisturbed k lanes es ++ there_for k (run undisturbed lanes es) ≡ there_for k lanes ++ put_for undisturbed k lanes es
in_order_from k lanes [] free = sym (append-nil (there_for k lanes))
in_order_from k lanes (e ∷ es) free =
    let next = happens undisturbed lanes e in
    let steps = step k lanes e free in
    append_assoc (taken_now k lanes e) (taken_of undisturbed k next es) (there_for k (run undisturbed next es))
    ∙ ap (λ (l : List Packet). taken_now k lanes e ++ l) (in_order_from k next es steps.free)
    ∙ sym (append_assoc (taken_now k lanes e) (there_for k next) (put_for undisturbed k next es))
    ∙ ap (λ (l : List Packet). l ++ put_for undisturbed k next es) steps.same
    ∙ append_assoc (there_for k lanes) (put_now undisturbed k lanes e) (put_for undisturbed k next es)

-- nothing is held at the beginning
free_at : (partitions k : ℕ) → k < partitions → IsFree (slice_get (empty_lanes partitions) k)
free_at zero k low = absurd (omega (arith, low))
free_at (suc n) zero low = refl
free_at (suc n) (suc k) low = free_at n k (omega (arith, low))

pub all_in_order : InOrder
all_in_order partitions k es low =
    in_order_from k (empty_lanes partitions) es (free_at partitions k low) ∙ ap (λ (l : List Packet). l ++ put_for undisturbed k (empty_lanes partitions) es) (empty_at partitions k)
