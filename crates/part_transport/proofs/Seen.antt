-- Each packet that is seen was put.
use Rattle.std.proofs.Common.{◌≡◌, inl, inr, ℕ, ◌==◌, true, false, Bool, cond, nat_le, List, [], ◌∷◌, ◌++◌, length, Option, Some, None, Ok, Err, refl, sym, subst, append_assoc, eqb-true, arith}
use Rattle.std.specs.List.{slice_get, Contains}
use Rattle.std.specs.Option.{option_to_list}
use Rattle.std.proofs.lemmas.List.Elements.{Contains-append_cases, Contains-append_left, Contains-append_right}
use Rattle.std.proofs.lemmas.Bool.{eqb-false}
use Rattle.log_items.specs.declared.items.Packet.{Packet}
use Rattle.part_transport.specs.Fates.{brings, fate_of}
use Rattle.part_transport.specs.Histories.{Event, put, take, happens, run, lanes_or, put_if_ok, put_now, taken_now, put_for, taken_of, there_for, all_in, OnlyWhatWasPut}
use Rattle.part_transport.specs.Lanes.{Lane, lane_after, empty_lanes, lane_set, limit, next_number, put_at, put_in}
use Rattle.part_transport.specs.declared.disturb.Disturb.{Disturb}
use Rattle.part_transport.specs.declared.disturb.Fate.{Fate}
use Rattle.part_transport.specs.declared.disturb.Fate.TheVariants as fates
use Rattle.part_transport.proofs.Placing.{get_set, empty_at, put_elsewhere, take_keeps}

nothing : {X : Type 0} (x : X) → Contains [] x → ⊥
nothing x there = let low = there.1 in omega (arith, low)

-- what a packet brings is that packet
brings_only : {P : Type 0} (fate : Fate) (p x : P) → Contains (brings fate p).0 x → Contains (p ∷ []) x
brings_only fates.Dropped p x there = absurd (nothing x there)
brings_only fates.Held p x there = absurd (nothing x there)
brings_only fates.Once p x there = there
brings_only fates.Twice p x there = elim (Contains-append_cases (p ∷ []) (p ∷ []) x there) [
  | inl first ↦ first
  | inr second ↦ second
]

held_only : {P : Type 0} (fate : Fate) (p x : P) → Contains (option_to_list (brings fate p).1) x → Contains (p ∷ []) x
held_only fates.Dropped p x there = absurd (nothing x there)
held_only fates.Held p x there = there
held_only fates.Once p x there = absurd (nothing x there)
held_only fates.Twice p x there = absurd (nothing x there)

-- what is on its way behind a put was on its way, or was put
module _ (disturb : Disturb) (p : Packet) (lane : Lane Packet) where
  abbrev fate : Fate
  fate = fate_of disturb (next_number lane.puts)

  abbrev own : List Packet × Option Packet
  own = brings fate p

  abbrev held : List Packet
  held = option_to_list lane.held

  after_only : (x : Packet) → Contains (all_in (Some (lane_after disturb p lane))) x → Contains (all_in (Some lane) ++ p ∷ []) x
  after_only x there = elim (Contains-append_cases (lane.queue ++ (own.0 ++ held)) (option_to_list own.1) x there) [
    | inl queued ↦ elim (Contains-append_cases lane.queue (own.0 ++ held) x queued) [
      | inl before ↦ Contains-append_left (lane.queue ++ held) (p ∷ []) x (Contains-append_left lane.queue held x before)
      | inr come ↦ elim (Contains-append_cases own.0 held x come) [
        | inl now ↦ Contains-append_right (lane.queue ++ held) (p ∷ []) x (brings_only fate p x now)
        | inr last ↦ Contains-append_left (lane.queue ++ held) (p ∷ []) x (Contains-append_right lane.queue held x last)
      ]
    ]
    | inr kept ↦ Contains-append_right (lane.queue ++ held) (p ∷ []) x (held_only fate p x kept)
  ]

-- the same where it may have no room, or be for no partition
put_here : (disturb : Disturb) (p : Packet) (lanes : List (Lane Packet)) (k : ℕ) (x : Packet) (o : Option (Lane Packet)) → slice_get lanes k ≡ o → Contains (all_in (slice_get (lanes_or lanes (put_at disturb p lanes k o)) k)) x
    → Contains (all_in o ++ put_if_ok p (put_at disturb p lanes k o)) x
put_here disturb p lanes k x None is there = absurd (nothing x (subst (λ (o : Option (Lane Packet)). Contains (all_in o) x) is there))
put_here disturb p lanes k x (Some lane) is there = by (nat_le (length (lane_after disturb p lane).queue) limit) there
  where
    by : (b : Bool) → Contains (all_in (slice_get (lanes_or lanes (lane_set lanes k (cond b (Ok (lane_after disturb p lane)) (Err p)))) k)) x → Contains (all_in (Some lane) ++ put_if_ok p (lane_set lanes k (cond b (Ok (lane_after disturb p lane)) (Err p)))) x
    by true there = after_only disturb p lane x (subst (λ (o : Option (Lane Packet)). Contains (all_in o) x) (get_set lanes k lane (lane_after disturb p lane) is) there)
    by false there = Contains-append_left (all_in (Some lane)) [] x (subst (λ (o : Option (Lane Packet)). Contains (all_in o) x) is there)

-- what is seen behind a put was on its way, or was put
put_step : (disturb : Disturb) (k : ℕ) (lanes : List (Lane Packet)) (p x : Packet) → Contains (there_for k (happens disturb lanes (put p))) x → Contains (there_for k lanes ++ put_now disturb k lanes (put p)) x
put_step disturb k lanes p x there = by (p.dst == k) refl
  where
    by : (b : Bool) → (p.dst == k) ≡ b → Contains (there_for k lanes ++ cond b (put_if_ok p (put_in disturb p lanes)) []) x
    by true same =
        let e = eqb-true p.dst k same in
        subst (λ (j : ℕ). Contains (there_for j lanes ++ put_if_ok p (put_in disturb p lanes)) x) e
        (put_here disturb p lanes p.dst x (slice_get lanes p.dst) refl (subst (λ (j : ℕ). Contains (there_for j (happens disturb lanes (put p))) x) (sym e) there))
    by false other =
        Contains-append_left (there_for k lanes) [] x (subst (λ (o : Option (Lane Packet)). Contains (all_in o) x) (put_elsewhere disturb p lanes k (eqb-false p.dst k other)) there)

-- what is seen behind an event was on its way, or was put
step : (disturb : Disturb) (k : ℕ) (lanes : List (Lane Packet)) (e : Event) (x : Packet) → Contains (taken_now k lanes e ++ there_for k (happens disturb lanes e)) x → Contains (there_for k lanes ++ put_now disturb k lanes e) x
step disturb k lanes (put p) x there = put_step disturb k lanes p x there
step disturb k lanes (take i) x there = Contains-append_left (there_for k lanes) [] x (subst (λ (l : List Packet). Contains l x) (take_keeps disturb k i lanes) there)

-- what is seen behind one event more
module _ (disturb : Disturb) (k : ℕ) (lanes : List (Lane Packet)) (e : Event) (es : List Event) (x : Packet) where
  abbrev next : List (Lane Packet)
  next = happens disturb lanes e

  abbrev now : List Packet
  now = taken_now k lanes e

  abbrev later : List Packet
  later = taken_of disturb k next es

  abbrev end : List Packet
  end = there_for k (run disturb next es)

  abbrev put_then : List Packet
  put_then = put_for disturb k next es

  near : Contains (now ++ there_for k next) x → Contains (there_for k lanes ++ (put_now disturb k lanes e ++ put_then)) x
  near seen = subst (λ (l : List Packet). Contains l x) (append_assoc (there_for k lanes) (put_now disturb k lanes e) put_then) (Contains-append_left (there_for k lanes ++ put_now disturb k lanes e) put_then x (step disturb k lanes e x seen))

  behind : Contains (there_for k next ++ put_then) x → Contains (there_for k lanes ++ (put_now disturb k lanes e ++ put_then)) x
  behind seen = elim (Contains-append_cases (there_for k next) put_then x seen) [
    | inl there ↦ near (Contains-append_right now (there_for k next) x there)
    | inr after ↦ Contains-append_right (there_for k lanes) (put_now disturb k lanes e ++ put_then) x (Contains-append_right (put_now disturb k lanes e) put_then x after)
  ]

  seen_more : (Contains (later ++ end) x → Contains (there_for k next ++ put_then) x) → Contains ((now ++ later) ++ end) x → Contains (there_for k lanes ++ (put_now disturb k lanes e ++ put_then)) x
  seen_more from there = elim (Contains-append_cases (now ++ later) end x there) [
    | inl taken ↦ elim (Contains-append_cases now later x taken) [
      | inl first ↦ near (Contains-append_left now (there_for k next) x first)
      | inr then ↦ behind (from (Contains-append_left later end x then))
    ]
    | inr left ↦ behind (from (Contains-append_right later end x left))
  ]

-- what is seen behind events was on its way, or was put
pub seen_from : (disturb : Disturb) (k : ℕ) (lanes : List (Lane Packet)) (es : List Event) (x : Packet) → Contains (taken_of disturb k lanes es ++ there_for k (run disturb lanes es)) x → Contains (there_for k lanes ++ put_for disturb k lanes es) x
seen_from disturb k lanes [] x there = Contains-append_left (there_for k lanes) [] x there
seen_from disturb k lanes (e ∷ es) x there = seen_more disturb k lanes e es x (seen_from disturb k (happens disturb lanes e) es x) there

pub only_put : OnlyWhatWasPut
only_put disturb partitions k es x there = subst (λ (l : List Packet). Contains (l ++ put_for disturb k (empty_lanes partitions) es) x) (empty_at partitions k) (seen_from disturb k (empty_lanes partitions) es x there)
