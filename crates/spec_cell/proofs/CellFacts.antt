-- A cell by its view.
use Rattle.std.proofs.Common.{◌≡◌, ◌≤◌, ◌<◌, ◌^◌, ◌+◌, inl, inr, ℕ, zero, suc, Bool, true, List, [], ◌∷◌, ◌++◌, Option, Some, None, Result, Ok, refl, sym, ◌∙◌, ap, subst, arith}
use Rattle.std.specs.Prelude.{◌-◌, min, max, length, take, drop, filter, is_some, false, IfSome, IfNone}
use Rattle.std.specs.List.{All}
use Rattle.std.proofs.lemmas.Bool.{cases_lt}
use Rattle.std.proofs.lemmas.List.{length-append, length-map, map-append, take-map, drop-map, length-take-le}
use Rattle.std.proofs.lemmas.List.Elements.{All-append, All-cons, All-head, All-tail}
use Rattle.cell_tasks.specs.Tasks.{is_out, none_out, IsAhead as LooksFrom}
use Rattle.cell_waits.specs.Waits.{Waiting, MayWait, waits_of, lasting}
use Rattle.cell_waits.specs.Indices.{IsIndexed}
use Rattle.dura_model.proofs.Appending.{placed_both}
use Rattle.dura_model.specs.Entries.{placed}
use Rattle.dura_model.specs.Partition.{Partition}
use Rattle.dura_value.specs.Ids.{Id}
use Rattle.dura_value.specs.Items.{Entry}
use Rattle.dura_value.specs.Reading.{◌>>=◌}
use Rattle.flow_syntax.specs.Syntax.{Flows}
use Rattle.log_items.specs.Plain.{entry_of, item_of}
use Rattle.log_items.specs.declared.items.Packet.{Packet}
use Rattle.part_items.specs.Numbered.{Next}
use Rattle.part_rows.specs.Timers.{AreDue}
use Rattle.part_steps.specs.Enabled.{NoneEnabled, stamp_at}
use Rattle.part_steps.specs.States.{IsSound, state_of, count_of}
use Rattle.part_steps.specs.declared.state.PartState.{PartState}
use Rattle.cell_steps.specs.Ahead.{MayTurn, LeavesWaits, HasStep, Rests, Ends, ahead_of, begun_of}
use Rattle.spec_cell.specs.Comes.{with_wait}
use Rattle.cell_steps.specs.Fills.{Filled}
use Rattle.spec_cell.specs.Moves.{given_up}
use Rattle.spec_cell.specs.Seats.{Slot}
use Rattle.cell_steps.specs.Sent.{SendsAtOnce}
use Rattle.cell_steps.specs.Steps.{AreSteps, last_of, entries_in}
use Rattle.spec_cell.specs.Tasks.{StandsAhead, pending_in, given_by, without_settled}
use Rattle.spec_cell.specs.Turns.{IsBegun, MakesEntry, IsIdle, IsSpent, CellTurns}
use Rattle.cell_steps.specs.Possible.{NonePossible, OwnFirst, next_round}
use Rattle.spec_cell.specs.Views.{CellView, Stands, StandsIn, HasFacts, HasSettled, CountsDue, AreBy, IsAhead, IsBase, entries_of_live, incarnation_of, waits_of_live, given_of_live}
use Rattle.spec_cell.specs.declared.cell.CellTurn.{CellTurn}
use Rattle.cell_steps.specs.declared.mode.Mode.{Mode}
use Rattle.cell_steps.specs.declared.live.Live.{Live}
use Rattle.cell_steps.specs.declared.step.Step.{Step}
use Rattle.cell_steps.proofs.Chains.{steps_both, steps_front, steps_back, last_both, last_many, last_sound, steps_placed, steps_given, steps_numbered, steps_fit, step_next, last_position}
use Rattle.cell_steps.proofs.Filled.{filled_by}
use Rattle.cell_steps.specs.declared.round.Round.{Round}

all_taken : {X : Type 0} (P : X → Type 0) (n : ℕ) (xs : List X) → All P xs → All P (take n xs)
all_taken P zero xs all = λ k d inside. absurd (omega (arith, inside))
all_taken P (suc n) [] all = all
all_taken P (suc n) (x ∷ xs) all = All-cons P x (take n xs) (All-head P x xs all) (all_taken P n xs (All-tail P x xs all))

all_dropped : {X : Type 0} (P : X → Type 0) (n : ℕ) (xs : List X) → All P xs → All P (drop n xs)
all_dropped P zero xs all = all
all_dropped P (suc n) [] all = all
all_dropped P (suc n) (x ∷ xs) all = all_dropped P n xs (All-tail P x xs all)

take-drop : {X : Type 0} (n : ℕ) (xs : List X) → take n xs ++ drop n xs ≡ xs
take-drop zero xs = refl
take-drop (suc n) [] = refl
take-drop (suc n) (x ∷ xs) = ap (λ (l : List _). x ∷ l) (take-drop n xs)

-- a cell's view, by what it has
abbrev pub view : (number : ℕ) → Slot → Option Live → (now out owner : ℕ) (round : Round) → CellView
view number slot live now out owner round = record { number = number; slot = slot; going = is_some live; entries = entries_of_live live; incarnation = incarnation_of live; waits = waits_of_live live; given = given_of_live live; now = now; out = out; owner = owner; round = round }

last_by : (now : ℕ) (before : PartState) (steps : List Step) → (state_of before).stamp ≤ now → AreBy now steps → (state_of (last_of before steps)).stamp ≤ now
last_by now before [] low by = low
last_by now before (s ∷ steps) low by =
    last_by now s.after steps (All-head (λ (one : Step). (state_of one.after).stamp ≤ now) s steps by) (All-tail (λ (one : Step). (state_of one.after).stamp ≤ now) s steps by)

module _ (flows : Flows) (count : ℕ) (begin : Partition) (number : ℕ) (slot : Slot) (now out owner : ℕ) (round : Round) (live : Live) (stands : Stands flows count begin slot.mine now out live) where
  abbrev old : CellView
  old = view number slot (Some live) now out owner round

  pub ahead_is : IsAhead flows count begin old (state_of (ahead_of live))
  ahead_is =
      placed_both flows count begin slot.mine (entries_in live.steps.items) ∙ ap (λ (r : Result Partition ℕ). r >>= λ p. placed flows count p (entries_in live.steps.items)) stands.base
      ∙ steps_placed flows count live.base live.steps.items stands.partitions stands.steps

  pub many : count_of (ahead_of live) ≡ count
  many = last_many flows live.base live.steps.items stands.steps ∙ stands.partitions

  pub may_turn : MayTurn live
  may_turn = record {
    sound = last_sound flows live.base live.steps.items stands.sound stands.steps;
    younger = stands.younger;
    room = stands.room;
    indexed = stands.indexed;
    waits = stands.waits;
  }

  abbrev begun_is : IsBegun flows count begin old (begun_of live)
  begun_is = record { ahead = state_of (ahead_of live); is_ahead = ahead_is; entered = refl }

  -- other steps behind the same settled state
  pub stands_with : (new : Live) (steps : List Step) (less : ℕ) → new.base ≡ live.base → new.steps.items ≡ steps → AreSteps flows live.base steps → (state_of (last_of live.base steps)).incarnation ≤ new.incarnation → (state_of (last_of live.base steps)).position ≤ 2 ^ 62
      → new.incarnation ≤ 2 ^ 63 → AreBy (max begin.stamp now) steps → less ≤ length steps → IsIndexed new.waits → All MayWait (waits_of new.waits) → StandsAhead (state_of live.base) new.given → Stands flows count begin slot.mine now less new
  stands_with new steps less base steps_is are younger room low by within indexed waits given = record {
    low = low;
    base = stands.base ∙ ap (λ (s : PartState). Ok (state_of s)) (sym base);
    sound = subst IsSound (sym base) stands.sound;
    partitions = ap count_of base ∙ stands.partitions;
    steps = subst (λ (l : List Step). AreSteps flows new.base l) (sym steps_is) (subst (λ (s : PartState). AreSteps flows s steps) (sym base) are);
    younger = subst (λ (l : List Step). (state_of (last_of new.base l)).incarnation ≤ new.incarnation) (sym steps_is) (subst (λ (s : PartState). (state_of (last_of s steps)).incarnation ≤ new.incarnation) (sym base) younger);
    room = subst (λ (l : List Step). (state_of (last_of new.base l)).position ≤ 2 ^ 62) (sym steps_is) (subst (λ (s : PartState). (state_of (last_of s steps)).position ≤ 2 ^ 62) (sym base) room);
    base_by = subst (λ (s : PartState). (state_of s).stamp ≤ max begin.stamp now) (sym base) stands.base_by;
    by = subst (AreBy (max begin.stamp now)) (sym steps_is) by;
    within = subst (λ (l : List Step). less ≤ length l) (sym steps_is) within;
    indexed = indexed;
    waits = waits;
    given = subst (λ (s : PartState). StandsAhead (state_of s) new.given) (sym base) given;
  }

  -- what was given out is the same
  given_same : (new : Live) → new.given ≡ live.given → StandsAhead (state_of live.base) new.given
  given_same new same = subst (StandsAhead (state_of live.base)) (sym same) stands.given

  none_here : NonePossible flows (count_of (ahead_of live)) now (begun_of live) (waits_of live.waits) → NonePossible flows count now (begun_of live) (waits_of live.waits)
  none_here none = subst (λ (n : ℕ). NonePossible flows n now (begun_of live) (waits_of live.waits)) many none

  pub made_stands : (mode : Mode) (limit : ℕ) (new : Live) (packets : List Packet) → HasStep flows mode now limit round live new packets → Stands flows count begin slot.mine now out new
  made_stands mode limit new packets has =
      let next = step_next flows (ahead_of live) has.step may_turn.sound has.makes in
      let last_is : last_of live.base (live.steps.items ++ has.step ∷ []) ≡ has.step.after = last_both live.base live.steps.items (has.step ∷ []) in
      let position = ap (λ (s : PartState). (state_of s).position) last_is ∙ ap (λ (n : Next). n.position) next in
      let incarnation = ap (λ (s : PartState). (state_of s).incarnation) last_is ∙ ap (λ (n : Next). n.incarnation) next in
      let own = has.incarnation in
      let same = has.leaves.incarnation in
      let low = has.makes.low in
      let ahead_by = last_by (max begin.stamp now) live.base live.steps.items stands.base_by stands.by in
      let by = filled_by flows (count_of (ahead_of live)) now has.filled in
      let within = stands.within in
      let long = length-append live.steps.items (has.step ∷ []) in
      stands_with new (live.steps.items ++ has.step ∷ []) out has.leaves.base has.steps (steps_both flows live.base live.steps.items (has.step ∷ []) stands.steps (has.makes, tt))
      (omega (arith, incarnation, own, same)) (omega (arith, position, low)) (let before = stands.low in omega (arith, before, same))
      (All-append (λ (s : Step). (state_of s.after).stamp ≤ max begin.stamp now) live.steps.items (has.step ∷ []) stands.by
      (All-cons (λ (s : Step). (state_of s.after).stamp ≤ max begin.stamp now) has.step [] (omega (arith, ahead_by, by)) (λ k d inside. absurd (omega (arith, inside)))))
      (omega (arith, within, long)) has.leaves.indexed has.leaves.waits (given_same new has.leaves.given)

  pub made : (mode : Mode) (limit : ℕ) (new : Live) (packets : List Packet) (position : ℕ) → position ≡ (state_of (ahead_of live)).position → HasStep flows mode now limit round live new packets
      → MakesEntry flows count begin mode limit old (view number slot (Some new) now out owner (next_round round)) position packets
  made mode limit new packets position position_is has = record {
    begun = begun_of live;
    is_begun = begun_is;
    entry = entry_of has.step.entry;
    place = has.makes.position ∙ sym position_is;
    made_by = has.incarnation;
    some = let some = has.makes.some in let long = length-map has.step.entry.items item_of in omega (arith, some, long);
    few = let few = has.few in let long = length-map has.step.entry.items item_of in omega (arith, few, long);
    looked = has.looked;
    rest = waits_of new.waits;
    left = has.leaves.left;
    after = state_of has.step.after;
    filled = subst (λ (n : ℕ). Filled flows n now (begun_of live) has.looked (entry_of has.step.entry).items (state_of has.step.after)) many has.filled;
    full = λ less.
        let long = length-map has.step.entry.items item_of in
        let both = has.full (omega (arith, less, long)) in
        (both.0, subst (λ (n : ℕ). NoneEnabled flows n (state_of has.step.after) (stamp_at (state_of has.step.after) now)) many both.1);
    sends = subst (λ (n : ℕ). SendsAtOnce mode n (begun_of live) (state_of has.step.after) packets) many has.sends;
    first = has.first;
    own = subst (λ (n : ℕ). OwnFirst flows n now round (begun_of live) (entry_of has.step.entry).items) many has.own;
    becomes =
        let entries : entries_in new.steps.items ≡ entries_in live.steps.items ++ entry_of has.step.entry ∷ [] = ap entries_in has.steps ∙ map-append (λ (s : Step). entry_of s.entry) live.steps.items (has.step ∷ []) in
        λ i. record old { entries = entries i; incarnation = has.leaves.incarnation i; waits = waits_of new.waits; given = (ap Some has.leaves.given) i; round = next_round round };
  }

  still_stands : (new : Live) (looked : List Waiting) → new.steps ≡ live.steps → LeavesWaits live new looked → Stands flows count begin slot.mine now out new
  still_stands new looked steps leaves =
      let young = stands.younger in
      let same = leaves.incarnation in
      stands_with new live.steps.items out leaves.base (ap (λ v. v.items) steps) stands.steps (omega (arith, young, same)) stands.room (let before = stands.low in omega (arith, before, same)) stands.by stands.within leaves.indexed leaves.waits (given_same new leaves.given)

  pub idle_stands : (new : Live) → Rests flows now live new → Stands flows count begin slot.mine now out new
  idle_stands new rests = still_stands new rests.looked rests.steps rests.leaves

  pub idle : (new : Live) → Rests flows now live new → IsIdle flows count begin old (view number slot (Some new) now out owner (next_round round))
  idle new rests = record {
    begun = begun_of live;
    is_begun = begun_is;
    none = none_here rests.none;
    becomes = λ i. record old { entries = (ap (λ v. entries_in v.items) rests.steps) i; incarnation = rests.leaves.incarnation i; waits = rests.gone i; given = (ap Some rests.leaves.given) i; round = next_round round };
  }

  pub spent_stands : (new : Live) (n : ℕ) → Ends flows now live new n → Stands flows count begin slot.mine now out new
  spent_stands new n ends = still_stands new ends.looked ends.steps ends.leaves

  pub spent : (new : Live) (n : ℕ) → Ends flows now live new n → IsSpent flows count begin old (view number slot (Some new) now out owner (next_round round)) n
  spent new n ends = record {
    begun = begun_of live;
    is_begun = begun_is;
    some = λ none. ends.some (subst (λ (n : ℕ). NonePossible flows n now (begun_of live) (waits_of live.waits)) (sym many) none);
    number_is = ends.number_is;
    past = ends.past;
    looked = ends.looked;
    rest = waits_of new.waits;
    left = ends.leaves.left;
    becomes = λ i. record old { entries = (ap (λ v. entries_in v.items) ends.steps) i; incarnation = ends.leaves.incarnation i; waits = waits_of new.waits; given = (ap Some ends.leaves.given) i; round = next_round round };
  }

-- what a turn made, where the cell is kept so
pub as_turn : (flows : Flows) (count : ℕ) (begin : ℕ → Partition) (mode : Mode) (limit number : ℕ) (slot : Slot) (now out owner : ℕ) (round behind : Round) (live new : Live) (place : Option Live) (self : CellView) (turned : CellTurn)
    → view number slot (Some live) now out owner round ≡ self → place ≡ Some new → behind ≡ next_round round
    → CellTurns flows count (begin number) mode limit (view number slot (Some live) now out owner round) turned (view number slot (Some new) now out owner (next_round round))
    → CellTurns flows count (begin self.number) mode limit self turned (view number slot place now out owner behind)
as_turn flows count begin mode limit number slot now out owner round behind live new place self turned view_is place_is round_is fact =
    subst (λ (v : CellView). CellTurns flows count (begin v.number) mode limit v turned (view number slot place now out owner behind)) view_is
    (subst (λ (o : Option Live). CellTurns flows count (begin number) mode limit (view number slot (Some live) now out owner round) turned (view number slot o now out owner behind)) (sym place_is)
    (subst (λ (n : Round). CellTurns flows count (begin number) mode limit (view number slot (Some live) now out owner round) turned (view number slot (Some new) now out owner n)) (sym round_is) fact))

-- a state that has no steps begins
pub begins : (flows : Flows) (count : ℕ) (begin : Partition) (mine : List Entry) (live : Live) → live.steps.items ≡ [] → IsSound live.base → count_of live.base ≡ count → placed flows count begin mine ≡ Ok (state_of live.base) → (state_of live.base).stamp ≤ begin.stamp
    → (state_of live.base).incarnation ≤ live.incarnation → (state_of live.base).position ≤ 2 ^ 62 → live.incarnation ≤ 2 ^ 63 → IsIndexed live.waits → waits_of live.waits ≡ [] → StandsAhead (state_of live.base) live.given → Stands flows count begin mine 0 0 live
begins flows count begin mine live none sound partitions made stamp younger room low indexed empty given = record {
  base = made;
  sound = sound;
  partitions = partitions;
  steps = subst (AreSteps flows live.base) (sym none) tt;
  younger = subst (λ (l : List Step). (state_of (last_of live.base l)).incarnation ≤ live.incarnation) (sym none) younger;
  room = subst (λ (l : List Step). (state_of (last_of live.base l)).position ≤ 2 ^ 62) (sym none) room;
  low = low;
  base_by = omega (arith, stamp);
  by = subst (AreBy (max begin.stamp 0)) (sym none) (λ k d inside. absurd (omega (arith, inside)));
  within = omega arith;
  indexed = indexed;
  waits = subst (All MayWait) (sym empty) (λ k d inside. absurd (omega (arith, inside)));
  given = given;
}

-- what its type knows of a cell
pub facts_in : (flows : Flows) (count : ℕ) (begin : Partition) (number : ℕ) (slot : Slot) (now out owner : ℕ) (round : Round) (place : Option Live) → StandsIn flows count begin slot.mine now out place → is_some place ≡ true → HasFacts flows count begin (view number slot place now out owner round)
facts_in flows count begin number slot now out owner round None stands there = absurd (cc there)
facts_in flows count begin number slot now out owner round (Some live) stands there = record {
  base = state_of live.base;
  ahead = state_of (ahead_of live);
  settled = stands.base;
  made = steps_placed flows count live.base live.steps.items stands.partitions stands.steps;
  given = steps_given flows count live.base live.steps.items stands.partitions stands.steps;
  numbered = steps_numbered flows live.base live.steps.items stands.sound stands.steps;
  younger = stands.younger;
  fit = steps_fit flows live.base live.steps.items stands.steps;
  room = stands.room;
  by = last_by (max begin.stamp now) live.base live.steps.items stands.base_by stands.by;
  within = let within = stands.within in let long = length-map live.steps.items (λ (s : Step). entry_of s.entry) in omega (arith, within, long);
  waits = stands.waits;
}

-- the settled state moves on by what the seat has settled
pub settles : (flows : Flows) (count : ℕ) (begin : Partition) (mine : List Entry) (now out n : ℕ) (live new : Live) → Stands flows count begin mine now out live → n ≤ length live.steps.items → new.base ≡ last_of live.base (take n live.steps.items) → new.steps.items ≡ drop n live.steps.items
    → new.incarnation ≡ live.incarnation → new.waits ≡ live.waits → ((there : Id → ℕ → Bool) → LooksFrom new.given there) → Stands flows count begin (mine ++ take n (entries_in live.steps.items)) now 0 new
settles flows count begin mine now out n live new stands few base steps incarnation waits anew =
    let front = take n live.steps.items in
    let back = drop n live.steps.items in
    let front_are = steps_front flows n live.base live.steps.items stands.steps in
    let back_are = steps_back flows n live.base live.steps.items stands.steps in
    let last_is : last_of (last_of live.base front) back ≡ last_of live.base live.steps.items = sym (last_both live.base front back) ∙ ap (last_of live.base) (take-drop n live.steps.items) in
    let entries_are : take n (entries_in live.steps.items) ≡ entries_in front = take-map (λ (s : Step). entry_of s.entry) n live.steps.items in
    record {
      base =
          placed_both flows count begin mine (take n (entries_in live.steps.items)) ∙ ap (λ (r : Result Partition ℕ). r >>= λ p. placed flows count p (take n (entries_in live.steps.items))) stands.base
          ∙ ap (placed flows count (state_of live.base)) entries_are ∙ steps_placed flows count live.base front stands.partitions front_are ∙ ap (λ (s : PartState). Ok (state_of s)) (sym base);
      sound = subst IsSound (sym base) (last_sound flows live.base front stands.sound front_are);
      partitions = ap count_of base ∙ last_many flows live.base front front_are ∙ stands.partitions;
      steps = subst (λ (l : List Step). AreSteps flows new.base l) (sym steps) (subst (λ (s : PartState). AreSteps flows s back) (sym base) back_are);
      younger = subst (λ (l : List Step). (state_of (last_of new.base l)).incarnation ≤ new.incarnation) (sym steps) (subst (λ (s : PartState). (state_of (last_of s back)).incarnation ≤ new.incarnation) (sym base)
          (subst (λ (s : PartState). (state_of s).incarnation ≤ new.incarnation) (sym last_is) (let young = stands.younger in omega (arith, young, incarnation))));
      room = subst (λ (l : List Step). (state_of (last_of new.base l)).position ≤ 2 ^ 62) (sym steps) (subst (λ (s : PartState). (state_of (last_of s back)).position ≤ 2 ^ 62) (sym base)
          (subst (λ (s : PartState). (state_of s).position ≤ 2 ^ 62) (sym last_is) stands.room));
      low = let before = stands.low in omega (arith, before, incarnation);
      base_by = subst (λ (s : PartState). (state_of s).stamp ≤ max begin.stamp now) (sym base) (last_by (max begin.stamp now) live.base front stands.base_by (all_taken (λ (s : Step). (state_of s.after).stamp ≤ max begin.stamp now) n live.steps.items stands.by));
      by = subst (AreBy (max begin.stamp now)) (sym steps) (all_dropped (λ (s : Step). (state_of s.after).stamp ≤ max begin.stamp now) n live.steps.items stands.by);
      within = omega arith;
      indexed = subst IsIndexed (sym waits) stands.indexed;
      waits = subst (λ w. All MayWait (waits_of w)) (sym waits) stands.waits;
      given = anew (pending_in (state_of new.base));
    }

-- a state where its cell's seat is another
pub move_seat : (flows : Flows) (count : ℕ) (begin : ℕ → Partition) (number other : ℕ) (mine more : List Entry) (now out : ℕ) (place : Option Live) (live : Live) → other ≡ number → more ≡ mine → place ≡ Some live
    → Stands flows count (begin number) mine now out live → StandsIn flows count (begin other) more now out place
move_seat flows count begin number other mine more now out place live number_is mine_is place_is stands =
    subst (λ (n : ℕ). StandsIn flows count (begin n) more now out place) (sym number_is)
    (subst (λ (l : List Entry). StandsIn flows count (begin number) l now out place) (sym mine_is)
    (subst (λ (o : Option Live). StandsIn flows count (begin number) mine now out o) (sym place_is) stands))

pub settled_view : (number other : ℕ) (slot its : Slot) (now out owner : ℕ) (round : Round) (n : ℕ) (live new : Live) (place : Option Live) (self : CellView) → view number slot (Some live) now out owner round ≡ self → other ≡ number → place ≡ Some new
    → new.steps.items ≡ drop n live.steps.items → new.incarnation ≡ live.incarnation → new.waits ≡ live.waits → is_out new.given ≡ without_settled (is_out live.given) (take n (entries_in live.steps.items)) → HasSettled n its self (view other its place now 0 owner round)
settled_view number other slot its now out owner round n live new place self view_is number_is place_is steps incarnation waits given =
    subst (λ (v : CellView). HasSettled n its v (view other its place now 0 owner round)) view_is (
      λ i. record {
        number = number_is i;
        slot = its;
        going = (ap is_some place_is) i;
        entries = (ap entries_of_live place_is ∙ ap entries_in steps ∙ sym (drop-map (λ (s : Step). entry_of s.entry) n live.steps.items)) i;
        incarnation = (ap incarnation_of place_is ∙ incarnation) i;
        waits = (ap waits_of_live place_is ∙ ap waits_of waits) i;
        given = given_of_live place;
        now = now;
        out = 0;
        owner = owner;
        round = round;
      },
      ap (λ (o : Option Live). given_by (given_of_live o)) place_is ∙ given,
    )

module _ (flows : Flows) (count : ℕ) (begin : ℕ → Partition) (number : ℕ) (slot : Slot) (now out owner : ℕ) (round : Round) (live : Live) (stands : Stands flows count (begin number) slot.mine now out live)
    (self : CellView) (view_is : view number slot (Some live) now out owner round ≡ self) where
  pub ahead_of_self : IsAhead flows count (begin self.number) self (state_of (ahead_of live))
  ahead_of_self = subst (λ (v : CellView). IsAhead flows count (begin v.number) v (state_of (ahead_of live))) view_is (ahead_is flows count (begin number) number slot now out owner round live stands)

  pub base_of_self : IsBase flows count (begin self.number) self (state_of live.base)
  base_of_self = subst (λ (v : CellView). IsBase flows count (begin v.number) v (state_of live.base)) view_is stands.base

  pub same_view : (place : Option Live) → place ≡ Some live → view number slot place now out owner round ≡ self
  same_view place place_is = ap (λ (o : Option Live). view number slot o now out owner round) place_is ∙ view_is

  -- what the state holds of what waits is what the view does
  pub waits_are : waits_of live.waits ≡ self.waits
  waits_are = ap (λ (v : CellView). v.waits) view_is

  -- other things wait
  pub waits_view : (new : Live) (place : Option Live) (waits : List Waiting) → place ≡ Some new → new.steps ≡ live.steps → new.incarnation ≡ live.incarnation → new.given ≡ live.given → waits_of new.waits ≡ waits → view number slot place now out owner round ≡ record self { waits = waits }
  waits_view new place waits place_is steps incarnation given waits_is =
      subst (λ (v : CellView). view number slot place now out owner round ≡ record v { waits = waits }) view_is
      (λ i. record {
        number = number;
        slot = slot;
        going = (ap is_some place_is) i;
        entries = (ap entries_of_live place_is ∙ ap (λ v. entries_in v.items) steps) i;
        incarnation = (ap incarnation_of place_is ∙ incarnation) i;
        waits = (ap waits_of_live place_is ∙ waits_is) i;
        given = (ap given_of_live place_is ∙ ap Some given) i;
        now = now;
        out = out;
        owner = owner;
        round = round;
      })

  pub waits_stand : (new : Live) (place : Option Live) → place ≡ Some new → new.base ≡ live.base → new.steps ≡ live.steps → new.incarnation ≡ live.incarnation → new.given ≡ live.given → IsIndexed new.waits → All MayWait (waits_of new.waits) → StandsIn flows count (begin number) slot.mine now out place
  waits_stand new place place_is base steps incarnation given indexed may =
      let young = stands.younger in
      let before = stands.low in
      subst (λ (o : Option Live). StandsIn flows count (begin number) slot.mine now out o) (sym place_is)
      (stands_with flows count (begin number) number slot now out owner round live stands new live.steps.items out base (ap (λ v. v.items) steps) stands.steps (omega (arith, young, incarnation)) stands.room (omega (arith, before, incarnation)) stands.by stands.within indexed may (subst (StandsAhead (state_of live.base)) (sym given) stands.given))

  -- one more waits
  pub queued_view : (new : Live) (place : Option Live) (w : Waiting) → place ≡ Some new → new.steps ≡ live.steps → new.incarnation ≡ live.incarnation → new.given ≡ live.given → waits_of new.waits ≡ waits_of live.waits ++ w ∷ [] → view number slot place now out owner round ≡ with_wait w self
  queued_view new place w place_is steps incarnation given waits =
      waits_view new place (self.waits ++ w ∷ []) place_is steps incarnation given (waits ∙ ap (λ (l : List Waiting). l ++ w ∷ []) waits_are)

  pub queued_stands : (new : Live) (place : Option Live) (w : Waiting) → place ≡ Some new → new.base ≡ live.base → new.steps ≡ live.steps → new.incarnation ≡ live.incarnation → new.given ≡ live.given → waits_of new.waits ≡ waits_of live.waits ++ w ∷ [] → IsIndexed new.waits → MayWait w
      → StandsIn flows count (begin number) slot.mine now out place
  queued_stands new place w place_is base steps incarnation given waits indexed may =
      waits_stand new place place_is base steps incarnation given indexed (subst (All MayWait) (sym waits) (All-append MayWait (waits_of live.waits) (w ∷ []) stands.waits (All-cons MayWait w [] may (λ k d inside. absurd (omega (arith, inside))))))

-- ---- entries are given up

rises : (flows : Flows) (before : PartState) (steps : List Step) → IsSound before → AreSteps flows before steps → (state_of before).incarnation ≤ (state_of (last_of before steps)).incarnation
rises flows before [] sound are = omega arith
rises flows before (s ∷ steps) sound are =
    let rest = rises flows s.after steps are.0.sound are.1 in
    let next = ap (λ (n : Next). n.incarnation) (step_next flows before s sound are.0) in
    let young = are.0.younger in
    omega (arith, rest, next, young)

module _ (flows : Flows) (count : ℕ) (begin : ℕ → Partition) (number : ℕ) (slot : Slot) (now out owner : ℕ) (round : Round) (live : Live) (stands : Stands flows count (begin number) slot.mine now out live)
    (self : CellView) (view_is : view number slot (Some live) now out owner round ≡ self) where
  pub given_up_stands : (new : Live) (place : Option Live) (kept less : ℕ) → place ≡ Some new → kept ≤ length live.steps.items → less ≤ kept → new.base ≡ live.base → new.steps.items ≡ take kept live.steps.items → new.incarnation ≡ live.incarnation + 1 → new.incarnation ≤ 2 ^ 63
      → IsIndexed new.waits → All MayWait (waits_of new.waits) → ((there : Id → ℕ → Bool) → LooksFrom new.given there) → StandsIn flows count (begin number) slot.mine now less place
  given_up_stands new place kept less place_is few behind base steps incarnation low indexed may anew =
      let front = take kept live.steps.items in
      let back = drop kept live.steps.items in
      let front_are = steps_front flows kept live.base live.steps.items stands.steps in
      let back_are = steps_back flows kept live.base live.steps.items stands.steps in
      let last_is : last_of (last_of live.base front) back ≡ last_of live.base live.steps.items = sym (last_both live.base front back) ∙ ap (last_of live.base) (take-drop kept live.steps.items) in
      let sound = last_sound flows live.base front stands.sound front_are in
      let rise = rises flows (last_of live.base front) back sound back_are in
      let position = last_position flows (last_of live.base front) back sound back_are in
      let incarnation_is = ap (λ (s : PartState). (state_of s).incarnation) last_is in
      let position_is = ap (λ (s : PartState). (state_of s).position) last_is in
      let young = stands.younger in
      let room = stands.room in
      let long = length-take-le kept live.steps.items few in
      subst (λ (o : Option Live). StandsIn flows count (begin number) slot.mine now less o) (sym place_is)
      (stands_with flows count (begin number) number slot now out owner round live stands new front less base steps front_are (omega (arith, rise, incarnation_is, young, incarnation)) (omega (arith, position, position_is, room)) low
      (all_taken (λ (s : Step). (state_of s.after).stamp ≤ max (begin number).stamp now) kept live.steps.items stands.by) (omega (arith, long, behind)) indexed may (anew (pending_in (state_of live.base))))

  pub given_up_view : (new : Live) (place : Option Live) (kept less : ℕ) → place ≡ Some new → new.steps.items ≡ take kept live.steps.items → new.incarnation ≡ live.incarnation + 1 → waits_of new.waits ≡ filter lasting (waits_of live.waits) → view number slot place now less owner round ≡ given_up kept less (given_of_live place) self
  given_up_view new place kept less place_is steps incarnation waits =
      subst (λ (v : CellView). view number slot place now less owner round ≡ given_up kept less (given_of_live place) v) view_is
      (λ i. record {
        number = number;
        slot = slot;
        going = (ap is_some place_is) i;
        entries = (ap entries_of_live place_is ∙ ap entries_in steps ∙ sym (take-map (λ (s : Step). entry_of s.entry) kept live.steps.items)) i;
        incarnation = (ap incarnation_of place_is ∙ incarnation) i;
        waits = (ap waits_of_live place_is ∙ waits) i;
        given = given_of_live place;
        now = now;
        out = less;
        owner = owner;
        round = round;
      })

  -- and no task is out
  pub none_given : (new : Live) (place : Option Live) → place ≡ Some new → is_out new.given ≡ none_out → given_by (given_of_live place) ≡ none_out
  none_given new place place_is none = ap (λ (o : Option Live). given_by (given_of_live o)) place_is ∙ none

  pub entries_are : entries_in live.steps.items ≡ self.entries
  entries_are = ap (λ (v : CellView). v.entries) view_is

  pub out_is : out ≡ self.out
  out_is = ap (λ (v : CellView). v.out) view_is

  pub incarnation_is : live.incarnation ≡ self.incarnation
  incarnation_is = ap (λ (v : CellView). v.incarnation) view_is

-- the entries before a position are the first so many
pub before_floor : (flows : Flows) (before : PartState) (steps : List Step) (floor kept : ℕ) → IsSound before → AreSteps flows before steps → kept + (state_of before).position ≤ floor → All (λ (e : Entry). e.position < floor) (take kept (entries_in steps))
before_floor flows before steps floor zero sound are low = λ k d inside. absurd (omega (arith, inside))
before_floor flows before [] floor (suc kept) sound are low = λ k d inside. absurd (omega (arith, inside))
before_floor flows before (s ∷ steps) floor (suc kept) sound are low =
    let at = are.0.position in
    let next = ap (λ (n : Next). n.position) (step_next flows before s sound are.0) in
    All-cons (λ (e : Entry). e.position < floor) (entry_of s.entry) (take kept (entries_in steps)) (omega (arith, at, low)) (before_floor flows s.after steps floor kept are.0.sound are.1 (omega (arith, low, next, at)))

pub behind_floor : (flows : Flows) (before : PartState) (steps : List Step) (floor kept : ℕ) → IsSound before → AreSteps flows before steps → floor ≤ kept + (state_of before).position → All (λ (e : Entry). floor ≤ e.position) (drop kept (entries_in steps))
behind_floor flows before [] floor zero sound are low = λ k d inside. absurd (omega (arith, inside))
behind_floor flows before [] floor (suc kept) sound are low = λ k d inside. absurd (omega (arith, inside))
behind_floor flows before (s ∷ steps) floor zero sound are low =
    let at = are.0.position in
    let next = ap (λ (n : Next). n.position) (step_next flows before s sound are.0) in
    All-cons (λ (e : Entry). floor ≤ e.position) (entry_of s.entry) (entries_in steps) (omega (arith, at, low)) (behind_floor flows s.after steps floor zero are.0.sound are.1 (omega (arith, low, next, at)))
behind_floor flows before (s ∷ steps) floor (suc kept) sound are low =
    let at = are.0.position in
    let next = ap (λ (n : Next). n.position) (step_next flows before s sound are.0) in
    behind_floor flows s.after steps floor kept are.0.sound are.1 (omega (arith, low, next, at))

-- so many of the entries stand before a position as it is behind the settled state's, or all of them
pub by_before : (flows : Flows) (before : PartState) (steps : List Step) (floor kept : ℕ) → IsSound before → AreSteps flows before steps → kept ≡ min (floor - (state_of before).position) (length steps) → All (λ (e : Entry). e.position < floor) (take kept (entries_in steps))
by_before flows before steps floor zero sound are is = λ k d inside. absurd (omega (arith, inside))
by_before flows before steps floor (suc kept) sound are is = before_floor flows before steps floor (suc kept) sound are (omega (arith, is))

none_dropped : (P : Entry → Type 0) (n : ℕ) (entries : List Entry) → length entries ≤ n → All P (drop n entries)
none_dropped P zero [] low = λ k d inside. absurd (omega (arith, inside))
none_dropped P zero (e ∷ entries) low = absurd (omega (arith, low))
none_dropped P (suc n) [] low = λ k d inside. absurd (omega (arith, inside))
none_dropped P (suc n) (e ∷ entries) low = none_dropped P n entries (omega (arith, low))

pub by_behind : (flows : Flows) (before : PartState) (steps : List Step) (floor kept : ℕ) → IsSound before → AreSteps flows before steps → kept ≡ min (floor - (state_of before).position) (length steps) → All (λ (e : Entry). floor ≤ e.position) (drop kept (entries_in steps))
by_behind flows before steps floor kept sound are is = elim (cases_lt kept (length steps)) [
  | inl fewer ↦ behind_floor flows before steps floor kept sound are (omega (arith, fewer, is))
  | inr all ↦ let long = length-map steps (λ (s : Step). entry_of s.entry) in none_dropped (λ (e : Entry). floor ≤ e.position) kept (entries_in steps) (omega (arith, all, long))
]

-- a state, if there is one, where its cell's seat is another of the same place
pub exchanged : (flows : Flows) (count : ℕ) (begin : ℕ → Partition) (number other : ℕ) (mine more : List Entry) (now out : ℕ) (place : Option Live) → other ≡ number → more ≡ mine
    → StandsIn flows count (begin number) mine now out place → StandsIn flows count (begin other) more now out place
exchanged flows count begin number other mine more now out place number_is mine_is stands =
    subst (λ (n : ℕ). StandsIn flows count (begin n) more now out place) (sym number_is) (subst (λ (l : List Entry). StandsIn flows count (begin number) l now out place) (sym mine_is) stands)

pub exchanged_view : (number other : ℕ) (slot its : Slot) (now out owner : ℕ) (round : Round) (place : Option Live) (self : CellView) → view number slot place now out owner round ≡ self → other ≡ number
    → view other its place now out owner round ≡ record self { slot = its }
exchanged_view number other slot its now out owner round place self view_is number_is =
    subst (λ (v : CellView). view other its place now out owner round ≡ record v { slot = its }) view_is (ap (λ (n : ℕ). view n its place now out owner round) number_is)

-- the state ahead is sound, if there is one
pub sound_ahead : (flows : Flows) (count : ℕ) (begin : Partition) (mine : List Entry) (now out : ℕ) (place : Option Live) → StandsIn flows count begin mine now out place → IfSome place (λ l. IsSound (ahead_of l))
sound_ahead flows count begin mine now out None stands = tt
sound_ahead flows count begin mine now out (Some live) stands = last_sound flows live.base live.steps.items stands.sound stands.steps

-- what is counted of the state ahead is counted of its cell
pub counts_due : (flows : Flows) (count : ℕ) (begin : ℕ → Partition) (number : ℕ) (slot : Slot) (now out owner : ℕ) (round : Round) (place : Option Live) (self : CellView) (later found : ℕ)
    → StandsIn flows count (begin number) slot.mine now out place → view number slot place now out owner round ≡ self
    → IfSome place (λ l. (due : List (Id × ℕ)) × AreDue (state_of (ahead_of l)).timers later due × (found ≡ min (length due) (2 ^ 64 - 1))) → self.going ≡ true → CountsDue flows count (begin self.number) self later found
counts_due flows count begin number slot now out owner round None self later found stands view_is counted going = absurd (let same = ap (λ (v : CellView). v.going) view_is in cc (same, going))
counts_due flows count begin number slot now out owner round (Some live) self later found stands view_is counted going = record {
  ahead = state_of (ahead_of live);
  is_ahead = ahead_of_self flows count begin number slot now out owner round live stands self view_is;
  due = counted.0;
  are_due = counted.1;
  many = counted.2;
}

-- a cell without a state counts none
pub counts_none : (number : ℕ) (slot : Slot) (now out owner : ℕ) (round : Round) (place : Option Live) (self : CellView) (found : ℕ) → view number slot place now out owner round ≡ self → IfNone place (found ≡ 0) → self.going ≡ false → found ≡ 0
counts_none number slot now out owner round None self found view_is none gone = none
counts_none number slot now out owner round (Some live) self found view_is none gone = absurd (let same = ap (λ (v : CellView). v.going) view_is in cc (same, gone))
