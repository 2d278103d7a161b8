-- What joins a cell to the store, once the cell changed.
use Rattle.std.proofs.Common.{◌≡◌, ◌<◌, ◌≤◌, ℕ, zero, suc, ◌+◌, List, [], ◌∷◌, ◌++◌, length, take, drop, Some, None, Ok, refl, sym, ap, subst, ◌∙◌, arith, length-append}
use Rattle.std.specs.List.{All}
use Rattle.std.proofs.lemmas.List.{length-map, length-take}
use Rattle.std.proofs.lemmas.List.Elements.{All-tail}
use Rattle.cell_frames.proofs.Fresh.{fresh_back, fresh_front, fresh_same}
use Rattle.cell_frames.specs.Fresh.{IsFresh}
use Rattle.cell_frames.specs.Joined.{StoreView, GoesOnFrom, Joined, read_by}
use Rattle.cell_frames.proofs.Stays.{StaysFor, goes_still, goes_out, own_then, longer, more_read, same_reads}
use Rattle.cell_frames.specs.Ours.{AreOurs, WaitOurs}
use Rattle.cell_frames.specs.Unlost.{HoldsUnlost, floor_of}
use Rattle.cell_frames.proofs.Frames.{stands_behind}
use Rattle.cell_frames.proofs.GivenUp.{rewound_ours, reset_ours, kept_ours}
use Rattle.cell_frames.proofs.Unlost.{numbered_index, rewound_unlost, reset_unlost, settled_unlost}
use Rattle.cell_waits.specs.Waits.{Waiting}
use Rattle.commit_gate.specs.Ledgers.{log_length}
use Rattle.commit_gate.specs.declared.ledger.Sending.{Sending}
use Rattle.dura_model.proofs.Appending.{placed_both}
use Rattle.dura_model.specs.Entries.{placed}
use Rattle.dura_model.specs.Partition.{Partition, fresh}
use Rattle.dura_value.proofs.Basics.{both_ok}
use Rattle.dura_value.specs.Items.{Identity, Entry, Floor}
use Rattle.flow_syntax.specs.Syntax.{Flows}
use Rattle.hub_store.specs.Trail.{Settled, Said, of_part, settling}
use Rattle.hub_store.specs.declared.way.Stage.TheVariants as stages
use Rattle.many_logs.proofs.Own.{own_chain}
use Rattle.many_logs.specs.Placing.{of_partition, states_after}
use Rattle.many_rules.specs.Ledgers.{ledgers}
use Rattle.many_rules.specs.Local.{ledger_is}
use Rattle.many_rules.specs.Makes.{Makes}
use Rattle.many_rules.specs.Rules.{Rules, IsOurs, rules_at, pairs_of}
use Rattle.run_rules.specs.Rules.{IsAsked}
use Rattle.spec_cell.specs.Moves.{IsRewound, IsReset, IsKept}
use Rattle.spec_cell.specs.Picks.{HasPicked}
use Rattle.spec_cell.specs.Seats.{Slot}
use Rattle.spec_cell.specs.Views.{CellView, HasFacts, HasSettled, next_at}
use Rattle.spec_tracker.specs.declared.marks.Marks.{Marks}
use Rattle.cell_frames.specs.TrimsRead.{TrimsRead}
use Rattle.task_laws.proofs.Behind.{was_asked_still}
use Rattle.task_laws.specs.Asked.{WasAsked}
use Rattle.cell_frames.proofs.Reading.{settled_read, rewound_read, reset_read, kept_read, further_read}

all_dropped : {X : Type 0} (P : X → Type 0) (n : ℕ) (xs : List X) → All P xs → All P (drop n xs)
all_dropped P zero xs all = all
all_dropped P (suc n) [] all = all
all_dropped P (suc n) (x ∷ xs) all = all_dropped P n xs (All-tail P x xs all)

-- the front of a front
take_front : (few many : ℕ) (xs : List Entry) → few ≤ many → take few (take many xs) ≡ take few xs
take_front zero many xs low = refl
take_front (suc few) zero xs low = absurd (omega (arith, low))
take_front (suc few) (suc many) [] low = refl
take_front (suc few) (suc many) (x ∷ xs) low = ap (λ (l : List Entry). x ∷ l) (take_front few many xs (omega (arith, low)))

-- the store has the frame that the cell picked
pub picked_joined : (rules : Rules) (p : ℕ) (old new : StoreView) (c after : CellView) (marks : Marks) (frame : List Entry) (sending : List Sending) → StaysFor rules p old new → HasPicked rules.flows rules.count (rules.begin p) marks c frame sending after → new.going p ≡ Some frame → Joined rules old p c → Joined rules new p after
picked_joined rules p old new c after marks frame sending stays picked going joined =
    subst (Joined rules new p) (sym picked.becomes) (record {
      goes = goes_out rules new p c (length frame) (goes_still rules p old new stays c joined.goes);
      out = record {
        rests = λ none. let some = picked.some in absurd (omega (arith, none, some));
        goes = λ some. going ∙ ap (λ (l : List Entry). Some l) picked.first;
      };
    })

-- where a partition's state is what it has settled, its log has as many entries as its position says
pub base_long : (rules : Rules) (p : ℕ) (mine : List Entry) (base : Partition) → p < rules.count → states_after rules.flows rules.count fresh rules.recovered ≡ Some rules.begin → placed rules.flows rules.count (rules.begin p) mine ≡ Ok base → base.position ≡ log_length (ledgers rules p mine)
base_long rules p mine base below made settled =
    let old = of_partition p rules.recovered in
    let begun = stands_behind rules.flows rules.count old (fresh p) (rules.begin p) (own_chain rules.flows rules.count rules.recovered fresh rules.begin p made) in
    let then = stands_behind rules.flows rules.count mine (rules.begin p) base settled in
    let first = begun.position in
    let second = then.position in
    let ledger = ap log_length (ledger_is rules p mine base below settled) in
    let counted = length-map (old ++ mine) (λ (e : Entry). e.incarnation) in
    let both = length-append old mine in
    omega (arith, first, second, ledger, counted, both)

-- ---- a frame is settled

module _ (rules : Rules) (p at : ℕ) (going : List Entry) (old new : StoreView) (trail : new.trail ≡ old.trail ++ settling p at going) (makes : Makes rules old.latest (of_part p old.trail) old.told p going)
    (latest : new.latest ≡ old.latest) (told : new.told ≡ old.told) (floors : new.floors p ≡ old.floors p) (c after : CellView) (slot : Slot) (within : c.out ≤ length c.entries) (going_is : going ≡ take c.out c.entries)
    (settled : HasSettled c.out slot c after) (mine : slot.mine ≡ of_part p new.trail) (goes : GoesOnFrom rules old p c) where
  abbrev moved : CellView
  moved = record c { slot = slot; entries = drop c.out c.entries; given = after.given; out = 0 }

  count_is : length going ≡ c.out
  count_is = ap length going_is ∙ length-take-le-is
    where
      length-take-le-is : length (take c.out c.entries) ≡ c.out
      length-take-le-is = let taken = length-take c.out c.entries in omega (arith, taken, within)

  -- the entries that were out made its settled state of the one before
  base_before : (base : Partition) → placed rules.flows rules.count (rules.begin c.number) slot.mine ≡ Ok base
      → (before : Partition) × (placed rules.flows rules.count (rules.begin c.number) c.slot.mine ≡ Ok before) × (placed rules.flows rules.count before going ≡ Ok base)
  base_before base is =
      let behind : slot.mine ≡ c.slot.mine ++ going = mine ∙ own_then rules p at going old new trail makes ∙ ap (λ (l : List Entry). l ++ going) (sym goes.mine) in
      both_ok (placed rules.flows rules.count (rules.begin c.number) c.slot.mine) (λ q. placed rules.flows rules.count q going) base
      (sym (placed_both rules.flows rules.count (rules.begin c.number) c.slot.mine going) ∙ ap (placed rules.flows rules.count (rules.begin c.number)) (sym behind) ∙ is)

  ours_then : AreOurs rules new.latest new.told moved
  ours_then = record {
    ours = subst (λ (n : ℕ). All (IsOurs rules n (pairs_of new.told) c.number) (drop c.out c.entries)) (sym latest)
        (subst (λ (t : List Said). All (IsOurs rules old.latest (pairs_of t) c.number) (drop c.out c.entries)) (sym told)
        (all_dropped (IsOurs rules old.latest (pairs_of old.told) c.number) c.out c.entries goes.ours.ours));
    run = λ base is serves.
        let first = base_before base is in
        all_dropped (λ (e : Entry). All (WasAsked rules.flows base) e.items) c.out c.entries
        (λ k d inside j x within_it. was_asked_still rules.flows rules.count first.0 base going _ first.2 (goes.ours.run first.0 first.1 serves k d inside j x within_it));
  }

  waits_then : WaitOurs rules new.told moved
  waits_then = record {
    asked = λ serves. subst (λ (t : List Said). All (λ (w : Waiting). IsAsked (rules_at rules c.number) (pairs_of t) w.item) c.waits) (sym told) (goes.waits.asked serves);
    run = λ base is serves. let first = base_before base is in λ k d inside. was_asked_still rules.flows rules.count first.0 base going _ first.2 (goes.waits.run first.0 first.1 serves k d inside);
  }

  unlost_then : HoldsUnlost (log_length (ledgers rules p (of_part p new.trail))) (new.floors p) moved
  unlost_then =
      let position = log_length (ledgers rules p (of_part p old.trail)) in
      let holds = settled_unlost position (old.floors p) c goes.unlost c.out slot after settled in
      let long : log_length (ledgers rules p (of_part p new.trail)) ≡ position + c.out = longer rules p at going old new trail makes ∙ ap (λ (n : ℕ). position + n) count_is in
      subst (λ (v : CellView). HoldsUnlost (log_length (ledgers rules p (of_part p new.trail))) (new.floors p) v) settled.0
      (subst (λ (n : ℕ). HoldsUnlost n (new.floors p) after) (sym long) (subst (λ (f : List Floor). HoldsUnlost (position + c.out) f after) (sym floors) holds))

  goes_then : GoesOnFrom rules new p moved
  goes_then = record {
    number = goes.number;
    mine = mine;
    ours = ours_then;
    waits = waits_then;
    of_call = goes.of_call;
    since = goes.since;
    timely = let timely = goes.timely in omega (arith, timely, latest);
    fresh = λ serves. subst (λ (n : ℕ). IsFresh n moved) (sym latest) (fresh_back old.latest c.out c moved refl refl (goes.fresh serves));
    unlost = unlost_then;
    read = subst (TrimsRead (read_by rules new p)) settled.0 (further_read (read_by rules old p) (read_by rules new p) after (more_read rules p at going old new trail makes p) (settled_read (read_by rules old p) c goes.read c.out slot after settled));
  }

  pub settled_joined : new.stage p ≡ stages.Resting → new.going p ≡ None → Joined rules new p after
  settled_joined stage none = subst (Joined rules new p) (sym settled.0) (record {
    goes = goes_then;
    out = record { rests = λ is. (stage, none); goes = λ some. absurd (omega (arith, some)) };
  })

-- ---- entries are given up

-- from no position that is settled or under way
pub rewound_above : (flows : Flows) (count : ℕ) (begin : Partition) (c after : CellView) (facts : HasFacts flows count begin c) (marks : Marks) (from : ℕ) (lost : Identity) → IsRewound flows count begin marks c after from lost → facts.base.position + c.out ≤ from
rewound_above flows count begin c after facts marks from lost rewound =
    let d : Entry = record { position = 0; incarnation = 0; items = [] } in
    let first = numbered_index (next_at facts.base) c.entries rewound.kept d facts.numbered rewound.inside in
    let floor = rewound.floor_is d in
    let behind = rewound.first.behind in
    omega (arith, first, floor, behind)

module _ (rules : Rules) (p : ℕ) (old new : StoreView) (latest : new.latest ≡ old.latest) (told : new.told ≡ old.told) (trail : new.trail ≡ old.trail) (c after : CellView) (from : ℕ) (floors : new.floors p ≡ old.floors p ++ floor_of after from ∷ []) where
  -- what the store has of all else
  given_up_goes : (kept : ℕ) → after.number ≡ c.number → after.slot ≡ c.slot → after.incarnation ≡ c.incarnation + 1 → after.now ≡ c.now → after.entries ≡ take kept c.entries → AreOurs rules old.latest old.told after → WaitOurs rules old.told after
      → HoldsUnlost (log_length (ledgers rules p (of_part p old.trail))) (old.floors p ++ floor_of after from ∷ []) after → TrimsRead (read_by rules old p) after → GoesOnFrom rules old p c → GoesOnFrom rules new p after
  given_up_goes kept number slot incarnation now entries ours waits unlost read goes = record {
    number = number ∙ goes.number;
    mine = ap (λ (s : Slot). s.mine) slot ∙ goes.mine ∙ ap (of_part p) (sym trail);
    ours = subst (λ (n : ℕ). AreOurs rules n new.told after) (sym latest) (subst (λ (t : List Said). AreOurs rules old.latest t after) (sym told) ours);
    waits = subst (λ (t : List Said). WaitOurs rules t after) (sym told) waits;
    of_call = let low = goes.of_call in omega (arith, low, incarnation);
    since = let since = goes.since in omega (arith, since, now);
    timely = let timely = goes.timely in omega (arith, timely, latest, now);
    fresh = λ serves. subst (λ (n : ℕ). IsFresh n after) (sym latest) (fresh_front old.latest kept c after now entries (goes.fresh serves));
    unlost = subst (λ (l : List Settled). HoldsUnlost (log_length (ledgers rules p (of_part p l))) (new.floors p) after) (sym trail) (subst (λ (f : List Floor). HoldsUnlost (log_length (ledgers rules p (of_part p old.trail))) f after) (sym floors) unlost);
    read = further_read (read_by rules old p) (read_by rules new p) after (same_reads rules p old new trail) read;
  }

  module _ (count : ℕ) (begin : Partition) (facts : HasFacts rules.flows count begin c) (long : facts.base.position ≡ log_length (ledgers rules p (of_part p old.trail))) (joined : Joined rules old p c) where
    -- by marks
    pub rewound_joined : (marks : Marks) (lost : Identity) → IsRewound rules.flows count begin marks c after from lost → new.stage p ≡ old.stage p → new.going p ≡ old.going p → Joined rules new p after
    rewound_joined marks lost rewound stage going =
        let both = rewound_ours rules old.latest old.told c joined.goes.ours joined.goes.waits rules.flows count begin marks after from lost rewound in
        let is = rewound.becomes in
        record {
          goes = given_up_goes rewound.kept (ap (λ (v : CellView). v.number) is) (ap (λ (v : CellView). v.slot) is) (ap (λ (v : CellView). v.incarnation) is) (ap (λ (v : CellView). v.now) is) (ap (λ (v : CellView). v.entries) is) both.0 both.1
              (rewound_unlost (log_length (ledgers rules p (of_part p old.trail))) (old.floors p) c joined.goes.unlost rules.flows count begin facts long marks after from lost rewound)
              (rewound_read (read_by rules old p) c joined.goes.read rules.flows count begin marks after from lost rewound) joined.goes;
          out =
              let out_is : after.out ≡ c.out = ap (λ (v : CellView). v.out) is in
              let front : take after.out after.entries ≡ take c.out c.entries = ap (λ (v : CellView). take v.out v.entries) is ∙ take_front c.out rewound.kept c.entries rewound.first.behind in
              record {
                rests = λ none. let rests = joined.out.rests (sym out_is ∙ none) in (stage ∙ rests.0, going ∙ rests.1);
                goes = λ some. going ∙ joined.out.goes (omega (arith, some, out_is)) ∙ ap (λ (l : List Entry). Some l) (sym front);
              };
        }

    -- all of them
    pub reset_joined : IsReset from c after → new.stage p ≡ stages.Resting → new.going p ≡ None → Joined rules new p after
    reset_joined reset stage going =
        let both = reset_ours rules old.latest old.told c joined.goes.ours joined.goes.waits after from reset in
        let is = reset.becomes in
        record {
          goes = given_up_goes reset.kept (ap (λ (v : CellView). v.number) is) (ap (λ (v : CellView). v.slot) is) (ap (λ (v : CellView). v.incarnation) is) (ap (λ (v : CellView). v.now) is) (ap (λ (v : CellView). v.entries) is) both.0 both.1
              (reset_unlost (log_length (ledgers rules p (of_part p old.trail))) (old.floors p) c joined.goes.unlost rules.flows count begin facts long after from reset)
              (reset_read (read_by rules old p) c joined.goes.read after from reset) joined.goes;
          out =
              let out_is : after.out ≡ 0 = ap (λ (v : CellView). v.out) is in
              record { rests = λ none. (stage, going); goes = λ some. absurd (omega (arith, some, out_is)) };
        }

-- ---- packets of lost entries are let go of

pub kept_joined : (rules : Rules) (p : ℕ) (s : StoreView) (c after : CellView) (count : ℕ) (begin : Partition) (marks : Marks) → IsKept rules.flows count begin marks c after → Joined rules s p c → Joined rules s p after
kept_joined rules p s c after count begin marks kept joined =
    let both = kept_ours rules s.latest s.told c joined.goes.ours joined.goes.waits rules.flows count begin marks after kept in
    let is = kept.becomes in
    let goes = joined.goes in
    record {
      goes = record {
        number = ap (λ (v : CellView). v.number) is ∙ goes.number;
        mine = ap (λ (v : CellView). v.slot.mine) is ∙ goes.mine;
        ours = both.0;
        waits = both.1;
        of_call = let low = goes.of_call in let same = ap (λ (v : CellView). v.incarnation) is in omega (arith, low, same);
        since = let since = goes.since in let same = ap (λ (v : CellView). v.now) is in omega (arith, since, same);
        timely = let timely = goes.timely in let same = ap (λ (v : CellView). v.now) is in omega (arith, timely, same);
        fresh = λ serves. fresh_same s.latest c after (ap (λ (v : CellView). v.now) is) (ap (λ (v : CellView). v.entries) is) (goes.fresh serves);
        unlost = subst (HoldsUnlost (log_length (ledgers rules p (of_part p s.trail))) (s.floors p)) (sym is) (record { unlost = goes.unlost.unlost; latest = goes.unlost.latest });
        read = kept_read (read_by rules s p) c goes.read rules.flows count begin marks after kept;
      };
      out = record {
        rests = λ none. joined.out.rests (sym (ap (λ (v : CellView). v.out) is) ∙ none);
        goes = λ some. let same = ap (λ (v : CellView). v.out) is in joined.out.goes (omega (arith, some, same)) ∙ ap (λ (v : CellView). Some (take v.out v.entries)) (sym is);
      };
    }

-- ---- what was out comes back

pub unpicked_joined : (rules : Rules) (p : ℕ) (old new : StoreView) (c picked after : CellView) (n : ℕ) → StaysFor rules p old new → picked ≡ record c { out = n } → after ≡ record picked { out = 0 } → new.stage p ≡ stages.Resting → new.going p ≡ None → GoesOnFrom rules old p c → Joined rules new p after
unpicked_joined rules p old new c picked after n stays picked_is after_is stage going goes =
    subst (Joined rules new p) (sym (after_is ∙ ap (λ (v : CellView). record v { out = 0 }) picked_is)) (record {
      goes = goes_out rules new p c 0 (goes_still rules p old new stays c goes);
      out = record { rests = λ none. (stage, going); goes = λ some. absurd (omega (arith, some)) };
    })
