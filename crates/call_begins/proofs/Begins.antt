-- A cell with nothing settled joins a store in which nothing happened.
use Rattle.std.proofs.Common.{◌≡◌, ◌≤◌, ◌<◌, ◌∙◌, ◌++◌, ◌∷◌, ℕ, List, [], Some, None, refl, sym, ap, subst, arith, slice_get, length, length-append, map}
use Rattle.std.specs.List.{All}
use Rattle.std.proofs.lemmas.Option.{get_or_from_slice_get, slice_get-map, slice_get_within}
use Rattle.std.specs.Prelude.{option_map}
use Rattle.cell_frames.proofs.Fresh.{fresh_none}
use Rattle.cell_frames.specs.Joined.{StoreView, Joined, read_by, view_of}
use Rattle.cell_frames.specs.TrimsRead.{IsReadBy}
use Rattle.commit_gate.specs.Ledgers.{log_length}
use Rattle.commit_gate.specs.Unlost.{IsFrameUnlost}
use Rattle.dura_model.specs.Partition.{fresh}
use Rattle.dura_value.specs.Items.{Entry, Floor}
use Rattle.gated_store.specs.declared.local.Gated as gated_types
use Rattle.gated_store.specs.declared.store.GatedStore.{GatedStore}
use Rattle.hub_store.specs.Trail.{of_part}
use Rattle.hub_store.specs.Ways.{stage_of, going_in, way_of}
use Rattle.hub_store.specs.declared.start.Start as starts
use Rattle.hub_store.specs.declared.way.Stage.TheVariants as stages
use Rattle.hub_store.specs.declared.way.Way.{Way}
use Rattle.hub_store.specs.declared.way.Way.TheVariants.{Resting, Bodied, Synced, Gated, Safe, BrokenBody, BrokenGate, Away}
use Rattle.log_items.specs.Entries.{items_in}
use Rattle.many_rules.specs.Ledgers.{ledgers}
use Rattle.many_rules.specs.Rules.{Rules, IsOurs, rules_at, pairs_of}
use Rattle.open_logs.proofs.Pushed.{pushed, stands_behind}
use Rattle.part_steps.specs.States.{state_of, parts_in}
use Rattle.part_steps.specs.declared.state.PartState.{PartState}
use Rattle.run_rules.specs.Rules.{IsAsked}
use Rattle.site_model.specs.declared.site.Site as sites
use Rattle.spec_cell.specs.Views.{CellView}
use Rattle.task_laws.specs.Asked.{WasAsked}
use Rattle.call_begins.specs.Begins.{IsBegun, AllBegun, AllJoined, IsUntouched}

-- where a frame rests none is under way
none_going : (way : Way) → stage_of way ≡ stages.Resting → going_in way ≡ None
none_going (Resting log) is = refl
none_going (Bodied log frame) is = absurd (cc is)
none_going (Synced log frame) is = absurd (cc is)
none_going (Gated log frame) is = absurd (cc is)
none_going (Safe log frame) is = absurd (cc is)
none_going (BrokenBody log frame) is = absurd (cc is)
none_going (BrokenGate log frame) is = absurd (cc is)
none_going Away is = refl

-- of no entries none was given up
none_lost : (position : ℕ) (floors : List Floor) → IsFrameUnlost position floors []
none_lost position floors k entry is = absurd (cc is)

-- what is said of each is said of none
of_none : {X : Type 0} (P : X → Type 0) (xs : List X) → xs ≡ [] → All P xs
of_none P xs none = subst (All P) (sym none) (λ k d low. absurd (omega (arith, low)))

begun_joined : (rules : Rules) (s : StoreView) (p incarnation : ℕ) (c : CellView) → s.trail ≡ [] → s.stage p ≡ stages.Resting → s.going p ≡ None → s.floors p ≡ [] → rules.incarnations p ≡ incarnation → s.latest ≡ rules.since → IsBegun p incarnation rules.since c → Joined rules s p c
begun_joined rules s p incarnation c trail rests none floors of_call latest begun = record {
  goes = record {
    number = begun.number;
    mine = begun.mine ∙ sym (ap (of_part p) trail);
    ours = record {
      ours = of_none (IsOurs rules s.latest (pairs_of s.told) c.number) c.entries begun.entries;
      run = λ base is serves. of_none (λ (e : Entry). All (WasAsked rules.flows base) e.items) c.entries begun.entries;
    };
    waits = record {
      asked = λ serves. of_none (λ w. IsAsked (rules_at rules c.number) (pairs_of s.told) w.item) c.waits begun.waits;
      run = λ base is serves. of_none (λ w. WasAsked rules.flows base w.item) c.waits begun.waits;
    };
    of_call = let e = begun.incarnation_is in omega (arith, of_call, e);
    since = let e = begun.now in omega (arith, e);
    timely = let e = begun.now in omega (arith, e, latest);
    fresh = λ serves. fresh_none s.latest c (let e = begun.now in omega (arith, e, latest)) begun.entries;
    unlost = record {
      unlost = subst (IsFrameUnlost (log_length (ledgers rules p (of_part p s.trail))) (s.floors p)) (sym begun.entries) (none_lost (log_length (ledgers rules p (of_part p s.trail))) (s.floors p));
      latest = of_none (λ (floor : Floor). floor.incarnation ≤ c.incarnation) (s.floors p) floors;
    };
    read = record {
      held = subst (λ (l : List Entry). All (IsReadBy (read_by rules s p)) (items_in l)) (sym begun.entries) (λ k d low. absurd (omega (arith, low)));
      waits = of_none (λ w. IsReadBy (read_by rules s p) w.item) c.waits begun.waits;
    };
  };
  out = record {
    rests = λ is. (rests, none);
    goes = λ some. let e = begun.out in absurd (omega (arith, e, some));
  };
}

-- and so do all cells
pub all_joined : {V L : Type 0} {G : sites.Ghosts V} {K : starts.Ghosts (gated_types.Gated L)} (rules : Rules) (store : GatedStore V L G K) (incarnations : List ℕ) (cells : List CellView) → IsUntouched rules.count store → length cells ≡ rules.count
    → ((p incarnation : ℕ) → slice_get incarnations p ≡ Some incarnation → rules.incarnations p ≡ incarnation) → store.logs.latest ≡ rules.since → AllBegun incarnations rules.since cells → AllJoined rules (view_of store) cells
all_joined rules store incarnations cells untouched many from latest begun p c is =
    let one = begun p c is in
    let within : p < length cells = slice_get_within {A = CellView} cells p c is in
    let below : p < rules.count = omega (arith, within, many) in
    let rests = untouched.rest p below in
    (one.2.going, begun_joined rules (view_of store) p one.0 c untouched.trail rests (none_going (way_of store.logs.ways.items p) rests) (untouched.floors p) (from p one.0 one.1) latest one.2)

-- the state of a partition among those of all
pub state_at : (states : List PartState) (place : ℕ) (s : PartState) → slice_get states place ≡ Some s → parts_in states place ≡ state_of s
state_at states place s at =
    get_or_from_slice_get (map state_of states) place (state_of s) (fresh place) (slice_get-map state_of states place ∙ ap (option_map state_of) at)

-- one cell more
pub one_more_begun : (incarnations : List ℕ) (since : ℕ) (cells : List CellView) (place incarnation : ℕ) (c : CellView) → place ≡ length cells → slice_get incarnations place ≡ Some incarnation → IsBegun place incarnation since c → AllBegun incarnations since cells → AllBegun incarnations since (cells ++ c ∷ [])
one_more_begun incarnations since cells place incarnation c place_is at begun all =
    let P : ℕ → CellView → Type 0 = λ p one. (i : ℕ) × (slice_get incarnations p ≡ Some i) × IsBegun p i since one in
    pushed P cells c all (subst (λ (n : ℕ). P n c) place_is (incarnation, at, begun))

-- an element stands where those before it end
pub within : {X : Type 0} (front : List X) (one : X) (more all : List X) (place : ℕ) → place ≡ length front → (front ++ one ∷ more) ≡ all → (place < length all) × (slice_get all place ≡ Some one)
within front one more all place is rest = (
  let e = ap length rest in
      let f = length-append front (one ∷ more) in
      omega (arith, is, e, f),
  subst (λ n. slice_get all n ≡ Some one) (sym is) (subst (λ l. slice_get l (length front) ≡ Some one) rest (stands_behind front one more)),
)
