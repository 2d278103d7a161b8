-- A moment comes to the store and to all cells.
use Rattle.std.proofs.Common.{◌≡◌, ◌≢◌, ◌≤◌, ◌<◌, ◌+◌, ◌∙◌, inl, inr, ℕ, max, List, length, take, Some, slice_get, refl, sym, ap, subst, arith}
use Rattle.std.proofs.lemmas.Bool.{cases_eq, cases_lt}
use Rattle.std.proofs.lemmas.Option.{slice_get_within}
use Rattle.cell_frames.proofs.ByItself.{fired_joined}
use Rattle.cell_frames.specs.Joined.{StoreView, view_of}
use Rattle.commit_gate.specs.Views.{floors_of}
use Rattle.engine_rounds.specs.Held.{NoneHeld, HaveHeard, HeardBelow}
use Rattle.gated_store.proofs.Fitting.{at_same, at_other}
use Rattle.gated_store.specs.declared.local.Gated as gated_types
use Rattle.gated_store.specs.declared.store.GatedStore.{GatedStore}
use Rattle.hub_store.specs.Changes.{trail_in, told_in}
use Rattle.hub_store.specs.Origin.{Origin}
use Rattle.hub_store.specs.Ways.{stage_of, going_in, way_of}
use Rattle.hub_store.specs.declared.start.Start as starts
use Rattle.many_rules.specs.Rules.{Rules}
use Rattle.node_core.proofs.Growing.{grows_same}
use Rattle.node_core.specs.Running.{IsRunning, Keeps}
use Rattle.round_steps.specs.Serving.{GoesOn}
use Rattle.site_model.specs.declared.site.Site as sites
use Rattle.spec_cell.specs.Views.{CellView}
use Rattle.world_steps.specs.Cells.{AllJoined, CellBecomes}

-- cells that hold nothing hear of a moment with the store
all_heard : (rules : Rules) (s : StoreView) (cells later : List CellView) (now : ℕ) → NoneHeld cells → AllJoined rules s cells → HaveHeard now cells later → AllJoined rules (record s { latest = max s.latest now }) later
all_heard rules s cells later now none all heard p c is =
    let was = heard p c is in
    let there = all p was.0 was.1 in
    (ap (λ (v : CellView). v.going) was.2 ∙ there.0, fired_joined rules s p was.0 there.1 now (max s.latest now) c (omega arith) (omega arith) (λ serves. (none p was.0 was.1, omega arith)) was.2)

module _ {V L : Type 0} {G : sites.Ghosts V} {K : starts.Ghosts (gated_types.Gated L)} (old new : GatedStore V L G K) where
  -- it is as it was but for the moment
  pub raised : (latest : ℕ) → new.logs.latest ≡ latest → trail_in new.logs ≡ trail_in old.logs → told_in new.logs ≡ told_in old.logs → new.logs.ways ≡ old.logs.ways → new.ledgers ≡ old.ledgers → view_of new ≡ record (view_of old) { latest = latest }
  raised latest is trail told ways ledgers = λ i. record {
    latest = is i;
    trail = trail i;
    told = told i;
    going = λ p. going_in (way_of (ways i).items p);
    stage = λ p. stage_of (way_of (ways i).items p);
    floors = floors_of (ledgers i).items;
  }

  pub heard_goes : (rules : Rules) (now : ℕ) → new.logs.site ≡ old.logs.site → new.logs.segment ≡ old.logs.segment → new.logs.latest ≡ max old.logs.latest now → trail_in new.logs ≡ trail_in old.logs → GoesOn rules old new
  heard_goes rules now site segment latest trail = record {
    tells = subst G.tells site;
    segment = segment;
    latest = omega (arith, latest);
    disk_faults = let same = ap G.disk_faults site in omega (arith, same);
    say_faults = let same = ap G.say_faults site in omega (arith, same);
    grows = record { grows = grows_same rules old.logs.latest new.logs.latest (trail_in old.logs) (trail_in new.logs) (omega (arith, latest)) trail };
  }

  pub heard_runs : (o : Origin) (rules : Rules) (cells later : List CellView) (now : ℕ) → IsRunning o rules old cells → Keeps o rules new → view_of new ≡ record (view_of old) { latest = max old.logs.latest now } → new.logs.halted ≡ old.logs.halted → new.logs.cut ≡ old.logs.cut → length later ≡ length cells
      → NoneHeld cells → HaveHeard now cells later → IsRunning o rules new later
  heard_runs o rules cells later now r kept view halted cut many none heard = record {
    begun = r.begun;
    serves = r.serves;
    some = r.some;
    few = r.few;
    many = many ∙ r.many;
    short = λ p c has. let was = heard p c has in let same = ap (λ (v : CellView). length (take v.out v.entries)) was.2 in let low = r.short p was.0 was.1 in omega (arith, same, low);
    kept = kept;
    still = halted ∙ r.still;
    whole = cut ∙ r.whole;
    joined = subst (λ (s : StoreView). AllJoined rules s later) (sym view) (all_heard rules (view_of old) cells later now none r.joined heard);
  }

-- ---- one cell after another

module _ (now : ℕ) (first : List CellView) where
  -- the cells before a place heard of it, and the others didn't yet
  pub heard_one : (mid last : List CellView) (at : ℕ) → HeardBelow now at first mid → CellBecomes at mid last (λ c after. after ≡ record c { now = max c.now now }) → HeardBelow now (at + 1) first last
  heard_one mid last at below fires p c is = elim (cases_eq p at) [
    | inl same ↦
        let low : at < length mid = slice_get_within mid at fires.cell fires.there in
        let this : c ≡ fires.after = at_same mid at fires.after c low (subst (λ (l : List CellView). slice_get l at ≡ Some c) fires.becomes (subst (λ (k : ℕ). slice_get last k ≡ Some c) same is)) in
        let was = below at fires.cell fires.there in
        let stays : fires.cell ≡ was.0 = was.3 (omega arith) in
        (was.0, subst (λ (k : ℕ). slice_get first k ≡ Some was.0) (sym same) was.1, λ low. this ∙ fires.does ∙ ap (λ (v : CellView). record v { now = max v.now now }) stays, λ high. absurd (omega (arith, same, high)))
    | inr apart ↦
        let there = at_other mid at p fires.after c apart (subst (λ (l : List CellView). slice_get l p ≡ Some c) fires.becomes is) in
        let was = below p c there in
        (was.0, was.1, λ low. was.2 (elim (cases_lt p at) [ inl less ↦ less | inr more ↦ absurd (apart (omega (arith, low, more))) ]), λ high. was.3 (omega (arith, high)))
  ]

  pub none_heard : HeardBelow now 0 first first
  none_heard p c is = (c, is, λ low. absurd (omega (arith, low)), λ high. refl)

  pub heard_by_all : (last : List CellView) (at : ℕ) → length last ≤ at → HeardBelow now at first last → HaveHeard now first last
  heard_by_all last at many below p c is =
      let low : p < length last = slice_get_within last p c is in
      let was = below p c is in
      (was.0, was.1, was.2 (omega (arith, low, many)))
