-- A life goes on, or is over.
use Rattle.std.proofs.Common.{◌≡◌, true, false, Bool, ℕ, zero, suc, List, [], ◌∷◌, ◌++◌, length, Some, slice_get, inl, inr, sym, ◌∙◌, subst, arith}
use Rattle.std.specs.List.{Contains}
use Rattle.std.proofs.lemmas.List.Elements.{Contains-append_cases}
use Rattle.std.proofs.lemmas.Option.{slice_get_within, get_or_from_slice_get}
use Rattle.cell_frames.specs.Joined.{StoreView, view_of}
use Rattle.commit_gate.specs.Views.{floors_of}
use Rattle.gated_store.specs.Keeps.{KeepsGate}
use Rattle.many_rules.specs.Ledgers.{ledgers}
use Rattle.gated_store.specs.declared.local.Gated as gated_types
use Rattle.gated_store.specs.declared.store.GatedStore.{GatedStore}
use Rattle.hub_store.specs.Changes.{stage_at, going_at, trail_in, told_in}
use Rattle.hub_store.specs.Ways.{way_of, going_in, stage_of}
use Rattle.hub_store.specs.declared.start.Start as starts
use Rattle.site_model.specs.declared.site.Site as sites
use Rattle.log_items.specs.declared.items.Packet.{Packet}
use Rattle.many_rules.specs.Rules.{Rules}
use Rattle.spec_cell.specs.Views.{CellView}
use Rattle.spec_tracker.specs.declared.marks.Marks.{Marks}
use Rattle.world_core.specs.World.{WorldView, world, AreHeard, Stands}
use Rattle.world_steps.proofs.ReadOn.{ReadsOn}
use Rattle.world_steps.specs.Cells.{AllJoined}
use Rattle.world_steps.specs.Known.{AreMarksOf}

-- a test isn't both
pub no_both : {X : Type 0} (b : _) → b ≡ true → b ≡ false → X
no_both true yes_is no_is = absurd (cc no_is)
no_both false yes_is no_is = absurd (cc yes_is)

pub still_heard : (rules : Rules) (old new : StoreView) (all : List Marks) → ReadsOn rules old new → AreHeard rules old all → AreHeard rules new all
still_heard rules old new all more heard marks read there inside = let low = heard marks read there inside in let on = more read.source read.reader in omega (arith, low, on)

only_one : (one other : Marks) → Contains (one ∷ []) other → one ≡ other
only_one one other (zero, low, at) = at
only_one one other (suc k, low, at) = absurd (omega (arith, low))

-- what stands at a place is among them
pub get_contains : {X : Type 0} (xs : List X) (i : ℕ) (x : X) → slice_get xs i ≡ Some x → Contains xs x
get_contains xs i x is = (i, slice_get_within xs i x is, get_or_from_slice_get xs i x x is)

pub more_heard : (rules : Rules) (s : StoreView) (all : List Marks) (now : Marks) → AreHeard rules s all → AreMarksOf rules s now → AreHeard rules s (all ++ now ∷ [])
more_heard rules s all now heard of_it marks read there inside = elim (Contains-append_cases all (now ∷ []) marks there) [
  | inl before ↦ heard marks read before inside
  | inr its ↦
      let same : now ≡ marks = only_one now marks its in
      let next = of_it.reads read (subst (λ (m : Marks). Contains m.reads.items read) (sym same) inside) in
      omega (arith, next)
]

module _ (rules : Rules) (old : WorldView) (stands : Stands rules old) where
  -- only cells changed, and packets were sent
  pub alive : (cells : List CellView) (packets : List Packet) → old.ended ≡ false → length cells ≡ length old.cells → (AllJoined rules old.store old.cells → AllJoined rules old.store cells) → Stands rules (record old { cells = cells; packets = packets })
  alive cells packets going many keeps = record {
    some = stands.some;
    few = stands.few;
    most = stands.most;
    many = many ∙ stands.many;
    going = stands.going;
    whole = stands.whole;
    joined = λ still. keeps (stands.joined going);
    heard = stands.heard;
  }

  -- memory ran out, and the store is as it was
  pub over : (cells : List CellView) (packets : List Packet) (marks : List Marks) → marks ≡ old.marks → length cells ≡ length old.cells → Stands rules (record old { cells = cells; packets = packets; marks = marks; ended = true })
  over cells packets marks same many = record {
    some = stands.some;
    few = stands.few;
    most = stands.most;
    many = many ∙ stands.many;
    going = λ still. absurd (cc still);
    whole = λ still. absurd (cc still);
    joined = λ still. absurd (cc still);
    heard = subst (AreHeard rules old.store) (sym same) stands.heard;
  }

  -- the store changed
  pub alive_by : (new : WorldView) → length new.cells ≡ length old.cells → AreHeard rules new.store new.marks → new.halted ≡ false → new.cut ≡ false → AllJoined rules new.store new.cells → Stands rules new
  alive_by new many heard halted cut joined = record { some = stands.some; few = stands.few; most = stands.most; many = many ∙ stands.many; going = λ still. halted; whole = λ still. cut; joined = λ still. joined; heard = heard }

  -- the life is over by a call that may have changed it
  pub over_by : (new : WorldView) → new.ended ≡ true → length new.cells ≡ length old.cells → AreHeard rules new.store new.marks → Stands rules new
  over_by new ended many heard = record {
    some = stands.some;
    few = stands.few;
    most = stands.most;
    many = many ∙ stands.many;
    going = λ still. no_both new.ended ended still;
    whole = λ still. no_both new.ended ended still;
    joined = λ still. no_both new.ended ended still;
    heard = heard;
  }

-- ---- the store

module _ {V L : Type 0} {G : sites.Ghosts V} {K : starts.Ghosts (gated_types.Gated L)} (old new : GatedStore V L G K) where
  -- it heard of a later moment, and all else is as it was
  pub raised : (latest : ℕ) → new.logs.latest ≡ latest → trail_in new.logs ≡ trail_in old.logs → told_in new.logs ≡ told_in old.logs → new.logs.ways ≡ old.logs.ways → new.ledgers ≡ old.ledgers → view_of new ≡ record (view_of old) { latest = latest }
  raised latest is trail told ways ledgers = λ i. record {
    latest = is i;
    trail = trail i;
    told = told i;
    going = λ p. going_in (way_of (ways i).items p);
    stage = λ p. stage_of (way_of (ways i).items p);
    floors = floors_of (ledgers i).items;
  }

  -- the store is another in these words alone
  pub is_world : (s : StoreView) → view_of new ≡ s → new.logs.halted ≡ old.logs.halted → new.logs.cut ≡ old.logs.cut → new.logs.segment ≡ old.logs.segment → new.logs.ways ≡ old.logs.ways → (cells later : List CellView) (packets : List Packet) (marks : List Marks) (ended : Bool)
      → world new later packets marks ended ≡ record (world old cells packets marks ended) { store = s; cells = later }
  is_world s view halted cut segment ways cells later packets marks ended = λ i. record {
    store = view i;
    halted = halted i;
    cut = cut i;
    segment = segment i;
    way = λ p. way_of (ways i).items p;
    cells = later;
    packets = packets;
    marks = marks;
    ended = ended;
  }

  -- a call on a partition's frame, by which nothing was settled
  pub frame_world : (p : ℕ) → KeepsGate p old new → trail_in new.logs ≡ trail_in old.logs → new.logs.halted ≡ old.logs.halted → (cells : List CellView) (packets : List Packet) (marks : List Marks) (ended : Bool)
      → world new cells packets marks ended ≡ record (world old cells packets marks ended) { store = record (view_of old) { stage = stage_at new.logs; going = going_at new.logs }; way = way_of new.logs.ways.items }
  frame_world p keeps trail halted cells packets marks ended = λ i. record {
    store = record {
      latest = keeps.logs.latest i;
      trail = trail i;
      told = keeps.logs.said i;
      going = going_at new.logs;
      stage = stage_at new.logs;
      floors = keeps.floors i;
    };
    halted = halted i;
    cut = keeps.logs.whole i;
    segment = keeps.logs.segment i;
    way = way_of new.logs.ways.items;
    cells = cells;
    packets = packets;
    marks = marks;
    ended = ended;
  }

  -- nothing changed in it but how many turns there were
  pub same_world : new.logs ≡ old.logs → new.ledgers ≡ old.ledgers → (cells : List CellView) (packets : List Packet) (marks : List Marks) (ended : Bool) → world old cells packets marks ended ≡ world new cells packets marks ended
  same_world logs ledgers cells packets marks ended = λ i. record {
    store = record {
      latest = (sym logs i).latest;
      trail = trail_in (sym logs i);
      told = told_in (sym logs i);
      going = going_at (sym logs i);
      stage = stage_at (sym logs i);
      floors = floors_of (sym ledgers i).items;
    };
    halted = (sym logs i).halted;
    cut = (sym logs i).cut;
    segment = (sym logs i).segment;
    way = way_of (sym logs i).ways.items;
    cells = cells;
    packets = packets;
    marks = marks;
    ended = ended;
  }

  -- its logs are as they were, and it is seen as before
  pub logs_world : (s : StoreView) → view_of new ≡ s → new.logs ≡ old.logs → (cells later : List CellView) (packets : List Packet) (marks : List Marks) (ended : Bool) → world new later packets marks ended ≡ record (world old cells packets marks ended) { store = s; cells = later }
  logs_world s view logs cells later packets marks ended = λ i. record {
    store = view i;
    halted = (logs i).halted;
    cut = (logs i).cut;
    segment = (logs i).segment;
    way = way_of (logs i).ways.items;
    cells = later;
    packets = packets;
    marks = marks;
    ended = ended;
  }

-- what is known now is told of too
pub heard_noted : (rules : Rules) (s : StoreView) (all later : List Marks) → (now : Marks) × (later ≡ all ++ now ∷ []) × AreMarksOf rules s now → AreHeard rules s all → AreHeard rules s later
heard_noted rules s all later noted heard = subst (AreHeard rules s) (sym noted.1) (more_heard rules s all noted.0 heard noted.2)

-- what was told of before
pub heard_same : (rules : Rules) (s : StoreView) (all later : List Marks) → later ≡ all → AreHeard rules s all → AreHeard rules s later
heard_same rules s all later same heard = subst (AreHeard rules s) (sym same) heard
