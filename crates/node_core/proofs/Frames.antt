-- The frames that are out stay short, and so is what one wave settles.
use Rattle.std.proofs.Common.{◌≡◌, ◌≤◌, ◌<◌, ◌+◌, ◌∙◌, inl, inr, ℕ, true, false, List, [], ◌∷◌, ◌++◌, length, length-append, take, Some, Result, Ok, Err, refl, sym, ap, subst, arith, slice_get, slice_set}
use Rattle.std.proofs.lemmas.Bool.{cases_eq, cases_lt}
use Rattle.std.proofs.lemmas.List.{take-take}
use Rattle.std.proofs.lemmas.Option.{slice_get_within, slice_get-get_or}
use Rattle.std.specs.declared.alloc.Global.{Global}
use Rattle.std.specs.declared.vec.Vec.{Vec}
use Rattle.cell_frames.specs.Joined.{StoreView, view_of}
use Rattle.cell_frames.specs.Judges.{Judges}
use Rattle.cell_frames.specs.Owns.{Opens}
use Rattle.cell_frames.specs.Settles.{SettlesFrame}
use Rattle.cell_frames.specs.Writes.{Writes}
use Rattle.cell_frames.specs.declared.owning.Reopened.{Reopened}
use Rattle.cell_frames.specs.declared.owning.Reopened.TheVariants as reopenings
use Rattle.cell_frames.specs.declared.settling.SettleRefusal.{SettleRefusal}
use Rattle.cell_frames.specs.declared.settling.SettleRefusal.TheVariants as refusals
use Rattle.cell_steps.specs.declared.mode.Mode.{Mode}
use Rattle.dura_value.specs.Items.{Entry}
use Rattle.gated_store.proofs.Fitting.{at_same, at_other}
use Rattle.gated_store.specs.declared.local.Gated as gated_types
use Rattle.gated_store.specs.declared.store.GatedStore.{GatedStore}
use Rattle.hub_store.specs.Changes.{trail_in}
use Rattle.hub_store.specs.Origin.{Origin}
use Rattle.hub_store.specs.Trail.{Settled, settling}
use Rattle.hub_store.specs.declared.start.Start as starts
use Rattle.log_items.specs.declared.items.Packet.{Packet}
use Rattle.many_rules.specs.Rules.{Rules}
use Rattle.node_core.specs.Running.{HaveShortFrames, IsRunning}
use Rattle.site_model.specs.declared.site.Site as sites
use Rattle.spec_cell.specs.Views.{CellView}
use Rattle.spec_cell.specs.declared.moving.CellRewind.{CellRewind}
use Rattle.spec_cell.specs.declared.moving.CellRewind.TheVariants as rewinds
use Rattle.spec_tracker.specs.declared.marks.Marks.{Marks}
use Rattle.world_steps.specs.Cells.{AllJoined, CellBecomes}
use Rattle.world_steps.specs.TakesOver.{TakenBy}
use Rattle.world_steps.specs.declared.taking_over.Taken.{Taken}
use Rattle.world_steps.specs.declared.taking_over.Taken.TheVariants as takings

-- this cell's frame has at most 64 entries
abbrev IsShortIn : CellView → Type 0
IsShortIn c = length (take c.out c.entries) ≤ 64

none_out : (c : CellView) → c.out ≡ 0 → length (take c.out c.entries) ≡ 0
none_out c none = ap (λ (n : ℕ). length (take n c.entries)) none

-- the same is out under a store, whatever changed in a cell beside it
still_short : (rules : Rules) (s : StoreView) (p : ℕ) (old new : List CellView) (was c : CellView) → AllJoined rules s old → AllJoined rules s new → slice_get old p ≡ Some was → slice_get new p ≡ Some c → IsShortIn was → IsShortIn c
still_short rules s p old new was c before after had has short = elim (cases_lt 0 c.out) [
  | inl some ↦
      let now : s.going p ≡ Some (take c.out c.entries) = (after p c has).1.out.goes some in
      elim (cases_lt 0 was.out) [
        | inl more ↦
            let then : s.going p ≡ Some (take was.out was.entries) = (before p was had).1.out.goes more in
            let same : take c.out c.entries ≡ take was.out was.entries = cc (now, then) in
            let long = ap (λ (l : List Entry). length l) same in
            omega (arith, long, short)
        | inr none ↦ absurd (cc (now, ((before p was had).1.out.rests (omega (arith, none))).1))
      ]
  | inr none ↦ let long = none_out c (omega (arith, none)) in omega (arith, long)
]

-- cells changed that stay joined to the store
pub short_cells : (rules : Rules) (s : StoreView) (old new : List CellView) → length new ≡ length old → AllJoined rules s old → AllJoined rules s new → HaveShortFrames old → HaveShortFrames new
short_cells rules s old new many before after short p c has =
    let low : p < length new = slice_get_within new p c has in
    let had = slice_get-get_or old p c (omega (arith, low, many)) in
    still_short rules s p old new _ c before after had has (short p _ had)

-- one of the cells changed, and its frame is short
short_set : (p : ℕ) (cells : List CellView) (was after : CellView) → slice_get cells p ≡ Some was → IsShortIn after → HaveShortFrames cells → HaveShortFrames (slice_set cells p after)
short_set p cells was after had this short q c has = elim (cases_eq q p) [
  | inl same ↦
      let is : c ≡ after = at_same cells p after c (slice_get_within cells p was had) (subst (λ (k : ℕ). slice_get (slice_set cells p after) k ≡ Some c) same has) in
      subst IsShortIn (sym is) this
  | inr apart ↦ short q c (at_other cells p q after c apart has)
]

pub short_becomes : (p : ℕ) (old new : List CellView) (Does : CellView → CellView → Type 0) (b : CellBecomes p old new Does) → length (take b.after.out b.after.entries) ≤ 64 → HaveShortFrames old → HaveShortFrames new
short_becomes p old new Does b this short = subst HaveShortFrames (sym b.becomes) (short_set p old b.cell b.after b.there this short)

-- ---- what one call makes of a cell

same_short : (c after : CellView) → after ≡ c → IsShortIn c → IsShortIn after
same_short c after same short = subst IsShortIn (sym same) short

writes_short : (rules : Rules) (p : ℕ) (marks : Marks) (old new : StoreView) (c after : CellView) (wrote : _) → Writes rules p marks old new c after (Ok wrote) → IsShortIn c → IsShortIn after
writes_short rules p marks old new c after true does short =
    let picked = does.0.picked in
    let is : take after.out after.entries ≡ does.0.frame = ap (λ (v : CellView). take v.out v.entries) picked.becomes ∙ sym picked.first in
    let long = ap (λ (l : List Entry). length l) is in
    let few = picked.few in
    omega (arith, long, few)
writes_short rules p marks old new c after false does short = same_short c after does.0.same short

pub writes_stay : (rules : Rules) (p : ℕ) (marks : Marks) (old new : StoreView) (cells later : List CellView) (wrote : _) → CellBecomes p cells later (λ c after. Writes rules p marks old new c after (Ok wrote)) → HaveShortFrames cells → HaveShortFrames later
writes_stay rules p marks old new cells later wrote b short = short_becomes p cells later _ b (writes_short rules p marks old new b.cell b.after wrote b.does (short p b.cell b.there)) short

settled_short : (rules : Rules) (p : ℕ) (mode : Mode) (old new : StoreView) (c after : CellView) (packets : Vec Packet Global) → SettlesFrame rules p mode old new c after (Ok packets) → IsShortIn after
settled_short rules p mode old new c after packets does = let long = none_out after (ap (λ (v : CellView). v.out) does.1.0) in omega (arith, long)

pub settled_stay : (rules : Rules) (p : ℕ) (mode : Mode) (old new : StoreView) (cells later : List CellView) (result : Result (Vec Packet Global) SettleRefusal) (packets : Vec Packet Global) → result ≡ Ok packets → CellBecomes p cells later (λ c after. SettlesFrame rules p mode old new c after result) → HaveShortFrames cells
    → HaveShortFrames later
settled_stay rules p mode old new cells later result packets is b short =
    short_becomes p cells later _ b (settled_short rules p mode old new b.cell b.after packets (subst (SettlesFrame rules p mode old new b.cell b.after) is b.does)) short

judged_short : (rules : Rules) (p : ℕ) (marks : Marks) (old new : StoreView) (c after : CellView) (judged : CellRewind) → Judges rules p marks old new c judged after → IsShortIn c → IsShortIn after
judged_short rules p marks old new c after rewinds.Kept does short =
    let long = ap (λ (v : CellView). length (take v.out v.entries)) does.0.becomes in
    omega (arith, long, short)
judged_short rules p marks old new c after (rewinds.Rewound floor dep) does short =
    let rewound = does.0 in
    let is : take after.out after.entries ≡ take c.out c.entries = ap (λ (v : CellView). take v.out v.entries) rewound.becomes ∙ take-take c.out rewound.kept c.entries rewound.first.behind in
    let long = ap (λ (l : List Entry). length l) is in
    omega (arith, long, short)
judged_short rules p marks old new c after (rewinds.Spent number) does short = same_short c after does.0.0 short

pub judged_stay : (rules : Rules) (p : ℕ) (marks : Marks) (old new : StoreView) (cells later : List CellView) (judged : CellRewind) → CellBecomes p cells later (λ c after. Judges rules p marks old new c judged after) → HaveShortFrames cells → HaveShortFrames later
judged_stay rules p marks old new cells later judged b short = short_becomes p cells later _ b (judged_short rules p marks old new b.cell b.after judged b.does (short p b.cell b.there)) short

taken_short : (rules : Rules) (mode : Mode) (p node : ℕ) (old new : StoreView) (c after : CellView) (reopened : Reopened) → TakenBy rules mode p node old new c (takings.Done reopened) after → IsShortIn after
taken_short rules mode p node old new c after reopened does =
    let one = ap (λ (v : CellView). v.out) does.owned in
    let two = ap (λ (v : CellView). v.out) does.gives_up.0.becomes in
    let long = none_out after (one ∙ two) in
    omega (arith, long)

pub taken_stay : (rules : Rules) (mode : Mode) (p node : ℕ) (old new : StoreView) (cells later : List CellView) (taken : Taken) (reopened : Reopened) → taken ≡ takings.Done reopened → CellBecomes p cells later (λ c after. TakenBy rules mode p node old new c taken after) → HaveShortFrames cells → HaveShortFrames later
taken_stay rules mode p node old new cells later taken reopened is b short =
    short_becomes p cells later _ b (taken_short rules mode p node old new b.cell b.after reopened (subst (λ (t : Taken). TakenBy rules mode p node old new b.cell t b.after) is b.does)) short

-- ---- how much is settled by one

settling_many : (p at : ℕ) (entries : List Entry) → length (settling p at entries) ≡ length entries
settling_many p at [] = refl
settling_many p at (e ∷ entries) = let rest = settling_many p at entries in omega (arith, rest)

-- at most 64 entries more
abbrev pub AddsFew : (old new : List Settled) → Type 0
AddsFew old new = length new ≤ length old + 64

module _ (p : ℕ) (old new : StoreView) (c : CellView) (short : IsShortIn c) where
  one_frame : (at : ℕ) → new.trail ≡ old.trail ++ settling p at (take c.out c.entries) → AddsFew old.trail new.trail
  one_frame at is =
      let long = ap (λ (l : List Settled). length l) is in
      let both = length-append old.trail (settling p at (take c.out c.entries)) in
      let many = settling_many p at (take c.out c.entries) in
      omega (arith, long, both, many, short)

  no_frame : new.trail ≡ old.trail → AddsFew old.trail new.trail
  no_frame same = let long = ap (λ (l : List Settled). length l) same in omega (arith, long)

  settles_few : (rules : Rules) (mode : Mode) (after : CellView) (result : Result (Vec Packet Global) SettleRefusal) → SettlesFrame rules p mode old new c after result → AddsFew old.trail new.trail
  settles_few rules mode after (Ok packets) does = one_frame does.0.at does.0.trail
  settles_few rules mode after (Err refusals.NoFrame) does = no_frame (ap (λ (s : StoreView). s.trail) does.2)
  settles_few rules mode after (Err refusals.SiteFault) does = no_frame does.1
  settles_few rules mode after (Err refusals.Memory) does = one_frame does.at does.trail

  opens_few : (rules : Rules) (mode : Mode) (between : StoreView) (reopened : Reopened) (mid : CellView) → new.trail ≡ between.trail → Opens rules p mode old between c (Ok reopened) mid → AddsFew old.trail new.trail
  opens_few rules mode between (reopenings.Settled packets) mid rest does = one_frame does.0.at (rest ∙ does.0.trail)
  opens_few rules mode between reopenings.Dropped mid rest does = no_frame (rest ∙ does.1)

  taking_few : (rules : Rules) (mode : Mode) (node : ℕ) (taken : Taken) (after : CellView) → TakenBy rules mode p node old new c taken after → AddsFew old.trail new.trail
  taking_few rules mode node (takings.Done reopened) after does = opens_few rules mode does.between reopened does.mid (ap (λ (s : StoreView). s.trail) does.rest) does.opens
  taking_few rules mode node (takings.Spent reopened number) after does = opens_few rules mode does.between reopened does.mid (ap (λ (s : StoreView). s.trail) does.rest) does.opens
  taking_few rules mode node takings.SiteFault after does = no_frame does.0
  taking_few rules mode node takings.Memory after does = elim does [
    | inl stays ↦ no_frame stays
    | inr on ↦ one_frame on.at on.trail
  ]

module _ {V L : Type 0} {G : sites.Ghosts V} {K : starts.Ghosts (gated_types.Gated L)} (o : Origin) (rules : Rules) (p : ℕ) (mode : Mode) (old new : GatedStore V L G K) (cells later : List CellView) (running : IsRunning o rules old cells) where
  -- a frame was settled, or it wasn't
  pub settled_few : (result : Result (Vec Packet Global) SettleRefusal) → CellBecomes p cells later (λ c after. SettlesFrame rules p mode (view_of old) (view_of new) c after result) → AddsFew (trail_in old.logs) (trail_in new.logs)
  settled_few result b = settles_few p (view_of old) (view_of new) b.cell (running.short p b.cell b.there) rules mode b.after result b.does

  -- a partition was taken over, or it wasn't
  pub taken_few : (node : ℕ) (taken : Taken) → CellBecomes p cells later (λ c after. TakenBy rules mode p node (view_of old) (view_of new) c taken after) → AddsFew (trail_in old.logs) (trail_in new.logs)
  taken_few node taken b = taking_few p (view_of old) (view_of new) b.cell (running.short p b.cell b.there) rules mode node taken b.after b.does
