-- What a step leaves of what was read, and of what was settled.
use Rattle.std.proofs.Common.{◌≡◌, ◌≤◌, ◌<◌, true, false, Bool, Result, Ok, Err, take, slice_set, get_or, append-nil, refl, ℕ, zero, suc, List, [], ◌∷◌, ◌++◌, length, Some, slice_get, inl, inr, sym, ◌∙◌, ap, subst, arith, ◌⊎◌, Vec, Global}
use Rattle.std.specs.List.{Contains}
use Rattle.std.proofs.lemmas.List.Elements.{Contains-append_cases}
use Rattle.std.proofs.lemmas.List.{set-get_or}
use Rattle.std.proofs.lemmas.Option.{slice_get_within, get_or_from_slice_get}
use Rattle.cell_frames.proofs.Calls.{may_go}
use Rattle.cell_frames.proofs.Stays.{same_reads, more_read}
use Rattle.cell_frames.specs.Joined.{StoreView, Joined, read_by, view_of}
use Rattle.cell_frames.specs.Writes.{Writes}
use Rattle.commit_gate.specs.Views.{floors_of}
use Rattle.gated_store.specs.Keeps.{KeepsGate}
use Rattle.gated_store.specs.Kept.{IsKept}
use Rattle.hub_store.specs.Trail.{settling}
use Rattle.hub_store.specs.declared.refusal.BodyRefusal.{BodyRefusal}
use Rattle.hub_store.specs.declared.refusal.BodyRefusal.TheVariants as body_refusals
use Rattle.many_rules.specs.Ledgers.{ledgers, readers}
use Rattle.many_rules.specs.Makes.{Makes}
use Rattle.gated_store.specs.declared.local.Gated as gated_types
use Rattle.gated_store.specs.declared.store.GatedStore.{GatedStore}
use Rattle.hub_store.specs.Changes.{stage_at, going_at, trail_in, told_in}
use Rattle.hub_store.specs.Ways.{way_of, going_in, stage_of}
use Rattle.hub_store.specs.declared.start.Start as starts
use Rattle.site_model.specs.declared.site.Site as sites
use Rattle.log_items.specs.declared.items.Packet.{Packet}
use Rattle.many_rules.specs.Rules.{Rules}
use Rattle.spec_cell.specs.Views.{CellView}
use Rattle.spec_tracker.specs.declared.marks.Marks.{Marks}
use Rattle.spec_tracker.specs.declared.marks.Read.{Read}
use Rattle.cell_frames.specs.Judges.{Judges}
use Rattle.cell_frames.specs.Owns.{Opens}
use Rattle.cell_frames.specs.Settles.{IsOnTrail, SettlesFrame}
use Rattle.cell_frames.specs.declared.owning.Reopened.{Reopened}
use Rattle.cell_frames.specs.declared.owning.Reopened.TheVariants as reopenings
use Rattle.cell_frames.specs.declared.settling.SettleRefusal.{SettleRefusal}
use Rattle.cell_frames.specs.declared.settling.SettleRefusal.TheVariants as refusals
use Rattle.cell_steps.specs.declared.mode.Mode.{Mode}
use Rattle.spec_cell.specs.declared.moving.CellRewind.{CellRewind}

-- nobody has taken in less
abbrev pub ReadsOn : Rules → (old new : StoreView) → Type 0
ReadsOn rules old new = (source reader : ℕ) → read_by rules old source reader ≤ read_by rules new source reader

pub not_closed : (b : Bool) → (b ≡ false → ⊥) → b ≡ true
not_closed true never = refl
not_closed false never = absurd (never refl)

-- nothing is settled by writing a frame
pub writes_trail : (rules : Rules) (p : ℕ) (marks : Marks) (old new : StoreView) (c after : CellView) (r : Result Bool BodyRefusal) → Writes rules p marks old new c after r → new.trail ≡ old.trail
writes_trail rules p marks old new c after (Ok true) is = is.0.trail
writes_trail rules p marks old new c after (Ok false) is = ap (λ (s : StoreView). s.trail) is.1
writes_trail rules p marks old new c after (Err (body_refusals.Full at length)) is = is.1.1
writes_trail rules p marks old new c after (Err body_refusals.SiteFault) is = is.0.trail
writes_trail rules p marks old new c after (Err body_refusals.Memory) is = is.1

-- a cell that stays in its place
pub same_place : (cells : List CellView) (p : ℕ) (c after : CellView) → c ≡ get_or cells p c → after ≡ c → slice_set cells p after ≡ cells
same_place cells p c after value same = ap (slice_set cells p) (same ∙ value) ∙ set-get_or cells p c

-- what was settled of a frame of a cell lets no read fall back
pub settled_reads : {V L : Type 0} {G : sites.Ghosts V} {K : starts.Ghosts (gated_types.Gated L)} (rules : Rules) (count p : ℕ) (old : GatedStore V L G K) (new : StoreView) (c : CellView) → p < count → IsKept count (ledgers rules) (readers rules) (Makes rules) old
    → Joined rules (view_of old) p c → IsOnTrail p (view_of old) new c → ReadsOn rules (view_of old) new
settled_reads rules count p old new c below kept joined settled = by c.out refl
  where
    by : (n : ℕ) → c.out ≡ n → ReadsOn rules (view_of old) new
    by zero none = λ source reader. same_reads rules source (view_of old) new
        (settled.trail ∙ ap (λ (n : ℕ). trail_in old.logs ++ settling p settled.at (take n c.entries)) none ∙ append-nil (trail_in old.logs)) reader
    by (suc n) some =
        let going : going_at old.logs p ≡ Some (take c.out c.entries) = joined.out.goes (omega (arith, some)) in
        more_read rules p settled.at (take c.out c.entries) (view_of old) new settled.trail (may_go rules count p old (take c.out c.entries) below kept going)

module _ (rules : Rules) (p : ℕ) (mode : Mode) (old new : StoreView) (c after : CellView) where
  pub settling_reads : (IsOnTrail p old new c → ReadsOn rules old new) → (r : Result (Vec Packet Global) SettleRefusal) → SettlesFrame rules p mode old new c after r → ReadsOn rules old new
  settling_reads on (Ok packets) is = on is.0
  settling_reads on (Err refusals.NoFrame) is = λ source reader. same_reads rules source old new (ap (λ (s : StoreView). s.trail) is.2) reader
  settling_reads on (Err refusals.SiteFault) is = λ source reader. same_reads rules source old new is.1 reader
  settling_reads on (Err refusals.Memory) is = on is

  pub fault_settles_nothing : (r : Result (Vec Packet Global) SettleRefusal) → SettlesFrame rules p mode old new c after r → r ≡ Err refusals.SiteFault → new.trail ≡ old.trail
  fault_settles_nothing (Ok packets) is same = absurd (cc same)
  fault_settles_nothing (Err refusals.NoFrame) is same = absurd (cc same)
  fault_settles_nothing (Err refusals.SiteFault) is same = is.1
  fault_settles_nothing (Err refusals.Memory) is same = absurd (cc same)

module _ (rules : Rules) (p : ℕ) (mode : Mode) (old new : StoreView) (c after : CellView) where
  pub opening_reads : (IsOnTrail p old new c → ReadsOn rules old new) → (r : Result Reopened SettleRefusal) → Opens rules p mode old new c r after → ReadsOn rules old new
  opening_reads on (Ok (reopenings.Settled packets)) is = on is.0
  opening_reads on (Ok reopenings.Dropped) is = λ source reader. same_reads rules source old new is.1 reader
  opening_reads on (Err refusals.NoFrame) is = absurd is
  opening_reads on (Err refusals.SiteFault) is = λ source reader. same_reads rules source old new is.1 reader
  opening_reads on (Err refusals.Memory) is = on is

pub reads_then : (rules : Rules) (a b d : StoreView) → ReadsOn rules a b → b.trail ≡ d.trail → ReadsOn rules a d
reads_then rules a b d on same source reader = let first = on source reader in let then = same_reads rules source b d (sym same) reader in omega (arith, first, then)
