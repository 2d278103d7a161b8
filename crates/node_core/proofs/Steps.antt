-- What the steps of a call keep, one after another, and why it halts.
use Rattle.std.proofs.Common.{◌≡◌, ◌≤◌, ◌∙◌, false, ℕ, List, length, refl, sym, ap, subst, arith}
use Rattle.cell_frames.specs.Joined.{StoreView, view_of}
use Rattle.gated_store.specs.declared.local.Gated as gated_types
use Rattle.gated_store.specs.declared.store.GatedStore.{GatedStore}
use Rattle.hub_store.specs.Changes.{KeepsAll, KeepsStore}
use Rattle.hub_store.specs.Origin.{Origin}
use Rattle.hub_store.specs.declared.start.Start as starts
use Rattle.hub_store.specs.declared.store.Store.{Store}
use Rattle.many_rules.specs.Rules.{Rules}
use Rattle.node_core.specs.Halts.{IsInner, RisesFor}
use Rattle.node_core.proofs.Frames.{short_cells}
use Rattle.node_core.specs.Running.{HaveShortFrames, IsRunning, Keeps}
use Rattle.node_core.specs.declared.halt.Halt.{Halt}
use Rattle.node_core.specs.declared.halt.Halt.TheVariants as halts
use Rattle.site_model.proofs.Faults.{risen_later}
use Rattle.site_model.specs.declared.site.Site as sites
use Rattle.spec_cell.specs.Views.{CellView}
use Rattle.world_steps.specs.Cells.{AllJoined}

-- ---- what is kept

module _ {V N : Type 0} {G : sites.Ghosts V} {H : starts.Ghosts N} where
  pub all_stays : (s : Store V N G H) → KeepsAll s s
  all_stays s = record { tells = λ t. t; said = refl; segment = refl; latest = refl; whole = refl; later = omega arith; say_faults = refl }

  pub then_all : (a b c : Store V N G H) → KeepsAll a b → KeepsAll b c → KeepsAll a c
  then_all a b c first then = record {
    tells = λ t. first.tells (then.tells t);
    said = then.said ∙ first.said;
    segment = then.segment ∙ first.segment;
    latest = then.latest ∙ first.latest;
    whole = then.whole ∙ first.whole;
    later = let one = first.later in let two = then.later in omega (arith, one, two);
    say_faults = then.say_faults ∙ first.say_faults;
  }

  -- what a call on one frame keeps
  pub kept_all : (partition : ℕ) (old new : Store V N G H) → KeepsStore partition old new → KeepsAll old new
  kept_all partition old new keeps = record { tells = keeps.tells; said = keeps.said; segment = keeps.segment; latest = keeps.latest; whole = keeps.whole; later = keeps.later; say_faults = keeps.say_faults }

  -- the logs are as they were
  pub same_all : (old new : Store V N G H) → new ≡ old → KeepsAll old new
  same_all old new same = subst (λ (s : Store V N G H). KeepsAll old s) (sym same) (all_stays old)

-- cells changed that stay joined to the store
pub cells_run : {V L : Type 0} {G : sites.Ghosts V} {K : starts.Ghosts (gated_types.Gated L)} (o : Origin) (rules : Rules) (store : GatedStore V L G K) (old new : List CellView) → IsRunning o rules store old → length new ≡ length old
    → ((s : StoreView) → AllJoined rules s old → AllJoined rules s new) → IsRunning o rules store new
cells_run o rules store old new r many joined = record { begun = r.begun; serves = r.serves; some = r.some; few = r.few; many = many ∙ r.many; short = short_cells rules (view_of store) old new many r.joined (joined (view_of store) r.joined) r.short; kept = r.kept; still = r.still; whole = r.whole; joined = joined (view_of store) r.joined }

-- a call on frames left the store kept, and no device call failed
pub runs_on : {V L : Type 0} {G : sites.Ghosts V} {K : starts.Ghosts (gated_types.Gated L)} (o : Origin) (rules : Rules) (old new : GatedStore V L G K) (cells later : List CellView) → IsRunning o rules old cells → KeepsAll old.logs new.logs → Keeps o rules new
    → new.logs.halted ≡ false → length later ≡ length cells → HaveShortFrames later → AllJoined rules (view_of new) later → IsRunning o rules new later
runs_on o rules old new cells later r keeps kept still many short joined = record { begun = r.begun; serves = r.serves; some = r.some; few = r.few; many = many ∙ r.many; short = short; kept = kept; still = still; whole = keeps.whole ∙ r.whole; joined = joined }

-- logs and ledgers are as they were
pub runs_same : {V L : Type 0} {G : sites.Ghosts V} {K : starts.Ghosts (gated_types.Gated L)} (o : Origin) (rules : Rules) (old new : GatedStore V L G K) (cells : List CellView) → IsRunning o rules old cells → Keeps o rules new → new.logs ≡ old.logs
    → new.ledgers ≡ old.ledgers → IsRunning o rules new cells
runs_same {V} {L} {G} {K} o rules old new cells r kept logs ledgers =
    let joined : AllJoined rules (view_of (record old { ledgers = new.ledgers })) cells = subst (λ (l : _). AllJoined rules (view_of (record old { ledgers = l })) cells) (sym ledgers) r.joined in
    runs_on o rules old new cells cells r (same_all old.logs new.logs logs) kept (ap (λ (s : _). s.halted) logs ∙ r.still) refl r.short (subst (λ (s : _). AllJoined rules (view_of (record new { logs = s })) cells) (sym logs) joined)

-- ---- why a call halts

pub rises_later : (disk say disk_then say_then disk_last say_last : ℕ) (halt : Halt) → disk ≤ disk_then → disk_then ≤ disk_last → say ≤ say_then → say_then ≤ say_last → RisesFor disk_then say_then disk_last say_last halt → RisesFor disk say disk_last say_last halt
rises_later disk say disk_then say_then disk_last say_last halts.SiteFault one two three four rises = risen_later disk disk_then disk_last one two rises
rises_later disk say disk_then say_then disk_last say_last halts.SayFault one two three four rises = risen_later say say_then say_last three four rises
rises_later disk say disk_then say_then disk_last say_last (halts.Full partition length) one two three four rises = tt
rises_later disk say disk_then say_then disk_last say_last (halts.Spent partition number) one two three four rises = tt
rises_later disk say disk_then say_then disk_last say_last halts.ClockFault one two three four rises = tt
rises_later disk say disk_then say_then disk_last say_last halts.Memory one two three four rises = tt

module _ {V N : Type 0} {G : sites.Ghosts V} {H : starts.Ghosts N} where
  -- a call on frames that went before keeps why the next one halts
  pub rises_behind : (a b c : Store V N G H) (halt : Halt) → KeepsAll a b → KeepsAll b c → RisesFor (G.disk_faults b.site) (G.say_faults b.site) (G.disk_faults c.site) (G.say_faults c.site) halt
      → RisesFor (G.disk_faults a.site) (G.say_faults a.site) (G.disk_faults c.site) (G.say_faults c.site) halt
  rises_behind a b c halt first then rises =
      let one = first.say_faults in
      let two = then.say_faults in
      rises_later (G.disk_faults a.site) (G.say_faults a.site) (G.disk_faults b.site) (G.say_faults b.site) (G.disk_faults c.site) (G.say_faults c.site) halt first.later then.later (omega (arith, one)) (omega (arith, two)) rises

pub inner_rises : (rules : Rules) (old new : List CellView) (disk say disk_then say_then : ℕ) (halt : Halt) → IsInner rules old new halt → RisesFor disk say disk_then say_then halt
inner_rises rules old new disk say disk_then say_then halts.SiteFault inner = absurd inner
inner_rises rules old new disk say disk_then say_then halts.SayFault inner = absurd inner
inner_rises rules old new disk say disk_then say_then (halts.Full partition length) inner = absurd inner
inner_rises rules old new disk say disk_then say_then (halts.Spent partition number) inner = tt
inner_rises rules old new disk say disk_then say_then halts.ClockFault inner = absurd inner
inner_rises rules old new disk say disk_then say_then halts.Memory inner = tt
