-- What dropping a frame leaves whose gate was never tried.
use Rattle.std.proofs.Common.{◌≡◌, ◌≢◌, true, ℕ, List, Result, Some, Ok, Err, sym, ◌∙◌, ap, subst}
use Rattle.std.specs.Prelude.{IfOk, IfErr, slice_index}
use Rattle.std.proofs.lemmas.List.{get_or_at}
use Rattle.site_model.specs.History.{Change, Step, reads, changes_of, content_of, Leaves}
use Rattle.site_model.specs.Calls.{Syncs}
use Rattle.site_model.specs.Moments.{LeavesOnly}
use Rattle.commit_log.specs.declared.header.Header.{Header}
use Rattle.commit_log.specs.declared.states.Bodied.{Bodied}
use Rattle.commit_log.specs.declared.states.Synced.{Synced}
use Rattle.commit_log.specs.declared.states.BrokenBody.{BrokenBody}
use Rattle.commit_log.specs.declared.states.Resting.{Resting}
use Rattle.commit_log.specs.Outcomes.{AfterDrop}
use Rattle.commit_log.specs.Segment.{open_gate, segment_bytes}
use Rattle.commit_log.specs.States.{IsResting, IsBodied, IsSynced, IsBrokenBody}
use Rattle.commit_log.proofs.Steps.{bodied_broken, synced_untried}
use Rattle.dura_value.specs.Items.{Entry}
use Rattle.log_items.specs.declared.frames.Entry as rows
use Rattle.log_items.specs.Plain.{entries_of}
use Rattle.part_items.specs.Spelling.{spell_frame}
use Rattle.hub_store.specs.declared.way.Way.{Way}
use Rattle.hub_store.specs.declared.way.Way.TheVariants as ways
use Rattle.hub_store.specs.OpenedAgain.{Drops}
use Rattle.hub_store.specs.Origin.{Origin}
use Rattle.hub_store.specs.Trail.{Settled, Said, of_part}
use Rattle.hub_store.specs.Ways.{LogFits, WayFits, stage_of, is_untried, going_in, gate_of}
use Rattle.hub_store.proofs.Calls.{fits_on}

-- ---- by the stage that the frame had come to

ok_file : (result : Result Resting BrokenBody) (file gate : ℕ) → IfOk result (λ log. (log.file ≡ file) × (log.gate ≡ gate)) → IfOk result (λ log. log.file ≡ file)
ok_file (Ok log) file gate place = place.0
ok_file (Err log) file gate place = tt

err_file : (result : Result Resting BrokenBody) (file gate next : ℕ) → IfErr result (λ log. (log.file ≡ file) × (log.gate ≡ gate) × (log.next ≡ next)) → IfErr result (λ log. log.file ≡ file)
err_file (Ok log) file gate next place = tt
err_file (Err log) file gate next place = place.0

-- how a frame was dropped, whose log has these gates
pub record IsDropped (file gate next : ℕ) (old new : List Step) (result : Result Resting BrokenBody) : Type 0 where
  pub syncs : Syncs file old new result
  pub during : LeavesOnly file old new (Leaves (changes_of file old))
  pub place : IfOk result (λ log. (log.file ≡ file) × (log.gate ≡ gate))
  pub broken : IfErr result (λ log. (log.file ≡ file) × (log.gate ≡ gate) × (log.next ≡ next))

module _ (frame : List rows.Entry) (old new : List Step) (result : Result Resting BrokenBody) where
  drops_at : (own file gate next : ℕ) (h : Header) (payloads : List (List ℕ)) → file ≡ own → IsDropped file gate next old new result → AfterDrop new h payloads result → Drops own h payloads old new result
  drops_at own file gate next h payloads same call after = subst (λ (f : ℕ). Drops f h payloads old new result) same (record {
    syncs = call.syncs;
    during = call.during;
    after = after;
    file_is = ok_file result file gate call.place;
    broken_is = err_file result file gate next call.broken;
  })

  pub bodied_drops : (log : Bodied) → IsDropped log.file log.gate log.next old new result
      → ((h : Header) (payloads : List (List ℕ)) (payload : List ℕ) → IsBodied (changes_of log.file old) h payloads payload log.gate log.next → AfterDrop new h payloads result)
      → (own : ℕ) (h : Header) (payloads : List (List ℕ)) → WayFits own h payloads (changes_of own old) (ways.Bodied log frame) → Drops own h payloads old new result
  bodied_drops log call after own h payloads fits =
      let payload = spell_frame (entries_of frame) in
      drops_at own log.file log.gate log.next h payloads fits.0 call (after h payloads payload (subst (λ (f : ℕ). IsBodied (changes_of f old) h payloads payload log.gate log.next) (sym fits.0) fits.1))

  pub synced_drops : (log : Synced) → IsDropped log.file log.gate log.next old new result
      → ((h : Header) (payloads : List (List ℕ)) (payload : List ℕ) → IsSynced (changes_of log.file old) h payloads payload log.gate log.next → AfterDrop new h payloads result)
      → (own : ℕ) (h : Header) (payloads : List (List ℕ)) → WayFits own h payloads (changes_of own old) (ways.Synced log frame) → Drops own h payloads old new result
  synced_drops log call after own h payloads fits =
      let payload = spell_frame (entries_of frame) in
      drops_at own log.file log.gate log.next h payloads fits.0 call (after h payloads payload (subst (λ (f : ℕ). IsSynced (changes_of f old) h payloads payload log.gate log.next) (sym fits.0) fits.1))

  pub broken_drops : (log : BrokenBody) → IsDropped log.file log.gate log.next old new result
      → ((h : Header) (payloads : List (List ℕ)) → IsBrokenBody (changes_of log.file old) h payloads log.gate → AfterDrop new h payloads result)
      → (own : ℕ) (h : Header) (payloads : List (List ℕ)) → WayFits own h payloads (changes_of own old) (ways.BrokenBody log frame) → Drops own h payloads old new result
  broken_drops log call after own h payloads fits = drops_at own log.file log.gate log.next h payloads fits.0 call (after h payloads (subst (λ (f : ℕ). IsBrokenBody (changes_of f old) h payloads log.gate) (sym fits.0) fits.1))

-- ---- what stands at the gate

gate_shut : (changes : List Change) (h : Header) (payloads : List (List ℕ)) (gate : ℕ) → IsBrokenBody changes h payloads gate → slice_index (reads changes) gate ≢ open_gate
gate_shut changes h payloads gate broken is =
    broken.closed (sym (ap (λ (l : List ℕ). slice_index l gate) broken.content ∙ get_or_at (segment_bytes h payloads) broken.byte broken.rest 0 gate (sym broken.ends.place)) ∙ is)

-- a gate that was never tried isn't open
pub untried_shut : (file : ℕ) (h : Header) (payloads : List (List ℕ)) (steps : List Step) (way : Way) → is_untried (stage_of way) ≡ true → WayFits file h payloads (changes_of file steps) way → slice_index (content_of file steps) (gate_of way) ≢ open_gate
untried_shut file h payloads steps (ways.Resting log) untried fits = absurd (cc untried)
untried_shut file h payloads steps (ways.Bodied log frame) untried fits = gate_shut (changes_of file steps) h payloads log.gate (bodied_broken h payloads (spell_frame (entries_of frame)) log.gate log.next (changes_of file steps) fits.1)
untried_shut file h payloads steps (ways.Synced log frame) untried fits = gate_shut (changes_of file steps) h payloads log.gate (synced_untried h payloads (spell_frame (entries_of frame)) log.gate log.next (changes_of file steps) fits.1)
untried_shut file h payloads steps (ways.Gated log frame) untried fits = absurd (cc untried)
untried_shut file h payloads steps (ways.Safe log frame) untried fits = absurd (cc untried)
untried_shut file h payloads steps (ways.BrokenBody log frame) untried fits = gate_shut (changes_of file steps) h payloads log.gate fits.1
untried_shut file h payloads steps (ways.BrokenGate log frame) untried fits = absurd (cc untried)
untried_shut file h payloads steps ways.Away untried fits = absurd fits

-- ---- how the log stands behind it

module _ (MayFollow : List Settled → List Said → ℕ → List Entry → Type 0) (MaySay : List Settled → List Said → Said → List ℕ → Type 0) (o : Origin) where
  -- the log rests without the frame
  pub rests_dropped : (p : ℕ) (trail : List Settled) (steps old : List Step) (way : Way) (log : Resting) (fits : LogFits (o.logs p) (of_part p trail) (changes_of (o.logs p).file old) way)
      → log.file ≡ (o.logs p).file → AfterDrop steps (o.logs p).header fits.payloads (Ok log) → LogFits (o.logs p) (of_part p trail) (changes_of (o.logs p).file steps) (ways.Resting log)
  rests_dropped p trail steps old way log fits place after = record {
    payloads = fits.payloads;
    kept = fits.kept;
    next = tt;
    fits = (place, subst (λ (f : ℕ). IsResting (changes_of f steps) (o.logs p).header fits.payloads log.gate) place after);
  }

  -- or it failed
  pub breaks_still : (p : ℕ) (trail : List Settled) (steps old : List Step) (way : Way) (frame : List rows.Entry) (log : BrokenBody) (fits : LogFits (o.logs p) (of_part p trail) (changes_of (o.logs p).file old) way)
      → going_in way ≡ Some (entries_of frame) → log.file ≡ (o.logs p).file → AfterDrop steps (o.logs p).header fits.payloads (Err log)
      → LogFits (o.logs p) (of_part p trail) (changes_of (o.logs p).file steps) (ways.BrokenBody log frame)
  breaks_still p trail steps old way frame log fits going place after =
      fits_on MayFollow MaySay o p trail old steps way (ways.BrokenBody log frame) fits (sym going)
      (place, subst (λ (f : ℕ). IsBrokenBody (changes_of f steps) (o.logs p).header fits.payloads log.gate) place after)
