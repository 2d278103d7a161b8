-- What opening a log again leaves.
use Rattle.std.proofs.Common.{◌≡◌, ◌==◌, inl, inr, ℕ, Bool, true, false, not, MatchBool, List, [], ◌∷◌, ◌++◌, Result, Some, Ok, Err, refl, sym, ◌∙◌, ap, subst}
use Rattle.std.specs.Prelude.{◌↔◌, IfOk, IfErr, slice_index}
use Rattle.std.proofs.lemmas.Bool.{eqb-true, eq-eqb}
use Rattle.site_model.specs.History.{Change, synced, Step, on, changes_of, content_of, Leaves}
use Rattle.site_model.specs.Calls.{Syncs}
use Rattle.site_model.specs.Moments.{Always, LeavesOnly}
use Rattle.site_model.proofs.Paths.{last, only_here, own_change}
use Rattle.commit_log.specs.declared.header.Header.{Header}
use Rattle.commit_log.specs.declared.states.Gated.{Gated}
use Rattle.commit_log.specs.declared.states.BrokenGate.{BrokenGate}
use Rattle.commit_log.specs.declared.states.Reopened.{Reopened}
use Rattle.commit_log.specs.Outcomes.{RestsAs, AfterReopen}
use Rattle.commit_log.specs.Segment.{open_gate}
use Rattle.commit_log.specs.States.{IsResting, IsBrokenGate, IsGated}
use Rattle.dura_value.specs.Items.{Entry}
use Rattle.log_items.specs.declared.frames.Entry as rows
use Rattle.log_items.specs.Plain.{entries_of}
use Rattle.part_items.specs.Spelling.{spell_frame}
use Rattle.hub_store.specs.declared.reopen.Reopening.TheVariants as answers
use Rattle.hub_store.specs.declared.way.Way.{Way}
use Rattle.hub_store.specs.declared.way.Way.TheVariants as ways
use Rattle.hub_store.specs.Moments.{before_syncs, LeavesLog}
use Rattle.hub_store.specs.Origin.{Origin}
use Rattle.hub_store.specs.OpenedAgain.{Reopens}
use Rattle.hub_store.specs.Trail.{Settled, Said, of_part}
use Rattle.hub_store.specs.Ways.{LogFits, WayFits, going_in}
use Rattle.hub_store.proofs.Calls.{fits_on}
use Rattle.hub_store.proofs.Standing.{OnLog, one_step}

-- ---- by the stage that the frame had come to

ok_file : (result : Result Reopened BrokenGate) (file gate next : ℕ) → IfOk result (λ found. (found.log.file ≡ file) × MatchBool found.settled (found.log.gate ≡ next) (found.log.gate ≡ gate)) → IfOk result (λ found. found.log.file ≡ file)
ok_file (Ok found) file gate next place = place.0
ok_file (Err log) file gate next place = tt

err_file : (result : Result Reopened BrokenGate) (file gate next : ℕ) → IfErr result (λ log. (log.file ≡ file) × (log.gate ≡ gate) × (log.next ≡ next)) → IfErr result (λ log. log.file ≡ file)
err_file (Ok found) file gate next place = tt
err_file (Err log) file gate next place = place.0

-- how a log was opened again, whose gates are these
pub record IsOpened (file gate next : ℕ) (old new : List Step) (result : Result Reopened BrokenGate) : Type 0 where
  pub syncs : Syncs file old new result
  pub during : LeavesOnly file old new (Leaves (changes_of file old))
  pub place : IfOk result (λ found. (found.log.file ≡ file) × MatchBool found.settled (found.log.gate ≡ next) (found.log.gate ≡ gate))
  pub broken : IfErr result (λ log. (log.file ≡ file) × (log.gate ≡ gate) × (log.next ≡ next))
  pub opened : IfOk result (λ found. found.settled ≡ (slice_index (content_of file old) gate == open_gate))

module _ (frame : List rows.Entry) (old new : List Step) (result : Result Reopened BrokenGate) where
  reopens_at : (own file gate next : ℕ) (h : Header) (payloads : List (List ℕ)) → file ≡ own → IsOpened file gate next old new result → AfterReopen new h payloads (spell_frame (entries_of frame)) result
      → Reopens own h payloads (spell_frame (entries_of frame)) gate old new result
  reopens_at own file gate next h payloads same call after = subst (λ (f : ℕ). Reopens f h payloads (spell_frame (entries_of frame)) gate old new result) same (record {
    syncs = call.syncs;
    during = call.during;
    after = after;
    file_is = ok_file result file gate next call.place;
    broken_is = err_file result file gate next call.broken;
    opened = call.opened;
  })

  pub gated_reopens : (log : Gated) → IsOpened log.file log.gate log.next old new result
      → ((h : Header) (payloads : List (List ℕ)) (payload : List ℕ) → IsGated (changes_of log.file old) h payloads payload log.gate log.next → AfterReopen new h payloads payload result)
      → (own : ℕ) (h : Header) (payloads : List (List ℕ)) → WayFits own h payloads (changes_of own old) (ways.Gated log frame) → Reopens own h payloads (spell_frame (entries_of frame)) log.gate old new result
  gated_reopens log call after own h payloads fits =
      let payload = spell_frame (entries_of frame) in
      reopens_at own log.file log.gate log.next h payloads fits.0 call (after h payloads payload (subst (λ (f : ℕ). IsGated (changes_of f old) h payloads payload log.gate log.next) (sym fits.0) fits.1))

  pub safe_reopens : (log : Gated) → IsOpened log.file log.gate log.next old new result
      → ((h : Header) (payloads : List (List ℕ)) (payload : List ℕ) → IsGated (changes_of log.file old) h payloads payload log.gate log.next → AfterReopen new h payloads payload result)
      → (own : ℕ) (h : Header) (payloads : List (List ℕ)) → WayFits own h payloads (changes_of own old) (ways.Safe log frame) → Reopens own h payloads (spell_frame (entries_of frame)) log.gate old new result
  safe_reopens log call after own h payloads fits =
      let payload = spell_frame (entries_of frame) in
      reopens_at own log.file log.gate log.next h payloads fits.0 call (after h payloads payload (subst (λ (f : ℕ). IsGated (changes_of f old) h payloads payload log.gate log.next) (sym fits.0) fits.1.opened))

  pub broken_reopens : (log : BrokenGate) → IsOpened log.file log.gate log.next old new result
      → ((h : Header) (payloads : List (List ℕ)) (payload : List ℕ) → IsBrokenGate (changes_of log.file old) h payloads payload log.gate log.next → AfterReopen new h payloads payload result)
      → (own : ℕ) (h : Header) (payloads : List (List ℕ)) → WayFits own h payloads (changes_of own old) (ways.BrokenGate log frame) → Reopens own h payloads (spell_frame (entries_of frame)) log.gate old new result
  broken_reopens log call after own h payloads fits =
      let payload = spell_frame (entries_of frame) in
      reopens_at own log.file log.gate log.next h payloads fits.0 call (after h payloads payload (subst (λ (f : ℕ). IsBrokenGate (changes_of f old) h payloads payload log.gate log.next) (sym fits.0) fits.1))

pub not_false : (b : Bool) → not b ≡ false → b ≡ true
not_false true is = refl
not_false false is = absurd (cc is)

-- it is settled just where the byte reads open
module _ (file gate other : ℕ) (old : List Step) (settled : Bool) (same : gate ≡ other) (is : settled ≡ (slice_index (content_of file old) gate == open_gate)) where
  there : settled ≡ (slice_index (content_of file old) other == open_gate)
  there = subst (λ (n : ℕ). settled ≡ (slice_index (content_of file old) n == open_gate)) same is

  pub settled_just : settled ≡ true → (answers.Settled ≡ answers.Settled) ↔ (slice_index (content_of file old) other ≡ open_gate)
  settled_just stands = (λ same. eqb-true (slice_index (content_of file old) other) open_gate (sym there ∙ stands), λ reads. refl)

  pub dropped_just : settled ≡ false → (answers.Dropped ≡ answers.Settled) ↔ (slice_index (content_of file old) other ≡ open_gate)
  dropped_just falls = (
    λ same. absurd (cc same),
    λ reads.
        let both : false ≡ true = sym falls ∙ there ∙ eq-eqb (slice_index (content_of file old) other) open_gate reads in
        absurd (cc both),
  )

-- ---- the path, and how the log stands behind it

module _ (MayFollow : List Settled → List Said → ℕ → List Entry → Type 0) (MaySay : List Settled → List Said → Said → List ℕ → Type 0) (o : Origin) where
  -- what a crash might leave it may leave behind one more sync
  still_leaves : (p : ℕ) (trail : List Settled) (told : List Said) (before now : List Change) (image : List ℕ) → before_syncs now ≡ before_syncs before
      → LeavesLog MayFollow MaySay (o.logs p) p trail told before image → LeavesLog MayFollow MaySay (o.logs p) p trail told now image
  still_leaves p trail told before now image same (inl keeps) = inl keeps
  still_leaves p trail told before now image same (inr next) = inr (record {
    going = next.going;
    follows = next.follows;
    gate = record { gate = next.gate.gate; bytes = next.gate.bytes; before = next.gate.before; last = same ∙ next.gate.last; kept = next.gate.kept };
    keeps = next.keeps;
  })

  -- no crash leaves what none left before
  pub reopen_path : {T E : Type 0} (p : ℕ) (trail : List Settled) (told : List Said) (old new : List Step) (result : Result T E) → Syncs (o.logs p).file old new result
      → LeavesOnly (o.logs p).file old new (Leaves (changes_of (o.logs p).file old))
      → ((image : List ℕ) → Leaves (changes_of (o.logs p).file old) image → LeavesLog MayFollow MaySay (o.logs p) p trail told (changes_of (o.logs p).file old) image)
      → Always (OnLog MayFollow MaySay o p trail told old) old new
  reopen_path {T} {E} p trail told old new result syncs during leaves =
      let file = (o.logs p).file in
      one_step old new (on file synced) syncs.either
      (record { only = only_here file old; images = leaves })
      (λ is. record {
        only = (last during).only;
        images = λ image left.
            still_leaves p trail told (changes_of file old) (changes_of file new) image
            (ap (λ (steps : List Step). before_syncs (changes_of file steps)) is ∙ ap before_syncs (own_change file synced old))
            (leaves image ((last during).images image left));
      })

  -- the log rests with the frame
  pub rests_with : (steps : List Step) (file : ℕ) (h : Header) (payloads : List (List ℕ)) (payload : List ℕ) (found : Reopened) → found.settled ≡ true → found.log.file ≡ file → AfterReopen steps h payloads payload (Ok found)
      → IsResting (changes_of file steps) h (payloads ++ payload ∷ []) found.log.gate
  rests_with steps file h payloads payload found settled place after =
      subst (λ (f : ℕ). IsResting (changes_of f steps) h (payloads ++ payload ∷ []) found.log.gate) place
      (subst (λ (b : Bool). MatchBool b (RestsAs steps h (payloads ++ payload ∷ []) found.log) (RestsAs steps h payloads found.log)) settled after)

  -- or without it
  pub rests_without : (p : ℕ) (trail : List Settled) (steps old : List Step) (way : Way) (payload : List ℕ) (found : Reopened) (fits : LogFits (o.logs p) (of_part p trail) (changes_of (o.logs p).file old) way)
      → found.settled ≡ false → found.log.file ≡ (o.logs p).file → AfterReopen steps (o.logs p).header fits.payloads payload (Ok found)
      → LogFits (o.logs p) (of_part p trail) (changes_of (o.logs p).file steps) (ways.Resting found.log)
  rests_without p trail steps old way payload found fits settled place after =
      let h = (o.logs p).header in
      record {
        payloads = fits.payloads;
        kept = fits.kept;
        next = tt;
        fits = (
          place,
          subst (λ (f : ℕ). IsResting (changes_of f steps) h fits.payloads found.log.gate) place
              (subst (λ (b : Bool). MatchBool b (RestsAs steps h (fits.payloads ++ payload ∷ []) found.log) (RestsAs steps h fits.payloads found.log)) settled after),
        );
      }

  -- or it failed
  pub breaks_again : (p : ℕ) (trail : List Settled) (steps old : List Step) (way : Way) (frame : List rows.Entry) (log : BrokenGate) (fits : LogFits (o.logs p) (of_part p trail) (changes_of (o.logs p).file old) way)
      → going_in way ≡ Some (entries_of frame) → log.file ≡ (o.logs p).file → AfterReopen steps (o.logs p).header fits.payloads (spell_frame (entries_of frame)) (Err log)
      → LogFits (o.logs p) (of_part p trail) (changes_of (o.logs p).file steps) (ways.BrokenGate log frame)
  breaks_again p trail steps old way frame log fits going place after =
      fits_on MayFollow MaySay o p trail old steps way (ways.BrokenGate log frame) fits (sym going)
      (place, subst (λ (f : ℕ). IsBrokenGate (changes_of f steps) (o.logs p).header fits.payloads (spell_frame (entries_of frame)) log.gate log.next) place after)
