-- What each device call leaves of the log that it is made on.
use Rattle.std.proofs.Common.{◌≡◌, ◌⊎◌, inl, inr, ℕ, List, [], ◌∷◌, ◌++◌, Result, Some, None, Ok, refl, sym, ◌∙◌, ap, subst, append_assoc}
use Rattle.site_model.specs.History.{Change, wrote, synced, Step, on, changes_of, reads}
use Rattle.site_model.specs.Calls.{Syncs}
use Rattle.site_model.specs.Moments.{Always, ImageKeeps, LeavesOnly}
use Rattle.site_model.proofs.Paths.{first, last, weaker, only_here, own_change}
use Rattle.commit_log.specs.declared.header.Header.{Header}
use Rattle.commit_log.specs.declared.states.Bodied.{Bodied}
use Rattle.commit_log.specs.declared.states.Synced.{Synced}
use Rattle.commit_log.specs.declared.states.Gated.{Gated}
use Rattle.commit_log.specs.declared.states.Resting.{Resting}
use Rattle.commit_log.specs.declared.states.BrokenGate.{BrokenGate}
use Rattle.commit_log.specs.Outcomes.{RestsAs, GateBreaksAs}
use Rattle.commit_log.specs.Segment.{first_gate}
use Rattle.commit_log.specs.States.{Rests, IsResting, IsBrokenGate, IsBodied, IsSynced, IsSyncedThere, IsGated, HasFrames, HasFramesOrOneMore}
use Rattle.commit_log.proofs.Steps.{synced_images}
use Rattle.dura_value.specs.Items.{Entry}
use Rattle.log_items.specs.declared.frames.Entry as rows
use Rattle.log_items.specs.Plain.{entries_of}
use Rattle.part_items.specs.Numbered.{behind_all, next_frame_in}
use Rattle.part_items.specs.Spelling.{spell_frame}
use Rattle.part_items.specs.Kept.{first_of, decoded}
use Rattle.hub_store.specs.declared.way.Way.{Way}
use Rattle.hub_store.specs.declared.way.Way.TheVariants as ways
use Rattle.hub_store.specs.Moments.{before_syncs, WroteGate}
use Rattle.hub_store.specs.Origin.{Origin}
use Rattle.hub_store.specs.Trail.{Settled, Said, of_part}
use Rattle.hub_store.specs.Ways.{LogFits, WayFits, WayGoesOn, going_in}
use Rattle.hub_store.proofs.Payloads.{kept_payloads, decoded_more, synced_reads}
use Rattle.hub_store.proofs.Standing.{OnLog, one_step}

-- a frame stands there, safe behind its gate
pub synced_there : (o : Origin) (p : ℕ) (log : Synced) (frame : List rows.Entry) (trail : List Settled) (steps : List Step) → LogFits (o.logs p) (of_part p trail) (changes_of (o.logs p).file steps) (ways.Synced log frame)
    → IsSyncedThere (changes_of log.file steps) log.gate log.next
synced_there o p log frame trail steps fits = (
  (o.logs p).header,
  fits.payloads,
  spell_frame (entries_of frame),
  subst (λ (f : ℕ). IsSynced (changes_of f steps) (o.logs p).header fits.payloads (spell_frame (entries_of frame)) log.gate log.next) (sym fits.fits.0) fits.fits.1,
)

-- a log rests there
pub resting_there : (o : Origin) (p : ℕ) (log : Resting) (trail : List Settled) (steps : List Step) → LogFits (o.logs p) (of_part p trail) (changes_of (o.logs p).file steps) (ways.Resting log)
    → Rests (changes_of log.file steps) log.gate
resting_there o p log trail steps fits = (
  (o.logs p).header,
  fits.payloads,
  subst (λ (f : ℕ). IsResting (changes_of f steps) (o.logs p).header fits.payloads log.gate) (sym fits.fits.0) fits.fits.1,
)

module _ (MayFollow : List Settled → List Said → ℕ → List Entry → Type 0) (MaySay : List Settled → List Said → Said → List ℕ → Type 0) (o : Origin) where
  -- the frames are as they were
  without : (p : ℕ) (trail : List Settled) (told : List Said) (old steps : List Step) (payloads : List (List ℕ)) (gate : ℕ)
      → decoded first_gate (first_of (o.logs p).header) payloads ≡ Ok ((o.logs p).entries ++ of_part p trail)
      → ImageKeeps (o.logs p).file old (HasFrames (o.logs p).header payloads gate) steps → OnLog MayFollow MaySay o p trail told old steps
  without p trail told old steps payloads gate kept keeps = record {
    only = keeps.only;
    images = λ image left. inl (gate, kept_payloads (o.logs p).header payloads gate ((o.logs p).entries ++ of_part p trail) image (keeps.images image left) kept);
  }

  -- or there is one more, whose gate was written
  pub either_frames : (p : ℕ) (trail : List Settled) (told : List Said) (going : List Entry) (old steps : List Step) (payloads : List (List ℕ)) (gate next : ℕ)
      → decoded first_gate (first_of (o.logs p).header) payloads ≡ Ok ((o.logs p).entries ++ of_part p trail)
      → decoded first_gate (first_of (o.logs p).header) (payloads ++ spell_frame going ∷ []) ≡ Ok ((o.logs p).entries ++ of_part p trail ++ going)
      → MayFollow trail told p going → WroteGate (o.logs p) (of_part p trail) (changes_of (o.logs p).file steps)
      → ImageKeeps (o.logs p).file old (HasFramesOrOneMore (o.logs p).header payloads (spell_frame going) gate next) steps → OnLog MayFollow MaySay o p trail told old steps
  either_frames p trail told going old steps payloads gate next kept more follows written keeps = record {
    only = keeps.only;
    images = λ image left. elim (keeps.images image left) [
      | inl has ↦ inl (gate, kept_payloads (o.logs p).header payloads gate ((o.logs p).entries ++ of_part p trail) image has kept)
      | inr has ↦
          inr (record {
            going = going;
            follows = follows;
            gate = written;
            keeps = (
              next,
              kept_payloads (o.logs p).header (payloads ++ spell_frame going ∷ []) next ((o.logs p).entries ++ (of_part p trail ++ going)) image has
                  (more ∙ ap (λ (l : List Entry). Ok l) (append_assoc (o.logs p).entries (of_part p trail) going)),
            );
          })
    ];
  }

  -- how the log stands behind a call that settles nothing
  pub fits_on : (p : ℕ) (trail : List Settled) (old new : List Step) (before way : Way) (fits : LogFits (o.logs p) (of_part p trail) (changes_of (o.logs p).file old) before)
      → going_in way ≡ going_in before → WayFits (o.logs p).file (o.logs p).header fits.payloads (changes_of (o.logs p).file new) way
      → LogFits (o.logs p) (of_part p trail) (changes_of (o.logs p).file new) way
  fits_on p trail old new before way fits going stands = record {
    payloads = fits.payloads;
    kept = fits.kept;
    next = subst (WayGoesOn (o.logs p).header fits.payloads ((o.logs p).entries ++ of_part p trail)) (sym going) fits.next;
    fits = stands;
  }

  -- the sync behind a frame
  pub sync_goes : (p : ℕ) (log : Bodied) (frame : List rows.Entry) (trail : List Settled) (told : List Said) (old new : List Step) (way : Way)
      → ((h : Header) (payloads : List (List ℕ)) (payload : List ℕ) → IsBodied (changes_of log.file old) h payloads payload log.gate log.next → LeavesOnly log.file old new (HasFrames h payloads log.gate))
      → ((h : Header) (payloads : List (List ℕ)) → IsBodied (changes_of log.file old) h payloads (spell_frame (entries_of frame)) log.gate log.next → WayFits log.file h payloads (changes_of log.file new) way)
      → going_in way ≡ Some (entries_of frame) → LogFits (o.logs p) (of_part p trail) (changes_of (o.logs p).file old) (ways.Bodied log frame)
      → Always (OnLog MayFollow MaySay o p trail told old) old new × LogFits (o.logs p) (of_part p trail) (changes_of (o.logs p).file new) way
  sync_goes p log frame trail told old new way during after going fits =
      let h = (o.logs p).header in
      let payload = spell_frame (entries_of frame) in
      let path : LeavesOnly (o.logs p).file old new (HasFrames h fits.payloads log.gate) =
      subst (λ (f : ℕ). IsBodied (changes_of f old) h fits.payloads payload log.gate log.next → LeavesOnly f old new (HasFrames h fits.payloads log.gate)) fits.fits.0 (during h fits.payloads payload) fits.fits.1 in
      let stands : WayFits (o.logs p).file h fits.payloads (changes_of (o.logs p).file new) way =
      subst (λ (f : ℕ). IsBodied (changes_of f old) h fits.payloads payload log.gate log.next → WayFits f h fits.payloads (changes_of f new) way) fits.fits.0 (after h fits.payloads) fits.fits.1 in (
        weaker (λ steps keeps. without p trail told old steps fits.payloads log.gate fits.kept keeps) path,
        fits_on p trail old new (ways.Bodied log frame) way fits going stands,
      )

  -- the write of the gate
  pub gate_goes : (p : ℕ) (log : Synced) (frame : List rows.Entry) (trail : List Settled) (told : List Said) (old new : List Step) (way : Way) (bytes : List ℕ)
      → ((new ≡ on log.file (wrote log.gate 1 bytes) ∷ old) ⊎ (new ≡ old))
      → ((h : Header) (payloads : List (List ℕ)) (payload : List ℕ) → IsSynced (changes_of log.file old) h payloads payload log.gate log.next → LeavesOnly log.file old new (HasFramesOrOneMore h payloads payload log.gate log.next))
      → ((h : Header) (payloads : List (List ℕ)) → IsSynced (changes_of log.file old) h payloads (spell_frame (entries_of frame)) log.gate log.next → WayFits log.file h payloads (changes_of log.file new) way)
      → going_in way ≡ Some (entries_of frame) → MayFollow trail told p (entries_of frame) → LogFits (o.logs p) (of_part p trail) (changes_of (o.logs p).file old) (ways.Synced log frame)
      → Always (OnLog MayFollow MaySay o p trail told old) old new × LogFits (o.logs p) (of_part p trail) (changes_of (o.logs p).file new) way
  gate_goes p log frame trail told old new way bytes step during after going follows fits =
      let file = (o.logs p).file in
      let h = (o.logs p).header in
      let payload = spell_frame (entries_of frame) in
      let path : LeavesOnly file old new (HasFramesOrOneMore h fits.payloads payload log.gate log.next) =
      subst (λ (f : ℕ). IsSynced (changes_of f old) h fits.payloads payload log.gate log.next → LeavesOnly f old new (HasFramesOrOneMore h fits.payloads payload log.gate log.next)) fits.fits.0 (during h fits.payloads payload) fits.fits.1 in
      let stands : WayFits file h fits.payloads (changes_of file new) way =
      subst (λ (f : ℕ). IsSynced (changes_of f old) h fits.payloads payload log.gate log.next → WayFits f h fits.payloads (changes_of f new) way) fits.fits.0 (after h fits.payloads) fits.fits.1 in
      let write = subst (λ (f : ℕ). (new ≡ on f (wrote log.gate 1 bytes) ∷ old) ⊎ (new ≡ old)) fits.fits.0 step in
      let here : ImageKeeps file old (HasFrames h fits.payloads log.gate) old = record { only = only_here file old; images = synced_images h fits.payloads payload log.gate log.next (changes_of file old) fits.fits.1 } in (
        one_step old new (on file (wrote log.gate 1 bytes)) write
            (without p trail told old old fits.payloads log.gate fits.kept here)
            (λ is. either_frames p trail told (entries_of frame) old new fits.payloads log.gate log.next fits.kept fits.next follows
            (record {
              gate = log.gate;
              bytes = bytes;
              before = changes_of file old;
              last = ap (λ (steps : List Step). before_syncs (changes_of file steps)) is ∙ ap before_syncs (own_change file (wrote log.gate 1 bytes) old);
              kept = kept_payloads h fits.payloads log.gate ((o.logs p).entries ++ of_part p trail) (reads (changes_of file old)) (synced_reads h fits.payloads payload log.gate log.next (changes_of file old) fits.fits.1) fits.kept;
            }) (last path)),
        fits_on p trail old new (ways.Synced log frame) way fits going stands,
      )

  -- the sync behind the gate
  pub settle_path : {T E : Type 0} (p : ℕ) (log : Gated) (frame : List rows.Entry) (trail : List Settled) (told : List Said) (old new : List Step) (result : Result T E)
      → Syncs log.file old new result
      → ((h : Header) (payloads : List (List ℕ)) (payload : List ℕ) → IsGated (changes_of log.file old) h payloads payload log.gate log.next → LeavesOnly log.file old new (HasFramesOrOneMore h payloads payload log.gate log.next))
      → MayFollow trail told p (entries_of frame) → LogFits (o.logs p) (of_part p trail) (changes_of (o.logs p).file old) (ways.Gated log frame)
      → Always (OnLog MayFollow MaySay o p trail told old) old new
  settle_path {T} {E} p log frame trail told old new result syncs during follows fits =
      let file = (o.logs p).file in
      let h = (o.logs p).header in
      let payload = spell_frame (entries_of frame) in
      let path : LeavesOnly file old new (HasFramesOrOneMore h fits.payloads payload log.gate log.next) =
      subst (λ (f : ℕ). IsGated (changes_of f old) h fits.payloads payload log.gate log.next → LeavesOnly f old new (HasFramesOrOneMore h fits.payloads payload log.gate log.next)) fits.fits.0 (during h fits.payloads payload) fits.fits.1 in
      let sync : Syncs file old new result = subst (λ (f : ℕ). Syncs f old new result) fits.fits.0 syncs in
      let wrote_is = fits.fits.2 in
      let kept_before = kept_payloads h fits.payloads log.gate ((o.logs p).entries ++ of_part p trail) (reads wrote_is.1) wrote_is.3 fits.kept in
      let wrote_it : (changes : List Change) → before_syncs changes ≡ wrote log.gate 1 wrote_is.0 ∷ wrote_is.1 → WroteGate (o.logs p) (of_part p trail) changes =
      λ changes is. record { gate = log.gate; bytes = wrote_is.0; before = wrote_is.1; last = is; kept = kept_before } in
      one_step old new (on file synced) sync.either
      (either_frames p trail told (entries_of frame) old old fits.payloads log.gate log.next fits.kept fits.next follows (wrote_it (changes_of file old) (ap before_syncs wrote_is.2)) (first path))
      (λ is. either_frames p trail told (entries_of frame) old new fits.payloads log.gate log.next fits.kept fits.next follows
      (wrote_it (changes_of file new) (ap (λ (steps : List Step). before_syncs (changes_of file steps)) is ∙ ap before_syncs (own_change file synced old ∙ ap (λ (changes : List Change). synced ∷ changes) wrote_is.2))) (last path))

  -- behind it the log rests with the new frame
  pub settle_rests : (p : ℕ) (log : Gated) (frame : List rows.Entry) (trail : List Settled) (old new : List Step) (now : Resting) → now.file ≡ log.file
      → ((h : Header) (payloads : List (List ℕ)) (payload : List ℕ) → IsGated (changes_of log.file old) h payloads payload log.gate log.next → RestsAs new h (payloads ++ payload ∷ []) now)
      → (fits : LogFits (o.logs p) (of_part p trail) (changes_of (o.logs p).file old) (ways.Gated log frame))
      → (now.file ≡ (o.logs p).file) × IsResting (changes_of (o.logs p).file new) (o.logs p).header (fits.payloads ++ spell_frame (entries_of frame) ∷ []) now.gate
  settle_rests p log frame trail old new now same after fits =
      let h = (o.logs p).header in
      let payload = spell_frame (entries_of frame) in
      let is : now.file ≡ (o.logs p).file = same ∙ fits.fits.0 in (
        is,
        subst (λ (f : ℕ). IsResting (changes_of f new) h (fits.payloads ++ payload ∷ []) now.gate) is
            (after h fits.payloads payload (subst (λ (f : ℕ). IsGated (changes_of f old) h fits.payloads payload log.gate log.next) (sym fits.fits.0) fits.fits.1)),
      )

  -- or it failed
  pub settle_breaks : (p : ℕ) (log : Gated) (frame : List rows.Entry) (trail : List Settled) (old new : List Step) (now : BrokenGate) → now.file ≡ log.file
      → ((h : Header) (payloads : List (List ℕ)) (payload : List ℕ) → IsGated (changes_of log.file old) h payloads payload log.gate log.next → GateBreaksAs new h payloads payload now)
      → LogFits (o.logs p) (of_part p trail) (changes_of (o.logs p).file old) (ways.Gated log frame) → LogFits (o.logs p) (of_part p trail) (changes_of (o.logs p).file new) (ways.BrokenGate now frame)
  settle_breaks p log frame trail old new now same after fits =
      let h = (o.logs p).header in
      let payload = spell_frame (entries_of frame) in
      let is : now.file ≡ (o.logs p).file = same ∙ fits.fits.0 in
      fits_on p trail old new (ways.Gated log frame) (ways.BrokenGate now frame) fits refl (
        is,
        subst (λ (f : ℕ). IsBrokenGate (changes_of f new) h fits.payloads payload now.gate now.next) is
            (after h fits.payloads payload (subst (λ (f : ℕ). IsGated (changes_of f old) h fits.payloads payload log.gate log.next) (sym fits.fits.0) fits.fits.1)),
      )

  -- a frame is written, or nothing happened
  pub body_goes : (p : ℕ) (log : Resting) (frame : List rows.Entry) (trail : List Settled) (told : List Said) (old new : List Step) (way : Way)
      → ((h : Header) (payloads : List (List ℕ)) → IsResting (changes_of log.file old) h payloads log.gate → LeavesOnly log.file old new (HasFrames h payloads log.gate))
      → ((h : Header) (payloads : List (List ℕ)) → IsResting (changes_of log.file old) h payloads log.gate → WayFits log.file h payloads (changes_of log.file new) way)
      → (going_in way ≡ None) ⊎ (going_in way ≡ Some (entries_of frame))
      → next_frame_in (behind_all (first_of (o.logs p).header) ((o.logs p).entries ++ of_part p trail)) (spell_frame (entries_of frame)) ≡ Ok (entries_of frame)
      → LogFits (o.logs p) (of_part p trail) (changes_of (o.logs p).file old) (ways.Resting log)
      → Always (OnLog MayFollow MaySay o p trail told old) old new × LogFits (o.logs p) (of_part p trail) (changes_of (o.logs p).file new) way
  body_goes p log frame trail told old new way during after going again fits =
      let h = (o.logs p).header in
      let before = (o.logs p).entries ++ of_part p trail in
      let path : LeavesOnly (o.logs p).file old new (HasFrames h fits.payloads log.gate) =
      subst (λ (f : ℕ). IsResting (changes_of f old) h fits.payloads log.gate → LeavesOnly f old new (HasFrames h fits.payloads log.gate)) fits.fits.0 (during h fits.payloads) fits.fits.1 in
      let stands : WayFits (o.logs p).file h fits.payloads (changes_of (o.logs p).file new) way =
      subst (λ (f : ℕ). IsResting (changes_of f old) h fits.payloads log.gate → WayFits f h fits.payloads (changes_of f new) way) fits.fits.0 (after h fits.payloads) fits.fits.1 in (
        weaker (λ steps kept. without p trail told old steps fits.payloads log.gate fits.kept kept) path,
        record {
          payloads = fits.payloads;
          kept = fits.kept;
          next = elim going [
            | inl none ↦ subst (WayGoesOn h fits.payloads before) (sym none) tt
            | inr some ↦ subst (WayGoesOn h fits.payloads before) (sym some) (decoded_more first_gate (first_of h) fits.payloads before (entries_of frame) (spell_frame (entries_of frame)) fits.kept again)
          ];
          fits = stands;
        },
      )
