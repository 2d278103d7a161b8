-- What settling a frame leaves whose open gate is on the disk already: nothing happens outside.
use Rattle.std.proofs.Common.{◌≡◌, inr, ℕ, List, [], ◌∷◌, ◌++◌, refl, sym, ◌∙◌, ap, subst}
use Rattle.site_model.specs.History.{Change, synced, Step, changes_of, reads}
use Rattle.site_model.specs.Moments.{Always}
use Rattle.site_model.specs.Moments.Always.{begins}
use Rattle.site_model.proofs.Paths.{only_here}
use Rattle.commit_log.specs.declared.header.Header.{Header}
use Rattle.commit_log.specs.declared.states.Gated.{Gated}
use Rattle.commit_log.specs.declared.states.Resting.{Resting}
use Rattle.commit_log.specs.States.{IsResting, IsGated}
use Rattle.commit_log.proofs.Steps.{settled, resting_images}
use Rattle.dura_value.specs.Items.{Entry}
use Rattle.log_items.specs.declared.frames.Entry as rows
use Rattle.log_items.specs.Plain.{entries_of}
use Rattle.part_items.specs.Spelling.{spell_frame}
use Rattle.hub_store.specs.declared.way.Way.TheVariants as ways
use Rattle.hub_store.specs.Moments.{before_syncs}
use Rattle.hub_store.specs.Origin.{Origin}
use Rattle.hub_store.specs.Trail.{Settled, Said, of_part}
use Rattle.hub_store.specs.Ways.{LogFits, IsSafe, JustWrote}
use Rattle.hub_store.proofs.Calls.{either_frames}
use Rattle.hub_store.proofs.Payloads.{kept_payloads}
use Rattle.hub_store.proofs.Standing.{OnLog}

-- an open gate that was just written is safe behind a sync
pub safe_behind : (h : Header) (payloads : List (List ℕ)) (payload : List ℕ) (gate next : ℕ) (changes : List Change) → IsGated changes h payloads payload gate next → JustWrote h payloads gate changes
    → IsSafe (synced ∷ changes) h payloads payload gate next
safe_behind h payloads payload gate next changes gated wrote =
    let rests = settled h payloads payload gate next changes gated in
    record {
      opened = record { ends = gated.ends; ends_after = gated.ends_after; tail = gated.tail; content = gated.content; images = λ image left. (_, rests.kept image left ∙ gated.content) };
      rests = rests;
      before = changes;
      was = refl;
      wrote = wrote;
    }

module _ (MayFollow : List Settled → List Said → ℕ → List Entry → Type 0) (MaySay : List Settled → List Said → Said → List ℕ → Type 0) (o : Origin) where
  -- the frame is one more on each image, and its gate was the last that was written
  pub safe_images : (p : ℕ) (log : Gated) (frame : List rows.Entry) (trail : List Settled) (told : List Said) (now : List Step) → MayFollow trail told p (entries_of frame)
      → LogFits (o.logs p) (of_part p trail) (changes_of (o.logs p).file now) (ways.Safe log frame) → OnLog MayFollow MaySay o p trail told now now
  safe_images p log frame trail told now follows fits =
      let h = (o.logs p).header in
      let payload = spell_frame (entries_of frame) in
      let safe = fits.fits.1 in
      let wrote_is = safe.wrote in
      either_frames MayFollow MaySay o p trail told (entries_of frame) now now fits.payloads log.gate log.next fits.kept fits.next follows
      (record {
        gate = log.gate;
        bytes = wrote_is.0;
        before = wrote_is.1;
        last = ap before_syncs safe.was ∙ ap before_syncs wrote_is.2;
        kept = kept_payloads h fits.payloads log.gate ((o.logs p).entries ++ of_part p trail) (reads wrote_is.1) wrote_is.3 fits.kept;
      })
      (record { only = only_here (o.logs p).file now; images = λ image left. inr (resting_images h (fits.payloads ++ payload ∷ []) log.next (changes_of (o.logs p).file now) safe.rests image left) })

  pub safe_path : (p : ℕ) (log : Gated) (frame : List rows.Entry) (trail : List Settled) (told : List Said) (now : List Step) → MayFollow trail told p (entries_of frame)
      → LogFits (o.logs p) (of_part p trail) (changes_of (o.logs p).file now) (ways.Safe log frame) → Always (OnLog MayFollow MaySay o p trail told now) now now
  safe_path p log frame trail told now follows fits = begins (safe_images p log frame trail told now follows fits)

  -- the log rests behind it
  pub safe_rests : (p : ℕ) (log : Gated) (frame : List rows.Entry) (trail : List Settled) (now : List Step) (rest : Resting) → rest.file ≡ log.file → rest.gate ≡ log.next
      → (fits : LogFits (o.logs p) (of_part p trail) (changes_of (o.logs p).file now) (ways.Safe log frame))
      → (rest.file ≡ (o.logs p).file) × IsResting (changes_of (o.logs p).file now) (o.logs p).header (fits.payloads ++ spell_frame (entries_of frame) ∷ []) rest.gate
  safe_rests p log frame trail now rest same gate fits = (
    same ∙ fits.fits.0,
    subst (IsResting (changes_of (o.logs p).file now) (o.logs p).header (fits.payloads ++ spell_frame (entries_of frame) ∷ [])) (sym gate) fits.fits.1.rests,
  )
