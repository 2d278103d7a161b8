-- What came of an event.
use Rattle.std.proofs.Common.{◌≡◌, ◌≢◌, ◌⊎◌, inl, inr, ◌+◌, ◌-◌, ℕ, Bool, true, false, ◌||◌, not, refl, sym, ◌∙◌, ap, subst, arith}
use Rattle.dura_value.specs.Views.{message_of}
use Rattle.cell_steps.specs.declared.mode.Mode.{Mode}
use Rattle.hub_store.specs.declared.way.Stage.{Stage}
use Rattle.hub_store.specs.declared.way.Stage.TheVariants as stages
use Rattle.many_rules.specs.Rules.{Rules}
use Rattle.world_core.specs.Happens.{HasSubmitted, HasArrived, HasRecorded, HasTrimmed, HasFired, HasTurned, HasWritten, HasSynced, HasGated, HasSettledFrame, HasJudged, HasOwned, HasSaid, EndsLife, Makes, Happens}
use Rattle.world_core.specs.Unmet.{is_bodied, is_synced, names_nothing, has_no_frame, is_outcome, place_ago}
use Rattle.world_core.specs.World.{WorldView}
use Rattle.world_core.specs.declared.answer.Answer.{Answer}
use Rattle.world_core.specs.declared.answer.Answer.TheVariants as answers
use Rattle.world_core.specs.declared.event.Event.{Event}
use Rattle.world_core.specs.declared.event.Event.TheVariants as events

-- the stage of a frame, as a test tells it
bodied_is : (s : Stage) → is_bodied s ≡ true → s ≡ stages.Bodied
bodied_is stages.Bodied is = refl
bodied_is other is = absurd (cc is)

no_bodied : (s : Stage) → s ≢ stages.Bodied → not (is_bodied s) ≡ true
no_bodied stages.Bodied apart = absurd (apart refl)
no_bodied other apart = refl

bodied_there : (s : Stage) → s ≡ stages.Bodied → not (is_bodied s) ≡ false
bodied_there s is = ap (λ (x : Stage). not (is_bodied x)) is

no_synced : (s : Stage) → s ≢ stages.Synced → not (is_synced s) ≡ true
no_synced stages.Synced apart = absurd (apart refl)
no_synced other apart = refl

synced_there : (s : Stage) → s ≡ stages.Synced → not (is_synced s) ≡ false
synced_there s is = ap (λ (x : Stage). not (is_synced x)) is

no_both : {X : Type 0} (b : Bool) → b ≡ true → b ≡ false → X
no_both true yes_is no_is = absurd (cc no_is)
no_both false yes_is no_is = absurd (cc yes_is)

-- ---- Unmet comes just where there is no frame

-- there is none, nothing changed, and the answer is Unmet; or there is one, and it isn't
abbrev Frames : WorldView → Event → Answer → WorldView → Type 0
Frames old event result new = ((has_no_frame old event ≡ true) × (result ≡ answers.Unmet) × (new ≡ old)) ⊎ ((has_no_frame old event ≡ false) × (result ≢ answers.Unmet))

module _ (rules : Rules) (mode : Mode) (old new : WorldView) where
  sync_frames : (p : ℕ) (result : Answer) → HasSynced rules p old new result → Frames old (events.SyncBody p) result new
  sync_frames p answers.Synced is = inr (bodied_there (old.store.stage p) is.0, λ same. cc same)
  sync_frames p answers.SiteFault is = inr (bodied_there (old.store.stage p) is.0, λ same. cc same)
  sync_frames p answers.Unmet is = inl (no_bodied (old.store.stage p) is.0, refl, is.1)
  sync_frames p other is = absurd is

  gate_frames : (p : ℕ) (result : Answer) → HasGated rules p old new result → Frames old (events.Gate p) result new
  gate_frames p answers.Gated is = inr (synced_there (old.store.stage p) is.0, λ same. cc same)
  gate_frames p (answers.Refused why) is = inr (synced_there (old.store.stage p) is.0, λ same. cc same)
  gate_frames p answers.SiteFault is = inr (synced_there (old.store.stage p) is.0, λ same. cc same)
  gate_frames p answers.Unmet is = inl (no_synced (old.store.stage p) is.0, refl, is.1)
  gate_frames p other is = absurd is

  settle_frames : (p : ℕ) (result : Answer) → HasSettledFrame rules mode p old new result → Frames old (events.Settle p) result new
  settle_frames p answers.Settled is = inr (ap not is.0, λ same. cc same)
  settle_frames p answers.SiteFault is = inr (ap not is.0, λ same. cc same)
  settle_frames p answers.Memory is = inr (ap not is.0, λ same. cc same)
  settle_frames p answers.Unmet is = inl (ap not is.0, refl, is.1)
  settle_frames p other is = absurd is

  frames : (event : Event) (result : Answer) → Makes rules mode old event result new → Frames old event result new
  frames (events.Submit message) result is = inr (refl, λ same. subst (HasSubmitted rules (message_of message) old new) same is)
  frames (events.Arrive partition packet) result is = inr (refl, λ same. subst (HasArrived rules partition packet old new) same is)
  frames (events.Turn partition limit) result is = inr (refl, λ same. subst (HasTurned rules mode partition limit old new) same is)
  frames (events.Body partition ago) result is = inr (refl, λ same. subst (HasWritten rules partition (place_ago old.marks ago) old new) same is)
  frames (events.SyncBody partition) result is = sync_frames partition result is
  frames (events.Gate partition) result is = gate_frames partition result is
  frames (events.Settle partition) result is = settle_frames partition result is
  frames (events.Judge partition ago) result is = inr (refl, λ same. subst (HasJudged rules partition (place_ago old.marks ago) old new) same is)
  frames (events.Outcome partition ended) result is = inr (refl, λ same. subst (HasRecorded rules partition ended old new) same is)
  frames (events.Fire partition now) result is = inr (refl, λ same. subst (HasFired rules partition now old new) same is)
  frames (events.Trim partition ago) result is = inr (refl, λ same. subst (HasTrimmed rules partition (place_ago old.marks ago) old new) same is)
  frames (events.Stop node) result is = inr (refl, λ same. let both = sym same ∙ is.0 in cc both)
  frames (events.Own partition node) result is = inr (refl, λ same. subst (HasOwned rules mode partition node old new) same is)
  frames (events.Say name number) result is = inr (refl, λ same. subst (HasSaid rules name number old new) same is)
  frames events.Image result is = inr (refl, λ same. let both = sym same ∙ is.0 in cc both)

  tested : (a b c : Bool) → a ≡ false → b ≡ false → (a || (b || c)) ≡ c
  tested true b c is also = absurd (cc is)
  tested false true c is also = absurd (cc also)
  tested false false c is also = refl

  -- an event that names what is there happens
  pub happened : (nodes : ℕ) (event : Event) (result : Answer) → old.ended ≡ false → names_nothing rules.count nodes old event ≡ false → Makes rules mode old event result new → Happens rules mode nodes old event result new
  happened nodes event result going named is = elim (frames event result is) [
    | inl none ↦ record {
      unmet = λ unmet. inl (none.1, none.2);
      met = λ met. no_both (has_no_frame old event) none.0 (sym (tested old.ended (names_nothing rules.count nodes old event) (has_no_frame old event) going named) ∙ met);
    }
    | inr some ↦ record {
      unmet = λ unmet. no_both (has_no_frame old event) (sym (tested old.ended (names_nothing rules.count nodes old event) (has_no_frame old event) going named) ∙ unmet) some.0;
      met = λ met. (some.1, is);
    }
  ]

  -- memory ran out where an outcome was looked at
  pub unlooked : (nodes : ℕ) (event : Event) (result : Answer) → result ≡ answers.Memory → is_outcome event ≡ true → EndsLife old new → Happens rules mode nodes old event result new
  unlooked nodes (events.Outcome partition ended) result is outcome ends = record {
    unmet = λ unmet. inr (outcome, is, ends);
    met = λ met. (λ same. let both = sym is ∙ same in cc both, subst (HasRecorded rules partition ended old new) (sym is) ends);
  }
  unlooked nodes other result is outcome ends = absurd (cc outcome)

-- an outcome that is brought is one that its activity may give
pub may_there : (outside may_be : Bool) → (outside || not may_be) ≡ false → may_be ≡ true
may_there true b is = absurd (cc is)
may_there false true is = refl
may_there false false is = absurd (cc is)

-- what was known so many changes ago is known by its place
pub ago_place : (all len ago : ℕ) → len ≡ all → len - 1 - ago ≡ all - (ago + 1)
ago_place all len ago same = omega (arith, same)
