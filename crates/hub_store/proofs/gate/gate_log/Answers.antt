use Rattle.hub_store.proofs.Bodies.{reach_is}
use Rattle.std.proofs.Common.{◌≡◌, ℕ, [], ◌∷◌, ◌∙◌, sym, ap, subst, refl}
use Rattle.site_model.specs.History.{wrote, reads, changes_of}
use Rattle.site_model.proofs.Paths.{own_change}
use Rattle.commit_log.specs.Segment.{open_gate, segment, reading_of}
use Rattle.commit_log.specs.States.{IsGated, IsBrokenGate}
use Rattle.log_items.specs.Plain.{entries_of}
use Rattle.part_items.specs.Spelling.{spell_frame}
use Rattle.hub_store.proofs.Payloads.{synced_reads}
use Rattle.hub_store.proofs.gate.gate_log.Goals as goal

pub returns-in-Ok-clause-step : goal.returns-in-Ok-clause-step
returns-in-Ok-clause-step g c = (c.gate.ensures.writes.now, c.gate.ensures.writes.either)

pub returns-in-Err-clause-step : goal.returns-in-Err-clause-step
returns-in-Err-clause-step g c = (c.gate.ensures.writes.now, c.gate.ensures.writes.either)

pub returns-in-Ok-clause-fits : goal.returns-in-Ok-clause-fits
returns-in-Ok-clause-fits g c h payloads synced =
    let place = c.in-Ok.ensures.place in
    let payload = spell_frame (entries_of c.args.frame) in
    let file = c.args.log.file in
    let old = g.V.Site.history c.args.site.now in
    let new = g.V.Site.history c.gate.new.site in (
      place.0,
      subst (λ (f : ℕ). IsGated (changes_of f new) h payloads payload c.in-Ok.log.gate c.in-Ok.log.next) place.0 (c.in-Ok.ensures.after h payloads payload synced),
      (
        open_gate ∷ [],
        changes_of file old,
        ap (changes_of file) c.in-Ok.ensures.opened ∙ own_change file (wrote c.args.log.gate 1 (open_gate ∷ [])) old
            ∙ ap (λ (gate : ℕ). wrote gate 1 (open_gate ∷ []) ∷ changes_of file old) (sym place.1),
        subst (λ (gate : ℕ). reading_of (reads (changes_of file old)) ≡ segment h payloads gate) (sym place.1) (synced_reads h payloads payload c.args.log.gate c.args.log.next (changes_of file old) synced),
      ),
    )

pub returns-in-Err-clause-fits : goal.returns-in-Err-clause-fits
returns-in-Err-clause-fits g c h payloads synced =
    let place = c.in-Err.ensures.broken in
    let payload = spell_frame (entries_of c.args.frame) in (
      place.0,
      subst (λ (f : ℕ). IsBrokenGate (changes_of f (g.V.Site.history c.gate.new.site)) h payloads payload c.in-Err.log.gate c.in-Err.log.next) place.0
          (c.in-Err.ensures.after h payloads payload synced),
    )

pub returns-in-Ok-clause-tells : goal.returns-in-Ok-clause-tells
returns-in-Ok-clause-tells g c = c.gate.ensures.tells

pub returns-in-Ok-clause-during : goal.returns-in-Ok-clause-during
returns-in-Ok-clause-during g c = c.gate.ensures.during

pub returns-in-Ok-clause-going : goal.returns-in-Ok-clause-going
returns-in-Ok-clause-going g c = refl

pub returns-in-Ok-clause-due : goal.returns-in-Ok-clause-due
returns-in-Ok-clause-due g c = refl

pub returns-in-Ok-clause-ok : goal.returns-in-Ok-clause-ok
returns-in-Ok-clause-ok g c = refl

pub returns-in-Ok-clause-err : goal.returns-in-Ok-clause-err
returns-in-Ok-clause-err g c = tt

pub returns-in-Ok-clause-broken : goal.returns-in-Ok-clause-broken
returns-in-Ok-clause-broken g c = tt

pub returns-in-Ok-clause-cause : goal.returns-in-Ok-clause-cause
returns-in-Ok-clause-cause g c = record { later = c.gate.ensures.cause.later; same = c.in-Ok.ensures.cause.same; risen = tt }

pub returns-in-Ok-clause-say_faults : goal.returns-in-Ok-clause-say_faults
returns-in-Ok-clause-say_faults g c = c.gate.ensures.say_faults

pub returns-in-Err-clause-tells : goal.returns-in-Err-clause-tells
returns-in-Err-clause-tells g c = c.gate.ensures.tells

pub returns-in-Err-clause-during : goal.returns-in-Err-clause-during
returns-in-Err-clause-during g c = c.gate.ensures.during

pub returns-in-Err-clause-going : goal.returns-in-Err-clause-going
returns-in-Err-clause-going g c = refl

pub returns-in-Err-clause-due : goal.returns-in-Err-clause-due
returns-in-Err-clause-due g c = refl

pub returns-in-Err-clause-ok : goal.returns-in-Err-clause-ok
returns-in-Err-clause-ok g c = tt

pub returns-in-Err-clause-err : goal.returns-in-Err-clause-err
returns-in-Err-clause-err g c = refl

pub returns-in-Err-clause-broken : goal.returns-in-Err-clause-broken
returns-in-Err-clause-broken g c = refl

pub returns-in-Err-clause-cause : goal.returns-in-Err-clause-cause
returns-in-Err-clause-cause g c = record { later = c.gate.ensures.cause.later; same = tt; risen = c.in-Err.ensures.cause.risen }

pub returns-in-Err-clause-say_faults : goal.returns-in-Err-clause-say_faults
returns-in-Err-clause-say_faults g c = c.gate.ensures.say_faults

pub returns-in-Ok-clause-reach : goal.returns-in-Ok-clause-reach
returns-in-Ok-clause-reach g c = reach_is c.args.log.gate c.args.log.next c.in-Ok.log.gate c.in-Ok.log.next c.in-Ok.ensures.place.1 c.in-Ok.ensures.place.2

pub returns-in-Err-clause-reach : goal.returns-in-Err-clause-reach
returns-in-Err-clause-reach g c = reach_is c.args.log.gate c.args.log.next c.in-Err.log.gate c.in-Err.log.next c.in-Err.ensures.broken.1 c.in-Err.ensures.broken.2
