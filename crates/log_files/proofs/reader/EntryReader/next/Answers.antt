use Rattle.std.proofs.Common.{◌≡◌, ◌∙◌, Ok, Err, refl, sym, ap, subst, arith}
use Rattle.std.proofs.lemmas.Result.{err_from_is_err_and}
use Rattle.site_model.proofs.Faults.{risen_later}
use Rattle.commit_log.specs.declared.reader.FrameError.TheVariants as unread
use Rattle.log_items.specs.Plain.{entry_of}
use Rattle.log_files.specs.Entries.{Turns, StaysNumbered}
use Rattle.log_files.specs.declared.reader.Turn.{Turn}
use Rattle.log_files.proofs.EntriesTurned.{turns_over, gives_refused, numbered_over}
use Rattle.log_files.proofs.reader.EntryReader.next.Goals as goal

pub steps-init : goal.steps-init
steps-init g c = record {
  told = λ tells. tells;
  unchanged = refl;
  reads = λ tells log done kept has. has;
  same = refl;
  less = omega arith;
  later = omega arith;
  say_faults = refl;
}

pub steps-preserved : goal.steps-preserved
steps-preserved g c =
    let inv = c.steps.invariant in
    let there = subst (λ (turn : Turn). StaysNumbered c.steps.reader (Ok turn)) c.in-On.is c.in_ok-entry.ensures.numbered in
    record {
      told = λ tells. inv.told (c.turn.ensures.tells tells);
      unchanged = c.turn.ensures.unchanged ∙ inv.unchanged;
      reads = λ tells log done kept has.
          subst (λ (turn : Turn). Turns (g.V.Site.history c.args.site.now) log done (Ok turn)) c.in-On.is
          (turns_over (g.V.Site.history c.steps.site) (g.V.Site.history c.args.site.now) log done c.steps.reader (Ok c.in_ok-entry.field-0) inv.unchanged kept (inv.reads (c.turn.ensures.tells tells) log done kept has) (c.in_ok-entry.ensures.turns tells));
      same = there.0 ∙ inv.same;
      less = let one = there.1 in let so_far = inv.less in omega (arith, one, so_far);
      later = let before = inv.later in let now = c.turn.ensures.later in omega (arith, before, now);
      say_faults = c.turn.ensures.say_faults ∙ inv.say_faults;
    }

pub steps-smaller : goal.steps-smaller
steps-smaller g c =
    let there = subst (λ (turn : Turn). StaysNumbered c.steps.reader (Ok turn)) c.in-On.is c.in_ok-entry.ensures.numbered in
    there.1

pub returns-in_err-entry-clause-tells : goal.returns-in_err-entry-clause-tells
returns-in_err-entry-clause-tells g c = λ tells. c.steps.invariant.told (c.turn.ensures.tells tells)

pub returns-in_err-entry-clause-gives : goal.returns-in_err-entry-clause-gives
returns-in_err-entry-clause-gives g c tells log done kept has =
    let inv = c.steps.invariant in
    let p = err_from_is_err_and c.from_residual.result c.from_residual.ensures.1 in
    rw (p.1, p.2) (gives_refused (g.V.Site.history c.args.site.now) log done c.in_err-entry.field-0.0
    (turns_over (g.V.Site.history c.steps.site) (g.V.Site.history c.args.site.now) log done c.steps.reader (Err c.in_err-entry.field-0.0) inv.unchanged kept (inv.reads (c.turn.ensures.tells tells) log done kept has) (c.in_err-entry.ensures.turns tells)))

pub returns-in_err-entry-clause-unchanged : goal.returns-in_err-entry-clause-unchanged
returns-in_err-entry-clause-unchanged g c = c.turn.ensures.unchanged ∙ c.steps.invariant.unchanged

pub returns-in_err-entry-clause-fault : goal.returns-in_err-entry-clause-fault
returns-in_err-entry-clause-fault g c is =
    let p = err_from_is_err_and c.from_residual.result c.from_residual.ensures.1 in
    let y : Err p.0 ≡ Err unread.SiteFault = sym p.1 ∙ is in
    let fault : c.in_err-entry.field-0.0 ≡ unread.SiteFault = sym p.2 ∙ cc y in
    risen_later _ _ _ c.steps.invariant.later c.turn.ensures.later (c.in_err-entry.ensures.fault (ap (λ e. Err e) fault))

pub returns-in_err-entry-clause-later : goal.returns-in_err-entry-clause-later
returns-in_err-entry-clause-later g c = let before = c.steps.invariant.later in let now = c.turn.ensures.later in omega (arith, before, now)

pub returns-in_err-entry-clause-say_faults : goal.returns-in_err-entry-clause-say_faults
returns-in_err-entry-clause-say_faults g c = c.turn.ensures.say_faults ∙ c.steps.invariant.say_faults

pub returns-in-Entry-clause-tells : goal.returns-in-Entry-clause-tells
returns-in-Entry-clause-tells g c = λ tells. c.steps.invariant.told (c.turn.ensures.tells tells)

pub returns-in-Entry-clause-gives : goal.returns-in-Entry-clause-gives
returns-in-Entry-clause-gives g c tells log done kept has =
    let inv = c.steps.invariant in
    subst (λ (turn : Turn). Turns (g.V.Site.history c.args.site.now) log done (Ok turn)) c.in-Entry.is
    (turns_over (g.V.Site.history c.steps.site) (g.V.Site.history c.args.site.now) log done c.steps.reader (Ok c.in_ok-entry.field-0) inv.unchanged kept (inv.reads (c.turn.ensures.tells tells) log done kept has) (c.in_ok-entry.ensures.turns tells))

pub returns-in-Entry-clause-numbered : goal.returns-in-Entry-clause-numbered
returns-in-Entry-clause-numbered g c =
    let inv = c.steps.invariant in
    let there = subst (λ (turn : Turn). StaysNumbered c.steps.reader (Ok turn)) c.in-Entry.is c.in_ok-entry.ensures.numbered in
    numbered_over c.steps.reader c.args.self (entry_of c.in-Entry.entry) c.in-Entry.behind inv.same inv.less there

pub returns-in-Entry-clause-unchanged : goal.returns-in-Entry-clause-unchanged
returns-in-Entry-clause-unchanged g c = c.turn.ensures.unchanged ∙ c.steps.invariant.unchanged

pub returns-in-Entry-clause-later : goal.returns-in-Entry-clause-later
returns-in-Entry-clause-later g c = let before = c.steps.invariant.later in let now = c.turn.ensures.later in omega (arith, before, now)

pub returns-in-Entry-clause-say_faults : goal.returns-in-Entry-clause-say_faults
returns-in-Entry-clause-say_faults g c = c.turn.ensures.say_faults ∙ c.steps.invariant.say_faults

pub returns-in-End-clause-tells : goal.returns-in-End-clause-tells
returns-in-End-clause-tells g c = λ tells. c.steps.invariant.told (c.turn.ensures.tells tells)

pub returns-in-End-clause-gives : goal.returns-in-End-clause-gives
returns-in-End-clause-gives g c tells log done kept has =
    let inv = c.steps.invariant in
    subst (λ (turn : Turn). Turns (g.V.Site.history c.args.site.now) log done (Ok turn)) c.in-End.is
    (turns_over (g.V.Site.history c.steps.site) (g.V.Site.history c.args.site.now) log done c.steps.reader (Ok c.in_ok-entry.field-0) inv.unchanged kept (inv.reads (c.turn.ensures.tells tells) log done kept has) (c.in_ok-entry.ensures.turns tells))

pub returns-in-End-clause-unchanged : goal.returns-in-End-clause-unchanged
returns-in-End-clause-unchanged g c = c.turn.ensures.unchanged ∙ c.steps.invariant.unchanged

pub returns-in-End-clause-later : goal.returns-in-End-clause-later
returns-in-End-clause-later g c = let before = c.steps.invariant.later in let now = c.turn.ensures.later in omega (arith, before, now)

pub returns-in-End-clause-say_faults : goal.returns-in-End-clause-say_faults
returns-in-End-clause-say_faults g c = c.turn.ensures.say_faults ∙ c.steps.invariant.say_faults
