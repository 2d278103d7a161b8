use Rattle.std.proofs.Common.{ℕ, List, Result, sym, subst, ap}
use Rattle.site_model.specs.History.{Step, changes_of}
use Rattle.commit_log.specs.declared.header.Header.{Header}
use Rattle.commit_log.specs.declared.states.BrokenGate.{BrokenGate}
use Rattle.commit_log.specs.declared.states.Reopened.{Reopened}
use Rattle.log_items.specs.declared.frames.Entry as rows
use Rattle.log_items.specs.Plain.{entries_of}
use Rattle.part_items.specs.Spelling.{spell_frame}
use Rattle.hub_store.specs.declared.way.Way.{Way}
use Rattle.hub_store.specs.OpenedAgain.{Reopens}
use Rattle.hub_store.specs.Ways.{WayFits, going_in, gate_of, due_in}
use Rattle.hub_store.proofs.OpenedAgain.{gated_reopens, safe_reopens, broken_reopens}
use Rattle.hub_store.proofs.reopen.reopen_log.Goals as goal

abbrev Again : List Step → List Step → List rows.Entry → Result Reopened BrokenGate → Way → Type 0
Again old new frame result way =
    (file : ℕ) (h : Header) (payloads : List (List ℕ)) → WayFits file h payloads (changes_of file old) way → Reopens file h payloads (spell_frame (entries_of frame)) (gate_of way) old new result

pub returns-in-Gated-clause-reopens : goal.returns-in-Gated-clause-reopens
returns-in-Gated-clause-reopens g c tells =
    let e = c.reopen.ensures in
    let old = g.V.Site.history c.args.site.now in
    let new = g.V.Site.history c.reopen.new.site in
    let frame = c.in-Gated.frame in
    subst (Again old new frame c.reopen.result) (sym c.in-Gated.is)
    (gated_reopens frame old new c.reopen.result c.in-Gated.log (record { syncs = e.syncs; during = e.during tells; place = e.place; broken = e.broken; opened = e.opened tells }) (e.after tells))

pub returns-in-Gated-clause-tells : goal.returns-in-Gated-clause-tells
returns-in-Gated-clause-tells g c = c.reopen.ensures.tells

pub returns-in-Gated-clause-going : goal.returns-in-Gated-clause-going
returns-in-Gated-clause-going g c = ap going_in c.in-Gated.is

pub returns-in-Gated-clause-due : goal.returns-in-Gated-clause-due
returns-in-Gated-clause-due g c = ap due_in c.in-Gated.is

pub returns-in-Gated-clause-cause : goal.returns-in-Gated-clause-cause
returns-in-Gated-clause-cause g c = c.reopen.ensures.cause

pub returns-in-Gated-clause-say_faults : goal.returns-in-Gated-clause-say_faults
returns-in-Gated-clause-say_faults g c = c.reopen.ensures.say_faults

pub returns-in-Safe-clause-reopens : goal.returns-in-Safe-clause-reopens
returns-in-Safe-clause-reopens g c tells =
    let e = c.reopen-in-Safe.ensures in
    let old = g.V.Site.history c.args.site.now in
    let new = g.V.Site.history c.reopen-in-Safe.new.site in
    let frame = c.in-Safe.frame in
    subst (Again old new frame c.reopen-in-Safe.result) (sym c.in-Safe.is)
    (safe_reopens frame old new c.reopen-in-Safe.result c.in-Safe.log (record { syncs = e.syncs; during = e.during tells; place = e.place; broken = e.broken; opened = e.opened tells }) (e.after tells))

pub returns-in-Safe-clause-tells : goal.returns-in-Safe-clause-tells
returns-in-Safe-clause-tells g c = c.reopen-in-Safe.ensures.tells

pub returns-in-Safe-clause-going : goal.returns-in-Safe-clause-going
returns-in-Safe-clause-going g c = ap going_in c.in-Safe.is

pub returns-in-Safe-clause-due : goal.returns-in-Safe-clause-due
returns-in-Safe-clause-due g c = ap due_in c.in-Safe.is

pub returns-in-Safe-clause-cause : goal.returns-in-Safe-clause-cause
returns-in-Safe-clause-cause g c = c.reopen-in-Safe.ensures.cause

pub returns-in-Safe-clause-say_faults : goal.returns-in-Safe-clause-say_faults
returns-in-Safe-clause-say_faults g c = c.reopen-in-Safe.ensures.say_faults

pub returns-in-BrokenGate-clause-reopens : goal.returns-in-BrokenGate-clause-reopens
returns-in-BrokenGate-clause-reopens g c tells =
    let e = c.reopen-in-BrokenGate.ensures in
    let old = g.V.Site.history c.args.site.now in
    let new = g.V.Site.history c.reopen-in-BrokenGate.new.site in
    let frame = c.in-BrokenGate.frame in
    subst (Again old new frame c.reopen-in-BrokenGate.result) (sym c.in-BrokenGate.is)
    (broken_reopens frame old new c.reopen-in-BrokenGate.result c.in-BrokenGate.log (record { syncs = e.syncs; during = e.during tells; place = e.place; broken = e.broken; opened = e.opened tells }) (e.after tells))

pub returns-in-BrokenGate-clause-tells : goal.returns-in-BrokenGate-clause-tells
returns-in-BrokenGate-clause-tells g c = c.reopen-in-BrokenGate.ensures.tells

pub returns-in-BrokenGate-clause-going : goal.returns-in-BrokenGate-clause-going
returns-in-BrokenGate-clause-going g c = ap going_in c.in-BrokenGate.is

pub returns-in-BrokenGate-clause-due : goal.returns-in-BrokenGate-clause-due
returns-in-BrokenGate-clause-due g c = ap due_in c.in-BrokenGate.is

pub returns-in-BrokenGate-clause-cause : goal.returns-in-BrokenGate-clause-cause
returns-in-BrokenGate-clause-cause g c = c.reopen-in-BrokenGate.ensures.cause

pub returns-in-BrokenGate-clause-say_faults : goal.returns-in-BrokenGate-clause-say_faults
returns-in-BrokenGate-clause-say_faults g c = c.reopen-in-BrokenGate.ensures.say_faults
