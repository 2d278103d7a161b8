use Rattle.std.proofs.Common.{ℕ, List, Result, sym, subst, ap}
use Rattle.site_model.specs.History.{Step, changes_of}
use Rattle.commit_log.specs.declared.header.Header.{Header}
use Rattle.commit_log.specs.declared.states.BrokenBody.{BrokenBody}
use Rattle.commit_log.specs.declared.states.Resting.{Resting}
use Rattle.hub_store.specs.declared.way.Way.{Way}
use Rattle.hub_store.specs.OpenedAgain.{Drops}
use Rattle.hub_store.specs.Ways.{WayFits, going_in, due_in}
use Rattle.hub_store.proofs.FramesGone.{bodied_drops, synced_drops, broken_drops}
use Rattle.hub_store.proofs.dropping.drop_log.Goals as goal

abbrev Gone : List Step → List Step → Result Resting BrokenBody → Way → Type 0
Gone old new result way = (file : ℕ) (h : Header) (payloads : List (List ℕ)) → WayFits file h payloads (changes_of file old) way → Drops file h payloads old new result

pub returns-in-Bodied-clause-drops : goal.returns-in-Bodied-clause-drops
returns-in-Bodied-clause-drops g c tells =
    let e = c.drop_frame.ensures in
    let old = g.V.Site.history c.args.site.now in
    let new = g.V.Site.history c.drop_frame.new.site in
    subst (Gone old new c.drop_frame.result) (sym c.in-Bodied.is)
    (bodied_drops c.in-Bodied.frame old new c.drop_frame.result c.in-Bodied.log (record { syncs = e.syncs; during = e.during tells; place = e.place; broken = e.broken }) e.after)

pub returns-in-Bodied-clause-tells : goal.returns-in-Bodied-clause-tells
returns-in-Bodied-clause-tells g c = c.drop_frame.ensures.tells

pub returns-in-Bodied-clause-going : goal.returns-in-Bodied-clause-going
returns-in-Bodied-clause-going g c = ap going_in c.in-Bodied.is

pub returns-in-Bodied-clause-due : goal.returns-in-Bodied-clause-due
returns-in-Bodied-clause-due g c = ap due_in c.in-Bodied.is

pub returns-in-Bodied-clause-cause : goal.returns-in-Bodied-clause-cause
returns-in-Bodied-clause-cause g c = c.drop_frame.ensures.cause

pub returns-in-Bodied-clause-say_faults : goal.returns-in-Bodied-clause-say_faults
returns-in-Bodied-clause-say_faults g c = c.drop_frame.ensures.say_faults

pub returns-in-Synced-clause-drops : goal.returns-in-Synced-clause-drops
returns-in-Synced-clause-drops g c tells =
    let e = c.drop_frame-in-Synced.ensures in
    let old = g.V.Site.history c.args.site.now in
    let new = g.V.Site.history c.drop_frame-in-Synced.new.site in
    subst (Gone old new c.drop_frame-in-Synced.result) (sym c.in-Synced.is)
    (synced_drops c.in-Synced.frame old new c.drop_frame-in-Synced.result c.in-Synced.log (record { syncs = e.syncs; during = e.during tells; place = e.place; broken = e.broken }) e.after)

pub returns-in-Synced-clause-tells : goal.returns-in-Synced-clause-tells
returns-in-Synced-clause-tells g c = c.drop_frame-in-Synced.ensures.tells

pub returns-in-Synced-clause-going : goal.returns-in-Synced-clause-going
returns-in-Synced-clause-going g c = ap going_in c.in-Synced.is

pub returns-in-Synced-clause-due : goal.returns-in-Synced-clause-due
returns-in-Synced-clause-due g c = ap due_in c.in-Synced.is

pub returns-in-Synced-clause-cause : goal.returns-in-Synced-clause-cause
returns-in-Synced-clause-cause g c = c.drop_frame-in-Synced.ensures.cause

pub returns-in-Synced-clause-say_faults : goal.returns-in-Synced-clause-say_faults
returns-in-Synced-clause-say_faults g c = c.drop_frame-in-Synced.ensures.say_faults

pub returns-in-BrokenBody-clause-drops : goal.returns-in-BrokenBody-clause-drops
returns-in-BrokenBody-clause-drops g c tells =
    let e = c.drop_frame-in-BrokenBody.ensures in
    let old = g.V.Site.history c.args.site.now in
    let new = g.V.Site.history c.drop_frame-in-BrokenBody.new.site in
    subst (Gone old new c.drop_frame-in-BrokenBody.result) (sym c.in-BrokenBody.is)
    (broken_drops c.in-BrokenBody.frame old new c.drop_frame-in-BrokenBody.result c.in-BrokenBody.log (record { syncs = e.syncs; during = e.during tells; place = e.place; broken = e.broken }) e.after)

pub returns-in-BrokenBody-clause-tells : goal.returns-in-BrokenBody-clause-tells
returns-in-BrokenBody-clause-tells g c = c.drop_frame-in-BrokenBody.ensures.tells

pub returns-in-BrokenBody-clause-going : goal.returns-in-BrokenBody-clause-going
returns-in-BrokenBody-clause-going g c = ap going_in c.in-BrokenBody.is

pub returns-in-BrokenBody-clause-due : goal.returns-in-BrokenBody-clause-due
returns-in-BrokenBody-clause-due g c = ap due_in c.in-BrokenBody.is

pub returns-in-BrokenBody-clause-cause : goal.returns-in-BrokenBody-clause-cause
returns-in-BrokenBody-clause-cause g c = c.drop_frame-in-BrokenBody.ensures.cause

pub returns-in-BrokenBody-clause-say_faults : goal.returns-in-BrokenBody-clause-say_faults
returns-in-BrokenBody-clause-say_faults g c = c.drop_frame-in-BrokenBody.ensures.say_faults
