use Rattle.std.proofs.Common.{◌≡◌, ◌∙◌, sym, ap, subst}
use Rattle.log_items.specs.Plain.{entries_of}
use Rattle.commit_gate.specs.Unlost.{AreUnlost}
use Rattle.commit_gate.specs.Views.{ledgers_of, floors_of}
use Rattle.hub_store.specs.Changes.{stage_at, going_at, trail_in, told_in}
use Rattle.gated_store.specs.Follows.{ledgers_at}
use Rattle.gated_store.proofs.Moving.{are_unlost, rows_are, tested_ok, tested_err}
use Rattle.gated_store.proofs.store.GatedStore.test.Goals as goal

pub returns-in-Some-clause-ok : goal.returns-in-Some-clause-ok
returns-in-Some-clause-ok g c =
    let L = g.L.Local in
    let p = c.args.part in
    let logs = c.args.self.now.logs in
    let list = c.args.self.now.ledgers.items in
    let are : ledgers_of list ≡ ledgers_at L.ledgers (trail_in logs) = λ t q. rows_are L.origin.count L.ledgers L.readers L.may_make logs.latest (trail_in logs) (told_in logs) (going_at logs) (stage_at logs) list L.outside c.requires.kept.fits q t in
    tested_ok (ledgers_at L.ledgers (trail_in logs)) (ledgers_of c.deref.result.now) (floors_of list) (floors_of c.deref.result.now) p (entries_of c.in-Some.frame.now) (going_at logs p) c.test_frame.result (ap ledgers_of c.deref.ensures.value ∙ are) (ap floors_of c.deref.ensures.value) (c.in-Some.ensures) c.test_frame.ensures

pub returns-in-Some-clause-err : goal.returns-in-Some-clause-err
returns-in-Some-clause-err g c =
    let L = g.L.Local in
    let p = c.args.part in
    let logs = c.args.self.now.logs in
    let list = c.args.self.now.ledgers.items in
    let are : ledgers_of list ≡ ledgers_at L.ledgers (trail_in logs) = λ t q. rows_are L.origin.count L.ledgers L.readers L.may_make logs.latest (trail_in logs) (told_in logs) (going_at logs) (stage_at logs) list L.outside c.requires.kept.fits q t in
    tested_err (ledgers_at L.ledgers (trail_in logs)) (ledgers_of c.deref.result.now) (floors_of list) (floors_of c.deref.result.now) p (entries_of c.in-Some.frame.now) (going_at logs p) c.test_frame.result (ap ledgers_of c.deref.ensures.value ∙ are) (ap floors_of c.deref.ensures.value) (c.in-Some.ensures) c.test_frame.ensures

pub test_frame-requires : goal.test_frame-requires
test_frame-requires g c =
    let L = g.L.Local in
    let logs = c.args.self.now.logs in
    let list = c.args.self.now.ledgers.items in
    record { unlost = subst AreUnlost (sym c.deref.ensures.value) (are_unlost L.origin.count L.ledgers L.readers L.may_make logs.latest (trail_in logs) (told_in logs) (going_at logs) (stage_at logs) list c.requires.kept.fits) }
