use Rattle.std.proofs.Common.{◌∙◌, ◌==◌, true, false, refl, ap, sym}
use Rattle.std.specs.List.{list_any}
use Rattle.spec_tracker.specs.Marks.{identity_of, floors_of}
use Rattle.cell_waits.specs.CutStreams.{goes, cut_behind}
use Rattle.cell_waits.specs.Waits.{wait_of, sender_of, lost_by}
use Rattle.cell_waits.proofs.Going.{goes_at, cut_at}
use Rattle.cell_waits.proofs.cutting.goes.Goals as goal

pub returns-in_default-clause-goes : goal.returns-in_default-clause-goes
returns-in_default-clause-goes c = ap (goes (lost_by (floors_of c.args.marks.now)) c.args.cut.now.items) c.in_default.ensures

pub returns-in_default-clause-cut : goal.returns-in_default-clause-cut
returns-in_default-clause-cut c = ap (cut_behind (lost_by (floors_of c.args.marks.now)) c.args.cut.now.items) c.in_default.ensures

pub returns-then-contains-clause-goes : goal.returns-then-contains-clause-goes
returns-then-contains-clause-goes c =
    goes_at (lost_by (floors_of c.args.marks.now)) c.args.cut.now.items (sender_of (wait_of c.args.wait.now).item) (identity_of c.in-Some.entry) true (lost_by (floors_of c.args.marks.now) (identity_of c.in-Some.entry)) c.in-Some.ensures
    (ap (list_any (λ other. other == c.in-Some.entry.src)) (sym c.deref.ensures.value) ∙ sym c.contains.ensures.value ∙ c.if-contains.true) refl

pub returns-then-contains-clause-cut : goal.returns-then-contains-clause-cut
returns-then-contains-clause-cut c =
    cut_at (lost_by (floors_of c.args.marks.now)) c.args.cut.now.items (sender_of (wait_of c.args.wait.now).item) (identity_of c.in-Some.entry) true (lost_by (floors_of c.args.marks.now) (identity_of c.in-Some.entry)) c.in-Some.ensures
    (ap (list_any (λ other. other == c.in-Some.entry.src)) (sym c.deref.ensures.value) ∙ sym c.contains.ensures.value ∙ c.if-contains.true) refl

pub returns-then-not-is_lost-clause-goes : goal.returns-then-not-is_lost-clause-goes
returns-then-not-is_lost-clause-goes c =
    goes_at (lost_by (floors_of c.args.marks.now)) c.args.cut.now.items (sender_of (wait_of c.args.wait.now).item) (identity_of c.in-Some.entry) false false c.in-Some.ensures
    (ap (list_any (λ other. other == c.in-Some.entry.src)) (sym c.deref.ensures.value) ∙ sym c.contains.ensures.value ∙ c.if-contains.false) (sym c.if-not-is_lost.ensures)

pub returns-then-not-is_lost-clause-cut : goal.returns-then-not-is_lost-clause-cut
returns-then-not-is_lost-clause-cut c =
    cut_at (lost_by (floors_of c.args.marks.now)) c.args.cut.now.items (sender_of (wait_of c.args.wait.now).item) (identity_of c.in-Some.entry) false false c.in-Some.ensures
    (ap (list_any (λ other. other == c.in-Some.entry.src)) (sym c.deref.ensures.value) ∙ sym c.contains.ensures.value ∙ c.if-contains.false) (sym c.if-not-is_lost.ensures)

pub returns-clause-goes : goal.returns-clause-goes
returns-clause-goes c =
    goes_at (lost_by (floors_of c.args.marks.now)) c.args.cut.now.items (sender_of (wait_of c.args.wait.now).item) (identity_of c.in-Some.entry) false true c.in-Some.ensures
    (ap (list_any (λ other. other == c.in-Some.entry.src)) (sym c.deref.ensures.value) ∙ sym c.contains.ensures.value ∙ c.if-contains.false) (sym c.if-not-is_lost.ensures)

pub returns-clause-cut : goal.returns-clause-cut
returns-clause-cut c =
    c.in_ok-push.ensures.items
    ∙ cut_at (lost_by (floors_of c.args.marks.now)) c.args.cut.now.items (sender_of (wait_of c.args.wait.now).item) (identity_of c.in-Some.entry) false true c.in-Some.ensures
    (ap (list_any (λ other. other == c.in-Some.entry.src)) (sym c.deref.ensures.value) ∙ sym c.contains.ensures.value ∙ c.if-contains.false) (sym c.if-not-is_lost.ensures)
