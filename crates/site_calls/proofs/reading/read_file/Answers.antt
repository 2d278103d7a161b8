use Rattle.std.proofs.Common.{refl, subst}
use Rattle.std.specs.Prelude.{IfOk}
use Rattle.site_model.specs.History.{content_of}
use Rattle.site_model.specs.Calls.{Reads}
use Rattle.site_calls.proofs.Events.{told_told, still_by}
use Rattle.site_calls.proofs.reading.read_file.Goals as goal

pub returns-then-branch-clause-tells : goal.returns-then-branch-clause-tells
returns-then-branch-clause-tells g c = told_told _ _ _ c.find_file.ensures.tells c.read_on.ensures.tells

pub returns-then-branch-clause-value : goal.returns-then-branch-clause-value
returns-then-branch-clause-value g c unseen honest =
    let old = g.C.Calls.events c.args.calls.now in
    let mid = g.C.Calls.events c.find_file.new.calls in
    subst (λ m. IfOk c.read_on.result (Reads (content_of c.args.file m.steps) c.args.at c.args.out.now c.read_on.new.out))
    (still_by _ old mid (λ u before. refl) c.in_ok-find_file.ensures.noted unseen)
    (c.read_on.ensures.value unseen honest)
