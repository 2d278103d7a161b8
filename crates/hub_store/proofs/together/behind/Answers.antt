use Rattle.std.proofs.Common.{Bool, sym, subst}
use Rattle.hub_store.specs.declared.way.Way.{Way}
use Rattle.hub_store.specs.declared.way.Way.TheVariants as ways
use Rattle.hub_store.specs.Waiting.{IsBehind}
use Rattle.hub_store.proofs.Behind.{bodied_broken, gated_safe}
use Rattle.hub_store.proofs.together.behind.Goals as goal

pub returns-in-Bodied-false : goal.returns-in-Bodied-false
returns-in-Bodied-false c =
    let log = c.in-Bodied-false.log in
    let frame = c.in-Bodied-false.frame in
    let now = ways.BrokenBody c.failed.result frame in
    subst (λ (b : Bool). IsBehind b c.args.way now) (sym c.in-Bodied-false.is-1)
    (subst (λ (w : Way). IsBehind _ w now) (sym c.in-Bodied-false.is-0) (bodied_broken log frame c.failed.result c.failed.ensures.place c.failed.ensures.after))

pub returns-in-Gated-true : goal.returns-in-Gated-true
returns-in-Gated-true c =
    let log = c.in-Gated-true.log in
    let frame = c.in-Gated-true.frame in
    let now = ways.Safe log frame in
    subst (λ (b : Bool). IsBehind b c.args.way now) (sym c.in-Gated-true.is-1) (subst (λ (w : Way). IsBehind _ w now) (sym c.in-Gated-true.is-0) (gated_safe log frame))
