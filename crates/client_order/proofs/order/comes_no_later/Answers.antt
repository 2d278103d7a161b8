use Rattle.std.proofs.Common.{◌∙◌, ap}
use Rattle.std.specs.Cmp.Lexicographic.{slice_cmp}
use Rattle.std.specs.Ordering.{nat_cmp, ordering_then, is_le}
use Rattle.client_order.proofs.order.comes_no_later.Goals as goal

pub returns : goal.returns
returns c =
    c.is_le.ensures
    ∙ ap is_le (c.then.ensures ∙ ap (λ o. ordering_then o c.cmp-2.result) c.cmp.ensures ∙ ap (ordering_then (slice_cmp nat_cmp c.args.client.now c.args.other.now)) c.cmp-2.ensures)
