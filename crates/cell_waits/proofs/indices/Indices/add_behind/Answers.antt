use Rattle.std.proofs.Common.{◌∙◌, ◌+◌, ap}
use Rattle.std.proofs.lemmas.Result.{on_ok_weaker}
use Rattle.cell_waits.proofs.indices.Indices.add_behind.Goals as goal

pub returns-in-Some : goal.returns-in-Some
returns-in-Some c =
    on_ok_weaker c.add.result (λ added waiting agrees many. added c.args.first waiting agrees (c.in-Some.ensures.1 ∙ ap (λ k. c.args.first + k) many)) c.add.ensures
