use Rattle.std.proofs.Common.{◌≡◌, ◌<◌, ℕ, length, sym, ◌∙◌, ap, subst, arith}
use Rattle.dura_model.proofs.Shown.{home_below}
use Rattle.dura_value.specs.Ids.{client, home}
use Rattle.dura_value.specs.Views.{id_of}
use Rattle.hub_store.specs.Changes.{asked}
use Rattle.world_steps.proofs.Cells.{there_at}
use Rattle.world_steps.proofs.Said.{answered_at}
use Rattle.world_steps.proofs.saying.line_at.Goals as goal

pub returns-clause-line : goal.returns-clause-line
returns-clause-line g c = λ s all.
    let rules = g.M.Picked.rules in
    let cells = c.args.cells.now.items in
    let many = c.requires.many in
    let long : c.len.result ≡ rules.count = let a = c.len.ensures in let b = c.args.cells.now.ok.0 in omega (arith, a, b, many) in
    let at : c.home-part.result ≡ home rules.count (client c.args.client.now) = c.home-part.ensures ∙ ap (λ i. home c.len.result (id_of i)) c.in_ok-id.ensures ∙ ap (λ (n : ℕ). home n (client c.args.client.now)) long in
    let below = home_below rules.count 0 (client c.args.client.now) c.requires.some in
    let low : c.home-part.result < length cells = omega (arith, at, below, many) in
    answered_at rules s cells c.home-part.result c.index.result.now (asked c.args.client.now c.args.number) c.line_of_cell-line.result at (there_at cells c.home-part.result c.index.result.now low c.index.ensures) all c.line_of_cell-line.ensures.line
