use Rattle.std.proofs.Common.{◌≡◌, ◌∙◌, ◌-◌, ℕ, suc, take, sym, ap, arith}
use Rattle.cell_steps.specs.Steps.{last_of}
use Rattle.cell_steps.proofs.Chains.{front_at}
use Rattle.spec_cell.proofs.moving.state_at.Goals as goal

pub returns : goal.returns
returns c =
    let few = c.requires in
    let some = c.if-count-eq0.false in
    let place = c.args.count - 1 in
    let one : suc place ≡ c.args.count = omega (arith, some) in
    sym (ap (λ (n : ℕ). last_of c.args.live.now.base (take n c.args.live.now.steps.items)) (sym one) ∙ front_at place c.args.live.now.base c.args.live.now.steps.items c.index.result.now (omega (arith, few, some)) c.index.ensures)
