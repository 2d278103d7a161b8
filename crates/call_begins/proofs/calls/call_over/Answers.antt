use Rattle.std.proofs.Common.{◌∙◌, ℕ, sym, subst}
use Rattle.call_begins.specs.Begins.{AllBegun}
use Rattle.call_begins.proofs.Begins.{all_joined}
use Rattle.call_begins.proofs.calls.call_over.Goals as goal

pub returns-clause-joined : goal.returns-clause-joined
returns-clause-joined g c =
    let e = c.in-Ok.ensures in
    let rules = g.N.Named.rules in
    all_joined rules c.args.store c.args.incarnations.now c.in-Ok.cells.items c.requires.untouched e.many c.requires.begins.from (c.requires.latest ∙ sym c.requires.since)
    (subst (λ (n : ℕ). AllBegun c.args.incarnations.now n c.in-Ok.cells.items) (sym c.requires.since) e.begun)
