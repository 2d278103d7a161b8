use Rattle.std.proofs.Common.{◌∙◌, ℕ, subst, sym}
use Rattle.gated_store.specs.Kept.{IsKept}
use Rattle.many_rules.specs.Ledgers.{ledgers, readers}
use Rattle.many_rules.specs.Makes.{Makes}
use Rattle.world_steps.proofs.KnownMarks.{known_marks}
use Rattle.world_steps.proofs.known.marks_now.Goals as goal

pub returns-clause-known : goal.returns-clause-known
returns-clause-known g c =
    let rules = g.M.Picked.rules in
    let store = c.args.store.now in
    let begun = c.requires.begun in
    let count = sym g.M.Picked.counts ∙ c.requires.count in
    known_marks rules c.args.count store c.in_ok-now.now (subst (λ (n : ℕ). IsKept n (ledgers rules) (readers rules) (Makes rules) store) count c.requires.kept) c.requires.count c.in_ok-now.ensures.lengths c.in_ok-now.ensures.floors c.in_ok-now.ensures.reads begun.made begun.below begun.numbered
