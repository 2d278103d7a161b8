use Rattle.std.proofs.Common.{◌≡◌, ◌∙◌, ◌++◌, ◌∷◌, [], ℕ, List, ap, subst, sym}
use Rattle.gated_store.specs.Kept.{IsKept}
use Rattle.many_rules.specs.Ledgers.{ledgers, readers}
use Rattle.many_rules.specs.Makes.{Makes}
use Rattle.recover_core.proofs.Pushed.{pushed_items}
use Rattle.spec_tracker.specs.declared.marks.Marks.{Marks}
use Rattle.world_steps.proofs.KnownMarks.{known_marks}
use Rattle.world_lives.proofs.beginning.first_known.Goals as goal

pub returns-clause-known : goal.returns-clause-known
returns-clause-known g c =
    let e = c.in_ok-now.ensures in
    let rules = g.M.Picked.rules in
    let store = c.args.store.now in
    let first = c.in_ok-now.now in
    let before = c.new-marks.result.items in
    let count = sym g.M.Picked.counts ∙ c.requires.count in
    let known = known_marks rules c.args.count store first (subst (λ (n : ℕ). IsKept n (ledgers rules) (readers rules) (Makes rules) store) count c.requires.kept) c.requires.count e.lengths e.floors e.reads c.requires.begun.made c.requires.begun.below c.requires.begun.numbered in
    let marks_are : c.push.new.self.items ≡ first ∷ [] =
    pushed_items c.push.result (before ++ first ∷ []) before c.push.new.self.items c.if-is_err.false c.is_err.ensures.value c.push.ensures.items
    ∙ ap (λ (l : List Marks). l ++ first ∷ []) c.new-marks.ensures.items in
    (first, marks_are, known)
