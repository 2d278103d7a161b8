use Rattle.std.proofs.Common.{◌≡◌, subst, None, is_ok, rules}
use Rattle.shared_trees.specs.Places.{place_sought}
use Rattle.shared_trees.specs.Entries.{Changes, find}
use Rattle.shared_trees.proofs.Firsts.{done, not_done, taken_none}
use Rattle.shared_trees.proofs.sorted.Sorted.take.Goals as goal

pub returns-then-is_none-clause-taken : goal.returns-then-is_none-clause-taken
returns-then-is_none-clause-taken g c =
    let none : find c.args.self.now (place_sought c.args.sought.now) ≡ None = search rules in
    taken_none (find c.args.self.now) (place_sought c.args.sought.now) none

pub returns-clause-taken : goal.returns-clause-taken
returns-clause-taken g c =
    let changes = subst (λ es. Changes es c.take.new.self (is_ok c.take.result) (place_sought c.args.sought.now) None) c.self.view_is c.take.ensures.changes in
    done c.take.result c.args.self.now c.take.new.self (place_sought c.args.sought.now) None changes

pub returns-clause-same : goal.returns-clause-same
returns-clause-same g c =
    let changes = subst (λ es. Changes es c.take.new.self (is_ok c.take.result) (place_sought c.args.sought.now) None) c.self.view_is c.take.ensures.changes in
    not_done c.take.result c.args.self.now c.take.new.self (place_sought c.args.sought.now) None changes

pub returns-clause-among : goal.returns-clause-among
returns-clause-among g c =
    let changes = subst (λ es. Changes es c.take.new.self (is_ok c.take.result) (place_sought c.args.sought.now) None) c.self.view_is c.take.ensures.changes in
    changes.among
