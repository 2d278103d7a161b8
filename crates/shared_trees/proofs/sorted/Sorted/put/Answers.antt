use Rattle.std.proofs.Common.{subst, Some, is_ok}
use Rattle.std.specs.Arc.{arc_value}
use Rattle.shared_trees.specs.Places.{place_of}
use Rattle.shared_trees.specs.Entries.{Changes}
use Rattle.shared_trees.proofs.Firsts.{done, not_done}
use Rattle.shared_trees.proofs.sorted.Sorted.put.Goals as goal

pub returns-clause-put : goal.returns-clause-put
returns-clause-put g c =
    let changes = subst (λ es. Changes es c.put.new.self (is_ok c.put.result) (place_of c.args.key) (Some (arc_value c.in_ok-value.value))) c.self.view_is c.put.ensures.changes in
    let all = subst (λ x. Changes c.args.self.now c.put.new.self (is_ok c.put.result) (place_of c.args.key) (Some x)) c.in_ok-value.ensures.ok changes in
    done c.put.result c.args.self.now c.put.new.self (place_of c.args.key) (Some c.args.value) all

pub returns-clause-same : goal.returns-clause-same
returns-clause-same g c =
    let changes = subst (λ es. Changes es c.put.new.self (is_ok c.put.result) (place_of c.args.key) (Some (arc_value c.in_ok-value.value))) c.self.view_is c.put.ensures.changes in
    not_done c.put.result c.args.self.now c.put.new.self (place_of c.args.key) (Some (arc_value c.in_ok-value.value)) changes

pub returns-clause-among : goal.returns-clause-among
returns-clause-among g c =
    let changes = subst (λ es. Changes es c.put.new.self (is_ok c.put.result) (place_of c.args.key) (Some (arc_value c.in_ok-value.value))) c.self.view_is c.put.ensures.changes in
    changes.among
