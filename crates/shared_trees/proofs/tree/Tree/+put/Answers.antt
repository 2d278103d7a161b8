use Rattle.std.proofs.Common.{ap, sym, ◌∙◌, Some, rules, is_ok, subst}
use Rattle.std.specs.Arc.{arc_value}
use Rattle.shared_trees.specs.Places.{place_cmp, place_of}
use Rattle.shared_trees.specs.Entries.{Changes}
use Rattle.shared_trees.proofs.Forks.{at_same_fork, changes_left, changes_right, changes_middle, fewer_left, fewer_right}
use Rattle.shared_trees.proofs.tree.Tree.+put.Goals as goal

pub put-done-requires : goal.put-done-requires
put-done-requires g t c κs within =
    let f = at_same_fork c.self.view_is c.requires.sorted c.in-Some.is c.unshare.ensures c.in-Some-get_mut.ensures.value in
    let sorted = f.sides.left in
    let fewer = fewer_left f in
    search rules

pub put-done-requires-in-Greater : goal.put-done-requires-in-Greater
put-done-requires-in-Greater g t c κs within =
    let f = at_same_fork c.self.view_is c.requires.sorted c.in-Some.is c.unshare.ensures c.in-Some-get_mut.ensures.value in
    let sorted = f.sides.right in
    let fewer = fewer_right f in
    search rules

pub returns-in-Less : goal.returns-in-Less
returns-in-Less g t c =
    let f = at_same_fork c.self.view_is c.requires.sorted c.in-Some.is c.unshare.ensures c.in-Some-get_mut.ensures.value in
    let less = ap (λ p. place_cmp p (place_of c.in-Some-get_mut.fork.now.key)) (sym c.sought.ensures) ∙ sym c.compare.ensures ∙ c.in-Less.is in
    let all = changes_left f (is_ok c.put-done.result) (place_of c.args.key) (Some (arc_value c.args.value)) c.put-done.new.self less c.put-done.ensures.changes in
    record { changes = subst (λ es. Changes c.args.self.now es (is_ok c.put-done.result) (place_of c.args.key) (Some (arc_value c.args.value))) (sym c.level.ensures) all }

pub returns-in-Greater : goal.returns-in-Greater
returns-in-Greater g t c =
    let f = at_same_fork c.self.view_is c.requires.sorted c.in-Some.is c.unshare.ensures c.in-Some-get_mut.ensures.value in
    let call = c.put-done-in-Greater in
    let greater = ap (λ p. place_cmp p (place_of c.in-Some-get_mut.fork.now.key)) (sym c.sought.ensures) ∙ sym c.compare.ensures ∙ c.in-Greater.is in
    let all = changes_right f (is_ok call.result) (place_of c.args.key) (Some (arc_value c.args.value)) call.new.self greater call.ensures.changes in
    record { changes = subst (λ es. Changes c.args.self.now es (is_ok call.result) (place_of c.args.key) (Some (arc_value c.args.value))) (sym c.level-in-Greater.ensures) all }

pub returns-in-Equal : goal.returns-in-Equal
returns-in-Equal g t c =
    let f = at_same_fork c.self.view_is c.requires.sorted c.in-Some.is c.unshare.ensures c.in-Some-get_mut.ensures.value in
    let equal = ap (λ p. place_cmp p (place_of c.in-Some-get_mut.fork.now.key)) (sym c.sought.ensures) ∙ sym c.compare.ensures ∙ c.in-Equal.is in
    record { changes = changes_middle f (place_of c.args.key) equal (Some (arc_value c.args.value)) }
