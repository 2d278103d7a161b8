use Rattle.std.proofs.Common.{sym, ◌∙◌, rules}
use Rattle.shared_trees.specs.Places.{place_sought}
use Rattle.shared_trees.proofs.Forks.{at_fork, goes_left, goes_right, is_here, fewer_left, fewer_right}
use Rattle.shared_trees.proofs.tree.Tree.+get.Goals as goal

pub get-requires : goal.get-requires
get-requires g t c κs within =
    let f = at_fork c.self.view_is c.requires.sorted c.in-Some.is c.deref-fork.ensures in
    let sorted = f.sides.left in
    let fewer = fewer_left f in
    search rules

pub get-requires-in-Greater : goal.get-requires-in-Greater
get-requires-in-Greater g t c κs within =
    let f = at_fork c.self.view_is c.requires.sorted c.in-Some.is c.deref-fork.ensures in
    let sorted = f.sides.right in
    let fewer = fewer_right f in
    search rules

pub returns-in-Less : goal.returns-in-Less
returns-in-Less g t c =
    let f = at_fork c.self.view_is c.requires.sorted c.in-Some.is c.deref-fork.ensures in
    c.get.ensures ∙ sym (goes_left f (place_sought c.args.sought.now) (sym c.compare.ensures ∙ c.in-Less.is))

pub returns-in-Greater : goal.returns-in-Greater
returns-in-Greater g t c =
    let f = at_fork c.self.view_is c.requires.sorted c.in-Some.is c.deref-fork.ensures in
    c.get-in-Greater.ensures ∙ sym (goes_right f (place_sought c.args.sought.now) (sym c.compare.ensures ∙ c.in-Greater.is))

pub returns-in-Equal : goal.returns-in-Equal
returns-in-Equal g t c =
    let f = at_fork c.self.view_is c.requires.sorted c.in-Some.is c.deref-fork.ensures in
    c.value.ensures ∙ sym (is_here f (place_sought c.args.sought.now) (sym c.compare.ensures ∙ c.in-Equal.is))
