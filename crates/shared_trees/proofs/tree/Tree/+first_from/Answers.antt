use Rattle.std.proofs.Common.{◌≡◌, ap, sym, ◌∙◌, Some, None, rules, option_map}
use Rattle.shared_trees.specs.Places.{place_of, place_sought}
use Rattle.shared_trees.specs.Tree.{kept_value}
use Rattle.shared_trees.specs.Entries.{first_from}
use Rattle.shared_trees.proofs.Forks.{at_fork, fewer_left, fewer_right, first_behind, first_on_left, first_here, first_on_right}
use Rattle.shared_trees.proofs.tree.Tree.+first_from.Goals as goal

pub first_from-requires : goal.first_from-requires
first_from-requires g t c κs within =
    let f = at_fork c.self.view_is c.requires.sorted c.in-Some.is c.deref-fork.ensures in
    let sorted = f.sides.right in
    let fewer = fewer_right f in
    search rules

pub first_from-requires-2 : goal.first_from-requires-2
first_from-requires-2 g t c κs within =
    let f = at_fork c.self.view_is c.requires.sorted c.in-Some.is c.deref-fork.ensures in
    let sorted = f.sides.left in
    let fewer = fewer_left f in
    search rules

pub first_from-requires-in-None : goal.first_from-requires-in-None
first_from-requires-in-None g t c κs within =
    let f = at_fork c.self.view_is c.requires.sorted c.in-Some.is c.deref-fork.ensures in
    let sorted = f.sides.right in
    let fewer = fewer_right f in
    search rules

pub returns-then-is_behind : goal.returns-then-is_behind
returns-then-is_behind g t c =
    let f = at_fork c.self.view_is c.requires.sorted c.in-Some.is c.deref-fork.ensures in
    c.first_from.ensures ∙ sym (first_behind f (place_sought c.args.from.now) (sym c.is_behind.ensures ∙ c.if-is_behind.true))

pub returns-in-Some-first_from : goal.returns-in-Some-first_from
returns-in-Some-first_from g t c =
    let f = at_fork c.self.view_is c.requires.sorted c.in-Some.is c.deref-fork.ensures in
    let one = c.in-Some-first_from.first in
    let found = sym c.first_from-2.ensures ∙ ap (option_map (λ one. (place_of one.0.now, one.1.now))) c.in-Some-first_from.is in
    sym (first_on_left f (place_sought c.args.from.now) (place_of one.0.now, one.1.now) (sym c.is_behind.ensures ∙ c.if-is_behind.false) found)

pub returns-in-Some-value : goal.returns-in-Some-value
returns-in-Some-value g t c =
    let f = at_fork c.self.view_is c.requires.sorted c.in-Some.is c.deref-fork.ensures in
    let none : first_from c.deref-fork.result.now.left (place_sought c.args.from.now) ≡ None = search rules in
    let here : kept_value c.deref-fork.result.now.value ≡ Some c.deref.result.now = search rules in
    sym (first_here f (place_sought c.args.from.now) c.deref.result.now (sym c.is_behind.ensures ∙ c.if-is_behind.false) none here)

pub returns-in-None : goal.returns-in-None
returns-in-None g t c =
    let f = at_fork c.self.view_is c.requires.sorted c.in-Some.is c.deref-fork.ensures in
    let none : first_from c.deref-fork.result.now.left (place_sought c.args.from.now) ≡ None = search rules in
    let here : kept_value c.deref-fork.result.now.value ≡ None = search rules in
    c.first_from-in-None.ensures ∙ sym (first_on_right f (place_sought c.args.from.now) (sym c.is_behind.ensures ∙ c.if-is_behind.false) none here)
