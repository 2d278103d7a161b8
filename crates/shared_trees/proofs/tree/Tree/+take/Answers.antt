use Rattle.std.proofs.Common.{◌≡◌, ap, sym, ◌∙◌, Some, None, rules, is_ok, subst, true, cond, IfOk, IfSome, IfNone, ◌∷◌, ◌++◌}
use Rattle.shared_trees.specs.Places.{place_of, place_sought}
use Rattle.shared_trees.specs.Tree.{fork_entries, kept_value}
use Rattle.shared_trees.specs.Entries.{Changes}
use Rattle.shared_trees.proofs.Forks.{at_same_fork, changes_left, changes_right, changes_middle, fewer_left, fewer_right, goes_left, goes_right, is_here, emptied}
use Rattle.shared_trees.proofs.tree.Tree.+take.Goals as goal
use Rattle.shared_trees.proofs.tree.Tree.+take.Goals.{in-Some-close+in-Some-1, in-Some-close+in-None-1, in_default-close}

pub take-taken-requires : goal.take-taken-requires
take-taken-requires g t c κs within =
    let f = at_same_fork c.self.view_is c.requires.sorted c.in-Some.is c.unshare.ensures c.in-Some-get_mut.ensures.value in
    let sorted = f.sides.left in
    let fewer = fewer_left f in
    search rules

pub take-taken-requires-in-Greater : goal.take-taken-requires-in-Greater
take-taken-requires-in-Greater g t c κs within =
    let f = at_same_fork c.self.view_is c.requires.sorted c.in-Some.is c.unshare.ensures c.in-Some-get_mut.ensures.value in
    let sorted = f.sides.right in
    let fewer = fewer_right f in
    search rules

pub close-requires-clause-sorted : goal.close-requires-clause-sorted
close-requires-clause-sorted g t c =
    let f = at_same_fork c.self.view_is c.requires.sorted c.in-Some.is c.unshare.ensures c.in-Some-get_mut.ensures.value in
    (changes_middle f (place_sought c.args.sought.now) (sym c.compare.ensures ∙ c.in-Equal.is) (kept_value c.vacate.new.kept)).sorted

pub returns-in-Less-clause-changes : goal.returns-in-Less-clause-changes
returns-in-Less-clause-changes g t c =
    let f = at_same_fork c.self.view_is c.requires.sorted c.in-Some.is c.unshare.ensures c.in-Some-get_mut.ensures.value in
    let call = c.take-taken in
    let place = place_sought c.args.sought.now in
    let all = changes_left f (is_ok call.result) place None call.new.self (sym c.compare.ensures ∙ c.in-Less.is) call.ensures.changes in
    subst (λ es. Changes c.args.self.now es (is_ok call.result) place None) (sym c.level.ensures) all

pub returns-in-Less-clause-value : goal.returns-in-Less-clause-value
returns-in-Less-clause-value g t c =
    let f = at_same_fork c.self.view_is c.requires.sorted c.in-Some.is c.unshare.ensures c.in-Some-get_mut.ensures.value in
    let call = c.take-taken in
    let place = place_sought c.args.sought.now in
    subst (λ o. IfOk call.result (λ v. v ≡ cond c.args.wanted o None)) (sym (goes_left f place (sym c.compare.ensures ∙ c.in-Less.is))) call.ensures.value

pub returns-in-Greater-clause-changes : goal.returns-in-Greater-clause-changes
returns-in-Greater-clause-changes g t c =
    let f = at_same_fork c.self.view_is c.requires.sorted c.in-Some.is c.unshare.ensures c.in-Some-get_mut.ensures.value in
    let call = c.take-taken-in-Greater in
    let place = place_sought c.args.sought.now in
    let all = changes_right f (is_ok call.result) place None call.new.self (sym c.compare.ensures ∙ c.in-Greater.is) call.ensures.changes in
    subst (λ es. Changes c.args.self.now es (is_ok call.result) place None) (sym c.level-in-Greater.ensures) all

pub returns-in-Greater-clause-value : goal.returns-in-Greater-clause-value
returns-in-Greater-clause-value g t c =
    let f = at_same_fork c.self.view_is c.requires.sorted c.in-Some.is c.unshare.ensures c.in-Some-get_mut.ensures.value in
    let call = c.take-taken-in-Greater in
    let place = place_sought c.args.sought.now in
    subst (λ o. IfOk call.result (λ v. v ≡ cond c.args.wanted o None)) (sym (goes_right f place (sym c.compare.ensures ∙ c.in-Greater.is))) call.ensures.value

pub returns-after-close-clause-changes : goal.returns-after-close-clause-changes
returns-after-close-clause-changes g t c =
    let f = at_same_fork c.self.view_is c.requires.sorted c.in-Some.is c.unshare.ensures c.in-Some-get_mut.ensures.value in
    let fork = c.in-Some-get_mut.fork.now in
    let place = place_sought c.args.sought.now in
    let equal = sym c.compare.ensures ∙ c.in-Equal.is in
    let none = c.in_ok-value-in-Equal.ensures.taken in
    let vacant = fork.left ++ (place_of fork.key, kept_value c.vacate.new.kept) ∷ fork.right in
    let at_left : (left : _) → c.close.result ≡ Some left → Changes c.args.self.now left true place None =
    λ left is. emptied f place (kept_value c.vacate.new.kept) left equal none (subst (λ r. IfSome r (λ l. Changes vacant l true (place_of fork.key) None)) is c.close.ensures.left) in
    let inside : c.close.result ≡ None → Changes c.args.self.now (fork_entries c.close.new.self) true place None =
    λ is. emptied f place (kept_value c.vacate.new.kept) (fork_entries c.close.new.self) equal none (subst (λ r. IfNone r (Changes vacant (fork_entries c.close.new.self) true (place_of fork.key) None)) is c.close.ensures.inside) in
    elim c.match-close.branch [
      | in-Some-close+in-Some-1 w ↦ subst (λ es. Changes c.args.self.now es true place None) (sym (w.self-is ∙ w.left.view_is)) (at_left w.in-Some-close.left w.in-Some-close.is)
      | in-Some-close+in-None-1 w ↦ subst (λ es. Changes c.args.self.now es true place None) (sym (w.self-is ∙ w.left.view_is)) (at_left w.in-Some-close.left w.in-Some-close.is)
      | in_default-close w ↦ subst (λ es. Changes c.args.self.now es true place None) (sym w.self-is) (inside w.in_default-close.is)
    ]

pub returns-after-close-clause-value : goal.returns-after-close-clause-value
returns-after-close-clause-value g t c =
    let f = at_same_fork c.self.view_is c.requires.sorted c.in-Some.is c.unshare.ensures c.in-Some-get_mut.ensures.value in
    c.in_ok-value-in-Equal.ensures.value ∙ ap (λ o. cond c.args.wanted o None) (sym (is_here f (place_sought c.args.sought.now) (sym c.compare.ensures ∙ c.in-Equal.is)))
