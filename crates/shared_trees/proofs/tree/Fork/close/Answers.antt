use Rattle.std.proofs.Common.{◌≡◌, sym, None, rules, refl, subst, true, [], ◌∷◌}
use Rattle.shared_trees.specs.Places.{place_of}
use Rattle.shared_trees.specs.Tree.{fork_entries, kept_value}
use Rattle.shared_trees.specs.Entries.{Changes}
use Rattle.shared_trees.proofs.Forks.{sides_of, gap_closed, gap_at_end, gap_stays}
use Rattle.shared_trees.proofs.tree.Fork.close.Goals as goal

pub returns-in-Ok-Some-clause-inside : goal.returns-in-Ok-Some-clause-inside
returns-in-Ok-Some-clause-inside g c =
    let fork = c.args.self.now in
    let f = sides_of (fork_entries fork) fork refl c.requires.sorted in
    let next : fork.right ≡ (place_of c.in-Ok-Some.key, kept_value c.in-Ok-Some.value) ∷ c.take_first.new.self = search rules in
    subst (λ es. Changes (fork_entries fork) es true (place_of fork.key) None) (sym c.level.ensures)
    (gap_closed f (place_of c.in-Ok-Some.key, kept_value c.in-Ok-Some.value) c.take_first.new.self next)

pub returns-in-Ok-None-clause-left : goal.returns-in-Ok-None-clause-left
returns-in-Ok-None-clause-left g c =
    let fork = c.args.self.now in
    let f = sides_of (fork_entries fork) fork refl c.requires.sorted in
    let none : fork.right ≡ [] = search rules in
    subst (λ es. Changes (fork_entries fork) es true (place_of fork.key) None) (sym c.replace.ensures.value) (gap_at_end f none)

pub returns-in-Err-clause-inside : goal.returns-in-Err-clause-inside
returns-in-Err-clause-inside g c =
    let fork = c.args.self.now in
    let f = sides_of (fork_entries fork) fork refl c.requires.sorted in
    let same : c.take_first.new.self ≡ fork.right = search rules in
    gap_stays f c.take_first.new.self c.requires.empty same
