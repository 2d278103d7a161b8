use Rattle.std.proofs.Common.{ap, ◌∙◌, subst}
use Rattle.shared_trees.specs.Places.{place_of, place_sought}
use Rattle.shared_trees.specs.Entries.{IsSorted, first_from}
use Rattle.shared_trees.proofs.Firsts.{first_seen, none_seen}
use Rattle.shared_trees.proofs.sorted.Sorted.first_from.Goals as goal

pub returns-clause-first : goal.returns-clause-first
returns-clause-first g c =
    first_seen (λ one. (place_of one.0.now, one.1.now)) c.first_from.result c.args.self.now (place_sought c.args.from.now)
    (c.first_from.ensures ∙ ap (λ es. first_from es (place_sought c.args.from.now)) c.self.view_is) (subst IsSorted c.self.view_is c.self.invariant)

pub returns-clause-none : goal.returns-clause-none
returns-clause-none g c =
    none_seen (λ one. (place_of one.0.now, one.1.now)) c.first_from.result c.args.self.now (place_sought c.args.from.now)
    (c.first_from.ensures ∙ ap (λ es. first_from es (place_sought c.args.from.now)) c.self.view_is)
