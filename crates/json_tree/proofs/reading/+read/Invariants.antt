-- What is still to be read, behind what was read, is the whole. Each call inside goes one level down, each turn takes tokens.
use Rattle.std.proofs.Common.{◌+◌, ◌*◌, ◌≤◌, length}
use Rattle.json_tree.specs.Tokens.{items_in, members_in}
use Rattle.json_tree.proofs.Items as items
use Rattle.json_tree.proofs.Members as members
use Rattle.json_tree.proofs.reading.+read.Given as goal

abbrev pub decreases-tree_in : goal.decreases-tree_in
decreases-tree_in l = 2 * l.levels

abbrev pub decreases-items_in : goal.decreases-items_in
decreases-items_in l = 2 * l.levels + 1

abbrev pub decreases-members_in : goal.decreases-members_in
decreases-members_in l = 2 * l.levels + 1

abbrev pub invariant-items_in-loop-alloc : goal.invariant-items_in-loop-alloc
invariant-items_in-loop-alloc l = items.LeadTo (items_in l.levels l.initial.reader) l.levels l.found.items l.reader × (length l.reader ≤ length l.initial.reader)

abbrev pub decreases-items_in-loop-alloc : goal.decreases-items_in-loop-alloc
decreases-items_in-loop-alloc l = length l.reader

abbrev pub invariant-members_in-loop-found : goal.invariant-members_in-loop-found
invariant-members_in-loop-found l = members.LeadTo (members_in l.levels l.initial.reader) l.levels l.found.entries l.reader × (length l.reader ≤ length l.initial.reader)

abbrev pub decreases-members_in-loop-found : goal.decreases-members_in-loop-found
decreases-members_in-loop-found l = length l.reader
