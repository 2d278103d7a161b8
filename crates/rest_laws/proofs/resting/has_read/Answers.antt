use Rattle.std.proofs.Common.{map, length, refl}
use Rattle.part_steps.specs.States.{state_of}
use Rattle.rest_laws.proofs.Looking.{referred, read_by, read_then, read_else}
use Rattle.rest_laws.proofs.resting.has_read.Goals as goal

pub returns-then-first-taken : goal.returns-then-first-taken
returns-then-first-taken c =
    let refs = c.args.states.now in
    let from = c.index-states-source.result in
    let to = c.index-states-reader.result in
    let from_at = referred refs c.args.source from c.index-states-source.is c.requires.source in
    let to_at = referred refs c.args.reader to c.index-states-reader.is c.requires.reader in
    read_then c.first_left-first.result c.left_len.result c.taken_in-taken.result
    (read_by (map (λ s. s.now) refs) c.requires.all c.args.source c.args.reader from.now to.now from_at to_at c.number.result c.number-then-first-taken.result c.number-2.result c.first_left-first.result c.left_len.result c.taken_in-taken.result
    c.number.ensures c.number-then-first-taken.ensures c.number-2.ensures c.first_left-first.ensures c.left_len.ensures c.taken_in-taken.ensures)
    c.if-first-taken.true

pub returns-else-first-taken : goal.returns-else-first-taken
returns-else-first-taken c =
    let refs = c.args.states.now in
    let from = c.index-states-source.result in
    let to = c.index-states-reader.result in
    let from_at = referred refs c.args.source from c.index-states-source.is c.requires.source in
    let to_at = referred refs c.args.reader to c.index-states-reader.is c.requires.reader in
    read_else c.first_left-first.result (length ((state_of from.now).outboxes (state_of to.now).number).messages) c.taken_in-taken.result
    (read_by (map (λ s. s.now) refs) c.requires.all c.args.source c.args.reader from.now to.now from_at to_at c.number.result (state_of to.now).number c.number-2.result c.first_left-first.result
    (length ((state_of from.now).outboxes (state_of to.now).number).messages) c.taken_in-taken.result
    c.number.ensures refl c.number-2.ensures c.first_left-first.ensures refl c.taken_in-taken.ensures)
    c.if-first-taken.false
