-- The pair has the place, and the others keep theirs.
use Rattle.request_reader.proofs.progress.note_place.Goals as goal

pub returns : goal.returns
returns c = λ name n. rw c.in_ok-client.ensures at (c.in_ok-insert.ensures.updates.0 (name, n))
