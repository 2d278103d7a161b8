use Rattle.part_transport.proofs.Seen.{only_put}
use Rattle.part_transport.proofs.histories.only_what_was_put.Goals as goal

pub returns : goal.returns
returns c = only_put
