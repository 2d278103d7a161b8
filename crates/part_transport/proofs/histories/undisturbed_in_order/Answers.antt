use Rattle.part_transport.proofs.Ordered.{all_in_order}
use Rattle.part_transport.proofs.histories.undisturbed_in_order.Goals as goal

pub returns : goal.returns
returns c = all_in_order
