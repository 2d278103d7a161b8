-- What is known of a request is told.
use Rattle.std.proofs.Common.{◌≡◌, Some}
use Rattle.dura_model.specs.Partition.{Partition}
use Rattle.dura_value.specs.Messages.{Message}
use Rattle.spec_cell.specs.Comes.{IsKnownAs, Offers}
use Rattle.spec_cell.specs.Views.{CellView}
use Rattle.spec_cell.specs.declared.coming.Offered.{Offered}
use Rattle.spec_cell.specs.declared.coming.Offered.TheVariants as offers

pub known_offer : (base ahead : Partition) (message : Message) (old new : CellView) (offered : Offered) → IsKnownAs base ahead old.waits message (Some offered) → new ≡ old → Offers base ahead message old offered new
known_offer base ahead message old new offers.Queued known same = absurd known
known_offer base ahead message old new offers.Clash known same = (known, same)
known_offer base ahead message old new offers.Taken known same = (known, same)
known_offer base ahead message old new (offers.Kept answer) known same = (known, same)
