-- Whether a partition accepts an item.
use Rattle.std.specs.Prelude.{◌≡◌, ℕ, ◌==◌, ◌&&◌, if◌then◌else◌, Bool, true, false, Option, Some, None}
use Rattle.dura_value.specs.Ids.{home}
use Rattle.dura_value.specs.Messages.{Message}
use Rattle.dura_model.specs.Partition.{Partition, taken_in}
use Rattle.dura_model.specs.Steps.{is_request, number_in}

-- It accepts, and has become this; or it refuses, and is as it was.
abbrev pub Accepts : Bool → (old now : Partition) → Option Partition → Type 0
Accepts true old now wanted = wanted ≡ Some now
Accepts false old now wanted = (wanted ≡ None) × (now ≡ old)

-- what a partition makes of a request that it takes, if it is one of a client here and wasn't taken
abbrev pub accepted_request : ℕ → Partition → Message → Option Partition
accepted_request count p message =
    if home count message.from == p.number && is_request message.from (number_in message.body) message
    then taken_in count p message (p.taken message.from (number_in message.body))
    else None
