-- Releases are sent one behind the other.
use Rattle.std.proofs.Common.{◌≡◌, ◌<◌, ◌+◌, ◌∙◌, ℕ, List, [], ◌∷◌, ◌++◌, length, get_or, drop, ap, sym, append_assoc}
use Rattle.std.proofs.lemmas.List.{drop_more, map-append}
use Rattle.dura_value.specs.Ids.{Id}
use Rattle.dura_value.specs.Messages.{Message, Spot, at_spot, release}
use Rattle.dura_value.specs.declared.messages.Message.{Message as OwnMessage}
use Rattle.dura_value.specs.declared.spots.Spot.{Spot as OwnSpot}
use Rattle.dura_value.specs.Views.{spot_of, spots_of, message_of, messages_of}
use Rattle.flow_syntax.specs.Machine.{releasing}

-- the release of an entity
abbrev pub releases : Id → Spot → Message
releases id spot = record { from = id; to = at_spot spot; body = release }

pub one_released : (sent : List OwnMessage) (m : OwnMessage) (id : Id) (set : List OwnSpot) (i : ℕ) (spot : OwnSpot) (total : List Message)
    → i < length set → spot ≡ get_or set i spot → message_of m ≡ releases id (spot_of spot)
    → messages_of sent ++ releasing id (spots_of (drop i set)) ≡ total
    → messages_of (sent ++ m ∷ []) ++ releasing id (spots_of (drop (i + 1) set)) ≡ total
one_released sent m id set i spot total here is said so_far =
    let rest = releasing id (spots_of (drop (i + 1) set)) in
    ap (λ (ms : List Message). ms ++ rest) (map-append message_of sent (m ∷ []))
    ∙ ap (λ (one : Message). (messages_of sent ++ one ∷ []) ++ rest) said
    ∙ append_assoc (messages_of sent) (releases id (spot_of spot) ∷ []) rest
    ∙ ap (λ (ss : List OwnSpot). messages_of sent ++ releasing id (spots_of ss)) (sym (drop_more set i spot here ∙ ap (λ (s : OwnSpot). s ∷ drop (i + 1) set) (sym is)))
    ∙ so_far
