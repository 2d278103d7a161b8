-- What is left of a sound state's streams was sent by its own entries.
use Rattle.std.proofs.lemmas.Option.{slice_get_within, get_or_from_slice_get}
use Rattle.part_rows.specs.Views.{AreSentBy, outboxes_of}
use Rattle.part_steps.specs.States.{IsSound, state_of}
use Rattle.part_steps.specs.declared.state.PartState.{PartState}

pub are_sent_here : (s : PartState) → IsSound s → AreSentBy (state_of s).number (outboxes_of s.rows.outboxes)
are_sent_here s sound target at posted is =
    let messages = ((state_of s).outboxes target).messages in
    (sound.belongs.outboxes.earlier target posted (at, slice_get_within messages at posted is, get_or_from_slice_get messages at posted posted is)).here
