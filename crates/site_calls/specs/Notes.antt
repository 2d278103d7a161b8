-- How a call is noted.
use Rattle.std.specs.Prelude.{ℕ, List, slice_index, ◌==◌, if◌then◌else◌}
use Rattle.site_calls.specs.Events.{Event, found, made, measured, got, begun, put, lost, flushed, named, absent, printed, failed, unprinted}

-- The event of a note: the first number is its kind, the others are the event's, in their order, with 1 for a yes.
abbrev pub event_of : List ℕ → List ℕ → Event
event_of numbers bytes =
    let kind = slice_index numbers 0 in
    let one = slice_index numbers 1 in
    let two = slice_index numbers 2 in
    if kind == 0 then found one (two == 1) else
    if kind == 1 then made one else
    if kind == 2 then measured one two else
    if kind == 3 then got one two (slice_index numbers 3) (slice_index numbers 4) bytes else
    if kind == 4 then begun one two (slice_index numbers 3) else
    if kind == 5 then put bytes else
    if kind == 6 then lost bytes else
    if kind == 7 then flushed one (two == 1) else
    if kind == 8 then named (one == 1) else
    if kind == 9 then absent one else
    if kind == 10 then printed bytes else
    if kind == 11 then failed one else
    unprinted
