use Rattle.std.proofs.Common.{◌≡◌, ◌-◌, length}
use Rattle.std.specs.List.{position_or_len}
use Rattle.dura_value.specs.Views.{id_of}
use Rattle.part_rows.specs.Queues.{is_of_link}
use Rattle.part_rows.proofs.Links.{place_from}
use Rattle.part_rows.proofs.queue.Queue.place_of.Given as goal

-- the first of the link lies from this place on
abbrev pub invariant-loop-place : goal.invariant-loop-place
invariant-loop-place l =
    position_or_len (is_of_link (id_of l.fn.from) (id_of l.fn.to)) l.fn.self ≡ place_from (is_of_link (id_of l.fn.from) (id_of l.fn.to)) l.fn.self l.place

abbrev pub decreases-loop-place : goal.decreases-loop-place
decreases-loop-place l = length l.fn.self - l.place
