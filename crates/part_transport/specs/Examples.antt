-- Numbers in place of packets, put for one partition.
use Rattle.std.specs.Prelude.{ℕ, List, [], ◌∷◌, replicate, None, Result, Ok, Err}
use Rattle.part_transport.specs.Lanes.{Lane, empty_lane, put_on}
use Rattle.part_transport.specs.declared.disturb.Disturb.{Disturb}

abbrev pub lane_or : Lane ℕ → Result (Lane ℕ) ℕ → Lane ℕ
lane_or lane (Ok after) = after
lane_or lane (Err number) = lane

-- the lane behind these puts
abbrev pub after_puts : Disturb → Lane ℕ → List ℕ → Lane ℕ
after_puts disturb lane [] = lane
after_puts disturb lane (number ∷ numbers) = after_puts disturb (lane_or lane (put_on disturb number lane)) numbers

-- the queue behind these puts
abbrev pub queue_after : Disturb → List ℕ → List ℕ
queue_after disturb numbers = (after_puts disturb empty_lane numbers).queue

abbrev pub four : List ℕ
four = 1 ∷ 2 ∷ 3 ∷ 4 ∷ []

abbrev pub periods : (twice drop hold : ℕ) → Disturb
periods twice drop hold = record { twice = twice; drop = drop; hold = hold }

-- a lane where so many wait
abbrev pub waiting : ℕ → Lane ℕ
waiting count = record { queue = replicate count 0; puts = 0; held = None }
