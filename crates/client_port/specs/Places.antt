-- What finds a client's queue.
use Rattle.std.specs.Prelude.{◌≡◌, ℕ, List, map}
use Rattle.std.specs.BTreeMap.{get}
use Rattle.std.specs.Cmp.Lexicographic.{slice_cmp}
use Rattle.std.specs.List.{position_from}
use Rattle.std.specs.Ordering.{nat_cmp}
use Rattle.client_port.specs.Ports.{Queue, is_of}
use Rattle.client_port.specs.Views.{queue_of}
use Rattle.client_port.specs.declared.queues.Queues.{Queues}

-- the queues
abbrev pub all_of : Queues → List Queue
all_of q = map queue_of q.all.items

-- The place of each queue is kept by its client.
pub record PlacesStand (q : Queues) : Type 0 where
  pub places : (name : List ℕ) → get (slice_cmp nat_cmp) q.places name ≡ position_from (is_of name) 0 (all_of q)
