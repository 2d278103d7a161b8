-- What holds of a call that serves clients between its steps.
use Rattle.std.specs.Prelude.{◌≡◌, ◌≤◌, ℕ, List, [], ◌∷◌, map, Option, None, Some, if◌then◌else◌}
use Rattle.client_port.specs.Clients.{clients_of, requests_of}
use Rattle.client_port.specs.Ports.{Queue, is_of}
use Rattle.gated_store.specs.declared.local.Gated as gated_types
use Rattle.gated_store.specs.declared.store.GatedStore.{GatedStore}
use Rattle.hub_store.specs.Changes.{told_in}
use Rattle.hub_store.specs.Origin.{Origin}
use Rattle.hub_store.specs.Trail.{Said}
use Rattle.hub_store.specs.declared.start.Start as starts
use Rattle.many_rules.specs.Rules.{Rules, pairs_of}
use Rattle.node_core.specs.Growing.{GrowsOn}
use Rattle.node_core.specs.Running.{IsRunning}
use Rattle.request_reader.specs.Line.{Request}
use Rattle.run_rules.specs.Rules.{count_told}
use Rattle.site_model.specs.declared.site.Site as sites
use Rattle.spec_cell.specs.Views.{CellView}

-- a client's queue, where there is one
abbrev pub of_client : List ℕ → List Queue → Option Queue
of_client name [] = None
of_client name (q ∷ qs) = if is_of name q then Some q else of_client name qs

-- The queues are those of these requests' clients, and of each the port has said what was told.
pub record HasSaid (requests : List Request) (told : List Said) (queues : List Queue) : Type 0 where
  pub clients : map (λ q. q.client) queues ≡ clients_of requests
  pub each : (name : List ℕ) (q : Queue) → of_client name queues ≡ Some q → (q.requests ≡ requests_of name requests) × (q.said ≡ count_told (pairs_of told) name)

-- The call goes on, and its port has said what was told.
pub record IsServing {V L : Type 0} {G : sites.Ghosts V} {K : starts.Ghosts (gated_types.Gated L)} (o : Origin) (rules : Rules) (store : GatedStore V L G K) (cells : List CellView) (queues : List Queue) : Type 0 where
  pub running : IsRunning o rules store cells
  pub said : HasSaid rules.requests (told_in store.logs) queues

-- What a call leaves of a store, whatever it comes to: a site that tells told before, the length below which logs stay is the same, it heard of
-- no earlier moment, no count of faults fell, and what was settled stays so, and more may have come behind it, between the moments heard of
-- before and by then.
pub record GoesOn {V L : Type 0} {G : sites.Ghosts V} {K : starts.Ghosts (gated_types.Gated L)} (rules : Rules) (old new : GatedStore V L G K) : Type 0 where
  pub tells : G.tells new.logs.site → G.tells old.logs.site
  pub segment : new.logs.segment ≡ old.logs.segment
  pub latest : old.logs.latest ≤ new.logs.latest
  pub disk_faults : G.disk_faults old.logs.site ≤ G.disk_faults new.logs.site
  pub say_faults : G.say_faults old.logs.site ≤ G.say_faults new.logs.site
  pub grows : GrowsOn rules old new
