-- What a host shows.
use Rattle.std.specs.Prelude.{List}
use Rattle.site_calls.specs.Events.{Event}
use Rattle.site_host.specs.declared.host.Host.{Host}

module _ {R H : Type 0} where
  -- the calls so far, the newest first
  abbrev pub events_of : Host R H → List Event
  events_of host = host.record.events
