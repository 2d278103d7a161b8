-- What a site can know of how things stand.
use Rattle.std.specs.Prelude.{◌≡◌, ◌-◌, ◌^◌, min, length}
use Rattle.site_calls.specs.Events.{Standing}
use Rattle.site_calls.specs.declared.known.Known.{Known}

-- it is known, the number of steps as far as a number of 64 bits can say it
pub record Knows (known : Known) (standing : Standing) : Type 0 where
  pub moment : known.moment ≡ min (length standing.steps) (2 ^ 64 - 1)
  pub loose : known.is_loose ≡ standing.loose
  pub broken : known.is_broken ≡ standing.broken
