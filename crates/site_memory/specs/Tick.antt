-- What the clock in memory is seen as.
use Rattle.std.specs.Prelude.{ℕ, List}
use Rattle.site_memory.specs.declared.tick.TickClock.{TickClock}
use Rattle.site_model.specs.Readings.{Reading}

-- the greatest stamp that it gave
abbrev pub tick_latest : TickClock → ℕ
tick_latest clock = clock.latest

-- the stamps that it gave, the newest first
abbrev pub tick_given : TickClock → List Reading
tick_given clock = clock.readings.stamps

-- how often it has failed
abbrev pub tick_faults : TickClock → ℕ
tick_faults clock = clock.faults

-- the stamp that it stands at
abbrev pub tick_at : TickClock → ℕ
tick_at clock = clock.at
