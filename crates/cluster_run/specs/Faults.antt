-- How often the outside failed.
use Rattle.std.specs.Prelude.{◌≡◌, ◌≤◌, ℕ}
use Rattle.run_causes.specs.declared.cause.Cause.{Cause}
use Rattle.run_causes.specs.declared.cause.Cause.TheVariants.{SiteFault, SayFault, ClockFault}
use Rattle.site_model.specs.Calls.{HasRisen}

-- how often the disk, the tape and the clock failed
pub record Faults : Type 0 where
  pub disk : ℕ
  pub tape : ℕ
  pub clock : ℕ

abbrev pub faults_of : (disk tape clock : ℕ) → Faults
faults_of disk tape clock = record { disk = disk; tape = tape; clock = clock }

-- No count falls, and where a call ended for a fault its count rose.
pub record FaultsRise (cause : Cause) (old new : Faults) : Type 0 where
  pub of_disk : cause ≡ SiteFault → HasRisen old.disk new.disk
  pub of_tape : cause ≡ SayFault → HasRisen old.tape new.tape
  pub of_clock : cause ≡ ClockFault → HasRisen old.clock new.clock
  pub disk : old.disk ≤ new.disk
  pub tape : old.tape ≤ new.tape
  pub clock : old.clock ≤ new.clock
