use Rattle.std.proofs.Common.{◌≡◌, inl, inr, refl, arith}
use Rattle.run_causes.specs.declared.cause.Cause.TheVariants.{SiteFault, SayFault, ClockFault}
use Rattle.run_examples.proofs.promise_examples.faults_risen.Goals as goal
use Rattle.site_model.specs.Calls.{HasRisen}

-- a count that stays at 0 hasn't risen
still : HasRisen 0 0 → ⊥
still risen = elim risen [ inl more ↦ omega (arith, more) | inr full ↦ omega (arith, full) ]

no_say : SiteFault ≡ SayFault → ⊥
no_say is = cc

no_clock : SiteFault ≡ ClockFault → ⊥
no_clock is = cc

pub returns-clause-risen : goal.returns-clause-risen
returns-clause-risen c = record {
  of_disk = λ is. inl (omega arith);
  of_tape = λ is. absurd (no_say is);
  of_clock = λ is. absurd (no_clock is);
  disk = omega arith;
  tape = omega arith;
  clock = omega arith;
}

pub returns-clause-disk : goal.returns-clause-disk
returns-clause-disk c = λ rise. still (rise.of_disk refl)

pub returns-clause-tape : goal.returns-clause-tape
returns-clause-tape c = λ rise. still (rise.of_tape refl)

pub returns-clause-clock : goal.returns-clause-clock
returns-clause-clock c = λ rise. still (rise.of_clock refl)

pub returns-clause-disk_fell : goal.returns-clause-disk_fell
returns-clause-disk_fell c = λ rise. let fell = rise.disk in omega (arith, fell)

pub returns-clause-tape_fell : goal.returns-clause-tape_fell
returns-clause-tape_fell c = λ rise. let fell = rise.tape in omega (arith, fell)

pub returns-clause-clock_fell : goal.returns-clause-clock_fell
returns-clause-clock_fell c = λ rise. let fell = rise.clock in omega (arith, fell)
