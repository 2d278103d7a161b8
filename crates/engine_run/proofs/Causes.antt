-- Causes that differ.
use Rattle.std.proofs.Common.{◌≡◌, false, ap, arith}
use Rattle.std.proofs.lemmas.Bool.Decides.{nat_tests}
use Rattle.std.specs.Prelude.{nat_eq}
use Rattle.run_causes.specs.Causes.{status_of}
use Rattle.run_causes.specs.declared.cause.Cause.{Cause}
use Rattle.run_causes.specs.declared.cause.Cause.TheVariants.{SiteFault, SayFault, ClockFault, Memory}

-- causes of different statuses
pub differ : (one other : Cause) → nat_eq (status_of one) (status_of other) ≡ false → one ≡ other → ⊥
differ one other apart is = let same : status_of one ≡ status_of other = ap status_of is in grind (arith, nat_tests)

-- want of memory is no fault
pub memory_no_site : (cause : Cause) → cause ≡ Memory → cause ≡ SiteFault → ⊥
memory_no_site cause is also = absurd (cc (is, also))

pub memory_no_say : (cause : Cause) → cause ≡ Memory → cause ≡ SayFault → ⊥
memory_no_say cause is also = absurd (cc (is, also))

pub memory_no_clock : (cause : Cause) → cause ≡ Memory → cause ≡ ClockFault → ⊥
memory_no_clock cause is also = absurd (cc (is, also))
