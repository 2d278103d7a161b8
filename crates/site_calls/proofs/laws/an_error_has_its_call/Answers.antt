use Rattle.std.proofs.Common.{arith}
use Rattle.site_calls.specs.Failures.{is_disk_failure}
use Rattle.site_calls.proofs.laws.an_error_has_its_call.Goals as goal

pub returns : goal.returns
returns c = record {
  has = λ error. record { kept = λ is_such. omega arith; failed = omega arith };
  has_not = λ error fails. absurd (omega (arith, fails.failed));
  taken_back = λ value fails. absurd (omega (arith, fails.kept is_disk_failure));
}
