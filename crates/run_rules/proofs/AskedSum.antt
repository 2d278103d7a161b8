-- The sum of null is none, and so its activity may fail.
use Rattle.std.proofs.Common.{◌≡◌, codes, refl, sym}
use Rattle.dura_model.specs.Placed.{IsGiven}
use Rattle.dura_model.specs.World.{Activity}
use Rattle.dura_value.specs.Items.{ended}
use Rattle.dura_value.specs.declared.data.Value.TheVariants as values
use Rattle.run_rules.specs.Examples.{summing}
use Rattle.run_rules.specs.FieldExamples.{asking, no_sum}

abbrev pub sum_of_null : Activity
sum_of_null = record { name = codes "add"; argument = values.Null }

pub may_fail : IsGiven asking (ended summing 3 no_sum)
may_fail activity is = let same : sum_of_null ≡ activity = cc is in rw (sym same) refl
