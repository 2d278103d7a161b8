use Rattle.std.proofs.Common.{refl}
use Rattle.site_calls.proofs.Histories.{sync_counts}
use Rattle.site_calls.proofs.SyncsAtOnce.{each_counts}
use Rattle.site_calls.proofs.laws.a_sync_counts_where_names_are_safe.Goals as goal

pub returns : goal.returns
returns c = record {
  counts = λ unseen events file. sync_counts file unseen events;
  several = λ unseen events files named unbroken. (each_counts unseen files events named unbroken).steps;
  made = λ unseen events file. refl;
  named = λ unseen events. refl;
}
