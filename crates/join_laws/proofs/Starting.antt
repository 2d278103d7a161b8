-- Where lives may begin.
use Rattle.std.proofs.Common.{ℕ, List, [], refl, sym, ◌∙◌, ap, subst, append-nil}
use Rattle.dura_model.specs.Partition.{fresh}
use Rattle.dura_value.specs.Dependencies.Founded.{none}
use Rattle.flow_syntax.specs.Syntax.{Flows}
use Rattle.join_laws.specs.Joined.{KeepsOn, AllKeep}
use Rattle.many_logs.specs.Placing.{Commit}
use Rattle.many_logs.specs.Stands.{asked_at, AreKept}
use Rattle.part_items.specs.Kept.{kept_in}
use Rattle.part_items.specs.Logs.{first_log, second_log, logs_of, entries_in}
use Rattle.site_model.specs.History.{IsImage}

-- files that keep just these entries keep them
pub just_kept : (flows : Flows) (count digest : ℕ) (run : List Commit) (files : ℕ → List ℕ) → AreKept flows count digest files run → KeepsOn flows count digest run files
just_kept flows count digest run files kept = record { more = []; kept = subst (AreKept flows count digest files) (sym (append-nil run)) kept; founded = none }

-- where nothing happened no entry is kept
pub none_kept : (flows : Flows) (count digest : ℕ) (image : ℕ → List ℕ) → IsImage [] image → AreKept flows count digest image []
none_kept flows count digest image left = record {
  below = tt;
  kept = λ partition inside.
      ap (λ (l : List ℕ). entries_in (logs_of (asked_at count digest partition) (kept_in partition l) (kept_in partition (image (second_log partition))))) (left.each (first_log partition))
      ∙ ap (λ (l : List ℕ). entries_in (logs_of (asked_at count digest partition) (kept_in partition []) (kept_in partition l))) (left.each (second_log partition));
  states = fresh;
  made = refl;
  given = tt;
}

pub nothing_kept : (flows : Flows) (count digest : ℕ) → AllKeep flows count digest [] []
nothing_kept flows count digest image left = record { more = []; kept = none_kept flows count digest image left; founded = none }
