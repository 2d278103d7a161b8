use Rattle.std.proofs.Common.{refl, ap, List, [], ◌∷◌, arith}
use Rattle.commit_log.specs.Segment.{header_at}
use Rattle.dura_model.specs.Partition.{fresh}
use Rattle.dura_model.proofs.Kept.{fresh_shown}
use Rattle.part_items.specs.Examples.{digest, taking}
use Rattle.run_rules.specs.Examples.{request_taken}
use Rattle.part_items.specs.Kept.{entries_from}
use Rattle.part_items.specs.Logs.{Logs, no_log, entries_in}
use Rattle.dura_model.proofs.Alone.{are_shown_alone}
use Rattle.run_rules.proofs.EntriesLead.{entries_lead}
use Rattle.run_rules.proofs.OneOfMany.{stands_among}
use Rattle.part_items.proofs.OneEntryKept.{frames_kept}
use Rattle.run_rules.proofs.standing.files_stand.Goals as goal

first_of : List Logs → Logs
first_of [] = no_log
first_of (found ∷ more) = found

pub returns-clause-empty : goal.returns-clause-empty
unfolding header_at entries_from
returns-clause-empty c = λ flows. stands_among flows digest _ [] (record { entries = []; kept = refl; state = fresh 0; all = refl; legal = refl })

pub returns-clause-taken : goal.returns-clause-taken
unfolding first_of
returns-clause-taken c = λ flows. stands_among flows digest _ _ (record {
  entries = taking 0 ∷ [];
  kept = ap (λ (logs : List Logs). entries_in (first_of logs)) frames_kept;
  state = request_taken;
  all = refl;
  legal = (entries_lead flows (fresh 0) request_taken (taking 0 ∷ []) (are_shown_alone fresh (fresh 0) refl (fresh_shown 1)) (refl, omega arith, tt) ((tt, λ next is. tt), λ next is. tt) refl).0;
})

pub returns-clause-refused : goal.returns-clause-refused
unfolding header_at
returns-clause-refused c = λ flows run stands. let none = stands.kept 0 (omega arith) in cc none
