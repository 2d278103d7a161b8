-- Files stand for the labels of their entries.
use Rattle.std.proofs.Common.{◌≡◌, ℕ, List, Some, Ok, refl}
use Rattle.dura_value.specs.Items.{Entry}
use Rattle.flow_syntax.specs.Syntax.{Flows}
use Rattle.dura_model.specs.Partition.{Partition, fresh}
use Rattle.dura_model.proofs.Kept.{fresh_shown}
use Rattle.part_items.specs.Logs.{logs_in, entries_in, alone_with}
use Rattle.dura_model.specs.Entries.{placed, labels_in, AllGiven}
use Rattle.many_logs.specs.Stands.{FilesStand}
use Rattle.dura_model.proofs.Alone.{are_shown_alone}
use Rattle.run_rules.proofs.EntriesLead.{entries_lead}
use Rattle.run_rules.proofs.OneOfMany.{stands_among}
use Rattle.part_items.proofs.LogsNumbered.{entries_numbered}

pub labels_stand : (flows : Flows) (digest : ℕ) (files : ℕ → List ℕ) (entries : List Entry) (q : Partition) → entries_in (logs_in (alone_with digest) files) ≡ Some entries → placed flows 1 (fresh 0) entries ≡ Ok q
    → AllGiven flows 1 (fresh 0) entries → FilesStand flows 1 digest files (labels_in entries)
labels_stand flows digest files entries q kept all given = stands_among flows digest files (labels_in entries) (record {
  entries = entries;
  kept = kept;
  state = q;
  all = all;
  legal = (entries_lead flows (fresh 0) q entries (are_shown_alone fresh (fresh 0) refl (fresh_shown 1)) (entries_numbered (alone_with digest) files entries kept) given all).0;
})
