-- That what came is founded follows from the rest of what stands on an image.
use Rattle.std.proofs.Common.{◌≡◌, ◌∙◌, ℕ, List, ◌++◌, Option, Some, Ok, sym, subst}
use Rattle.dura_value.specs.Dependencies.{Founded, names_of}
use Rattle.dura_model.specs.Partition.{fresh}
use Rattle.dura_model.specs.Steps.{Label}
use Rattle.dura_value.specs.Items.{Entry}
use Rattle.flow_syntax.specs.Syntax.{Flows}
use Rattle.part_items.specs.Logs.{logs_in, entries_in, alone_with}
use Rattle.dura_model.specs.Entries.{placed, AllGiven}
use Rattle.many_logs.specs.Stands.{FilesStand}
use Rattle.part_items.proofs.LogsNumbered.{entries_numbered}
use Rattle.run_laws.proofs.Founding.{entries_founded}
use Rattle.run_laws.specs.Leaves.{committed_in}
use Rattle.run_rules.proofs.OneOfMany.{stands_alone}

same_entries : (one other : List Entry) → ◌≡◌ {A = Option (List Entry)} (Some one) (Some other) → one ≡ other
same_entries one other is = cc is

pub founded_follows : (flows : Flows) (digest : ℕ) (recovered more : List Entry) (files : ℕ → List ℕ) (run : List Label) → entries_in (logs_in (alone_with digest) files) ≡ Some (recovered ++ more) → FilesStand flows 1 digest files run
    → AllGiven flows 1 (fresh 0) (recovered ++ more) → Founded (names_of (committed_in recovered)) (committed_in more)
founded_follows flows digest recovered more files run kept stood given =
    let stands = stands_alone flows digest files run stood in
    let same = same_entries stands.entries (recovered ++ more) (sym stands.kept ∙ kept) in
    entries_founded flows recovered more stands.state (entries_numbered (alone_with digest) files (recovered ++ more) kept) (subst (λ (l : List Entry). placed flows 1 (fresh 0) l ≡ Ok stands.state) same stands.all) given
