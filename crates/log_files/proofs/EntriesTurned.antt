-- What steps of reading come to.
use Rattle.std.proofs.Common.{◌≡◌, ◌≤◌, List, Result, Err, subst, arith}
use Rattle.site_model.specs.History.{Step, changes_of, IsKept}
use Rattle.commit_log.specs.declared.reader.OpenedLog.{OpenedLog}
use Rattle.commit_log.specs.declared.reader.FrameError.{FrameError}
use Rattle.commit_log.specs.declared.reader.FrameError.TheVariants as unread
use Rattle.dura_value.specs.Items.{Entry}
use Rattle.part_items.specs.Coming.{IsNext}
use Rattle.part_items.specs.Numbered.{Next}
use Rattle.log_files.specs.Entries.{Reads, Turns, Gives, IsEntry, next_in, fuel_of}
use Rattle.log_files.specs.declared.reader.EntryReader.{EntryReader}
use Rattle.log_files.specs.declared.reader.Turn.{Turn}

-- a step that is told of one history is told of the same
pub turns_over : (old steps : List Step) (log : OpenedLog) (done : List Entry) (reader : EntryReader) (result : Result Turn FrameError) → old ≡ steps → IsKept (changes_of log.file steps) → Reads steps log done reader
    → ((some : OpenedLog) (front : List Entry) → IsKept (changes_of some.file old) → Reads old some front reader → Turns old some front result) → Turns steps log done result
turns_over old steps log done reader result same kept has turns =
    let Says : List Step → Type 0 = λ s. IsKept (changes_of log.file s) → Reads s log done reader → Turns s log done result in
    subst Says same (turns log done) kept has

pub gives_refused : (steps : List Step) (log : OpenedLog) (done : List Entry) (error : FrameError) → Turns steps log done (Err error) → Gives steps log done (Err error)
gives_refused steps log done (unread.Damaged offset) refused = refused
gives_refused steps log done unread.SiteFault refused = tt
gives_refused steps log done unread.Memory refused = tt

-- an entry behind steps that gave none
pub numbered_over : (old first : EntryReader) (entry : Entry) (new : EntryReader) → next_in old ≡ next_in first → fuel_of old ≤ fuel_of first → IsEntry old entry new → IsEntry first entry new
numbered_over old first entry new same less is = record {
  is_next = subst (λ (n : Next). IsNext n entry) same is.is_next;
  behind = is.behind;
  less = let one = is.less in omega (arith, one, less);
}
