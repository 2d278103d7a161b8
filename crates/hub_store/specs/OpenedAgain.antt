-- What opening a log again leaves of its file, and what dropping a frame does.
use Rattle.std.specs.Prelude.{◌≡◌, ◌==◌, ℕ, List, Result, IfOk, IfErr, slice_index}
use Rattle.site_model.specs.History.{Step, changes_of, content_of, Leaves}
use Rattle.site_model.specs.Calls.{Syncs}
use Rattle.site_model.specs.Moments.{LeavesOnly}
use Rattle.commit_log.specs.declared.header.Header.{Header}
use Rattle.commit_log.specs.declared.states.BrokenBody.{BrokenBody}
use Rattle.commit_log.specs.declared.states.BrokenGate.{BrokenGate}
use Rattle.commit_log.specs.declared.states.Reopened.{Reopened}
use Rattle.commit_log.specs.declared.states.Resting.{Resting}
use Rattle.commit_log.specs.Outcomes.{AfterReopen, AfterDrop}
use Rattle.commit_log.specs.Segment.{open_gate}

-- No more happened than a sync. Its frame, with this payload, is kept just where its gate, at this offset, reads open.
pub record Reopens (file : ℕ) (h : Header) (payloads : List (List ℕ)) (payload : List ℕ) (gate : ℕ) (old new : List Step) (result : Result Reopened BrokenGate) : Type 0 where
  pub syncs : Syncs file old new result
  pub during : LeavesOnly file old new (Leaves (changes_of file old))
  pub after : AfterReopen new h payloads payload result
  pub file_is : IfOk result (λ found. found.log.file ≡ file)
  pub broken_is : IfErr result (λ log. log.file ≡ file)
  pub opened : IfOk result (λ found. found.settled ≡ (slice_index (content_of file old) gate == open_gate))

-- No more happened than a sync, and its frame is gone.
pub record Drops (file : ℕ) (h : Header) (payloads : List (List ℕ)) (old new : List Step) (result : Result Resting BrokenBody) : Type 0 where
  pub syncs : Syncs file old new result
  pub during : LeavesOnly file old new (Leaves (changes_of file old))
  pub after : AfterDrop new h payloads result
  pub file_is : IfOk result (λ log. log.file ≡ file)
  pub broken_is : IfErr result (λ log. log.file ≡ file)
