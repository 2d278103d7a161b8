-- What each call leaves, by its answer.
use Rattle.std.specs.Prelude.{ℕ, List, [], ◌∷◌, ◌++◌, Result, Ok, Err, MatchBool}
use Rattle.site_model.specs.History.{Step, changes_of}
use Rattle.commit_log.specs.declared.header.Header.{Header}
use Rattle.commit_log.specs.declared.states.Resting.{Resting}
use Rattle.commit_log.specs.declared.states.Bodied.{Bodied}
use Rattle.commit_log.specs.declared.states.Synced.{Synced}
use Rattle.commit_log.specs.declared.states.Gated.{Gated}
use Rattle.commit_log.specs.declared.states.BrokenBody.{BrokenBody}
use Rattle.commit_log.specs.declared.states.BrokenGate.{BrokenGate}
use Rattle.commit_log.specs.declared.states.Reopened.{Reopened}
use Rattle.commit_log.specs.declared.states.BodyError.{BodyError}
use Rattle.commit_log.specs.declared.states.BodyError.TheVariants.{Full, SiteFault, Memory}
use Rattle.commit_log.specs.States.{IsResting, IsBodied, IsSynced, IsGated, IsBrokenBody, IsBrokenGate}

abbrev pub RestsAs : List Step → Header → List (List ℕ) → Resting → Type 0
RestsAs steps h payloads log = IsResting (changes_of log.file steps) h payloads log.gate

abbrev pub BodyBreaksAs : List Step → Header → List (List ℕ) → BrokenBody → Type 0
BodyBreaksAs steps h payloads log = IsBrokenBody (changes_of log.file steps) h payloads log.gate

abbrev pub GateBreaksAs : List Step → Header → List (List ℕ) → List ℕ → BrokenGate → Type 0
GateBreaksAs steps h payloads payload log = IsBrokenGate (changes_of log.file steps) h payloads payload log.gate log.next

abbrev pub AfterBody : List Step → Header → List (List ℕ) → List ℕ → Result Bodied BodyError → Type 0
AfterBody steps h payloads payload (Ok log) = IsBodied (changes_of log.file steps) h payloads payload log.gate log.next
AfterBody steps h payloads payload (Err (Full length log)) = RestsAs steps h payloads log
AfterBody steps h payloads payload (Err (SiteFault broken)) = BodyBreaksAs steps h payloads broken
AfterBody steps h payloads payload (Err (Memory log)) = RestsAs steps h payloads log

abbrev pub AfterSync : List Step → Header → List (List ℕ) → List ℕ → Result Synced BrokenBody → Type 0
AfterSync steps h payloads payload (Ok log) = IsSynced (changes_of log.file steps) h payloads payload log.gate log.next
AfterSync steps h payloads payload (Err broken) = BodyBreaksAs steps h payloads broken

abbrev pub AfterGate : List Step → Header → List (List ℕ) → List ℕ → Result Gated BrokenGate → Type 0
AfterGate steps h payloads payload (Ok log) = IsGated (changes_of log.file steps) h payloads payload log.gate log.next
AfterGate steps h payloads payload (Err broken) = GateBreaksAs steps h payloads payload broken

abbrev pub AfterSettle : List Step → Header → List (List ℕ) → List ℕ → Result Resting BrokenGate → Type 0
AfterSettle steps h payloads payload (Ok log) = RestsAs steps h (payloads ++ payload ∷ []) log
AfterSettle steps h payloads payload (Err broken) = GateBreaksAs steps h payloads payload broken

-- the frame is there exactly where the gate read open
abbrev pub AfterReopen : List Step → Header → List (List ℕ) → List ℕ → Result Reopened BrokenGate → Type 0
AfterReopen steps h payloads payload (Ok found) = MatchBool found.settled (RestsAs steps h (payloads ++ payload ∷ []) found.log) (RestsAs steps h payloads found.log)
AfterReopen steps h payloads payload (Err broken) = GateBreaksAs steps h payloads payload broken

-- the frame is gone: its gate was never tried
abbrev pub AfterDrop : List Step → Header → List (List ℕ) → Result Resting BrokenBody → Type 0
AfterDrop steps h payloads (Ok log) = RestsAs steps h payloads log
AfterDrop steps h payloads (Err broken) = BodyBreaksAs steps h payloads broken
