-- What the record of the calls says of a whole run.
use Rattle.std.specs.Prelude.{ℕ, List}
use Rattle.site_model.specs.History.{Step, content_of}
use Rattle.site_calls.specs.Events.{Event, Unseen, start_of, replay}

-- the history when the program began
abbrev pub steps_before : Unseen → List Step
steps_before unseen = start_of unseen.files

-- what each file held then
abbrev pub files_before : Unseen → ℕ → List ℕ
files_before unseen file = content_of file (steps_before unseen)

-- the history after these calls
abbrev pub steps_after : Unseen → List Event → List Step
steps_after unseen events = (replay unseen events).steps
