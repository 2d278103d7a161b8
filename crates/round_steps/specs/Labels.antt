-- How many labels were settled.
use Rattle.std.specs.Prelude.{◌≡◌, ◌<◌, ℕ, ◌+◌, ◌*◌, List, length}
use Rattle.hub_store.specs.Trail.{Settled}
use Rattle.many_logs.specs.Labels.{labels_of_commits}
use Rattle.many_rules.specs.Rules.{Rules, commits_of}
use Rattle.round_steps.specs.declared.course.Seen.{Seen}

-- by all entries of the trail
abbrev pub settled_labels : List Settled → ℕ
settled_labels trail = length (labels_of_commits (commits_of trail))

-- all entries of the trail were looked at, and all their labels counted
pub record IsCounted (seen : Seen) (trail : List Settled) : Type 0 where
  pub entries : seen.entries ≡ length trail
  pub labels : seen.labels ≡ settled_labels trail

-- fewer labels than are enough and those of a frame of each partition, of 64 entries with as many items as they may have
abbrev pub AreFew : Rules → (enough : ℕ) → List Settled → Type 0
AreFew rules enough trail = settled_labels trail < enough + 64 * rules.count * rules.most
