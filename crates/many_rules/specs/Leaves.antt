-- What a crash leaves of a call of many partitions.
use Rattle.std.specs.Prelude.{◌≡◌, ◌⊎◌, ◌<◌, ℕ, true, List, [], ◌∷◌, ◌++◌, Some}
use Rattle.std.specs.List.{All}
use Rattle.client_port.specs.Lines.{line_of}
use Rattle.commit_log.specs.declared.header.Header.{Header}
use Rattle.dura_value.specs.Dependencies.{Founded}
use Rattle.dura_model.specs.Legal.{Legal}
use Rattle.dura_model.specs.Partition.{Partition, fresh}
use Rattle.dura_model.specs.World.{World}
use Rattle.dura_value.specs.Ids.{client}
use Rattle.dura_value.specs.Items.{Entry}
use Rattle.dura_value.specs.Messages.{Answer}
use Rattle.hub_store.specs.Moments.{WroteGate, IsPrefix, IsSpeaking}
use Rattle.hub_store.specs.Origin.{Origin}
use Rattle.hub_store.specs.Trail.{Settled, Said, of_part}
use Rattle.many_logs.specs.Placing.{Commit, states_after, of_partition, AllBelow, commits_at, frames_in_order}
use Rattle.many_logs.specs.Labels.{labels_of_commits, AllGiven}
use Rattle.many_logs.specs.Stands.{FilesStand, AreKept}
use Rattle.many_rules.specs.Rules.{Rules, HaveRun, IsNext, IsOurs, commits_of, pairs_of}
use Rattle.many_logs.specs.Names.{identities_in, committed_in}
use Rattle.part_items.specs.Kept.{nothing, kept_in}
use Rattle.part_items.specs.Logs.{first_log, second_log}
use Rattle.site_model.specs.History.{Step, changes_of, tape, Leaves}

-- the header of a partition's log, from its first position on
abbrev pub header_at : (count digest partition : ℕ) → Header
header_at count digest partition = record { partition = partition; partitions = count; digest = digest; base = 0 }

-- Each partition's log lies in one of its two files, under the flows file's digest, and the entries of all were accepted in an order,
-- each outcome one that its activity may give. The other file of each keeps nothing.
pub record Begins (o : Origin) (rules : Rules) (digest : ℕ) : Type 0 where
  pub count : o.count ≡ rules.count
  pub headers : (partition : ℕ) → partition < rules.count → (o.logs partition).header ≡ header_at rules.count digest partition
  pub below : AllBelow rules.count rules.recovered
  pub theirs : (partition : ℕ) → partition < rules.count → of_partition partition rules.recovered ≡ (o.logs partition).entries
  pub made : states_after rules.flows rules.count fresh rules.recovered ≡ Some rules.begin
  pub given : AllGiven rules.flows rules.count fresh rules.recovered
  pub other : ℕ → ℕ
  pub files : (partition : ℕ) → partition < rules.count → (((o.logs partition).file ≡ first_log partition) × (other partition ≡ second_log partition)) ⊎ (((o.logs partition).file ≡ second_log partition) × (other partition ≡ first_log partition))
  pub empty : (partition : ℕ) → partition < rules.count → (image : List ℕ) → Leaves (changes_of (other partition) o.steps) image → kept_in partition image ≡ nothing

-- The line answers its client's next request, once these were answered, as the run has it from a moment on at which the first of
-- these entries were settled.
pub record IsAnswered (rules : Rules) (settled : List Commit) (told : List Said) (one : Said) (line : List ℕ) : Type 0 where
  pub next : rules.serves ≡ true → IsNext rules told one
  pub before : List Commit
  pub behind : List Commit
  pub front : settled ≡ before ++ behind
  pub world : World
  pub legal : Legal rules.flows (labels_of_commits rules.recovered ++ labels_of_commits before) world
  pub answer : Answer
  pub has : world.answers (client one.client) one.number ≡ Some answer
  pub line_is : line ≡ line_of one.client one.number answer

-- these requests were answered by these lines, one after another
pub data AllAnswered (rules : Rules) (settled : List Commit) : List Said → List ℕ → Type 0 where
  nothing_said : AllAnswered rules settled [] []
  one_more : {told : List Said} {lines : List ℕ} → AllAnswered rules settled told lines → (one : Said) (line : List ℕ) → IsAnswered rules settled told one line
      → AllAnswered rules settled (told ++ one ∷ []) (lines ++ line)

-- a prefix of one further line, while it is being said or after that failed
pub record IsHalfSaid (rules : Rules) (settled : List Commit) (told : List Said) (steps : List Step) (part : List ℕ) : Type 0 where
  pub speaking : IsSpeaking steps
  pub one : Said
  pub line : List ℕ
  pub answered : IsAnswered rules settled told one line
  pub front : IsPrefix part line

-- In a call that serves clients activities ran only for tasks whose schedule was settled: what came did so frame by frame, and each
-- outcome in a frame is that of an activity which was pending already in the state of its partition that the frames before it make.
pub data AllRan (rules : Rules) : List Commit → Type 0 where
  nothing_ran : AllRan rules []
  frame_more : {settled : List Commit} → AllRan rules settled → (states : ℕ → Partition) → states_after rules.flows rules.count rules.begin settled ≡ Some states → (partition : ℕ) (going : List Entry) → HaveRun rules (states partition) going
      → AllRan rules (settled ++ commits_at partition going)

-- The files stand for the run at the start, then what was settled, in its order, then no more than one frame of each partition, whose
-- gate was being written, in the partitions' order; and just these entries are kept in them, accepted in this order, so that the next
-- call may begin with them. Each outcome in it is one that its activity may give, and that ran once its task was settled; each entry
-- that came is of this call, takes only what was due of its client by what was said, and is founded on entries before it. The tape goes on
-- by lines that answer requests as that run does by what is settled, then no more than a prefix of one further.
pub record StandsOn (rules : Rules) (latest digest : ℕ) (o : Origin) (steps : List Step) (trail : List Settled) (files : ℕ → List ℕ) : Type 0 where
  pub going : ℕ → List Entry
  pub stands : FilesStand rules.flows rules.count digest files (labels_of_commits rules.recovered ++ labels_of_commits (commits_of trail) ++ labels_of_commits (frames_in_order rules.count going))
  pub writing : (partition : ℕ) → partition < rules.count → (going partition ≡ []) ⊎ WroteGate (o.logs partition) (of_part partition trail) (changes_of (o.logs partition).file steps)
  pub kept : AreKept rules.flows rules.count digest files (rules.recovered ++ (commits_of trail ++ frames_in_order rules.count going))
  pub ran : AllRan rules (commits_of trail ++ frames_in_order rules.count going)
  pub told : List Said
  pub own : (partition : ℕ) → partition < rules.count → All (IsOurs rules latest (pairs_of told) partition) (of_part partition trail ++ going partition)
  pub founded : Founded (identities_in rules.recovered) (committed_in (commits_of trail ++ frames_in_order rules.count going))
  pub lines : List ℕ
  pub part : List ℕ
  pub answered : AllAnswered rules (commits_of trail) told lines
  pub spoken : tape steps ≡ tape o.steps ++ lines ++ part
  pub saying : (part ≡ []) ⊎ IsHalfSaid rules (commits_of trail) told steps part
