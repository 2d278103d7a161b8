-- What a crash leaves of a run, and which answers were said.
use Rattle.std.specs.Prelude.{◌≡◌, ◌⊎◌, ℕ, max, List, [], ◌∷◌, ◌++◌, map, Some, Ok}
use Rattle.std.specs.List.{All}
use Rattle.client_port.specs.Lines.{line_of}
use Rattle.dura_value.specs.Dependencies.{Committed, names_of, Founded}
use Rattle.dura_model.specs.Legal.{Legal}
use Rattle.dura_model.specs.Partition.{Partition, fresh}
use Rattle.dura_model.specs.World.{World}
use Rattle.dura_value.specs.Ids.{client}
use Rattle.dura_value.specs.Items.{Entry}
use Rattle.dura_value.specs.Messages.{Answer}
use Rattle.hub_store.specs.Moments.{WroteGate, IsPrefix, IsSpeaking}
use Rattle.hub_store.specs.Origin.{Origin}
use Rattle.hub_store.specs.Trail.{Settled, Said, of_part}
use Rattle.part_items.specs.Logs.{logs_in, entries_in, alone_with}
use Rattle.dura_model.specs.Entries.{labels_in, placed, AllGiven}
use Rattle.many_logs.specs.Stands.{FilesStand}
use Rattle.request_reader.specs.Line.{Request}
use Rattle.run_laws.specs.Begins.{pairs_of}
use Rattle.run_rules.specs.Rules.{Rules, count_told, request_at, IsBy, EndPending}
use Rattle.site_model.specs.History.{Step, changes_of, tape}

-- The line answers its client's next request, once these were answered, as the run has it from a moment on at which the first of
-- these entries were settled.
pub record IsAnswered (rules : Rules) (o : Origin) (settled : List Entry) (told : List Said) (one : Said) (line : List ℕ) : Type 0 where
  pub request : Request
  pub next : request_at rules one.client (count_told (pairs_of told) one.client) ≡ Some request
  pub number_is : request.number ≡ one.number
  pub before : List Entry
  pub behind : List Entry
  pub front : settled ≡ before ++ behind
  pub world : World
  pub legal : Legal rules.flows (labels_in (o.logs 0).entries ++ labels_in before) world
  pub answer : Answer
  pub has : world.answers (client one.client) one.number ≡ Some answer
  pub line_is : line ≡ line_of one.client one.number answer

-- these requests were answered by these lines, one after another
pub data AllAnswered (rules : Rules) (o : Origin) (settled : List Entry) : List Said → List ℕ → Type 0 where
  nothing_said : AllAnswered rules o settled [] []
  one_more : {told : List Said} {lines : List ℕ} → AllAnswered rules o settled told lines → (one : Said) (line : List ℕ) → IsAnswered rules o settled told one line
      → AllAnswered rules o settled (told ++ one ∷ []) (lines ++ line)

-- a front of one further line, while it is being said or after that failed
pub record IsHalfSaid (rules : Rules) (o : Origin) (settled : List Entry) (told : List Said) (steps : List Step) (part : List ℕ) : Type 0 where
  pub speaking : IsSpeaking steps
  pub one : Said
  pub line : List ℕ
  pub answered : IsAnswered rules o settled told one line
  pub front : IsPrefix part line

-- an entry of the one partition as it is committed: who it is, and its items
abbrev pub committed : Entry → Committed
committed e = record { name = record { partition = 0; incarnation = e.incarnation; position = e.position }; items = e.items }

abbrev pub committed_in : List Entry → List Committed
committed_in = map committed

-- An entry of this call: of its incarnation, and of no later stamp than both the log's entries at the beginning and the clock's latest.
pub record IsOfCall (rules : Rules) (latest : ℕ) (entry : Entry) : Type 0 where
  pub incarnation : entry.incarnation ≡ rules.incarnation
  pub timely : All (IsBy (max rules.begin.stamp latest)) entry.items

-- Activities ran only for tasks whose schedule was settled: what came did so frame by frame, and each outcome in a frame is that of an
-- activity which was pending already in the state that the frames before it make.
pub data AllRan (rules : Rules) : List Entry → Type 0 where
  nothing_ran : AllRan rules []
  frame_more : {settled : List Entry} → AllRan rules settled → (state : Partition) → placed rules.flows 1 rules.begin settled ≡ Ok state → (going : List Entry) → EndPending state going → AllRan rules (settled ++ going)

-- The files stand for the run at the start, then what was settled, then no more than the one frame whose gate was being written; and
-- just these entries are kept in them. Each outcome in the run is one that its activity may give, and that ran once its task was
-- settled; each entry that came is of this call, and founded on entries before it. The tape goes on by lines that answer requests as that run does by what is settled, then no more than a
-- front of one further.
pub record StandsOn (rules : Rules) (latest digest : ℕ) (o : Origin) (steps : List Step) (trail : List Settled) (files : ℕ → List ℕ) : Type 0 where
  pub going : List Entry
  pub kept : entries_in (logs_in (alone_with digest) files) ≡ Some ((o.logs 0).entries ++ (of_part 0 trail ++ going))
  pub stands : FilesStand rules.flows 1 digest files (labels_in (o.logs 0).entries ++ labels_in (of_part 0 trail) ++ labels_in going)
  pub writing : (going ≡ []) ⊎ WroteGate (o.logs 0) (of_part 0 trail) (changes_of (o.logs 0).file steps)
  pub given : AllGiven rules.flows 1 (fresh 0) ((o.logs 0).entries ++ (of_part 0 trail ++ going))
  pub ran : AllRan rules (of_part 0 trail ++ going)
  pub own : All (IsOfCall rules latest) (of_part 0 trail ++ going)
  pub founded : Founded (names_of (committed_in (o.logs 0).entries)) (committed_in (of_part 0 trail ++ going))
  pub told : List Said
  pub lines : List ℕ
  pub part : List ℕ
  pub answered : AllAnswered rules o (of_part 0 trail) told lines
  pub spoken : tape steps ≡ tape o.steps ++ lines ++ part
  pub saying : (part ≡ []) ⊎ IsHalfSaid rules o (of_part 0 trail) told steps part
