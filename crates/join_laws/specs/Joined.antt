-- Lives of many partitions one after another, each begun on what a crash left of the one before, and what holds of all of them.
use Rattle.std.specs.Prelude.{◌≡◌, ◌⊎◌, ◌≤◌, ◌<◌, ℕ, Bool, List, [], ◌∷◌, ◌++◌, length, Some}
use Rattle.std.specs.List.{All}
use Rattle.client_port.specs.Lines.{line_of}
use Rattle.dura_model.specs.Legal.{Legal, Overlap, finishes}
use Rattle.dura_model.specs.Partition.{Partition}
use Rattle.dura_model.specs.Steps.{Label}
use Rattle.dura_model.specs.World.{World}
use Rattle.dura_value.specs.Dependencies.{Founded}
use Rattle.dura_value.specs.Ids.{Id, client}
use Rattle.dura_value.specs.Messages.{Answer}
use Rattle.flow_syntax.specs.Syntax.{Flows}
use Rattle.hub_store.specs.Moments.{IsPrefix}
use Rattle.hub_store.specs.Origin.{Origin}
use Rattle.hub_store.specs.Trail.{Settled, Said, settled_at}
use Rattle.many_logs.specs.Labels.{labels_of_commits}
use Rattle.many_logs.specs.Names.{identities_in, committed_in}
use Rattle.many_logs.specs.Placing.{Commit}
use Rattle.many_logs.specs.Stands.{FilesStand, AreKept}
use Rattle.many_rules.specs.Leaves.{StandsOn}
use Rattle.many_rules.specs.Rules.{Rules, commits_of}
use Rattle.open_logs.specs.Moments.{OpensOnly}
use Rattle.request_reader.specs.Line.{Request}
use Rattle.site_model.specs.History.{Step, content_of, tape, back_to, IsImage}
use Rattle.site_model.specs.Moments.{Always}

-- ---- what files keep

-- The files keep these entries, accepted in this order, and perhaps more behind them, each of which is founded on entries before it.
pub record KeepsOn (flows : Flows) (count digest : ℕ) (run : List Commit) (files : ℕ → List ℕ) : Type 0 where
  pub more : List Commit
  pub kept : AreKept flows count digest files (run ++ more)
  pub founded : Founded (identities_in run) (committed_in more)

-- whatever a crash leaves of this history keeps them
abbrev pub AllKeep : Flows → (count digest : ℕ) → List Commit → List Step → Type 0
AllKeep flows count digest run steps = (image : ℕ → List ℕ) → IsImage steps image → KeepsOn flows count digest run image

-- ---- lives

-- One life: what had happened when it began and what at its end, and what was settled in it; and the moment of it at which a crash came,
-- or the last one.
pub record Life : Type 0 where
  pub old : List Step
  pub new : List Step
  pub trail : List Settled
  pub moment : ℕ

abbrev pub life_at : (old new : List Step) → List Settled → (moment : ℕ) → Life
life_at old new trail moment = record { old = old; new = new; trail = trail; moment = moment }

-- what had happened by then
abbrev pub by_then : Life → List Step
by_then life = back_to life.moment life.new

-- what was settled by then, in its order
abbrev pub settled_then : Life → List Commit
settled_then life = commits_of (settled_at life.moment life.trail)

-- Once logs are opened a call goes by such rules, which begin with the entries that were kept.
abbrev pub rules_from : Flows → (count : ℕ) → List Commit → (begin : ℕ → Partition) → (incarnations : ℕ → ℕ) → (since most : ℕ) → List Request → (serves : Bool) → Rules
rules_from flows count kept begin incarnations since most requests serves = record { flows = flows; count = count; recovered = kept; begin = begin; incarnations = incarnations; since = since; most = most; requests = requests; serves = serves }

-- A call opened the logs and went on. As long as it opened them a crash left what it could have left before, or files that keep the same,
-- and nothing was settled; from then on, up to the end, files that stand for a run that goes on by its rules from what the files kept, in
-- whatever order that was accepted.
pub record WentOn (flows : Flows) (count digest : ℕ) (old new : List Step) (trail : List Settled) : Type 0 where
  pub origin : Origin
  pub begin : ℕ → Partition
  pub incarnations : ℕ → ℕ
  pub since : ℕ
  pub most : ℕ
  pub requests : List Request
  pub serves : Bool
  pub opening : OpensOnly flows count digest old origin.steps
  pub further : Always (λ moment. Unit {0}) origin.steps new
  pub nothing : (moment : ℕ) → moment < length origin.steps → settled_at moment trail ≡ []
  pub crash : (kept : List Commit) → AreKept flows count digest (λ file. content_of file old) kept → (moment : ℕ) → length origin.steps ≤ moment → moment ≤ length new
      → (files : ℕ → List ℕ) → IsImage (back_to moment new) files → (latest : ℕ) × StandsOn (rules_from flows count kept begin incarnations since most requests serves) latest digest origin (back_to moment new) (settled_at moment trail) files

-- A call went on, or it opened logs at most, and nothing was settled. The moment is one of it.
pub record IsOneLife (flows : Flows) (count digest : ℕ) (life : Life) : Type 0 where
  pub lived : WentOn flows count digest life.old life.new life.trail ⊎ (OpensOnly flows count digest life.old life.new × (life.trail ≡ []))
  pub begun : length life.old ≤ life.moment
  pub within : life.moment ≤ length life.new

-- What the files hold now is a crash image of what had happened before, and so is all that a crash may leave of them now.
pub record BeginsOn (before now : List Step) : Type 0 where
  pub reads : IsImage before (λ file. content_of file now)
  pub leaves : (image : ℕ → List ℕ) → IsImage now image → IsImage before image

-- Lives one after another, from this history on, and what had happened by the end of the last. Each began on what a crash left of the
-- one before.
pub data LivesOn (flows : Flows) (count digest : ℕ) (first : List Step) : List Life → List Step → Type 0 where
  no_life : LivesOn flows count digest first [] first
  one_more : {lives : List Life} {before : List Step} → LivesOn flows count digest first lives before → (life : Life) → IsOneLife flows count digest life → BeginsOn before life.old → LivesOn flows count digest first (lives ++ life ∷ []) (by_then life)

-- ---- what holds of them

-- No task is ended twice, and no two critical sections ever overlap.
pub record IsOrderly (flows : Flows) (labels : List Label) : Type 0 where
  pub once : (id : Id) (task : ℕ) → finishes id task labels ≤ 1
  pub apart : (front rest : List Label) (world : World) → labels ≡ front ++ rest → Legal flows front world → Overlap world → ⊥

-- what a life settled is in that run, as it was settled
pub record IsSettledIn (run : List Commit) (life : Life) : Type 0 where
  pub front : List Commit
  pub rest : List Commit
  pub split : run ≡ (front ++ settled_then life) ++ rest

-- the line answers the request, as a front of the run has it
pub record IsAnsweredIn (flows : Flows) (run : List Commit) (one : Said) (line : List ℕ) : Type 0 where
  pub front : List Commit
  pub rest : List Commit
  pub split : run ≡ front ++ rest
  pub world : World
  pub legal : Legal flows (labels_of_commits front) world
  pub answer : Answer
  pub has : world.answers (client one.client) one.number ≡ Some answer
  pub line_is : line ≡ line_of one.client one.number answer

-- these requests were answered by these lines, one after another
pub data AllAnsweredIn (flows : Flows) (run : List Commit) : List Said → List ℕ → Type 0 where
  nothing_said : AllAnsweredIn flows run [] []
  one_more : {told : List Said} {lines : List ℕ} → AllAnsweredIn flows run told lines → (one : Said) (line : List ℕ) → IsAnsweredIn flows run one line → AllAnsweredIn flows run (told ++ one ∷ []) (lines ++ line)

-- a prefix of one such line
pub record IsPartIn (flows : Flows) (run : List Commit) (part : List ℕ) : Type 0 where
  pub one : Said
  pub line : List ℕ
  pub answered : IsAnsweredIn flows run one line
  pub front : IsPrefix part line

-- What a life said are whole lines, and perhaps a part of one more. Each answers its request as the run has it.
pub record Speaks (flows : Flows) (run : List Commit) (life : Life) : Type 0 where
  pub told : List Said
  pub lines : List ℕ
  pub part : List ℕ
  pub answered : AllAnsweredIn flows run told lines
  pub spoken : tape (by_then life) ≡ tape life.old ++ lines ++ part
  pub saying : (part ≡ []) ⊎ IsPartIn flows run part

-- what a life said is that run's, if it said anything
abbrev pub IsSaidBy : Flows → List Commit → Life → Type 0
IsSaidBy flows run life = (tape (by_then life) ≡ tape life.old) ⊎ Speaks flows run life

-- The files stand for one legal run of all partitions, that of the entries at the start and then of more, each founded on entries before
-- it; no task is ended twice in it and no two critical sections overlap. What each of the lives settled is in it, and what each said is its.
-- The next life may begin on these files.
pub record AreJoined (flows : Flows) (count digest : ℕ) (run : List Commit) (lives : List Life) (files : ℕ → List ℕ) : Type 0 where
  pub kept : KeepsOn flows count digest run files
  pub stands : FilesStand flows count digest files (labels_of_commits (run ++ kept.more))
  pub orderly : IsOrderly flows (labels_of_commits (run ++ kept.more))
  pub settled : All (IsSettledIn (run ++ kept.more)) lives
  pub said : All (IsSaidBy flows (run ++ kept.more)) lives
