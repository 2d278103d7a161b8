-- What a call that serves clients over many partitions leaves.
use Rattle.std.specs.Prelude.{◌≡◌, ◌≢◌, ◌≤◌, ◌<◌, ℕ, true, List, [], ◌++◌, length, Option, Some, None, Result, Ok, Err}
use Rattle.call_begins.specs.Begins.{call_rules}
use Rattle.call_begins.specs.Says.{SaysAll}
use Rattle.client_order.specs.Clashes.{taken_in, NoClash}
use Rattle.client_port.specs.Ports.{Queue}
use Rattle.commit_gate.specs.Ledgers.{log_length}
use Rattle.engine_rounds.specs.Ends.{EndsAs}
use Rattle.engine_rounds.specs.Halts.{HaltsFor}
use Rattle.engine_rounds.specs.Heard.{Heard, BeginsAt}
use Rattle.engine_rounds.specs.declared.driving.End.{End}
use Rattle.engine_rounds.specs.declared.serving.Came.{Came}
use Rattle.engine_rounds.specs.declared.serving.Came.TheVariants as cames
use Rattle.dura_model.specs.Legal.{Legal, Overlap, finishes}
use Rattle.dura_model.specs.Steps.{Label}
use Rattle.dura_model.specs.World.{World}
use Rattle.dura_value.specs.Ids.{Id}
use Rattle.flow_syntax.specs.Syntax.{Flows}
use Rattle.gated_store.specs.Causal.{Causal}
use Rattle.gated_store.specs.Follows.{ledgers_at}
use Rattle.hub_store.specs.Origin.{Origin}
use Rattle.hub_store.specs.Short.{IsShort}
use Rattle.hub_store.specs.Trail.{Settled, Said, of_part, settled_at}
use Rattle.many_logs.specs.Labels.{labels_of_commits}
use Rattle.many_logs.specs.Placing.{Commit, frames_in_order}
use Rattle.many_logs.specs.Stands.{AreKept}
use Rattle.many_rules.specs.Leaves.{StandsOn}
use Rattle.many_rules.specs.Ledgers.{ledgers}
use Rattle.many_rules.specs.Rules.{Rules, commits_of}
use Rattle.node_core.specs.declared.halt.Halt.{Halt}
use Rattle.node_core.specs.declared.halt.Halt.TheVariants as halts
use Rattle.open_logs.specs.Begun.{MadeBy, AreTheirs}
use Rattle.open_logs.specs.Moments.{OpensOnly}
use Rattle.open_logs.specs.Picks.{origin_of}
use Rattle.open_logs.specs.declared.begun.Begun.{Begun}
use Rattle.open_logs.specs.declared.error.OpenError.{OpenError}
use Rattle.part_steps.specs.States.{parts_in}
use Rattle.request_reader.specs.Line.{Request}
use Rattle.round_steps.specs.Labels.{AreFew}
use Rattle.round_steps.specs.Serving.{HasSaid}
use Rattle.site_model.specs.History.{Step, IsImage, back_to, content_of}
use Rattle.site_model.specs.Moments.{Always}

-- why the files were refused, if they were
abbrev pub refusal_in : Came → Option OpenError
refusal_in (cames.Refused error) = Some error
refusal_in (cames.Halted halt) = None
refusal_in (cames.Ended end) = None

-- what rounds came to
abbrev pub came_of : Result End Halt → Came
came_of (Ok end) = cames.Ended end
came_of (Err halt) = cames.Halted halt

-- What a crash leaves. In the run for which it stands no task is ended twice, and no two critical sections ever overlap.
pub record StandsOrderly (rules : Rules) (latest digest : ℕ) (o : Origin) (steps : List Step) (trail : List Settled) (files : ℕ → List ℕ) (labels : List Label) : Type 0 where
  pub on : StandsOn rules latest digest o steps trail files
  pub labels_are : labels ≡ labels_of_commits rules.recovered ++ labels_of_commits (commits_of trail) ++ labels_of_commits (frames_in_order rules.count on.going)
  pub once : (id : Id) (task : ℕ) → finishes id task labels ≤ 1
  pub apart : (front rest : List Label) (world : World) → labels ≡ front ++ rest → Legal rules.flows front world → Overlap world → ⊥

-- From the moment on at which a call begins, a crash leaves files that stand for a run by the rules, of no later stamp than this.
abbrev pub LeavesRuns : Rules → (latest digest : ℕ) → Origin → (new : List Step) → List Settled → Type 0
LeavesRuns rules latest digest o new trail = (moment : ℕ) → length o.steps ≤ moment → moment ≤ length new → (files : ℕ → List ℕ) → IsImage (back_to moment new) files
    → (by : ℕ) × (by ≤ latest) × (labels : List Label) × StandsOrderly rules by digest o (back_to moment new) (settled_at moment trail) files labels

-- Unless saying failed, the tape goes on by one line for each of these requests, which answers it. Where rounds ended, that is what the port
-- has said, and they ended for this cause; and where they halted, a full log was so by a frame that may come behind what was settled and said.
-- And fewer labels were settled than are enough and those of a frame of each partition.
pub record SaysOn (rules : Rules) (o : Origin) (limit most latest : ℕ) (tells : Type 0) (now : List Step) (trail : List Settled) (came : Came) (port : Option (List Queue)) : Type 0 where
  pub told : List Said
  pub queues : List Queue
  pub port_is : port ≡ Some queues
  pub few : AreFew rules most trail
  pub says : tells → came ≢ cames.Halted halts.SayFault → SaysAll rules o.steps now trail told
  pub halts : (halt : Halt) → came ≡ cames.Halted halt → HaltsFor rules o limit latest tells now trail told halt
  pub ends : (end : End) → came ≡ cames.Ended end → HasSaid rules.requests told queues × EndsAs rules most trail queues end

-- A call began at the moment that the clock gave first, with what was recovered, among which nothing clashes with these requests, and served
-- them, with at most so many items an entry. Each entry that was settled stands behind all that it depends on. Where the
-- site tells, it began with what the files kept; a crash left what it could have left before, or files that keep that, as long as logs were
-- opened, and nothing was settled; and from then on, up to the end, by which all of it was settled, files that stand for a run that goes on
-- from what the files kept, in whatever order that was accepted; and each log that was written ended below this length.
pub record IsServed (flows : Flows) (count digest segment batch most : ℕ) (requests : List Request) (heard : Heard) (tells : Type 0) (old new : List Step) (trail : List Settled) (came : Came) (port : Option (List Queue)) : Type 0 where
  pub begun : Begun
  pub run : List Commit
  pub steps : List Step
  pub since : ℕ
  pub begins : BeginsAt (call_rules flows count begun run since batch requests true) most heard trail came since
  pub made : MadeBy flows count begun run
  pub no_clash : NoClash (taken_in count (parts_in begun.states.items)) requests
  pub causal : Causal (λ partition. ledgers (call_rules flows count begun run since batch requests true) partition []) (λ settled partition. log_length (ledgers_at (ledgers (call_rules flows count begun run since batch requests true)) settled partition)) trail
  pub theirs : tells → AreTheirs count digest (λ file. content_of file old) run
  pub opening : tells → OpensOnly flows count digest old steps
  pub further : tells → Always (λ moment. Unit {0}) steps new
  pub nothing : tells → (moment : ℕ) → moment < length steps → settled_at moment trail ≡ []
  pub by_the_end : tells → settled_at (length new) trail ≡ trail
  pub crash : tells → (kept : List Commit) → AreKept flows count digest (λ file. content_of file old) kept → LeavesRuns (call_rules flows count begun kept since batch requests true) heard.latest digest (origin_of count digest steps begun) new trail
  pub short : tells → (partition : ℕ) → partition < count → IsShort segment (of_part partition trail) (content_of ((origin_of count digest steps begun).logs partition).file new)
  pub on : SaysOn (call_rules flows count begun run since batch requests true) (origin_of count digest steps begun) segment most heard.latest tells new trail came port
