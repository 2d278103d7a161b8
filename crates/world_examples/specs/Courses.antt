-- Lives of one partition, and what is asked of each, fact by fact.
use Rattle.std.specs.Prelude.{◌≡◌, ◌≢◌, ℕ, true, false, List, [], ◌∷◌, None}
use Rattle.std.specs.List.{Contains}
use Rattle.call_begins.specs.Says.{SaysAll}
use Rattle.cell_steps.specs.declared.mode.Mode.{Mode}
use Rattle.cell_steps.specs.declared.round.Round.TheVariants as rounds
use Rattle.commit_gate.specs.Ledgers.{log_length}
use Rattle.commit_gate.specs.declared.unmet.Unmet.{Unmet}
use Rattle.dura_model.specs.Partition.{fresh}
use Rattle.gated_store.specs.Causal.{Causal}
use Rattle.gated_store.specs.Follows.{ledgers_at}
use Rattle.hub_store.specs.Trail.{Settled, Said}
use Rattle.hub_store.specs.declared.way.Stage.TheVariants as stages
use Rattle.log_items.specs.declared.items.Packet.{Packet}
use Rattle.many_rules.specs.Ledgers.{ledgers}
use Rattle.many_rules.specs.Rules.{Rules}
use Rattle.site_model.specs.History.{Step, said as spoke}
use Rattle.spec_cell.specs.Views.{CellView}
use Rattle.spec_tracker.specs.declared.marks.Marks.{Marks}
use Rattle.spec_tracker.specs.declared.marks.Read.{Read}
use Rattle.world_core.specs.World.{WorldView}
use Rattle.world_core.specs.declared.answer.Answer.{Answer}
use Rattle.world_core.specs.declared.answer.Answer.TheVariants as answers
use Rattle.world_core.specs.declared.event.Event.TheVariants as events
use Rattle.world_examples.specs.Worlds.{empty}
use Rattle.world_laws.specs.Lives.{IsNewLife, IsWell, IsCurrent}
use Rattle.world_lives.specs.Lives.{Lives}
use Rattle.world_lives.specs.declared.deed.Deed.{Deed}
use Rattle.world_lives.specs.declared.deed.Deed.TheVariants as deeds

-- ---- what is asked of a life

-- How a life may have gone: its first world and its last, what had happened when it began and what at its end, what was done, what that
-- came to, and what was settled.
pub record Course : Type 0 where
  pub first : WorldView
  pub last : WorldView
  pub before : List Step
  pub now : List Step
  pub done : List Deed
  pub came : List Answer
  pub trail : List Settled

-- one partition, of which nothing was recovered
abbrev pub alone : Rules
alone = record {
  flows = record { flows = []; classes = [] };
  count = 1;
  recovered = [];
  begin = fresh;
  incarnations = λ partition. 0;
  since = 0;
  most = 64;
  requests = [];
  serves = false;
}

-- the facts of a life that was lived
pub data Fact : Type 0 where
  going : Fact
  unsettled : Fact
  silent : Fact
  new : Fact
  well : Fact
  current : Fact
  lives : Fact
  passed : Fact
  settled : Fact
  causal : Fact
  said : Fact

-- each of them, where the site tells
abbrev pub Holds : Mode → (nodes : ℕ) → Course → Fact → Type 0
Holds mode nodes course going = course.first.ended ≡ false
Holds mode nodes course unsettled = course.first.store.trail ≡ []
Holds mode nodes course silent = course.first.store.told ≡ []
Holds mode nodes course new = IsNewLife alone course.first
Holds mode nodes course well = IsWell alone course.first
Holds mode nodes course current = IsCurrent alone course.first
Holds mode nodes course lives = Lives alone mode nodes course.first course.done course.came course.last
Holds mode nodes course passed = (why : Unmet) → Contains course.came (answers.Refused why) → ⊥
Holds mode nodes course settled = course.trail ≡ course.last.store.trail
Holds mode nodes course causal = Causal (λ partition. ledgers alone partition []) (λ settled partition. log_length (ledgers_at (ledgers alone) settled partition)) course.trail
Holds mode nodes course said = course.last.ended ≡ false → SaysAll alone course.before course.now course.trail course.last.store.told

-- all others hold, and this one doesn't
abbrev pub LacksJust : Mode → (nodes : ℕ) → Course → Fact → Type 0
LacksJust mode nodes course fact = ((other : Fact) → other ≢ fact → Holds mode nodes course other) × (Holds mode nodes course fact → ⊥)

-- ---- courses

-- its cell, as a life begins with it
abbrev pub first_cell : CellView
first_cell = record {
  number = 0;
  slot = record { token = 0; mine = []; under_way = None; stage = stages.Resting; floors = [] };
  going = true;
  entries = [];
  incarnation = 0;
  waits = [];
  given = None;
  now = 0;
  out = 0;
  owner = 0;
  round = rounds.Waits;
}

-- the world with it, where this is known of the logs
abbrev pub begun : List Marks → WorldView
begun marks = record empty { cells = first_cell ∷ []; marks = marks }

-- partition 0 has read nothing of its own stream
abbrev pub nothing_read : Read
nothing_read = record { reader = 0; source = 0; next = 0; inc = 0; pos = 0 }

-- of the log of one partition it is known that nothing is settled, given up or read
pub record KnowsNothing (marks : Marks) : Type 0 where
  pub lengths : marks.lengths.items ≡ 0 ∷ []
  pub floors : marks.floors.items ≡ []
  pub reads : marks.reads.items ≡ nothing_read ∷ []

-- nothing was done in this world, and this was settled in it
abbrev pub stays : WorldView → List Step → Course
stays w steps = record { first = w; last = w; before = steps; now = steps; done = []; came = []; trail = w.store.trail }

-- nothing was done in a new world
abbrev pub still : List Step → Marks → Course
still steps marks = stays (begun (marks ∷ [])) steps

-- it was over when it began
abbrev pub was_over : List Step → Marks → Course
was_over steps marks = stays (record (begun (marks ∷ [])) { ended = true }) steps

-- an entry of a partition that isn't there
abbrev pub beside : Settled
beside = record { partition = 1; entry = record { position = 0; incarnation = 0; items = [] }; at = 0 }

-- it was settled before it began
abbrev pub had_settled : List Step → Marks → Course
had_settled steps marks = stays (record (begun (marks ∷ [])) { store = record empty.store { trail = beside ∷ [] } }) steps

-- a request was answered before it began, and memory ran out at the first turn
abbrev pub had_said : Said → List Step → Marks → Course
had_said one steps marks =
    let first : WorldView = record (begun (marks ∷ [])) { store = record empty.store { told = one ∷ [] } } in
    record (stays first steps) { last = record first { ended = true }; done = deeds.Happen (events.Turn 0 1) ∷ []; came = answers.Memory ∷ [] }

-- a packet had been sent
abbrev pub had_sent : Packet → List Step → Marks → Course
had_sent packet steps marks = stays (record (begun (marks ∷ [])) { packets = packet ∷ [] }) steps

-- a device call had failed
abbrev pub had_failed : List Step → Marks → Course
had_failed steps marks = stays (record (begun (marks ∷ [])) { halted = true }) steps

-- nothing was known of the logs
abbrev pub knew_nothing : List Step → Course
knew_nothing steps = stays (begun []) steps

-- there is an answer, and no deed
abbrev pub unasked : List Step → Marks → Course
unasked steps marks = record (still steps marks) { came = answers.Seen ∷ [] }

-- an entry is told of that wasn't settled
abbrev pub told_settled : List Step → Marks → Course
told_settled steps marks = record (still steps marks) { trail = beside ∷ [] }

-- a byte was said, and no request was answered
abbrev pub said_more : List Step → Marks → Course
said_more steps marks = record (still steps marks) { now = spoke 66 ∷ steps }
