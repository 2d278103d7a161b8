-- What deeds make of the world, one after another, and what a life leaves.
use Rattle.std.specs.Prelude.{◌≡◌, ◌<◌, ◌≤◌, ℕ, false, List, [], ◌∷◌, ◌++◌, length, Result, Ok, Err}
use Rattle.std.specs.List.{Contains}
use Rattle.call_begins.specs.Says.{SaysAll}
use Rattle.cell_steps.specs.declared.mode.Mode.{Mode}
use Rattle.commit_gate.specs.Ledgers.{log_length}
use Rattle.commit_gate.specs.declared.unmet.Unmet.{Unmet}
use Rattle.flow_syntax.specs.Syntax.{Flows}
use Rattle.gated_store.specs.Causal.{Causal}
use Rattle.gated_store.specs.Follows.{ledgers_at}
use Rattle.hub_store.specs.Origin.{Origin}
use Rattle.hub_store.specs.Trail.{Settled, Said, settled_at}
use Rattle.many_logs.specs.Placing.{Commit}
use Rattle.many_logs.specs.Stands.{AreKept}
use Rattle.many_rules.specs.Leaves.{StandsOn}
use Rattle.many_rules.specs.Ledgers.{ledgers}
use Rattle.many_rules.specs.Rules.{Rules}
use Rattle.open_logs.specs.Begun.{MadeBy, AreTheirs}
use Rattle.open_logs.specs.Moments.{OpensOnly}
use Rattle.open_logs.specs.Picks.{origin_of}
use Rattle.open_logs.specs.declared.begun.Begun.{Begun}
use Rattle.site_model.specs.History.{Step, IsImage, back_to, content_of}
use Rattle.site_model.specs.Moments.{Always}
use Rattle.world_core.specs.Happens.{Happens}
use Rattle.world_core.specs.World.{WorldView}
use Rattle.world_core.specs.declared.answer.Answer.{Answer}
use Rattle.world_core.specs.declared.answer.Answer.TheVariants as answers
use Rattle.world_judges.specs.Judging.{JudgesAll}
use Rattle.world_laws.specs.Lives.{IsNewLife, IsWell, IsCurrent}
use Rattle.world_lives.specs.Begins.{rules_of}
use Rattle.world_lives.specs.declared.deed.Deed.{Deed}
use Rattle.world_lives.specs.declared.deed.Deed.TheVariants as deeds

-- what came of judging all cells: Kept, or what could not be judged
abbrev pub came_of : Result (Unit {0}) Answer → Answer
came_of (Ok done) = answers.Kept
came_of (Err answer) = answer

-- what a deed makes of the world: an event happens, or all cells are judged
abbrev pub Does : Rules → Mode → (nodes : ℕ) → (old : WorldView) → Deed → Answer → (new : WorldView) → Type 0
Does rules mode nodes old (deeds.Happen event) answer new = Happens rules mode nodes old event answer new
Does rules mode nodes old deeds.JudgeAll answer new = (result : Result (Unit {0}) Answer) × (answer ≡ came_of result) × JudgesAll rules mode nodes old result new

-- Each deed was done to the world that the one before it left, and this is what it came to.
pub data Lives (rules : Rules) (mode : Mode) (nodes : ℕ) (first : WorldView) : List Deed → List Answer → WorldView → Type 0 where
  nothing : Lives rules mode nodes first [] [] first
  one_more : {done : List Deed} {came : List Answer} {old : WorldView} → Lives rules mode nodes first done came old → (deed : Deed) (answer : Answer) (new : WorldView) → Does rules mode nodes old deed answer new → IsWell rules new
      → Lives rules mode nodes first (done ++ deed ∷ []) (came ++ answer ∷ []) new

-- By these rules the deeds were done from a new world on, one that goes on and in which nothing was settled; they came to these answers, by
-- which no gate refused; and this was settled. Each entry of it stands behind all that it depends on. Where the site tells, and the life
-- goes on at the end, just the requests that were answered in it were answered on the tape, from where it began.
pub record WasLived (rules : Rules) (mode : Mode) (nodes : ℕ) (tells : Type 0) (before now : List Step) (done : List Deed) (came : List Answer) (trail : List Settled) : Type 0 where
  pub first : WorldView
  pub last : WorldView
  pub going : first.ended ≡ false
  pub unsettled : first.store.trail ≡ []
  pub silent : first.store.told ≡ []
  pub new : IsNewLife rules first
  pub well : IsWell rules first
  pub current : IsCurrent rules first
  pub lives : Lives rules mode nodes first done came last
  pub passed : (why : Unmet) → Contains came (answers.Refused why) → ⊥
  pub settled : trail ≡ last.store.trail
  pub causal : Causal (λ partition. ledgers rules partition []) (λ settled partition. log_length (ledgers_at (ledgers rules) settled partition)) trail
  pub said : tells → last.ended ≡ false → SaysAll rules before now trail last.store.told

-- From the moment on at which a call begins, a crash leaves files that stand for a run by the rules.
abbrev pub LeavesRuns : Rules → (digest : ℕ) → Origin → (new : List Step) → List Settled → Type 0
LeavesRuns rules digest o new trail = (moment : ℕ) → length o.steps ≤ moment → moment ≤ length new → (files : ℕ → List ℕ) → IsImage (back_to moment new) files
    → (latest : ℕ) × StandsOn rules latest digest o (back_to moment new) (settled_at moment trail) files

-- A life was begun with what was recovered, and the deeds were done from there on. Where the site tells, it began with what the files kept;
-- a crash left what it could have left before, or files that keep that, as long as logs were opened, and nothing was settled; and from then
-- on, up to the end, files that stand for a run that goes on from what the files kept, in whatever order that was accepted.
pub record IsLife (flows : Flows) (count digest : ℕ) (mode : Mode) (nodes : ℕ) (tells : Type 0) (old new : List Step) (done : List Deed) (came : List Answer) (trail : List Settled) : Type 0 where
  pub begun : Begun
  pub run : List Commit
  pub steps : List Step
  pub made : MadeBy flows count begun run
  pub theirs : tells → AreTheirs count digest (λ file. content_of file old) run
  pub was : WasLived (rules_of flows count begun run) mode nodes tells steps new done came trail
  pub opening : tells → OpensOnly flows count digest old steps
  pub further : tells → Always (λ moment. Unit {0}) steps new
  pub nothing : tells → (moment : ℕ) → moment < length steps → settled_at moment trail ≡ []
  pub crash : tells → (kept : List Commit) → AreKept flows count digest (λ file. content_of file old) kept → LeavesRuns (rules_of flows count begun kept) digest (origin_of count digest steps begun) new trail
