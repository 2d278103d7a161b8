-- All cells are judged.
use Rattle.std.specs.Prelude.{◌≡◌, ◌<◌, ◌+◌, ◌&&◌, ℕ, Bool, true, false, Result, Ok, Err}
use Rattle.cell_steps.specs.declared.mode.Mode.{Mode}
use Rattle.many_rules.specs.Rules.{Rules}
use Rattle.world_core.specs.Happens.{Happens}
use Rattle.world_core.specs.World.{WorldView}
use Rattle.world_core.specs.declared.answer.Answer.{Answer}
use Rattle.world_core.specs.declared.answer.Answer.TheVariants as answers
use Rattle.world_core.specs.declared.event.Event.TheVariants as events
use Rattle.world_laws.specs.Lives.{IsWell}

-- nothing of the cell was given up
abbrev pub is_kept : Answer → Bool
is_kept answers.Kept = true
is_kept other = false

-- the cell was judged: nothing of it was given up, or something
abbrev pub is_judged : Answer → Bool
is_judged answers.Kept = true
is_judged (answers.Rewound floor dep) = true
is_judged other = false

module _ (rules : Rules) (mode : Mode) (nodes : ℕ) where
  -- The cells of the first so many partitions were judged in turn, by what was known of the logs last; and whether nothing of any was given up.
  pub data Pass (first : WorldView) : (judged : ℕ) → (kept : Bool) → WorldView → Type 0 where
    begins : Pass first 0 true first
    goes_on : {judged : ℕ} {kept : Bool} {old : WorldView} → Pass first judged kept old → (answer : Answer) (new : WorldView) → is_judged answer ≡ true → Happens rules mode nodes old (events.Judge judged 0) answer new → IsWell rules new
        → Pass first (judged + 1) (kept && is_kept answer) new

  -- a cell could not be judged, and this is why
  pub record CantJudge (first : WorldView) (answer : Answer) (new : WorldView) : Type 0 where
    pub judged : ℕ
    pub kept : Bool
    pub before : WorldView
    pub pass : Pass first judged kept before
    pub below : judged < rules.count
    pub other : is_judged answer ≡ false
    pub happens : Happens rules mode nodes before (events.Judge judged 0) answer new
    pub well : IsWell rules new

  -- all cells were judged in turn, once, or one could not be
  abbrev pub JudgesOnce : (old : WorldView) → Result Bool Answer → (new : WorldView) → Type 0
  JudgesOnce old (Ok kept) new = Pass old rules.count kept new
  JudgesOnce old (Err answer) new = CantJudge old answer new

  -- all cells were judged in turn, so often, and each time something was given up
  pub data Passes (first : WorldView) : WorldView → Type 0 where
    none : Passes first first
    one_more : {old : WorldView} → Passes first old → (new : WorldView) → Pass old rules.count false new → Passes first new

  -- All cells were judged in turn, as often as something was given up by that, and then once more; or one could not be.
  abbrev pub JudgesAll : (old : WorldView) → Result (Unit {0}) Answer → (new : WorldView) → Type 0
  JudgesAll old (Ok done) new = (last : WorldView) × Passes old last × Pass last rules.count true new
  JudgesAll old (Err answer) new = (last : WorldView) × Passes old last × CantJudge last answer new
