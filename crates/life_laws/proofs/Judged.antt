-- In a life what is known of the logs last is as they are, so that all cells can be judged by it.
use Rattle.std.proofs.Common.{◌≡◌, ◌∙◌, inl, inr, ℕ, true, false, ◌||◌, List, Ok, Err, ap}
use Rattle.std.proofs.lemmas.Bool.{cases_Bool}
use Rattle.cell_steps.specs.declared.mode.Mode.{Mode}
use Rattle.many_rules.specs.Rules.{Rules}
use Rattle.world_core.specs.Happens.{Happens}
use Rattle.world_core.specs.Unmet.{names_nothing, has_no_frame}
use Rattle.world_core.specs.World.{WorldView}
use Rattle.world_core.specs.declared.answer.Answer.{Answer}
use Rattle.world_core.specs.declared.event.Event.{Event}
use Rattle.world_core.specs.declared.event.Event.TheVariants as events
use Rattle.world_judges.proofs.Judged.{pass_began, pass_current, passes_current, all_settles}
use Rattle.world_judges.specs.Judging.{Passes, JudgesAll}
use Rattle.world_judges.specs.Judging.Passes.{none as no_pass, one_more as pass_more}
use Rattle.world_laws.proofs.Current.{stays_current}
use Rattle.world_laws.specs.Depends.{HoldsNothingLost}
use Rattle.world_laws.specs.Lives.{IsWell, IsCurrent}
use Rattle.world_laws.specs.Made.{MadeEntry, AreMade}
use Rattle.world_lives.proofs.Saying.{lives_well}
use Rattle.world_lives.specs.Lives.{Does, Lives, nothing, one_more}
use Rattle.world_lives.specs.declared.deed.Deed.{Deed}
use Rattle.world_lives.specs.declared.deed.Deed.TheVariants as deeds

module _ (rules : Rules) (mode : Mode) (nodes : ℕ) where
  -- a life that goes on went on before
  went_on : (old new : WorldView) (event : Event) (answer : Answer) → Happens rules mode nodes old event answer new → new.ended ≡ false → old.ended ≡ false
  went_on old new event answer happens on = elim (cases_Bool old.ended) [
    | inl over ↦ elim (happens.unmet (ap (λ b. b || (names_nothing rules.count nodes old event || has_no_frame old event)) over)) [
      | inl none ↦ absurd (let ended : new.ended ≡ true = ap (λ (w : WorldView). w.ended) none.1 ∙ over in cc (ended, on))
      | inr ends ↦ absurd (cc (ends.2.ended, on))
    ]
    | inr before ↦ before
  ]

  passes_began : (first new : WorldView) → Passes rules mode nodes first new → new.ended ≡ false → first.ended ≡ false
  passes_began first _ no_pass on = on
  passes_began first _ (pass_more {old} before new pass) on = passes_began first old before (pass_began rules mode nodes old new pass on)

  -- what is known last was as it is where all cells were judged, and so it is then
  judged_began : (old new : WorldView) → JudgesAll rules mode nodes old (Ok tt) new → new.ended ≡ false → old.ended ≡ false
  judged_began old new judges on = passes_began old judges.0 judges.1 (pass_began rules mode nodes judges.0 new judges.2 on)

  does_current : (old : WorldView) (deed : Deed) (answer : Answer) (new : WorldView) → (old.ended ≡ false → IsCurrent rules old) → Does rules mode nodes old deed answer new → new.ended ≡ false → IsCurrent rules new
  does_current old (deeds.Happen event) answer new known does on = stays_current rules old new (known (went_on old new event answer does on)) on mode nodes event answer does
  does_current old deeds.JudgeAll answer new known (Ok done, is, judges) on =
      let middle_on = pass_began rules mode nodes judges.0 new judges.2 on in
      let middle = passes_current rules mode nodes old judges.0 (known (passes_began old judges.0 judges.1 middle_on)) judges.1 middle_on in
      pass_current rules mode nodes judges.0 new middle judges.2 on
  does_current old deeds.JudgeAll answer new known (Err other, is, judges) on =
      let cant = judges.2 in
      let event : Event = events.Judge cant.judged 0 in
      let before_on = went_on cant.before new event other cant.happens on in
      let middle_on = pass_began rules mode nodes judges.0 cant.before cant.pass before_on in
      let middle = passes_current rules mode nodes old judges.0 (known (passes_began old judges.0 judges.1 middle_on)) judges.1 middle_on in
      stays_current rules cant.before new (pass_current rules mode nodes judges.0 cant.before middle cant.pass before_on) on mode nodes event other cant.happens

  lives_current : (first w : WorldView) (done : List Deed) (came : List Answer) → IsCurrent rules first → Lives rules mode nodes first done came w → w.ended ≡ false → IsCurrent rules w
  lives_current first _ _ _ known nothing on = known
  lives_current first _ _ _ known (one_more {done} {came} {old} lives deed answer new does well) on = does_current old deed answer new (lives_current first old done came known lives) does on

  pub judged_lives : (made : List MadeEntry) (first old new : WorldView) (done : List Deed) (came : List Answer) → IsWell rules first → IsCurrent rules first → Lives rules mode nodes first done came old → JudgesAll rules mode nodes old (Ok tt) new → new.ended ≡ false → AreMade rules made new → HoldsNothingLost rules made new
  judged_lives made first old new done came well known lives judges on are =
      all_settles rules mode nodes made old new (lives_well rules mode nodes first old done came well lives) (lives_current first old done came known lives (judged_began old new judges on)) judges on are
