-- Judging cells goes on from one world to another, as all events do.
use Rattle.std.proofs.Common.{ℕ, Bool, List, [], ◌∷◌, ◌++◌, Ok, Err, sym, subst, append_assoc, append-nil}
use Rattle.std.specs.List.{Contains}
use Rattle.std.proofs.lemmas.List.Elements.{Contains-push}
use Rattle.cell_steps.specs.declared.mode.Mode.{Mode}
use Rattle.many_rules.specs.Rules.{Rules}
use Rattle.world_core.specs.World.{WorldView}
use Rattle.world_core.specs.declared.answer.Answer.{Answer}
use Rattle.world_core.specs.declared.event.Event.TheVariants as events
use Rattle.world_judges.specs.Judging.{Pass, CantJudge, Passes, JudgesAll}
use Rattle.world_judges.specs.Judging.Pass.{begins, goes_on}
use Rattle.world_judges.specs.Judging.Passes.{none, one_more as pass_more}
use Rattle.world_laws.specs.Lives.{GoesOn}
use Rattle.world_laws.specs.Lives.GoesOn.{one_more}

module _ (rules : Rules) (mode : Mode) (nodes : ℕ) (first : WorldView) where
  -- more events happened, and left this world
  abbrev pub GoesFurther : List Answer → WorldView → Type 0
  GoesFurther came new = (more : List Answer) × GoesOn rules mode nodes first (came ++ more) new

  -- and then these
  further : (came more rest : List Answer) (new : WorldView) → GoesOn rules mode nodes first ((came ++ more) ++ rest) new → GoesOn rules mode nodes first (came ++ (more ++ rest)) new
  further came more rest new goes = subst (λ (l : List Answer). GoesOn rules mode nodes first l new) (append_assoc came more rest) goes

  pub pass_goes_on : (old : WorldView) (came : List Answer) → GoesOn rules mode nodes first came old → {judged : ℕ} {kept : Bool} (new : WorldView) → Pass rules mode nodes old judged kept new → GoesFurther came new
  pass_goes_on old came goes _ begins = ([], subst (λ (l : List Answer). GoesOn rules mode nodes first l old) (sym (append-nil came)) goes)
  pass_goes_on start came goes _ (goes_on {judged} {kept} {old} before answer new is happens well) =
      let so_far = pass_goes_on start came goes old before in
      (so_far.0 ++ answer ∷ [], further came so_far.0 (answer ∷ []) new (one_more so_far.1 (events.Judge judged 0) answer new happens well))

  pub passes_go_on : (old : WorldView) (came : List Answer) → GoesOn rules mode nodes first came old → (new : WorldView) → Passes rules mode nodes old new → GoesFurther came new
  passes_go_on old came goes _ none = ([], subst (λ (l : List Answer). GoesOn rules mode nodes first l old) (sym (append-nil came)) goes)
  passes_go_on start came goes _ (pass_more {old} before new pass) =
      let so_far = passes_go_on start came goes old before in
      let then = pass_goes_on old (came ++ so_far.0) so_far.1 new pass in
      (so_far.0 ++ then.0, further came so_far.0 then.0 new then.1)

  pub judged_go_on : (old : WorldView) (came : List Answer) → GoesOn rules mode nodes first came old → (new : WorldView) → JudgesAll rules mode nodes old (Ok tt) new → GoesFurther came new
  judged_go_on old came goes new judges =
      let so_far = passes_go_on old came goes judges.0 judges.1 in
      let then = pass_goes_on judges.0 (came ++ so_far.0) so_far.1 new judges.2 in
      (so_far.0 ++ then.0, further came so_far.0 then.0 new then.1)

  -- one that could not be judged goes on too, with the answer that tells why
  cant_go_on : (old : WorldView) (came : List Answer) → GoesOn rules mode nodes first came old → (answer : Answer) (new : WorldView) → CantJudge rules mode nodes old answer new → (more : List Answer) × GoesOn rules mode nodes first (came ++ more) new × Contains (came ++ more) answer
  cant_go_on old came goes answer new cant =
      let so_far = pass_goes_on old came goes cant.before cant.pass in
      let all : List Answer = came ++ so_far.0 in (
        so_far.0 ++ answer ∷ [],
        further came so_far.0 (answer ∷ []) new (one_more so_far.1 (events.Judge cant.judged 0) answer new cant.happens cant.well),
        subst (λ (l : List Answer). Contains l answer) (append_assoc came so_far.0 (answer ∷ [])) (Contains-push (came ++ so_far.0) answer),
      )

  pub unjudged_goes_on : (old : WorldView) (came : List Answer) → GoesOn rules mode nodes first came old → (answer : Answer) (new : WorldView) → JudgesAll rules mode nodes old (Err answer) new → (more : List Answer) × GoesOn rules mode nodes first (came ++ more) new × Contains (came ++ more) answer
  unjudged_goes_on old came goes answer new judges =
      let so_far = passes_go_on old came goes judges.0 judges.1 in
      let then = cant_go_on judges.0 (came ++ so_far.0) so_far.1 answer new judges.2 in
      (so_far.0 ++ then.0, further came so_far.0 then.0 new then.1, subst (λ (l : List Answer). Contains l answer) (append_assoc came so_far.0 then.0) then.2)
