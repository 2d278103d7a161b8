-- No gate refuses in a life.
use Rattle.std.proofs.Common.{◌≡◌, ◌∙◌, ◌⊎◌, inl, inr, ◌<◌, ◌++◌, ◌∷◌, ℕ, List, [], Ok, Err, sym, subst, arith}
use Rattle.std.specs.List.{Contains}
use Rattle.std.proofs.lemmas.List.Elements.{Contains-append_left, Contains-push, Contains-push_cases}
use Rattle.cell_steps.specs.declared.mode.Mode.{Mode}
use Rattle.commit_gate.specs.declared.unmet.Unmet.{Unmet}
use Rattle.many_rules.specs.Rules.{Rules}
use Rattle.world_core.specs.World.{WorldView}
use Rattle.world_core.specs.declared.answer.Answer.{Answer}
use Rattle.world_core.specs.declared.answer.Answer.TheVariants as answers
use Rattle.world_judges.proofs.Going.{judged_go_on, unjudged_goes_on}
use Rattle.world_laws.proofs.Lives.{known_on, new_life}
use Rattle.world_laws.specs.Lives.{IsNewLife, IsWell, GoesOn}
use Rattle.world_laws.specs.Lives.GoesOn.{nothing as none_more, one_more as more}
use Rattle.world_lives.specs.Lives.{Does, Lives, nothing, one_more}
use Rattle.world_lives.specs.declared.deed.Deed.{Deed}
use Rattle.world_lives.specs.declared.deed.Deed.TheVariants as deeds

module _ (rules : Rules) (mode : Mode) (nodes : ℕ) (first : WorldView) where
  -- Events led to this world. Each of these answers is Kept, or what an event came to.
  record LeadsTo (came : List Answer) (w : WorldView) : Type 0 where
    pub all : List Answer
    pub goes : GoesOn rules mode nodes first all w
    pub each : (answer : Answer) → Contains came answer → (answer ≡ answers.Kept) ⊎ Contains all answer

  -- so it is with one answer more
  with_one : (came later : List Answer) (old new : WorldView) (answer : Answer) → (before : LeadsTo came old) → GoesOn rules mode nodes first (before.all ++ later) new → (answer ≡ answers.Kept) ⊎ Contains (before.all ++ later) answer → LeadsTo (came ++ answer ∷ []) new
  with_one came later old new answer before goes this = record {
    all = before.all ++ later;
    goes = goes;
    each = λ one inside. elim (Contains-push_cases came answer one inside) [
      | inl earlier ↦ elim (before.each one earlier) [ inl kept ↦ inl kept | inr there ↦ inr (Contains-append_left before.all later one there) ]
      | inr same ↦ elim this [ inl kept ↦ inl (sym same ∙ kept) | inr there ↦ inr (subst (Contains (before.all ++ later)) same there) ]
    ];
  }

  deed_leads : (came : List Answer) (old : WorldView) (deed : Deed) (answer : Answer) (new : WorldView) → LeadsTo came old → Does rules mode nodes old deed answer new → IsWell rules new → LeadsTo (came ++ answer ∷ []) new
  deed_leads came old (deeds.Happen event) answer new before does well =
      with_one came (answer ∷ []) old new answer before (more before.goes event answer new does well) (inr (Contains-push before.all answer))
  deed_leads came old deeds.JudgeAll answer new before (Ok done, is, judges) well =
      let then = judged_go_on rules mode nodes first old before.all before.goes new judges in
      with_one came then.0 old new answer before then.1 (inl is)
  deed_leads came old deeds.JudgeAll answer new before (Err other, is, judges) well =
      let then = unjudged_goes_on rules mode nodes first old before.all before.goes other new judges in
      with_one came then.0 old new answer before then.1 (inr (subst (Contains (before.all ++ then.0)) (sym is) then.2))

  lives_lead : (done : List Deed) (came : List Answer) (w : WorldView) → Lives rules mode nodes first done came w → LeadsTo came w
  lives_lead _ _ _ nothing = record { all = []; goes = none_more; each = λ answer inside. absurd (let none : inside.0 < 0 = inside.1 in omega (arith, none)) }
  lives_lead _ _ _ (one_more {done} {came} {old} lives deed answer new does well) = deed_leads came old deed answer new (lives_lead done came old lives) does well

  pub lives_pass : (last : WorldView) (done : List Deed) (came : List Answer) → IsWell rules first → IsNewLife rules first → Lives rules mode nodes first done came last → (why : Unmet) → Contains came (answers.Refused why) → ⊥
  lives_pass last done came well new lives why inside =
      let leads = lives_lead done came last lives in
      elim (leads.each (answers.Refused why) inside) [
        | inl kept ↦ absurd (cc kept)
        | inr there ↦ (known_on rules mode nodes first leads.all last well (new_life rules first new) leads.goes).passed why there
      ]
