-- Where the log had no entry and nothing was settled, no line is an answer.
use Rattle.std.proofs.Common.{◌≡◌, ◌∙◌, ℕ, List, [], ◌∷◌, ◌++◌, Some, refl, ap, subst}
use Rattle.dura_model.specs.Legal.{Legal}
use Rattle.dura_model.specs.World.{World, empty}
use Rattle.dura_value.specs.Ids.{client}
use Rattle.dura_value.specs.Items.{Entry}
use Rattle.hub_store.specs.Origin.{Origin}
use Rattle.hub_store.specs.Trail.{Said}
use Rattle.dura_model.specs.Entries.{labels_in}
use Rattle.run_laws.specs.Leaves.{IsAnswered, AllAnswered}
use Rattle.run_laws.specs.Leaves.AllAnswered.{nothing_said, one_more}
use Rattle.run_rules.specs.Rules.{Rules}

pub nothing_before : (before behind : List Entry) → [] ≡ before ++ behind → before ≡ []
nothing_before [] behind is = refl
nothing_before (entry ∷ before) behind is = cc is

module _ (rules : Rules) (o : Origin) (none : (o.logs 0).entries ≡ []) where
  pub no_answer : (told : List Said) (one : Said) (line : List ℕ) → IsAnswered rules o [] told one line → ⊥
  no_answer told one line it =
      let legal : Legal rules.flows (labels_in (o.logs 0).entries ++ labels_in []) it.world = subst (λ (l : List Entry). Legal rules.flows (labels_in (o.logs 0).entries ++ labels_in l) it.world) (nothing_before it.before it.behind it.front) it.legal in
      let from_empty : Legal rules.flows [] it.world = subst (λ (l : List Entry). Legal rules.flows (labels_in l ++ labels_in []) it.world) none legal in
      let world_is : empty ≡ it.world = cc from_empty in
      let has : empty.answers (client one.client) one.number ≡ Some it.answer = ap (λ (w : World). w.answers (client one.client) one.number) world_is ∙ it.has in
      cc has

  pub nothing_settled : (told : List Said) (lines : List ℕ) → AllAnswered rules o [] told lines → lines ≡ []
  nothing_settled told lines nothing_said = refl
  nothing_settled told lines (one_more {told = before} all one line it) = absurd (no_answer before one line it)
