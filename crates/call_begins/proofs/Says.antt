-- What was said is told the same whatever frames follow.
use Rattle.std.proofs.Common.{◌∙◌, ◌++◌, ℕ, List, [], append-nil}
use Rattle.call_begins.specs.Says.{AnyFollows, SaysAll}
use Rattle.dura_value.specs.Items.{Entry}
use Rattle.hub_store.specs.Moments.{SaidSoFar, StandsWith}
use Rattle.hub_store.specs.Moments.SaidSoFar.{silent, settles, says}
use Rattle.hub_store.specs.Origin.{Origin}
use Rattle.hub_store.specs.Trail.{Settled, Said}
use Rattle.many_rules.specs.Rules.{Rules, Answers}
use Rattle.site_model.specs.History.{Step, tape}

told_so : {MayFollow : List Settled → List Said → ℕ → List Entry → Type 0} (rules : Rules) {trail : List Settled} {told : List Said} {lines : List ℕ} → SaidSoFar MayFollow (Answers rules) trail told lines → SaidSoFar AnyFollows (Answers rules) trail told lines
told_so rules silent = silent
told_so rules (settles before partition at going follows) = settles (told_so rules before) partition at going tt
told_so rules (says before one line may) = says (told_so rules before) one line may

pub all_said : {MayFollow : List Settled → List Said → ℕ → List Entry → Type 0} (rules : Rules) (o : Origin) (now : List Step) (trail : List Settled) (told : List Said) → StandsWith MayFollow (Answers rules) o now trail told [] → SaysAll rules o.steps now trail told
all_said rules o now trail told stands = record {
  lines = stands.lines;
  said = told_so rules stands.rightly;
  spoken = stands.spoken ∙ append-nil (tape o.steps ++ stands.lines);
}
