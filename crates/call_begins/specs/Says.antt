-- What a call says.
use Rattle.std.specs.Prelude.{◌≡◌, ℕ, List, ◌++◌}
use Rattle.dura_value.specs.Items.{Entry}
use Rattle.hub_store.specs.Moments.{SaidSoFar}
use Rattle.hub_store.specs.Trail.{Settled, Said}
use Rattle.many_rules.specs.Rules.{Rules, Answers}
use Rattle.site_model.specs.History.{Step, tape}

-- whatever frames follow
abbrev pub AnyFollows : List Settled → List Said → ℕ → List Entry → Type 0
AnyFollows trail told partition going = Unit {0}

-- The tape goes on from one history to another by a line for each of these requests, one after another, which answers it as what was
-- settled by then has it.
pub record SaysAll (rules : Rules) (before now : List Step) (trail : List Settled) (told : List Said) : Type 0 where
  pub lines : List ℕ
  pub said : SaidSoFar AnyFollows (Answers rules) trail told lines
  pub spoken : tape now ≡ tape before ++ lines
