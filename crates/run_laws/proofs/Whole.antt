-- The entries at the start, and those that came.
use Rattle.std.proofs.Common.{◌≡◌, ℕ, List, ◌++◌, Ok, ◌∙◌, ap, subst}
use Rattle.dura_value.specs.Reading.{◌>>=◌}
use Rattle.dura_model.specs.Partition.{Partition, fresh}
use Rattle.dura_value.specs.Items.{Entry}
use Rattle.hub_store.specs.Origin.{Origin}
use Rattle.dura_model.specs.Entries.{placed, AllGiven}
use Rattle.dura_model.proofs.Appending.{placed_both, given_both}
use Rattle.run_rules.specs.Rules.{Rules}
use Rattle.run_laws.specs.Begins.{BeginsAlone}
use Rattle.run_laws.proofs.Trails.{Goes}

module _ (o : Origin) (rules : Rules) (latest digest : ℕ) (begins : BeginsAlone o rules digest) where
  pub whole : (entries : List Entry) (goes : Goes rules latest entries) → (placed rules.flows 1 (fresh 0) ((o.logs 0).entries ++ entries) ≡ Ok goes.state) × AllGiven rules.flows 1 (fresh 0) ((o.logs 0).entries ++ entries)
  whole entries goes = (
    placed_both rules.flows 1 (fresh 0) (o.logs 0).entries entries ∙ ap (λ made. made >>= λ q. placed rules.flows 1 q entries) begins.made ∙ goes.made,
    (given_both rules.flows 1 (fresh 0) (o.logs 0).entries entries).1 (begins.given, λ q is. let same : rules.begin ≡ q = cc (begins.made, is) in subst (λ (p : Partition). AllGiven rules.flows 1 p entries) same goes.given),
  )
