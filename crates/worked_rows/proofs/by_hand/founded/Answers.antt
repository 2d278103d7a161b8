use Rattle.std.proofs.Common.{◌∷◌, [], refl, arith, rules}
use Rattle.dura_value.specs.Items.{got, trim}
use Rattle.dura_value.specs.Dependencies.{none, one_more}
use Rattle.worked_rows.specs.ByHand.{entry, message, committed}
use Rattle.worked_rows.proofs.by_hand.founded.Goals as goal

pub returns-clause-first : goal.returns-clause-first
returns-clause-first c = one_more (committed (entry 0 0 0) []) none (record { follows = refl; named = search rules })

pub returns-clause-behind : goal.returns-clause-behind
returns-clause-behind c = one_more (committed (entry 0 1 5) []) none (record { follows = record { partition = refl; position = refl; incarnation = omega arith }; named = search rules })

pub returns-clause-takes_in : goal.returns-clause-takes_in
returns-clause-takes_in c = one_more (committed (entry 0 0 0) (got (entry 1 0 0) 0 message ∷ trim (entry 1 0 0) 1 ∷ [])) none (record { follows = refl; named = search rules })
