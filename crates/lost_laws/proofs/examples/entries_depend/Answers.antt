use Rattle.std.proofs.Common.{inr, arith}
use Rattle.gated_store.specs.Causal.{identity_of}
use Rattle.lost_laws.proofs.Three.{second_names, third_behind, third_through, downwards, first_lost, kept_first}
use Rattle.lost_laws.specs.Examples.{first}
use Rattle.lost_laws.proofs.examples.entries_depend.Goals as goal

pub returns-clause-named : goal.returns-clause-named
returns-clause-named c = second_names

pub returns-clause-before : goal.returns-clause-before
returns-clause-before c = third_behind

pub returns-clause-further : goal.returns-clause-further
returns-clause-further c = third_through

pub returns-clause-behind : goal.returns-clause-behind
returns-clause-behind c = λ depends. let less = downwards depends in omega (arith, less)

pub returns-clause-lost : goal.returns-clause-lost
returns-clause-lost c = λ none. none (identity_of first) (inr third_through) first_lost

pub returns-clause-kept : goal.returns-clause-kept
returns-clause-kept c = kept_first
