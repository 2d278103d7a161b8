use Rattle.std.proofs.Common.{◌≡◌, ℕ, Result, Err, refl}
use Rattle.commit_log.specs.declared.reader.OpenError.{OpenError}
use Rattle.commit_log.specs.declared.reader.OpenError.TheVariants.{Fresh, Damaged, SiteFault}
use Rattle.commit_log.proofs.parse.parse_front.Goals as goal
use Rattle.commit_log.proofs.Causes.{ok_apart}

fresh_fault : {T : Type 0} (result : Result T OpenError) → result ≡ Err Fresh → result ≡ Err SiteFault → ⊥
fresh_fault result fresh fault = cc

damaged_fault : {T : Type 0} (result : Result T OpenError) (offset : ℕ) → result ≡ Err (Damaged offset) → result ≡ Err SiteFault → ⊥
damaged_fault result offset damaged fault = cc

pub returns-in-Ok-clause-no_fault : goal.returns-in-Ok-clause-no_fault
returns-in-Ok-clause-no_fault c is = ok_apart _ _ is

pub returns-in-Err-clause-no_fault : goal.returns-in-Err-clause-no_fault
returns-in-Err-clause-no_fault c is = damaged_fault _ _ refl is

pub returns-then-is_empty-clause-no_fault : goal.returns-then-is_empty-clause-no_fault
returns-then-is_empty-clause-no_fault c is = fresh_fault _ refl is

pub returns-in_default-clause-no_fault : goal.returns-in_default-clause-no_fault
returns-in_default-clause-no_fault c is = fresh_fault _ refl is

pub returns-in_default-2-clause-no_fault : goal.returns-in_default-2-clause-no_fault
returns-in_default-2-clause-no_fault c is = fresh_fault _ refl is
