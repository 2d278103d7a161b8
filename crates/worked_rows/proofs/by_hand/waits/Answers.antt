use Rattle.std.proofs.Common.{◌∷◌, [], refl, arith}
use Rattle.dura_value.specs.Messages.{at_spot, lock}
use Rattle.dura_model.specs.Legal.{Waits, Blocks}
use Rattle.dura_model.specs.Legal as legal
use Rattle.worked_rows.specs.ByHand.{one, k, waiting_world}
use Rattle.worked_rows.proofs.by_hand.waits.Goals as goal

waits_there : Waits waiting_world one k
waits_there = record {
  from = one;
  task = 0;
  set = k ∷ [];
  index = 0;
  message = record { from = one; to = at_spot k; body = lock one 0 (k ∷ []) 0 };
  stands = (0, omega arith, refl);
  is = refl;
}

pub returns-clause-waits : goal.returns-clause-waits
returns-clause-waits c = waits_there

pub returns-clause-blocked : goal.returns-clause-blocked
returns-clause-blocked c = legal.Blocks.one k waits_there (record { named = refl; kept = λ released. search (arith, released) })
