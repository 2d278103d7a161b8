-- What belongs to a state.
use Rattle.std.proofs.Common.{◌≡◌, ◌≤◌, true, false, refl, arith}
use Rattle.std.specs.List.{Contains}
use Rattle.dura_model.specs.Partition.{fresh}
use Rattle.dura_model.specs.Placed.{Belongs, AreOfInstances}
use Rattle.dura_model.proofs.Belonging.{enter_belongs}
use Rattle.dura_model.proofs.Kept.{fresh_belongs}
use Rattle.run_examples.specs.States.{sum, account, question, begun, asked, orphaned, ticking, ahead}

pub belongs_here : Belongs 1 0 begun
belongs_here = enter_belongs 1 0 (fresh 0) 0 (fresh_belongs 1 0) (omega arith)

pub belongs_elsewhere : Belongs 2 1 begun → ⊥
belongs_elsewhere b = let wrong : 0 ≡ 1 = b.number in cc wrong

pub of_others : Belongs 2 0 asked → ⊥
of_others b =
    let there : Contains asked.queue (question sum) = (0, omega arith, refl) in
    let wrong : 1 ≡ 0 = b.queue (question sum) there in cc wrong

pub too_late : Belongs 1 0 ahead → ⊥
too_late b =
    let wrong : 7 ≤ 0 = b.stamps.lasts account _ refl in absurd (omega (arith, wrong))

pub owned : AreOfInstances begun
owned = record { pending = λ id task activity is. absurd (cc is); due = λ id task due is. absurd (cc is) }

pub orphan : AreOfInstances orphaned → ⊥
orphan b = let wrong : false ≡ true = b.pending sum 0 _ refl in cc wrong

pub ticks : AreOfInstances ticking → ⊥
ticks b = let wrong : false ≡ true = b.due sum 0 5 refl in cc wrong
