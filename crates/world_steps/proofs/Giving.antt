-- A task that a cell gives out was asked for.
use Rattle.std.proofs.Common.{◌≡◌, ◌<◌, ◌∙◌, ℕ, List, length, Option, None, Some, Ok, Result, Err, IfOk, sym, subst, refl, slice_get, slice_set}
use Rattle.std.specs.Prelude.{IsSome, IfSome}
use Rattle.cell_frames.proofs.Asked.{base_asked}
use Rattle.cell_frames.proofs.ByItself.{tasks_joined}
use Rattle.cell_frames.specs.Begun.{HasBegun}
use Rattle.cell_frames.specs.Joined.{StoreView, Joined}
use Rattle.dura_model.specs.Entries.{placed}
use Rattle.dura_model.specs.Partition.{Partition}
use Rattle.dura_model.specs.World.{Activity}
use Rattle.dura_value.specs.Views.{id_of}
use Rattle.hub_store.specs.Origin.{Origin}
use Rattle.many_rules.specs.Rules.{Rules}
use Rattle.spec_cell.specs.GivesTask.{GivesTask}
use Rattle.spec_cell.specs.Views.{CellView, IsBase}
use Rattle.spec_cell.specs.declared.tasks.Task.{Task}
use Rattle.gated_store.proofs.Fitting.{at_same}
use Rattle.world_steps.specs.Cells.{AllJoined}
use Rattle.world_steps.specs.Comes.{IsAskedFor, GivesAt}

some_there : {X : Type 0} (o : Option X) (x : X) → o ≡ Some x → IsSome o
some_there None x is = absurd (cc is)
some_there (Some y) x is = refl

module _ (o : Origin) (rules : Rules) (s : StoreView) (cells : List CellView) (p : ℕ) (c new : CellView) (begun : HasBegun o rules) (inside : p < rules.count) (below : p < length cells) (there : slice_get cells p ≡ Some c) (all : AllJoined rules s cells) where
  asked_there : (found : Task) (base : Partition) → IsBase rules.flows rules.count (rules.begin c.number) c base → GivesTask base c (Some found) new → IsAskedFor rules p (id_of found.id) found.task (slice_set cells p new)
  asked_there found base is gives = λ after here later made.
      let same : after ≡ record c { given = new.given } = at_same cells p new after below here ∙ gives.3 in
      let made_here : placed rules.flows rules.count (rules.begin c.number) c.slot.mine ≡ Ok later = subst (λ (v : CellView). placed rules.flows rules.count (rules.begin v.number) v.slot.mine ≡ Ok later) same made in
      let both : Ok base ≡ Ok later = sym is ∙ made_here in
      let one : base ≡ later = cc both in
      let pending : IsSome (later.activities (id_of found.id) found.task) = subst (λ (b : Partition). IsSome (b.activities (id_of found.id) found.task)) one (some_there _ _ gives.1) in
      base_asked o rules s p c later begun inside (all p c there).1 made_here (id_of found.id) found.task pending

  asked_if : (task : Option Task) → GivesAt rules task c new → IfSome task (λ one. IsAskedFor rules p (id_of one.id) one.task (slice_set cells p new))
  asked_if None gives = tt
  asked_if (Some found) gives = asked_there found gives.0 gives.1 gives.2

  pub asked_ok : {E : Type 0} (r : Result (Option Task) E) → IfOk r (λ task. GivesAt rules task c new) → IfOk r (λ task. IfSome task (λ one. IsAskedFor rules p (id_of one.id) one.task (slice_set cells p new)))
  asked_ok (Ok task) gives = asked_if task gives
  asked_ok (Err error) gives = tt

pub gives_joined : (rules : Rules) (s : StoreView) (p : ℕ) (c new : CellView) (task : Option Task) → GivesAt rules task c new → Joined rules s p c → Joined rules s p new
gives_joined rules s p c new None gives joined = subst (Joined rules s p) (sym gives.2.1) joined
gives_joined rules s p c new (Some found) gives joined = tasks_joined rules s p c joined new gives.2.3
