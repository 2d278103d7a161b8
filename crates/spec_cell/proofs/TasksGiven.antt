-- A cell gives a task out.
use Rattle.std.proofs.Common.{◌≡◌, ◌∙◌, ℕ, Bool, true, false, Option, Some, None, refl, sym, ap, subst}
use Rattle.std.specs.Prelude.{◌&&◌, not, is_some}
use Rattle.cell_tasks.specs.Tasks.{is_out}
use Rattle.cell_tasks.specs.declared.given_out.GivenOut.{GivenOut}
use Rattle.cell_waits.specs.Waits.{waits_of}
use Rattle.dura_model.specs.Partition.{Partition}
use Rattle.dura_value.specs.ById.{at_number}
use Rattle.dura_value.specs.Ids.{Id}
use Rattle.dura_value.specs.Views.{id_of}
use Rattle.shared_maps.specs.Order.{IsFirst}
use Rattle.spec_cell.specs.GivesTask.{GivesTask}
use Rattle.spec_cell.specs.Seats.{Slot}
use Rattle.cell_steps.specs.Steps.{entries_in}
use Rattle.spec_cell.specs.Tasks.{pending_in, given_by, Gives}
use Rattle.spec_cell.specs.Views.{CellView, entries_of_live, incarnation_of, waits_of_live, given_of_live}
use Rattle.cell_steps.specs.declared.live.Live.{Live}
use Rattle.spec_cell.specs.declared.tasks.Task.{Task}
use Rattle.spec_cell.proofs.CellFacts.{view}
use Rattle.cell_steps.specs.declared.round.Round.{Round}

none_to_run : (there out : Bool) → (there ≡ true → out ≡ true) → (there && not out) ≡ false
none_to_run true true all = refl
none_to_run true false all = sym (all refl)
none_to_run false true all = refl
none_to_run false false all = refl

module _ (number : ℕ) (slot : Slot) (now out owner : ℕ) (round : Round) (live : Live) (self : CellView) (view_is : view number slot (Some live) now out owner round ≡ self) where
  -- what was given out, by the view
  given_is : is_out live.given ≡ given_by self.given
  given_is = ap (λ (v : CellView). given_by v.given) view_is

  -- nothing but what was given out is another
  given_view : (new : Live) (place : Option Live) → place ≡ Some new → new.steps ≡ live.steps → new.incarnation ≡ live.incarnation → new.waits ≡ live.waits → view number slot place now out owner round ≡ record self { given = given_of_live place }
  given_view new place place_is steps incarnation waits =
      subst (λ (v : CellView). view number slot place now out owner round ≡ record v { given = given_of_live place }) view_is
      (λ i. record {
        number = number;
        slot = slot;
        going = (ap is_some place_is) i;
        entries = (ap entries_of_live place_is ∙ ap (λ v. entries_in v.items) steps) i;
        incarnation = (ap incarnation_of place_is ∙ incarnation) i;
        waits = (ap waits_of_live place_is ∙ ap waits_of waits) i;
        given = given_of_live place;
        now = now;
        out = out;
        owner = owner;
        round = round;
      })

  pub gives_task : (base : Partition) (new : Live) (place : Option Live) (task : Option Task) → place ≡ Some new → new.steps ≡ live.steps → new.incarnation ≡ live.incarnation → new.waits ≡ live.waits → Gives base live.given task new.given
      → GivesTask base self task (view number slot place now out owner round)
  gives_task base new place None place_is steps incarnation waits gives = (
    λ id task. none_to_run (pending_in base id task) (given_by self.given id task) (λ there. ap (λ (f : Id → ℕ → Bool). f id task) (sym given_is) ∙ gives.0 id task there),
    given_view new place place_is steps incarnation waits ∙ ap (λ (given : Option GivenOut). record self { given = given }) (ap given_of_live place_is ∙ ap Some gives.1 ∙ ap (λ (v : CellView). v.given) view_is),
  )
  gives_task base new place (Some found) place_is steps incarnation waits gives = (
    subst (λ (f : Id → ℕ → Bool). IsFirst (λ id task. pending_in base id task && not (f id task)) (id_of found.id) found.task) given_is gives.0.0,
    gives.0.1,
    ap (λ (o : Option Live). given_by (given_of_live o)) place_is ∙ gives.1 ∙ ap (λ (f : Id → ℕ → Bool). at_number f (id_of found.id) found.task true) given_is,
    given_view new place place_is steps incarnation waits,
  )
