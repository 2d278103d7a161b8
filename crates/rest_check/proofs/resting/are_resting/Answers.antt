use Rattle.std.proofs.Common.{◌≡◌, ◌↔◌, true, length, map, sym, subst}
use Rattle.std.proofs.lemmas.List.{length-map}
use Rattle.rest_check.proofs.AtRest.{all_states}
use Rattle.part_steps.specs.States.{AreStatesOfAll, parts_in}
use Rattle.rest_laws.specs.Rest.{AreAtRest}
use Rattle.rest_check.proofs.resting.are_resting.Goals as goal

pub are_at_rest-requires : goal.are_at_rest-requires
are_at_rest-requires g c =
    let states = c.in_ok-states.states.items in
    subst (λ l. AreStatesOfAll (map (λ s. s.now) l)) (sym c.deref.ensures.value) (all_states g.M.Picked.origin g.M.Picked.rules c.args._store.now c.args.cells.now c.requires (map (λ s. s.now) states) c.in_ok-states.ensures)

pub returns : goal.returns
returns g c =
    let states = c.in_ok-states.states.items in
    let b = c.are_at_rest.result in (
      map (λ s. s.now) states,
      c.in_ok-states.ensures,
      subst (λ n. (b ≡ true) ↔ AreAtRest n (parts_in (map (λ s. s.now) states))) (sym (length-map states (λ s. s.now)))
          (subst (λ l. (b ≡ true) ↔ AreAtRest (length l) (parts_in (map (λ s. s.now) l))) c.deref.ensures.value c.are_at_rest.ensures),
    )
