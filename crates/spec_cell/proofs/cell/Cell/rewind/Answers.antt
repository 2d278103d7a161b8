use Rattle.std.proofs.Common.{◌≡◌, ◌∙◌, ℕ, List, Option, Some, option_map, length, sym, ap, subst, arith}
use Rattle.std.specs.Prelude.{drop}
use Rattle.std.specs.List.{All, HoldsAt}
use Rattle.std.proofs.lemmas.List.{length-map}
use Rattle.cell_waits.specs.Waits.{Waiting, lost_by, without_lost}
use Rattle.dura_value.specs.Items.{Identity, Entry}
use Rattle.log_items.specs.Plain.{entry_of}
use Rattle.part_steps.specs.States.{state_of}
use Rattle.spec_tracker.specs.Marks.{identity_of, floors_of}
use Rattle.cell_steps.specs.Depends.{last_made, dependencies, AreKept, IsFirstLost}
use Rattle.spec_cell.specs.Moves.{given_up, dependencies_in}
use Rattle.cell_steps.specs.Steps.{entries_in}
use Rattle.spec_cell.specs.Views.{Stands, StandsIn, given_of_live}
use Rattle.cell_steps.specs.declared.live.Live.{Live}
use Rattle.cell_steps.specs.declared.step.Step.{Step}
use Rattle.spec_cell.proofs.CellFacts.{view, base_of_self, same_view, given_up_stands, given_up_view, waits_are, waits_view, none_given, entries_are, out_is, incarnation_is}
use Rattle.cell_steps.proofs.Losing.{floor_at}
use Rattle.spec_cell.proofs.cell.Cell.rewind.Goals as goal

pub returns-in_default-lost-clause-rewinds : goal.returns-in_default-lost-clause-rewinds
returns-in_default-lost-clause-rewinds g c =
    let flows = g.S.Mine.flows in
    let count = g.S.Mine.count in
    let inside = c.self.inside in
    let number = g.S.Mine.number inside.seat in
    let slot = g.S.Mine.slot inside.seat in
    let live = c.in-Some.live in
    let live_is : inside.live ≡ Some live = sym c.take.ensures.value ∙ c.in-Some.is in
    let stands : Stands flows count (g.S.Mine.begin number) slot.mine inside.now inside.out live = subst (λ (o : Option Live). StandsIn flows count (g.S.Mine.begin number) slot.mine inside.now inside.out o) live_is c.self.invariant in
    let view_is : view number slot (Some live) inside.now inside.out inside.owner inside.round ≡ c.args.self.now =
    ap (λ (o : Option Live). view number slot o inside.now inside.out inside.owner inside.round) (sym live_is) ∙ c.self.view_is in
    let base = state_of live.base in
    let marks = c.args.marks.now in
    let found_in = dependencies c.number.result (option_map identity_of c.last_made-before.result) (entries_in c.deref.result.now) in
    let deps_are : found_in ≡ dependencies_in c.args.self.now base =
    ap (λ (n : ℕ). dependencies n (option_map identity_of c.last_made-before.result) (entries_in c.deref.result.now)) c.number.ensures
    ∙ ap (λ (o : Option Identity). dependencies base.number o (entries_in c.deref.result.now)) c.last_made-before.ensures
    ∙ ap (λ (l : List Step). dependencies base.number (last_made base) (entries_in l)) c.deref.ensures.value
    ∙ ap (λ (l : List Entry). dependencies base.number (last_made base) l) (entries_are flows count g.S.Mine.begin number slot inside.now inside.out inside.owner inside.round live stands c.args.self.now view_is) in
    let none = subst (λ (ds : List (List Identity)). All (AreKept marks) (drop inside.out ds)) deps_are c.in_default-lost.ensures.none in
    record {
      base = base;
      is_base = base_of_self flows count g.S.Mine.begin number slot inside.now inside.out inside.owner inside.round live stands c.args.self.now view_is;
      kept = subst (λ (n : ℕ). All (AreKept marks) (drop n (dependencies_in c.args.self.now base))) (out_is flows count g.S.Mine.begin number slot inside.now inside.out inside.owner inside.round live stands c.args.self.now view_is) none;
      becomes =
          waits_view flows count g.S.Mine.begin number slot inside.now inside.out inside.owner inside.round live stands c.args.self.now view_is c.in_ok-next.next c.put.new.place (without_lost (lost_by (floors_of marks)) c.args.self.now.waits) c.put.ensures c.in_ok-next.ensures.steps c.in_ok-next.ensures.incarnation c.in_ok-next.ensures.given
          (c.in_ok-next.ensures.waits ∙ ap (λ (l : List Waiting). without_lost (lost_by (floors_of marks)) l) (waits_are flows count g.S.Mine.begin number slot inside.now inside.out inside.owner inside.round live stands c.args.self.now view_is));
    }

pub returns-then-incarnation-ge-NUMBER_LIMIT-clause-rewinds : goal.returns-then-incarnation-ge-NUMBER_LIMIT-clause-rewinds
returns-then-incarnation-ge-NUMBER_LIMIT-clause-rewinds g c =
    let flows = g.S.Mine.flows in
    let count = g.S.Mine.count in
    let inside = c.self.inside in
    let number = g.S.Mine.number inside.seat in
    let slot = g.S.Mine.slot inside.seat in
    let live = c.in-Some.live in
    let live_is : inside.live ≡ Some live = sym c.take.ensures.value ∙ c.in-Some.is in
    let stands : Stands flows count (g.S.Mine.begin number) slot.mine inside.now inside.out live = subst (λ (o : Option Live). StandsIn flows count (g.S.Mine.begin number) slot.mine inside.now inside.out o) live_is c.self.invariant in
    let view_is : view number slot (Some live) inside.now inside.out inside.owner inside.round ≡ c.args.self.now =
    ap (λ (o : Option Live). view number slot o inside.now inside.out inside.owner inside.round) (sym live_is) ∙ c.self.view_is in
    let low = stands.low in
    let sum = c.saturating_add-incarnation.ensures in
    let own = incarnation_is flows count g.S.Mine.begin number slot inside.now inside.out inside.owner inside.round live stands c.args.self.now view_is in
    (same_view flows count g.S.Mine.begin number slot inside.now inside.out inside.owner inside.round live stands c.args.self.now view_is c.put-then-incarnation-ge-NUMBER_LIMIT.new.place c.put-then-incarnation-ge-NUMBER_LIMIT.ensures, omega (arith, sum, low, own), omega (arith, c.if-incarnation-ge-NUMBER_LIMIT.true))

pub invariant_of-self-2 : goal.invariant_of-self-2
invariant_of-self-2 g c =
    let flows = g.S.Mine.flows in
    let count = g.S.Mine.count in
    let inside = c.self.inside in
    let number = g.S.Mine.number inside.seat in
    let slot = g.S.Mine.slot inside.seat in
    let live = c.in-Some.live in
    let live_is : inside.live ≡ Some live = sym c.take.ensures.value ∙ c.in-Some.is in
    let stands : Stands flows count (g.S.Mine.begin number) slot.mine inside.now inside.out live = subst (λ (o : Option Live). StandsIn flows count (g.S.Mine.begin number) slot.mine inside.now inside.out o) live_is c.self.invariant in
    let view_is : view number slot (Some live) inside.now inside.out inside.owner inside.round ≡ c.args.self.now =
    ap (λ (o : Option Live). view number slot o inside.now inside.out inside.owner inside.round) (sym live_is) ∙ c.self.view_is in
    let low = stands.low in
    let sum = c.saturating_add-incarnation.ensures in
    let below = c.if-incarnation-ge-NUMBER_LIMIT.false in
    let within = c.in-Some-lost.ensures.inside in
    let long = ap (λ (l : List Step). length l) c.deref.ensures.value in
    let up = c.in_ok-next-2.ensures.incarnation in
    given_up_stands flows count g.S.Mine.begin number slot inside.now inside.out inside.owner inside.round live stands c.args.self.now view_is c.in_ok-next-2.next c.put-2.new.place c.in-Some-lost.kept inside.out c.put-2.ensures (omega (arith, within, long)) c.in-Some-lost.ensures.some.behind c.in_ok-next-2.ensures.base c.in_ok-next-2.ensures.steps up (omega (arith, up, sum, low, below)) c.in_ok-next-2.ensures.indexed (c.in_ok-next-2.ensures.may stands.waits) c.in_ok-next-2.ensures.anew

pub returns-clause-rewinds : goal.returns-clause-rewinds
returns-clause-rewinds g c =
    let flows = g.S.Mine.flows in
    let count = g.S.Mine.count in
    let inside = c.self.inside in
    let number = g.S.Mine.number inside.seat in
    let slot = g.S.Mine.slot inside.seat in
    let live = c.in-Some.live in
    let live_is : inside.live ≡ Some live = sym c.take.ensures.value ∙ c.in-Some.is in
    let stands : Stands flows count (g.S.Mine.begin number) slot.mine inside.now inside.out live = subst (λ (o : Option Live). StandsIn flows count (g.S.Mine.begin number) slot.mine inside.now inside.out o) live_is c.self.invariant in
    let view_is : view number slot (Some live) inside.now inside.out inside.owner inside.round ≡ c.args.self.now =
    ap (λ (o : Option Live). view number slot o inside.now inside.out inside.owner inside.round) (sym live_is) ∙ c.self.view_is in
    let base = state_of live.base in
    let marks = c.args.marks.now in
    let found_in = dependencies c.number.result (option_map identity_of c.last_made-before.result) (entries_in c.deref.result.now) in
    let deps_are : found_in ≡ dependencies_in c.args.self.now base =
    ap (λ (n : ℕ). dependencies n (option_map identity_of c.last_made-before.result) (entries_in c.deref.result.now)) c.number.ensures
    ∙ ap (λ (o : Option Identity). dependencies base.number o (entries_in c.deref.result.now)) c.last_made-before.ensures
    ∙ ap (λ (l : List Step). dependencies base.number (last_made base) (entries_in l)) c.deref.ensures.value
    ∙ ap (λ (l : List Entry). dependencies base.number (last_made base) l) (entries_are flows count g.S.Mine.begin number slot inside.now inside.out inside.owner inside.round live stands c.args.self.now view_is) in
    let kept = c.in-Some-lost.kept in
    let within = c.in-Some-lost.ensures.inside in
    let long = ap (λ (l : List Step). length l) c.deref.ensures.value in
    let longer = length-map live.steps.items (λ (s : Step). entry_of s.entry) in
    let entries = entries_are flows count g.S.Mine.begin number slot inside.now inside.out inside.owner inside.round live stands c.args.self.now view_is in
    let many = ap (λ (l : List Entry). length l) entries in
    let first = subst (λ (ds : List (List Identity)). IsFirstLost marks ds inside.out kept (identity_of c.in-Some-lost.dep)) deps_are c.in-Some-lost.ensures.some in
    let outs = out_is flows count g.S.Mine.begin number slot inside.now inside.out inside.owner inside.round live stands c.args.self.now view_is in
    let becomes = given_up_view flows count g.S.Mine.begin number slot inside.now inside.out inside.owner inside.round live stands c.args.self.now view_is c.in_ok-next-2.next c.put-2.new.place kept inside.out c.put-2.ensures c.in_ok-next-2.ensures.steps c.in_ok-next-2.ensures.incarnation c.in_ok-next-2.ensures.waits in
    record {
      kept = kept;
      base = base;
      is_base = base_of_self flows count g.S.Mine.begin number slot inside.now inside.out inside.owner inside.round live stands c.args.self.now view_is;
      first = subst (λ (n : ℕ). IsFirstLost marks (dependencies_in c.args.self.now base) n kept (identity_of c.in-Some-lost.dep)) outs first;
      inside = omega (arith, within, long, longer, many);
      floor_is = subst (λ (l : List Entry). HoldsAt (λ (e : Entry). e.position ≡ c.index.result.now.entry.position) l kept) entries (floor_at live.steps.items kept c.index.result.now (omega (arith, within, long)) c.index.ensures);
      becomes = becomes ∙ ap (λ (n : ℕ). given_up kept n (given_of_live c.put-2.new.place) c.args.self.now) outs;
      none_given = none_given flows count g.S.Mine.begin number slot inside.now inside.out inside.owner inside.round live stands c.args.self.now view_is c.in_ok-next-2.next c.put-2.new.place c.put-2.ensures c.in_ok-next-2.ensures.given;
    }
