use Rattle.std.proofs.Common.{◌≡◌, ◌∙◌, ◌++◌, ◌≤◌, Option, Some, length, take, sym, ap, subst, arith}
use Rattle.std.proofs.lemmas.List.{length-map}
use Rattle.log_items.specs.Plain.{entry_of}
use Rattle.spec_cell.specs.Seats.{Slot}
use Rattle.cell_steps.specs.Steps.{entries_in}
use Rattle.spec_cell.specs.Views.{CellView, Stands, StandsIn, HasSettled}
use Rattle.cell_steps.specs.declared.live.Live.{Live}
use Rattle.cell_steps.specs.declared.step.Step.{Step}
use Rattle.spec_cell.proofs.CellFacts.{view, settles, move_seat, settled_view}
use Rattle.spec_cell.proofs.SentByEntries.{front_sound, settled_sends}
use Rattle.spec_cell.proofs.cell.Cell.settled.Goals as goal

pub invariant_of-self-in-Ok : goal.invariant_of-self-in-Ok
invariant_of-self-in-Ok g c =
    let flows = g.S.Mine.flows in
    let count = g.S.Mine.count in
    let inside = c.self.inside in
    let number = g.S.Mine.number inside.seat in
    let slot = g.S.Mine.slot inside.seat in
    let live = c.in-Some.live in
    let n = c.args.count in
    let live_is : inside.live ≡ Some live = sym c.take-live.ensures.value ∙ c.in-Some.is in
    let stands : Stands flows count (g.S.Mine.begin number) slot.mine inside.now inside.out live = subst (λ (o : Option Live). StandsIn flows count (g.S.Mine.begin number) slot.mine inside.now inside.out o) live_is c.self.invariant in
    let view_is : view number slot (Some live) inside.now inside.out inside.owner inside.round ≡ c.args.self.now =
    ap (λ (o : Option Live). view number slot o inside.now inside.out inside.owner inside.round) (sym live_is) ∙ c.self.view_is in
    let few : n ≤ length live.steps.items =
    let asked = c.requires.few in
    let same = ap (λ (v : CellView). length v.entries) view_is in
    let long = length-map live.steps.items (λ (s : Step). entry_of s.entry) in
    omega (arith, asked, same, long) in
    let number_is : g.S.Mine.number c.replace-stub.new.dest ≡ number = ap g.S.Mine.number c.replace-stub.ensures.after ∙ c.requires.number ∙ ap (λ (v : CellView). v.number) (sym view_is) in
    let mine_is : (g.S.Mine.slot c.replace-stub.new.dest).mine ≡ slot.mine ++ take n (entries_in live.steps.items) =
    ap (λ (s : _). (g.S.Mine.slot s).mine) c.replace-stub.ensures.after ∙ c.requires.mine ∙ ap (λ (v : CellView). v.slot.mine ++ take n v.entries) (sym view_is) in
    move_seat flows count g.S.Mine.begin number (g.S.Mine.number c.replace-stub.new.dest) (slot.mine ++ take n (entries_in live.steps.items)) (g.S.Mine.slot c.replace-stub.new.dest).mine inside.now 0 c.put.new.place c.in-Ok.next number_is mine_is c.put.ensures
    (settles flows count (g.S.Mine.begin number) slot.mine inside.now inside.out n live c.in-Ok.next stands few c.in-Ok.ensures.base c.in-Ok.ensures.steps c.in-Ok.ensures.incarnation c.in-Ok.ensures.waits c.in-Ok.ensures.anew)

pub returns-in-Ok-clause-settled : goal.returns-in-Ok-clause-settled
returns-in-Ok-clause-settled g c =
    let inside = c.self.inside in
    let number = g.S.Mine.number inside.seat in
    let slot = g.S.Mine.slot inside.seat in
    let live = c.in-Some.live in
    let live_is : inside.live ≡ Some live = sym c.take-live.ensures.value ∙ c.in-Some.is in
    let view_is : view number slot (Some live) inside.now inside.out inside.owner inside.round ≡ c.args.self.now =
    ap (λ (o : Option Live). view number slot o inside.now inside.out inside.owner inside.round) (sym live_is) ∙ c.self.view_is in
    let number_is : g.S.Mine.number c.replace-stub.new.dest ≡ number = ap g.S.Mine.number c.replace-stub.ensures.after ∙ c.requires.number ∙ ap (λ (v : CellView). v.number) (sym view_is) in
    let place = c.put.new.place in
    subst (λ (its : Slot). HasSettled c.args.count (g.S.Mine.slot c.args.seat) c.args.self.now (view (g.S.Mine.number c.replace-stub.new.dest) its place inside.now 0 inside.owner inside.round)) (sym (ap g.S.Mine.slot c.replace-stub.ensures.after))
    (settled_view number (g.S.Mine.number c.replace-stub.new.dest) slot (g.S.Mine.slot c.args.seat) inside.now inside.out inside.owner inside.round c.args.count live c.in-Ok.next place c.args.self.now view_is number_is c.put.ensures c.in-Ok.ensures.steps c.in-Ok.ensures.incarnation c.in-Ok.ensures.waits c.in-Ok.ensures.given)

pub settle_and_send-requires-clause-after : goal.settle_and_send-requires-clause-after
settle_and_send-requires-clause-after g c =
    let flows = g.S.Mine.flows in
    let count = g.S.Mine.count in
    let inside = c.self.inside in
    let number = g.S.Mine.number inside.seat in
    let slot = g.S.Mine.slot inside.seat in
    let live = c.in-Some.live in
    let live_is : inside.live ≡ Some live = sym c.take-live.ensures.value ∙ c.in-Some.is in
    let stands : Stands flows count (g.S.Mine.begin number) slot.mine inside.now inside.out live = subst (λ (o : Option Live). StandsIn flows count (g.S.Mine.begin number) slot.mine inside.now inside.out o) live_is c.self.invariant in
    let view_is : view number slot (Some live) inside.now inside.out inside.owner inside.round ≡ c.args.self.now =
    ap (λ (o : Option Live). view number slot o inside.now inside.out inside.owner inside.round) (sym live_is) ∙ c.self.view_is in
    front_sound flows count g.S.Mine.begin number slot inside.now inside.out inside.owner inside.round live stands c.args.self.now view_is c.args.count

pub returns-in-Ok-clause-sends : goal.returns-in-Ok-clause-sends
returns-in-Ok-clause-sends g c =
    let flows = g.S.Mine.flows in
    let count = g.S.Mine.count in
    let inside = c.self.inside in
    let number = g.S.Mine.number inside.seat in
    let slot = g.S.Mine.slot inside.seat in
    let live = c.in-Some.live in
    let live_is : inside.live ≡ Some live = sym c.take-live.ensures.value ∙ c.in-Some.is in
    let stands : Stands flows count (g.S.Mine.begin number) slot.mine inside.now inside.out live = subst (λ (o : Option Live). StandsIn flows count (g.S.Mine.begin number) slot.mine inside.now inside.out o) live_is c.self.invariant in
    let view_is : view number slot (Some live) inside.now inside.out inside.owner inside.round ≡ c.args.self.now =
    ap (λ (o : Option Live). view number slot o inside.now inside.out inside.owner inside.round) (sym live_is) ∙ c.self.view_is in
    let mine_is : (g.S.Mine.slot c.replace-stub.new.dest).mine ≡ c.args.self.now.slot.mine ++ take c.args.count c.args.self.now.entries = ap (λ (s : _). (g.S.Mine.slot s).mine) c.replace-stub.ensures.after ∙ c.requires.mine in
    settled_sends flows count g.S.Mine.begin number slot inside.now inside.out inside.owner inside.round live stands c.args.self.now view_is
    c.args.mode c.args.count c.in-Ok.next.base c.in-Ok.packets.items (view (g.S.Mine.number c.replace-stub.new.dest) (g.S.Mine.slot c.replace-stub.new.dest) c.put.new.place inside.now 0 inside.owner inside.round) mine_is c.in-Ok.ensures.base c.in-Ok.ensures.sends
