use Rattle.std.proofs.Common.{◌≡◌, ◌∙◌, Option, Some, sym, ap, subst}
use Rattle.flow_syntax.specs.Syntax.{Flows}
use Rattle.part_steps.specs.States.{state_of}
use Rattle.part_steps.specs.declared.state.PartState.{PartState}
use Rattle.cell_steps.specs.Ahead.{Turns}
use Rattle.spec_cell.specs.Turns.{IsHeld}
use Rattle.spec_cell.specs.Views.{Stands, StandsIn}
use Rattle.cell_steps.specs.declared.live.Live.{Live}
use Rattle.spec_cell.specs.declared.cell.CellTurn.TheVariants.{Turned as ATurn, Idle as AnIdle, Spent as ASpent}
use Rattle.cell_steps.specs.declared.turning.Turned.{Turned}
use Rattle.cell_steps.specs.declared.turning.Turned.TheVariants as turns
use Rattle.spec_cell.proofs.CellFacts.{view, may_turn, made, made_stands, idle, idle_stands, spent, spent_stands, as_turn}
use Rattle.spec_cell.proofs.cell.Cell.turn.Goals as goal

pub turn-requires-clause-may : goal.turn-requires-clause-may
turn-requires-clause-may g c =
    let inside = c.self.inside in
    let number = g.S.Mine.number inside.seat in
    let slot = g.S.Mine.slot inside.seat in
    let live = c.in-Some.live in
    let live_is : inside.live ≡ Some live = sym c.take.ensures.value ∙ c.in-Some.is in
    let stands : Stands g.S.Mine.flows g.S.Mine.count (g.S.Mine.begin number) slot.mine inside.now inside.out live =
    subst (λ (o : Option Live). StandsIn g.S.Mine.flows g.S.Mine.count (g.S.Mine.begin number) slot.mine inside.now inside.out o) live_is c.self.invariant in
    may_turn g.S.Mine.flows g.S.Mine.count (g.S.Mine.begin number) number slot inside.now inside.out inside.owner inside.round live stands

pub invariant_of-self-in-Made : goal.invariant_of-self-in-Made
invariant_of-self-in-Made g c =
    let inside = c.self.inside in
    let number = g.S.Mine.number inside.seat in
    let slot = g.S.Mine.slot inside.seat in
    let live = c.in-Some.live in
    let live_is : inside.live ≡ Some live = sym c.take.ensures.value ∙ c.in-Some.is in
    let stands : Stands g.S.Mine.flows g.S.Mine.count (g.S.Mine.begin number) slot.mine inside.now inside.out live =
    subst (λ (o : Option Live). StandsIn g.S.Mine.flows g.S.Mine.count (g.S.Mine.begin number) slot.mine inside.now inside.out o) live_is c.self.invariant in
    let has = subst (λ (f : Flows). Turns f c.args.mode inside.now c.args.limit inside.round live (turns.Made c.in-Made.made c.in-Made.packets)) c.requires.flows
    (subst (λ (t : Turned). Turns (g.R.Reactions.flows c.args.reactions.now) c.args.mode inside.now c.args.limit inside.round live t) c.in-Made.is c.in_ok-turned.ensures) in
    subst (λ (o : Option Live). StandsIn g.S.Mine.flows g.S.Mine.count (g.S.Mine.begin number) slot.mine inside.now inside.out o) (sym c.put-in-Made.ensures) (made_stands g.S.Mine.flows g.S.Mine.count (g.S.Mine.begin number) number slot inside.now inside.out inside.owner inside.round live stands c.args.mode c.args.limit c.in-Made.made c.in-Made.packets.items has)

pub invariant_of-self-in-Idle : goal.invariant_of-self-in-Idle
invariant_of-self-in-Idle g c =
    let inside = c.self.inside in
    let number = g.S.Mine.number inside.seat in
    let slot = g.S.Mine.slot inside.seat in
    let live = c.in-Some.live in
    let live_is : inside.live ≡ Some live = sym c.take.ensures.value ∙ c.in-Some.is in
    let stands : Stands g.S.Mine.flows g.S.Mine.count (g.S.Mine.begin number) slot.mine inside.now inside.out live =
    subst (λ (o : Option Live). StandsIn g.S.Mine.flows g.S.Mine.count (g.S.Mine.begin number) slot.mine inside.now inside.out o) live_is c.self.invariant in
    let has = subst (λ (f : Flows). Turns f c.args.mode inside.now c.args.limit inside.round live (turns.Idle c.in-Idle.same)) c.requires.flows
    (subst (λ (t : Turned). Turns (g.R.Reactions.flows c.args.reactions.now) c.args.mode inside.now c.args.limit inside.round live t) c.in-Idle.is c.in_ok-turned.ensures) in
    subst (λ (o : Option Live). StandsIn g.S.Mine.flows g.S.Mine.count (g.S.Mine.begin number) slot.mine inside.now inside.out o) (sym c.put-in-Idle.ensures) (idle_stands g.S.Mine.flows g.S.Mine.count (g.S.Mine.begin number) number slot inside.now inside.out inside.owner inside.round live stands c.in-Idle.same has)

pub invariant_of-self-in-Spent : goal.invariant_of-self-in-Spent
invariant_of-self-in-Spent g c =
    let inside = c.self.inside in
    let number = g.S.Mine.number inside.seat in
    let slot = g.S.Mine.slot inside.seat in
    let live = c.in-Some.live in
    let live_is : inside.live ≡ Some live = sym c.take.ensures.value ∙ c.in-Some.is in
    let stands : Stands g.S.Mine.flows g.S.Mine.count (g.S.Mine.begin number) slot.mine inside.now inside.out live =
    subst (λ (o : Option Live). StandsIn g.S.Mine.flows g.S.Mine.count (g.S.Mine.begin number) slot.mine inside.now inside.out o) live_is c.self.invariant in
    let has = subst (λ (f : Flows). Turns f c.args.mode inside.now c.args.limit inside.round live (turns.Spent c.in-Spent.same c.in-Spent.number)) c.requires.flows
    (subst (λ (t : Turned). Turns (g.R.Reactions.flows c.args.reactions.now) c.args.mode inside.now c.args.limit inside.round live t) c.in-Spent.is c.in_ok-turned.ensures) in
    subst (λ (o : Option Live). StandsIn g.S.Mine.flows g.S.Mine.count (g.S.Mine.begin number) slot.mine inside.now inside.out o) (sym c.put-in-Spent.ensures) (spent_stands g.S.Mine.flows g.S.Mine.count (g.S.Mine.begin number) number slot inside.now inside.out inside.owner inside.round live stands c.in-Spent.same c.in-Spent.number has)

pub returns-in-Made-clause-turns : goal.returns-in-Made-clause-turns
returns-in-Made-clause-turns g c =
    let inside = c.self.inside in
    let number = g.S.Mine.number inside.seat in
    let slot = g.S.Mine.slot inside.seat in
    let live = c.in-Some.live in
    let live_is : inside.live ≡ Some live = sym c.take.ensures.value ∙ c.in-Some.is in
    let stands : Stands g.S.Mine.flows g.S.Mine.count (g.S.Mine.begin number) slot.mine inside.now inside.out live =
    subst (λ (o : Option Live). StandsIn g.S.Mine.flows g.S.Mine.count (g.S.Mine.begin number) slot.mine inside.now inside.out o) live_is c.self.invariant in
    let has = subst (λ (f : Flows). Turns f c.args.mode inside.now c.args.limit inside.round live (turns.Made c.in-Made.made c.in-Made.packets)) c.requires.flows
    (subst (λ (t : Turned). Turns (g.R.Reactions.flows c.args.reactions.now) c.args.mode inside.now c.args.limit inside.round live t) c.in-Made.is c.in_ok-turned.ensures) in
    let view_is : view number slot (Some live) inside.now inside.out inside.owner inside.round ≡ c.args.self.now =
    ap (λ (o : Option Live). view number slot o inside.now inside.out inside.owner inside.round) (sym live_is) ∙ c.self.view_is in
    let free : IsHeld c.args.mode (view number slot (Some live) inside.now inside.out inside.owner inside.round).entries → ⊥ = c.is_held.ensures.free c.if-is_held.false in
    as_turn g.S.Mine.flows g.S.Mine.count g.S.Mine.begin c.args.mode c.args.limit number slot inside.now inside.out inside.owner inside.round c.next-self-inside.result live c.in-Made.made c.put-in-Made.new.place c.args.self.now (ATurn c.position-position.result c.in-Made.packets)
    view_is c.put-in-Made.ensures c.next-self-inside.ensures (free, made g.S.Mine.flows g.S.Mine.count (g.S.Mine.begin number) number slot inside.now inside.out inside.owner inside.round live stands c.args.mode c.args.limit c.in-Made.made c.in-Made.packets.items c.position-position.result (c.position-position.ensures ∙ ap (λ (s : PartState). (state_of s).position) c.ahead.ensures) has)

pub returns-in-Idle-clause-turns : goal.returns-in-Idle-clause-turns
returns-in-Idle-clause-turns g c =
    let inside = c.self.inside in
    let number = g.S.Mine.number inside.seat in
    let slot = g.S.Mine.slot inside.seat in
    let live = c.in-Some.live in
    let live_is : inside.live ≡ Some live = sym c.take.ensures.value ∙ c.in-Some.is in
    let stands : Stands g.S.Mine.flows g.S.Mine.count (g.S.Mine.begin number) slot.mine inside.now inside.out live =
    subst (λ (o : Option Live). StandsIn g.S.Mine.flows g.S.Mine.count (g.S.Mine.begin number) slot.mine inside.now inside.out o) live_is c.self.invariant in
    let has = subst (λ (f : Flows). Turns f c.args.mode inside.now c.args.limit inside.round live (turns.Idle c.in-Idle.same)) c.requires.flows
    (subst (λ (t : Turned). Turns (g.R.Reactions.flows c.args.reactions.now) c.args.mode inside.now c.args.limit inside.round live t) c.in-Idle.is c.in_ok-turned.ensures) in
    let view_is : view number slot (Some live) inside.now inside.out inside.owner inside.round ≡ c.args.self.now =
    ap (λ (o : Option Live). view number slot o inside.now inside.out inside.owner inside.round) (sym live_is) ∙ c.self.view_is in
    let free : IsHeld c.args.mode (view number slot (Some live) inside.now inside.out inside.owner inside.round).entries → ⊥ = c.is_held.ensures.free c.if-is_held.false in
    as_turn g.S.Mine.flows g.S.Mine.count g.S.Mine.begin c.args.mode c.args.limit number slot inside.now inside.out inside.owner inside.round c.next-self-inside.result live c.in-Idle.same c.put-in-Idle.new.place c.args.self.now (AnIdle)
    view_is c.put-in-Idle.ensures c.next-self-inside.ensures (free, idle g.S.Mine.flows g.S.Mine.count (g.S.Mine.begin number) number slot inside.now inside.out inside.owner inside.round live stands c.in-Idle.same has)

pub returns-in-Spent-clause-turns : goal.returns-in-Spent-clause-turns
returns-in-Spent-clause-turns g c =
    let inside = c.self.inside in
    let number = g.S.Mine.number inside.seat in
    let slot = g.S.Mine.slot inside.seat in
    let live = c.in-Some.live in
    let live_is : inside.live ≡ Some live = sym c.take.ensures.value ∙ c.in-Some.is in
    let stands : Stands g.S.Mine.flows g.S.Mine.count (g.S.Mine.begin number) slot.mine inside.now inside.out live =
    subst (λ (o : Option Live). StandsIn g.S.Mine.flows g.S.Mine.count (g.S.Mine.begin number) slot.mine inside.now inside.out o) live_is c.self.invariant in
    let has = subst (λ (f : Flows). Turns f c.args.mode inside.now c.args.limit inside.round live (turns.Spent c.in-Spent.same c.in-Spent.number)) c.requires.flows
    (subst (λ (t : Turned). Turns (g.R.Reactions.flows c.args.reactions.now) c.args.mode inside.now c.args.limit inside.round live t) c.in-Spent.is c.in_ok-turned.ensures) in
    let view_is : view number slot (Some live) inside.now inside.out inside.owner inside.round ≡ c.args.self.now =
    ap (λ (o : Option Live). view number slot o inside.now inside.out inside.owner inside.round) (sym live_is) ∙ c.self.view_is in
    let free : IsHeld c.args.mode (view number slot (Some live) inside.now inside.out inside.owner inside.round).entries → ⊥ = c.is_held.ensures.free c.if-is_held.false in
    as_turn g.S.Mine.flows g.S.Mine.count g.S.Mine.begin c.args.mode c.args.limit number slot inside.now inside.out inside.owner inside.round c.next-self-inside.result live c.in-Spent.same c.put-in-Spent.new.place c.args.self.now (ASpent c.in-Spent.number)
    view_is c.put-in-Spent.ensures c.next-self-inside.ensures (free, spent g.S.Mine.flows g.S.Mine.count (g.S.Mine.begin number) number slot inside.now inside.out inside.owner inside.round live stands c.in-Spent.same c.in-Spent.number has)
