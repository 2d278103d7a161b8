use Rattle.std.proofs.Common.{◌∙◌, ℕ, [], subst}
use Rattle.part_steps.specs.Enabled.{NoneEnabled, FiresFirst, stamp_at}
use Rattle.part_steps.specs.States.{state_of}
use Rattle.cell_steps.proofs.Filled.{looks_more}
use Rattle.cell_steps.proofs.Sides.{own_first, begins_on, fires_first}
use Rattle.cell_steps.proofs.turning.fill_own_first.Goals as goal

pub fire_due-requires : goal.fire_due-requires
fire_due-requires g c = record { way = (c.in_ok-first.ensures.on []).on.way }

pub fill-requires-2 : goal.fill-requires-2
fill-requires-2 g c = record { way = (c.in_ok-timed.ensures.on []).on.way }

pub returns-clause-on : goal.returns-clause-on
returns-clause-on g c =
    let flows = g.R.Reactions.flows c.args.reactions.now in
    looks_more flows c.args.now c.args.begun c.in_ok-timed.timed c.in_ok-filled-2.filled
    (looks_more flows c.args.now c.args.begun c.in_ok-first.first c.in_ok-timed.timed c.in_ok-first.ensures.on c.in_ok-timed.ensures.on) c.in_ok-filled-2.ensures.on

pub returns-then-not-timers-clause-own : goal.returns-then-not-timers-clause-own
returns-then-not-timers-clause-own g c =
    own_first (g.R.Reactions.flows c.args.reactions.now) c.args.now c.args.share c.args.begun c.in_ok-filled.filled c.requires.empty (c.in_ok-filled.ensures.on []) c.requires.some c.in_ok-filled.ensures.less

pub returns-clause-own : goal.returns-clause-own
returns-clause-own g c =
    let flows = g.R.Reactions.flows c.args.reactions.now in
    let now = c.args.now in
    let looks =
    looks_more flows now c.args.begun c.in_ok-timed.timed c.in_ok-filled-2.filled
    (looks_more flows now c.args.begun c.in_ok-first.first c.in_ok-timed.timed c.in_ok-first.ensures.on c.in_ok-timed.ensures.on) c.in_ok-filled-2.ensures.on in
    let p = state_of c.in_ok-filled-2.filled.state in
    own_first flows now c.args.share c.args.begun c.in_ok-filled-2.filled c.requires.empty (looks []) c.requires.some
    (λ low. subst (λ (n : ℕ). NoneEnabled flows n p (stamp_at p now)) ((c.in_ok-timed.ensures.on []).on.count ∙ (c.in_ok-first.ensures.on []).on.count) (c.in_ok-filled-2.ensures.less low))

pub returns-clause-timer : goal.returns-clause-timer
returns-clause-timer g c = λ is_first due.
    let flows = g.R.Reactions.flows c.args.reactions.now in
    let now = c.args.now in
    let p = state_of c.args.begun.state in
    begins_on (FiresFirst p (stamp_at p now)) flows now c.in_ok-first.first c.in_ok-filled-2.filled [] []
    (looks_more flows now c.in_ok-first.first c.in_ok-timed.timed c.in_ok-filled-2.filled c.in_ok-timed.ensures.on c.in_ok-filled-2.ensures.on [])
    (fires_first p (stamp_at p now) c.args.begun c.in_ok-first.first c.requires.empty (c.in_ok-first.ensures.first due))
