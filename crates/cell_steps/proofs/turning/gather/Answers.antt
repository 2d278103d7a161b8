use Rattle.std.proofs.Common.{◌≡◌, ◌∙◌, true, [], ℕ, subst, arith}
use Rattle.cell_waits.specs.Waits.{waits_of}
use Rattle.part_steps.specs.Enabled.{NoneEnabled, FiresFirst, stamp_at}
use Rattle.part_steps.specs.States.{state_of}
use Rattle.cell_steps.specs.Possible.{is_own}
use Rattle.cell_steps.proofs.Filled.{looks_both, looks_grow, looks_leave}
use Rattle.cell_steps.proofs.Sides.{begins_on}
use Rattle.cell_steps.proofs.turning.gather.Goals as goal

pub put_waits-requires-clause-way : goal.put_waits-requires-clause-way
put_waits-requires-clause-way g c = c.in_ok-second.ensures.on.on.way

pub fill-requires : goal.fill-requires
fill-requires g c = record { way = (c.in_ok-third.ensures.on c.args.now).on.way }

pub returns-clause-on : goal.returns-clause-on
returns-clause-on g c =
    let flows = g.R.Reactions.flows c.args.reactions.now in
    let now = c.args.now in
    let w0 = waits_of c.args.waits.now in
    let w1 = waits_of c.fill_first.new.waits in
    let w2 = waits_of c.put_waits.new.waits in
    let two = looks_both flows now c.args.begun c.in_ok-second.second c.in_ok-third.third w0 w1 w2 c.in_ok-second.ensures.on (c.in_ok-third.ensures.on now) in
    looks_both flows now c.args.begun c.in_ok-third.third c.in_ok-fourth.fourth w0 w2 w2 two (c.in_ok-fourth.ensures.on w2)

pub returns-clause-gone : goal.returns-clause-gone
returns-clause-gone g c = λ low.
    let flows = g.R.Reactions.flows c.args.reactions.now in
    let grow = looks_grow flows c.args.now c.in_ok-third.third c.in_ok-fourth.fourth [] [] (c.in_ok-fourth.ensures.on []) in
    c.in_ok-third.ensures.less (omega (arith, low, grow))

pub returns-clause-none : goal.returns-clause-none
returns-clause-none g c = λ low.
    let p = state_of c.in_ok-fourth.fourth.state in
    let second = c.in_ok-second.ensures.on.on.count in
    let third = (c.in_ok-third.ensures.on c.args.now).on.count in
    subst (λ (n : ℕ). NoneEnabled (g.R.Reactions.flows c.args.reactions.now) n p (stamp_at p c.args.now)) (third ∙ second) (c.in_ok-fourth.ensures.less low)

pub returns-clause-first : goal.returns-clause-first
returns-clause-first g c = λ first_is have.
    let flows = g.R.Reactions.flows c.args.reactions.now in
    let fewer = c.in_ok-second.ensures.first first_is have in
    let rest = looks_leave flows c.args.now c.in_ok-second.second c.in_ok-third.third (waits_of c.fill_first.new.waits) (waits_of c.put_waits.new.waits) (c.in_ok-third.ensures.on c.args.now) in
    omega (arith, fewer, rest)

pub returns-clause-own : goal.returns-clause-own
returns-clause-own g c =
    let flows = g.R.Reactions.flows c.args.reactions.now in
    let now = c.args.now in
    let begun = state_of c.args.begun.state in
    let w1 = waits_of c.fill_first.new.waits in
    let w2 = waits_of c.put_waits.new.waits in
    let first = c.in_ok-second.ensures.own in
    let later = looks_both flows now c.in_ok-second.second c.in_ok-third.third c.in_ok-fourth.fourth w1 w2 w2 (c.in_ok-third.ensures.on now) (c.in_ok-fourth.ensures.on w2) in
    record {
      own = λ round_is possible. begins_on (λ item. is_own item ≡ true) flows now c.in_ok-second.second c.in_ok-fourth.fourth w1 w2 later (first.own round_is possible);
      timer = λ round_is due. begins_on (FiresFirst begun (stamp_at begun now)) flows now c.in_ok-second.second c.in_ok-fourth.fourth w1 w2 later (first.timer round_is due);
    }
