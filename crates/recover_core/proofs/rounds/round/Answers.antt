use Rattle.std.proofs.Common.{◌∙◌, ◌≤◌, length, Ok, Err, arith}
use Rattle.part_steps.specs.States.{parts_in}
use Rattle.recover_core.proofs.Rounded.{round_on, round_over, less_on, reads_over, turns_over}
use Rattle.recover_core.proofs.PlacedAnyway.{keeps_over}
use Rattle.recover_core.proofs.rounds.round.Goals as goal

pub returns-in-Err-clause-rounds : goal.returns-in-Err-clause-rounds
returns-in-Err-clause-rounds g c tells logs all whole placed =
    let inv = c.places.invariant in
    let old = g.V.Site.history c.args.site.now in
    let mid = g.V.Site.history c.places.site in
    let before = c.turn.ensures.tells tells in
    let so_far = inv.goes before logs all whole placed in
    turns_over (g.R.Reactions.flows c.args.reactions.now) mid old c.places.place c.args.states.now.items c.places.states.items c.turn.new.states.items c.places.courses.items c.turn.new.courses.items (Err c.in-Err.error) logs inv.unchanged inv.many
    (inv.reads before logs all) whole so_far.placed (c.in-Err.ensures.turns tells)

pub places-preserved : goal.places-preserved
places-preserved g c =
    let inv = c.places.invariant in
    let flows = g.R.Reactions.flows c.args.reactions.now in
    let old = g.V.Site.history c.args.site.now in
    let mid = g.V.Site.history c.places.site in
    let first = c.args.states.now.items in
    let now = c.places.states.items in
    let new = c.turn.new.states.items in
    let was = c.places.courses.items in
    let courses = c.turn.new.courses.items in
    let gone = c.in-Ok.gone in
    record {
      ready = c.in-Ok.ensures.ready;
      many = c.in-Ok.ensures.many ∙ inv.many;
      less = less_on c.args.courses.now.items was courses c.places.moved gone inv.less c.in-Ok.ensures.less;
      told = λ tells. inv.told (c.turn.ensures.tells tells);
      unchanged = c.turn.ensures.unchanged ∙ inv.unchanged;
      reads = λ tells logs all. reads_over mid old logs was courses inv.unchanged (inv.reads (c.turn.ensures.tells tells) logs all) (c.in-Ok.ensures.reads tells);
      keeps = keeps_over flows (length now) (length first) (g.V.Site.tells c.args.site.now) (g.V.Site.tells c.places.site) (g.V.Site.tells c.turn.new.site) mid old (parts_in first) (parts_in now) (parts_in new) c.args.courses.now.items was courses inv.many inv.unchanged inv.keeps c.in-Ok.ensures.keeps;
      goes = λ tells logs all whole placed.
          let before = c.turn.ensures.tells tells in
          let so_far = inv.goes before logs all whole placed in
          let turned = turns_over flows mid old c.places.place first now new was courses (Ok gone) logs inv.unchanged inv.many (inv.reads before logs all) whole so_far.placed (c.in-Ok.ensures.turns tells) in
          round_on flows (length first) old c.places.place (parts_in now) (parts_in new) was courses c.places.moved gone so_far turned;
      later = let before = inv.later in let now = c.turn.ensures.later in omega (arith, before, now);
      say_faults = c.turn.ensures.say_faults ∙ inv.say_faults;
    }

pub returns-clause-rounds : goal.returns-clause-rounds
returns-clause-rounds g c tells logs all whole placed =
    let inv = c.places.invariant in
    let so_far = inv.goes tells logs all whole placed in
    let ready = inv.ready.many in
    let many = inv.many in
    let first = c.requires.ready.many in
    let over = c.places-test.false in
    let past : length c.places.courses.items ≤ c.places.place = omega (arith, ready, many, first, over) in
    round_over (g.R.Reactions.flows c.args.reactions.now) (length c.args.states.now.items) (g.V.Site.history c.args.site.now) c.places.place (parts_in c.places.states.items) c.places.courses.items c.places.moved past so_far
