use Rattle.std.proofs.Common.{◌∙◌, length, Ok, Err, arith}
use Rattle.part_steps.specs.States.{parts_in}
use Rattle.recover_core.proofs.Rounded.{reads_over, rounds_over, all_placed}
use Rattle.recover_core.proofs.PlacedAnyway.{keeps_over}
use Rattle.recover_core.proofs.rounds.place_all.Goals as goal

pub returns-in-Err-clause-placed : goal.returns-in-Err-clause-placed
returns-in-Err-clause-placed g c tells logs all whole placed =
    let inv = c.rounds.invariant in
    let before = c.round.ensures.tells tells in
    rounds_over (g.R.Reactions.flows c.args.reactions.now) (g.V.Site.history c.rounds.site) (g.V.Site.history c.args.site.now) c.args.states.now.items c.rounds.states.items c.round.new.states.items c.rounds.courses.items c.round.new.courses.items
    (Err c.in-Err.error) logs inv.unchanged inv.many (inv.reads before logs all) whole (inv.goes before logs all whole placed) (c.in-Err.ensures.rounds tells)

pub returns-then-not-moved-clause-reads : goal.returns-then-not-moved-clause-reads
returns-then-not-moved-clause-reads g c tells logs all =
    let inv = c.rounds.invariant in
    reads_over (g.V.Site.history c.rounds.site) (g.V.Site.history c.args.site.now) logs c.rounds.courses.items c.round.new.courses.items inv.unchanged (inv.reads (c.round.ensures.tells tells) logs all) (c.in-Ok.ensures.reads tells)

pub returns-then-not-moved-clause-keeps : goal.returns-then-not-moved-clause-keeps
returns-then-not-moved-clause-keeps g c =
    let inv = c.rounds.invariant in
    let flows = g.R.Reactions.flows c.args.reactions.now in
    keeps_over flows (length c.rounds.states.items) (length c.args.states.now.items) (g.V.Site.tells c.args.site.now) (g.V.Site.tells c.rounds.site) (g.V.Site.tells c.round.new.site) (g.V.Site.history c.rounds.site) (g.V.Site.history c.args.site.now) (parts_in c.args.states.now.items) (parts_in c.rounds.states.items) (parts_in c.round.new.states.items) c.args.courses.now.items c.rounds.courses.items
    c.round.new.courses.items inv.many inv.unchanged inv.keeps c.in-Ok.ensures.keeps

pub returns-then-not-moved-clause-placed : goal.returns-then-not-moved-clause-placed
returns-then-not-moved-clause-placed g c tells logs all whole placed =
    let inv = c.rounds.invariant in
    let flows = g.R.Reactions.flows c.args.reactions.now in
    let old = g.V.Site.history c.args.site.now in
    let before = c.round.ensures.tells tells in
    let gone = rounds_over flows (g.V.Site.history c.rounds.site) old c.args.states.now.items c.rounds.states.items c.round.new.states.items c.rounds.courses.items c.round.new.courses.items (Ok c.in-Ok.moved) logs inv.unchanged inv.many
    (inv.reads before logs all) whole (inv.goes before logs all whole placed) (c.in-Ok.ensures.rounds tells) in
    all_placed flows (length c.args.states.now.items) old (parts_in c.round.new.states.items) c.round.new.courses.items c.in-Ok.moved c.if-not-moved.true gone

pub rounds-preserved : goal.rounds-preserved
rounds-preserved g c =
    let inv = c.rounds.invariant in
    let flows = g.R.Reactions.flows c.args.reactions.now in
    let old = g.V.Site.history c.args.site.now in
    let mid = g.V.Site.history c.rounds.site in
    record {
      ready = c.in-Ok.ensures.ready;
      many = c.in-Ok.ensures.many ∙ inv.many;
      told = λ tells. inv.told (c.round.ensures.tells tells);
      unchanged = c.round.ensures.unchanged ∙ inv.unchanged;
      reads = λ tells logs all. reads_over mid old logs c.rounds.courses.items c.round.new.courses.items inv.unchanged (inv.reads (c.round.ensures.tells tells) logs all) (c.in-Ok.ensures.reads tells);
      keeps = keeps_over flows (length c.rounds.states.items) (length c.args.states.now.items) (g.V.Site.tells c.args.site.now) (g.V.Site.tells c.rounds.site) (g.V.Site.tells c.round.new.site) (g.V.Site.history c.rounds.site) (g.V.Site.history c.args.site.now) (parts_in c.args.states.now.items) (parts_in c.rounds.states.items) (parts_in c.round.new.states.items) c.args.courses.now.items c.rounds.courses.items
          c.round.new.courses.items inv.many inv.unchanged inv.keeps c.in-Ok.ensures.keeps;
      goes = λ tells logs all whole placed.
          let before = c.round.ensures.tells tells in
          (rounds_over flows mid old c.args.states.now.items c.rounds.states.items c.round.new.states.items c.rounds.courses.items c.round.new.courses.items (Ok c.in-Ok.moved) logs inv.unchanged inv.many
          (inv.reads before logs all) whole (inv.goes before logs all whole placed) (c.in-Ok.ensures.rounds tells)).placed;
      later = let before = inv.later in let now = c.round.ensures.later in omega (arith, before, now);
      say_faults = c.round.ensures.say_faults ∙ inv.say_faults;
    }
