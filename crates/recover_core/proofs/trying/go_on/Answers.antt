use Rattle.std.proofs.Common.{◌≡◌, ◌∙◌, ◌<◌, length, Err, refl, ap, arith}
use Rattle.site_model.proofs.Faults.{risen_later}
use Rattle.commit_log.specs.declared.reader.FrameError.TheVariants as unread
use Rattle.part_steps.specs.States.{parts_in}
use Rattle.recover_core.specs.Courses.{to_go}
use Rattle.recover_core.proofs.Going.{none_yet, stays_read}
use Rattle.recover_core.proofs.WentOn.{loop_read, fitting_yet, fitting_more, fitting_end, read_broken, try_broken, entry_more, none_more}
use Rattle.recover_core.proofs.PlacedAnyway.{none_gone, more_gone}
use Rattle.recover_core.proofs.trying.go_on.Goals as goal

pub entries-init : goal.entries-init
entries-init g c = record {
  goes = fitting_yet c.args.place c.args.states.now.items c.args.course c.requires.all c.requires.fits;
  unrefused = none_gone (g.R.Reactions.flows c.args.reactions.now) c.args.place (g.V.Site.tells c.args.site.now) (g.V.Site.history c.args.site.now) c.args.states.now.items c.args.course c.args.course refl;
  told = λ tells. tells;
  unchanged = refl;
  read = λ tells done is. stays_read (g.V.Site.history c.args.site.now) done c.args.course is;
  made = λ tells done is whole chain still.
      none_yet (g.R.Reactions.flows c.args.reactions.now) (length c.args.states.now.items) (g.V.Site.history c.args.site.now) c.args.place done (parts_in c.args.states.now.items) c.args.course is chain still;
  later = omega arith;
  say_faults = refl;
}

pub entries-smaller : goal.entries-smaller
entries-smaller g c =
    let goes = c.in-Ok.ensures.fits (parts_in c.entries.states.items c.args.place) c.entries.invariant.goes.fits in
    let less = goes.less in
    let shorter = c.in-Ok-try_next.ensures.fits.less c.if-not-placed.false in
    let all : to_go c.in-Ok-try_next.tried.0.comes < to_go c.entries.course.comes = omega (arith, less, shorter) in
    all

pub entries-preserved : goal.entries-preserved
entries-preserved g c =
    let inv = c.entries.invariant in
    let flows = g.R.Reactions.flows c.args.reactions.now in
    let steps = g.V.Site.history c.args.site.now in
    let first = c.args.states.now.items in
    let now = c.entries.states.items in
    let new = c.try_next.new.states.items in
    let tried = c.in-Ok-try_next.tried in
    let goes = c.in-Ok.ensures.fits (parts_in now c.args.place) inv.goes.fits in
    record {
      goes = fitting_more c.args.place first now new c.args.course c.entries.course c.in-Ok.read c.entries.moved tried inv.goes goes c.in-Ok-try_next.ensures.fits c.if-not-placed.false;
      unrefused = more_gone flows c.args.place (g.V.Site.tells c.entries.site) (g.V.Site.tells c.read_on.new.site) (g.V.Site.tells c.try_next.new.site) steps (g.V.Site.history c.entries.site) (g.V.Site.history c.read_on.new.site) first now new c.args.course c.entries.course c.in-Ok.read tried.0
          c.read_on.ensures.tells c.try_next.ensures.tells inv.unchanged (c.read_on.ensures.unchanged ∙ inv.unchanged) inv.goes.many inv.unrefused goes c.in-Ok.ensures.reads c.in-Ok-try_next.ensures.unrefused;
      told = λ tells. inv.told (c.read_on.ensures.tells (c.try_next.ensures.tells tells));
      unchanged = c.try_next.ensures.unchanged ∙ c.read_on.ensures.unchanged ∙ inv.unchanged;
      read = λ tells done is.
          loop_read steps (g.V.Site.history c.entries.site) (g.V.Site.history c.read_on.new.site) done c.entries.course c.in-Ok.read tried.0 inv.unchanged (c.read_on.ensures.unchanged ∙ inv.unchanged)
          (inv.read (c.read_on.ensures.tells (c.try_next.ensures.tells tells)) done is) (c.in-Ok.ensures.reads (c.try_next.ensures.tells tells)) (c.in-Ok-try_next.ensures.reads tells);
      made = λ tells done is whole chain still.
          let before = c.read_on.ensures.tells (c.try_next.ensures.tells tells) in
          let so_far = inv.made before done is whole chain still in
          entry_more flows steps (g.V.Site.history c.entries.site) (g.V.Site.history c.read_on.new.site) c.args.place done first now new c.args.course c.entries.course c.in-Ok.read c.entries.moved inv.goes so_far inv.unchanged
          (c.in-Ok.ensures.reads (c.try_next.ensures.tells tells)) goes (c.in-Ok.ensures.still flows (length first) (parts_in now c.args.place) so_far.still) whole (c.read_on.ensures.unchanged ∙ inv.unchanged) tried c.if-not-placed.false
          (c.in-Ok-try_next.ensures.tries tells);
      later = let before = inv.later in let between = c.read_on.ensures.later in let after = c.try_next.ensures.later in omega (arith, before, between, after);
      say_faults = c.try_next.ensures.say_faults ∙ c.read_on.ensures.say_faults ∙ inv.say_faults;
    }

-- the entry can't be read

pub returns-in-Err-clause-tells : goal.returns-in-Err-clause-tells
returns-in-Err-clause-tells g c = λ tells. c.entries.invariant.told (c.read_on.ensures.tells tells)

pub returns-in-Err-clause-goes : goal.returns-in-Err-clause-goes
returns-in-Err-clause-goes g c tells done is whole chain still =
    let inv = c.entries.invariant in
    let so_far = inv.made (c.read_on.ensures.tells tells) done is whole chain still in
    read_broken (g.R.Reactions.flows c.args.reactions.now) (g.V.Site.history c.args.site.now) (g.V.Site.history c.entries.site) (g.V.Site.history c.read_on.new.site) c.args.place done c.args.states.now.items c.entries.states.items c.entries.states.items
    c.args.course c.entries.course c.entries.course c.entries.moved inv.goes so_far inv.unchanged c.in-Err.error (c.in-Err.ensures.reads tells)

pub returns-in-Err-clause-unchanged : goal.returns-in-Err-clause-unchanged
returns-in-Err-clause-unchanged g c = c.read_on.ensures.unchanged ∙ c.entries.invariant.unchanged

pub returns-in-Err-clause-fault : goal.returns-in-Err-clause-fault
returns-in-Err-clause-fault g c is =
    let fault : c.in-Err.error ≡ unread.SiteFault = cc is in
    risen_later _ _ _ c.entries.invariant.later c.read_on.ensures.later (c.in-Err.ensures.fault (ap (λ e. Err e) fault))

pub returns-in-Err-clause-later : goal.returns-in-Err-clause-later
returns-in-Err-clause-later g c = let before = c.entries.invariant.later in let now = c.read_on.ensures.later in omega (arith, before, now)

pub returns-in-Err-clause-say_faults : goal.returns-in-Err-clause-say_faults
returns-in-Err-clause-say_faults g c = c.read_on.ensures.say_faults ∙ c.entries.invariant.say_faults

-- or it can't be tried

pub returns-in-Err-try_next-clause-tells : goal.returns-in-Err-try_next-clause-tells
returns-in-Err-try_next-clause-tells g c = λ tells. c.entries.invariant.told (c.read_on.ensures.tells (c.try_next.ensures.tells tells))

pub returns-in-Err-try_next-clause-goes : goal.returns-in-Err-try_next-clause-goes
returns-in-Err-try_next-clause-goes g c tells done is whole chain still =
    let inv = c.entries.invariant in
    let flows = g.R.Reactions.flows c.args.reactions.now in
    let steps = g.V.Site.history c.args.site.now in
    let first = c.args.states.now.items in
    let now = c.entries.states.items in
    let new = c.try_next.new.states.items in
    let goes = c.in-Ok.ensures.fits (parts_in now c.args.place) inv.goes.fits in
    let so_far = inv.made (c.read_on.ensures.tells (c.try_next.ensures.tells tells)) done is whole chain still in
    try_broken flows steps (g.V.Site.history c.entries.site) (g.V.Site.history c.read_on.new.site) c.args.place done first now new c.args.course c.entries.course c.in-Ok.read c.entries.moved inv.goes so_far inv.unchanged
    (c.in-Ok.ensures.reads (c.try_next.ensures.tells tells)) goes (c.in-Ok.ensures.still flows (length first) (parts_in now c.args.place) so_far.still) whole (c.read_on.ensures.unchanged ∙ inv.unchanged) c.in-Err-try_next.error
    (c.in-Err-try_next.ensures.tries tells)

pub returns-in-Err-try_next-clause-unchanged : goal.returns-in-Err-try_next-clause-unchanged
returns-in-Err-try_next-clause-unchanged g c = c.try_next.ensures.unchanged ∙ c.read_on.ensures.unchanged ∙ c.entries.invariant.unchanged

pub returns-in-Err-try_next-clause-fault : goal.returns-in-Err-try_next-clause-fault
returns-in-Err-try_next-clause-fault g c is =
    let fault : c.in-Err-try_next.error ≡ unread.SiteFault = cc is in
    let before = c.entries.invariant.later in
    let between = c.read_on.ensures.later in
    risen_later _ _ _ (omega (arith, before, between)) c.try_next.ensures.later (c.in-Err-try_next.ensures.fault (ap (λ e. Err e) fault))

pub returns-in-Err-try_next-clause-later : goal.returns-in-Err-try_next-clause-later
returns-in-Err-try_next-clause-later g c = let before = c.entries.invariant.later in let between = c.read_on.ensures.later in let now = c.try_next.ensures.later in omega (arith, before, between, now)

pub returns-in-Err-try_next-clause-say_faults : goal.returns-in-Err-try_next-clause-say_faults
returns-in-Err-try_next-clause-say_faults g c = c.try_next.ensures.say_faults ∙ c.read_on.ensures.say_faults ∙ c.entries.invariant.say_faults

-- no entry can be placed

pub returns-then-not-placed-clause-tells : goal.returns-then-not-placed-clause-tells
returns-then-not-placed-clause-tells g c = λ tells. c.entries.invariant.told (c.read_on.ensures.tells (c.try_next.ensures.tells tells))

pub returns-then-not-placed-clause-fits : goal.returns-then-not-placed-clause-fits
returns-then-not-placed-clause-fits g c =
    let inv = c.entries.invariant in
    let now = c.entries.states.items in
    let goes = c.in-Ok.ensures.fits (parts_in now c.args.place) inv.goes.fits in
    fitting_end c.args.place c.args.states.now.items now c.try_next.new.states.items c.args.course c.entries.course c.in-Ok.read c.entries.moved c.in-Ok-try_next.tried inv.goes goes c.in-Ok-try_next.ensures.fits

pub returns-then-not-placed-clause-unrefused : goal.returns-then-not-placed-clause-unrefused
returns-then-not-placed-clause-unrefused g c =
    let inv = c.entries.invariant in
    let now = c.entries.states.items in
    let goes = c.in-Ok.ensures.fits (parts_in now c.args.place) inv.goes.fits in
    more_gone (g.R.Reactions.flows c.args.reactions.now) c.args.place (g.V.Site.tells c.entries.site) (g.V.Site.tells c.read_on.new.site) (g.V.Site.tells c.try_next.new.site) (g.V.Site.history c.args.site.now) (g.V.Site.history c.entries.site) (g.V.Site.history c.read_on.new.site)
    c.args.states.now.items now c.try_next.new.states.items c.args.course c.entries.course c.in-Ok.read c.in-Ok-try_next.tried.0 c.read_on.ensures.tells c.try_next.ensures.tells inv.unchanged (c.read_on.ensures.unchanged ∙ inv.unchanged) inv.goes.many inv.unrefused goes c.in-Ok.ensures.reads
    c.in-Ok-try_next.ensures.unrefused

pub returns-then-not-placed-clause-reads : goal.returns-then-not-placed-clause-reads
returns-then-not-placed-clause-reads g c tells done is =
    let inv = c.entries.invariant in
    loop_read (g.V.Site.history c.args.site.now) (g.V.Site.history c.entries.site) (g.V.Site.history c.read_on.new.site) done c.entries.course c.in-Ok.read c.in-Ok-try_next.tried.0 inv.unchanged (c.read_on.ensures.unchanged ∙ inv.unchanged)
    (inv.read (c.read_on.ensures.tells (c.try_next.ensures.tells tells)) done is) (c.in-Ok.ensures.reads (c.try_next.ensures.tells tells)) (c.in-Ok-try_next.ensures.reads tells)

pub returns-then-not-placed-clause-goes : goal.returns-then-not-placed-clause-goes
returns-then-not-placed-clause-goes g c tells done is whole chain still =
    let inv = c.entries.invariant in
    let flows = g.R.Reactions.flows c.args.reactions.now in
    let steps = g.V.Site.history c.args.site.now in
    let first = c.args.states.now.items in
    let now = c.entries.states.items in
    let new = c.try_next.new.states.items in
    let goes = c.in-Ok.ensures.fits (parts_in now c.args.place) inv.goes.fits in
    let so_far = inv.made (c.read_on.ensures.tells (c.try_next.ensures.tells tells)) done is whole chain still in
    none_more flows steps (g.V.Site.history c.entries.site) (g.V.Site.history c.read_on.new.site) c.args.place done first now new c.args.course c.entries.course c.in-Ok.read c.entries.moved inv.goes so_far inv.unchanged
    (c.in-Ok.ensures.reads (c.try_next.ensures.tells tells)) goes (c.in-Ok.ensures.still flows (length first) (parts_in now c.args.place) so_far.still) whole (c.read_on.ensures.unchanged ∙ inv.unchanged) c.in-Ok-try_next.tried c.if-not-placed.true
    (c.in-Ok-try_next.ensures.tries tells)

pub returns-then-not-placed-clause-unchanged : goal.returns-then-not-placed-clause-unchanged
returns-then-not-placed-clause-unchanged g c = c.try_next.ensures.unchanged ∙ c.read_on.ensures.unchanged ∙ c.entries.invariant.unchanged

pub returns-then-not-placed-clause-later : goal.returns-then-not-placed-clause-later
returns-then-not-placed-clause-later g c = let before = c.entries.invariant.later in let between = c.read_on.ensures.later in let now = c.try_next.ensures.later in omega (arith, before, between, now)

pub returns-then-not-placed-clause-say_faults : goal.returns-then-not-placed-clause-say_faults
returns-then-not-placed-clause-say_faults g c = c.try_next.ensures.say_faults ∙ c.read_on.ensures.say_faults ∙ c.entries.invariant.say_faults

-- what trying needs

pub try_next-requires-clause-all : goal.try_next-requires-clause-all
try_next-requires-clause-all g c = c.entries.invariant.goes.all

pub try_next-requires-clause-few : goal.try_next-requires-clause-few
try_next-requires-clause-few g c = let many = c.entries.invariant.goes.many in let few = c.requires.few in omega (arith, many, few)

pub try_next-requires-clause-place : goal.try_next-requires-clause-place
try_next-requires-clause-place g c = let many = c.entries.invariant.goes.many in let low = c.requires.place in omega (arith, many, low)

pub try_next-requires-clause-fits : goal.try_next-requires-clause-fits
try_next-requires-clause-fits g c = (c.in-Ok.ensures.fits (parts_in c.entries.states.items c.args.place) c.entries.invariant.goes.fits).fits

pub try_next-requires-clause-read : goal.try_next-requires-clause-read
try_next-requires-clause-read g c = (c.in-Ok.ensures.fits (parts_in c.entries.states.items c.args.place) c.entries.invariant.goes.fits).read
