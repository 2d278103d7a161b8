use Rattle.std.proofs.Common.{◌≡◌, ◌∙◌, ◌<◌, ◌-◌, Ok, Err, refl, ap, arith}
use Rattle.site_model.proofs.Faults.{risen_later}
use Rattle.commit_log.specs.declared.reader.FrameError.TheVariants as unread
use Rattle.part_steps.specs.States.{state_of}
use Rattle.recover_core.proofs.StateRestored.{begins_with, fits_ahead, goes_on_with, goes_up, none_made, one_made, stops_as, unread_as, all_made, gives_over}
use Rattle.recover_core.proofs.restoring.restore.Goals as goal

pub entries-init : goal.entries-init
entries-init g c = record {
  goes = begins_with c.args.count c.args.partition c.new-state.result c.begin-reader.result c.args.log.header.base c.new-state.ensures.fresh c.new-state.ensures.partitions c.new-state.ensures.sound c.begin-reader.ensures.first c.requires.first;
  within = let none = ap (λ p. p.position) c.new-state.ensures.fresh in omega (arith, none);
  told = λ tells. tells;
  unchanged = refl;
  made = λ tells opened.
      none_made (g.R.Reactions.flows c.args.reactions.now) (g.V.Site.history c.args.site.now) c.args.log c.args.count c.args.partition c.new-state.result c.begin-reader.result c.new-state.ensures.fresh
      (c.begin-reader.ensures.begins (g.V.Site.history c.args.site.now) opened);
  later = omega arith;
  say_faults = refl;
}

pub returns-in-Err-clause-tells : goal.returns-in-Err-clause-tells
returns-in-Err-clause-tells g c = λ tells. c.entries.invariant.told (c.next.ensures.tells tells)

pub returns-in-Err-clause-restores : goal.returns-in-Err-clause-restores
returns-in-Err-clause-restores g c tells done made opened front =
    let inv = c.entries.invariant in
    let steps = g.V.Site.history c.args.site.now in
    let flows = g.R.Reactions.flows c.args.reactions.now in
    let so_far = inv.made (c.next.ensures.tells tells) opened in
    let gives = gives_over (g.V.Site.history c.entries.site) steps c.args.log so_far.entries c.entries.reader (Err c.in-Err.error) inv.unchanged opened.kept so_far.reads (c.in-Err.ensures.gives tells) in
    unread_as flows steps c.args.log c.args.count c.args.partition c.entries.state c.entries.reader so_far inv.goes.state_is.among c.in-Err.error made gives

pub returns-in-Err-clause-unchanged : goal.returns-in-Err-clause-unchanged
returns-in-Err-clause-unchanged g c = c.next.ensures.unchanged ∙ c.entries.invariant.unchanged

pub returns-in-Err-clause-fault : goal.returns-in-Err-clause-fault
returns-in-Err-clause-fault g c is =
    let fault : c.in-Err.error ≡ unread.SiteFault = cc is in
    risen_later _ _ _ c.entries.invariant.later c.next.ensures.later (c.in-Err.ensures.fault (ap (λ e. Err e) fault))

pub returns-in-Err-clause-later : goal.returns-in-Err-clause-later
returns-in-Err-clause-later g c = let before = c.entries.invariant.later in let now = c.next.ensures.later in omega (arith, before, now)

pub returns-in-Err-clause-say_faults : goal.returns-in-Err-clause-say_faults
returns-in-Err-clause-say_faults g c = c.next.ensures.say_faults ∙ c.entries.invariant.say_faults

pub restore_one-requires-clause-sound : goal.restore_one-requires-clause-sound
restore_one-requires-clause-sound g c = c.entries.invariant.goes.state_is.sound

pub restore_one-requires-clause-fits : goal.restore_one-requires-clause-fits
restore_one-requires-clause-fits g c = fits_ahead c.args.count c.args.partition c.entries.state c.entries.reader c.in-Ok.next c.entries.invariant.goes c.in-Ok.ensures.numbered

pub entries-smaller : goal.entries-smaller
entries-smaller g c =
    let up = goes_up (g.R.Reactions.flows c.args.reactions.now) c.entries.state c.in-Ok.next c.in-Ok-restore_one.made c.in-Ok-restore_one.behind c.in-Ok-restore_one.ensures.makes in
    let at = c.position.ensures in
    let before = c.entries-test.true in
    let less : c.args.position - (state_of c.in-Ok-restore_one.made).position < c.args.position - (state_of c.entries.state).position = omega (arith, up, at, before) in
    less

pub entries-preserved : goal.entries-preserved
entries-preserved g c =
    let inv = c.entries.invariant in
    let steps = g.V.Site.history c.args.site.now in
    let flows = g.R.Reactions.flows c.args.reactions.now in
    let new = c.in-Ok-restore_one.made in
    let behind = c.in-Ok-restore_one.behind in
    record {
      goes = goes_on_with flows c.args.count c.args.partition c.entries.state c.entries.reader c.in-Ok.next new behind inv.goes c.in-Ok.ensures.numbered c.in-Ok-restore_one.ensures.makes;
      within =
          let up = goes_up flows c.entries.state c.in-Ok.next new behind c.in-Ok-restore_one.ensures.makes in
          let at = c.position.ensures in
          let before = c.entries-test.true in
          omega (arith, up, at, before);
      told = λ tells. inv.told (c.next.ensures.tells tells);
      unchanged = c.next.ensures.unchanged ∙ inv.unchanged;
      made = λ tells opened.
          let so_far = inv.made (c.next.ensures.tells tells) opened in
          let gives = gives_over (g.V.Site.history c.entries.site) steps c.args.log so_far.entries c.entries.reader (Ok c.in-Ok.next) inv.unchanged opened.kept so_far.reads (c.in-Ok.ensures.gives tells) in
          one_made flows steps c.args.log c.args.count c.args.partition c.entries.state c.entries.reader so_far inv.goes.state_is.among c.in-Ok.next new behind gives c.in-Ok-restore_one.ensures.makes;
      later = let before = inv.later in let now = c.next.ensures.later in omega (arith, before, now);
      say_faults = c.next.ensures.say_faults ∙ inv.say_faults;
    }

pub returns-in-Err-restore_one-clause-tells : goal.returns-in-Err-restore_one-clause-tells
returns-in-Err-restore_one-clause-tells g c = λ tells. c.entries.invariant.told (c.next.ensures.tells tells)

pub returns-in-Err-restore_one-clause-restores : goal.returns-in-Err-restore_one-clause-restores
returns-in-Err-restore_one-clause-restores g c tells done made opened front =
    let inv = c.entries.invariant in
    let steps = g.V.Site.history c.args.site.now in
    let flows = g.R.Reactions.flows c.args.reactions.now in
    let so_far = inv.made (c.next.ensures.tells tells) opened in
    let gives = gives_over (g.V.Site.history c.entries.site) steps c.args.log so_far.entries c.entries.reader (Ok c.in-Ok.next) inv.unchanged opened.kept so_far.reads (c.in-Ok.ensures.gives tells) in
    let before : (state_of c.entries.state).position < c.args.position = let at = c.position.ensures in let test = c.entries-test.true in omega (arith, at, test) in
    stops_as flows steps c.args.log c.args.count c.args.partition c.entries.state c.entries.reader so_far inv.goes.state_is.among c.args.position done made front c.in-Ok.next c.in-Err-restore_one.error before gives c.in-Err-restore_one.ensures.stops

pub returns-in-Err-restore_one-clause-unchanged : goal.returns-in-Err-restore_one-clause-unchanged
returns-in-Err-restore_one-clause-unchanged g c = c.next.ensures.unchanged ∙ c.entries.invariant.unchanged

pub returns-in-Err-restore_one-clause-later : goal.returns-in-Err-restore_one-clause-later
returns-in-Err-restore_one-clause-later g c = let before = c.entries.invariant.later in let now = c.next.ensures.later in omega (arith, before, now)

pub returns-in-Err-restore_one-clause-say_faults : goal.returns-in-Err-restore_one-clause-say_faults
returns-in-Err-restore_one-clause-say_faults g c = c.next.ensures.say_faults ∙ c.entries.invariant.say_faults

pub returns-clause-tells : goal.returns-clause-tells
returns-clause-tells g c = λ tells. c.entries.invariant.told tells

pub returns-clause-state : goal.returns-clause-state
returns-clause-state g c = c.entries.invariant.goes.state_is

pub returns-clause-restores : goal.returns-clause-restores
returns-clause-restores g c tells done made opened front =
    let inv = c.entries.invariant in
    let steps = g.V.Site.history c.args.site.now in
    let flows = g.R.Reactions.flows c.args.reactions.now in
    let so_far = inv.made tells opened in
    let here : (state_of c.entries.state).position ≡ c.args.position = let at = c.position.ensures in let test = c.entries-test.false in let within = inv.within in omega (arith, at, test, within) in
    all_made flows steps c.args.log c.args.count c.args.partition c.entries.state c.entries.reader so_far inv.goes.state_is.among c.args.position done made front here

pub returns-clause-unchanged : goal.returns-clause-unchanged
returns-clause-unchanged g c = c.entries.invariant.unchanged

pub returns-clause-later : goal.returns-clause-later
returns-clause-later g c = c.entries.invariant.later

pub returns-clause-say_faults : goal.returns-clause-say_faults
returns-clause-say_faults g c = c.entries.invariant.say_faults
