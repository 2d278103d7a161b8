use Rattle.std.proofs.Common.{refl}
use Rattle.site_model.specs.History.{tape}
use Rattle.site_memory.specs.Record.{history_of}
use Rattle.site_memory.proofs.History.{inside_said}
use Rattle.site_memory.proofs.Start.{start_picked, start_image, start_kept, start_tape}
use Rattle.site_memory.proofs.image.image_of.Goals as goal

pub returns-clause-picked : goal.returns-clause-picked
returns-clause-picked c file = start_picked c.args.pick (tape (history_of c.args.kept.now)) _ _ _ c.in_ok-add_tape.ensures c.in_ok-made.ensures file

pub returns-clause-image : goal.returns-clause-image
returns-clause-image c =
    start_image c.args.pick (history_of c.args.kept.now) (history_of c.add_tape.new.made.items) c.requires
    (start_picked c.args.pick (tape (history_of c.args.kept.now)) _ _ _ c.in_ok-add_tape.ensures c.in_ok-made.ensures)

pub returns-clause-kept : goal.returns-clause-kept
returns-clause-kept c file = start_kept c.args.pick (tape (history_of c.args.kept.now)) _ _ _ c.in_ok-add_tape.ensures c.in_ok-made.ensures file

pub returns-clause-tape : goal.returns-clause-tape
returns-clause-tape c = start_tape c.args.pick (tape (history_of c.args.kept.now)) _ _ _ c.in_ok-add_tape.ensures refl c.in_ok-made.ensures

pub returns-clause-inside : goal.returns-clause-inside
returns-clause-inside c = inside_said _ (tape (history_of c.args.kept.now)) _ c.in_ok-add_tape.ensures c.in_ok-made.ensures.inside
