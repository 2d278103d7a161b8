use Rattle.std.proofs.Common.{subst, sym}
use Rattle.site_model.specs.History.{content_of}
use Rattle.site_memory.specs.Record.{next}
use Rattle.site_memory.specs.Place.{Shows}
use Rattle.site_memory.proofs.Place.{shows_byte}
use Rattle.site_memory.proofs.replay.step.Goals as goal

pub returns-in-Byte-clause-shows : goal.returns-in-Byte-clause-shows
returns-in-Byte-clause-shows c steps is shows =
    subst (λ e. Shows (content_of c.args.file (next e steps)) c.args.at c.follow.new.out) (sym c.in-Byte.is)
    (shows_byte c.args.place c.args.file c.in-Byte.byte c.args.at c.args.out.now c.follow.new.out steps is c.follow.ensures.out shows)
