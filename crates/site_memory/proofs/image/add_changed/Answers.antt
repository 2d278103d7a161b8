use Rattle.std.proofs.Common.{sym, subst}
use Rattle.site_memory.specs.Record.{history_of, next}
use Rattle.site_memory.specs.Start.{IsStart}
use Rattle.site_memory.proofs.Start.{start_grown, start_said}
use Rattle.site_memory.proofs.image.add_changed.Goals as goal

pub returns-in_ok-add_once-in-Wrote : goal.returns-in_ok-add_once-in-Wrote
returns-in_ok-add_once-in-Wrote c walked is =
    subst (λ entry. IsStart c.args.pick (history_of c.args.kept.now) (next entry walked) (history_of c.add_once.new.made.items)) (sym c.in-Wrote.is)
    (c.in_ok-add_once-in-Wrote.ensures walked _ is)

pub returns-in_ok-add_once-in-Synced : goal.returns-in_ok-add_once-in-Synced
returns-in_ok-add_once-in-Synced c walked is =
    subst (λ entry. IsStart c.args.pick (history_of c.args.kept.now) (next entry walked) (history_of c.add_once-in-Synced.new.made.items)) (sym c.in-Synced.is)
    (c.in_ok-add_once-in-Synced.ensures walked _ is)

pub returns-in-Byte : goal.returns-in-Byte
returns-in-Byte c walked is =
    subst (λ entry. IsStart c.args.pick (history_of c.args.kept.now) (next entry walked) (history_of c.args.made.now.items)) (sym c.in-Byte.is)
    (start_grown c.args.pick c.in-Byte.field-0 _ walked _ is)

pub returns-in-Said : goal.returns-in-Said
returns-in-Said c walked is =
    subst (λ entry. IsStart c.args.pick (history_of c.args.kept.now) (next entry walked) (history_of c.args.made.now.items)) (sym c.in-Said.is)
    (start_said c.args.pick c.in-Said.field-0 _ walked _ is)
