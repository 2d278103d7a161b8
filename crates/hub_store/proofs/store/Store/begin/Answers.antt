use Rattle.std.proofs.Common.{List, refl, ap, ◌∙◌, arith}
use Rattle.hub_store.specs.declared.way.Way.{Way}
use Rattle.hub_store.specs.Ways.{way_of, stage_of}
use Rattle.hub_store.proofs.Openings.{way_at, sound_begun}
use Rattle.hub_store.proofs.store.Store.begin.Goals as goal

pub returns-in-Ok-clause-sound : goal.returns-in-Ok-clause-sound
returns-in-Ok-clause-sound g c =
    sound_begun _ c.args.logs.items c.requires.count c.requires.origin c.in-Ok.ensures c.new-trail.ensures.items c.new-told.ensures.items refl c.new-trail.ensures.len refl c.requires.begun

pub returns-in-Ok-clause-rest : goal.returns-in-Ok-clause-rest
returns-in-Ok-clause-rest g c part below =
    let found = way_at c.args.logs.items part (omega (arith, c.requires.count, below)) in
    ap stage_of (ap (λ (w : List Way). way_of w part) c.in-Ok.ensures ∙ found.2)

pub returns-in-Ok-clause-site : goal.returns-in-Ok-clause-site
returns-in-Ok-clause-site g c = refl

pub returns-in-Ok-clause-back : goal.returns-in-Ok-clause-back
returns-in-Ok-clause-back g c = tt

pub returns-in-Ok-clause-going : goal.returns-in-Ok-clause-going
returns-in-Ok-clause-going g c = refl

pub returns-in-Ok-clause-whole : goal.returns-in-Ok-clause-whole
returns-in-Ok-clause-whole g c = refl

pub returns-in-Ok-clause-segment : goal.returns-in-Ok-clause-segment
returns-in-Ok-clause-segment g c = refl

pub returns-in-Ok-clause-latest : goal.returns-in-Ok-clause-latest
returns-in-Ok-clause-latest g c = refl
