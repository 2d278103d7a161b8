use Rattle.std.proofs.Common.{arith}
use Rattle.hub_store.specs.Plain.{trail_of, told_of}
use Rattle.hub_store.proofs.Later.{is_told_later}
use Rattle.hub_store.proofs.store.Store.raise.Goals as goal

pub returns-clause-sound : goal.returns-clause-sound
returns-clause-sound g c =
    let old = c.args.self.now in
    let sound = c.requires in
    record {
      count = sound.count;
      there = sound.there;
      apart = sound.apart;
      headers = sound.headers;
      due = sound.due;
      room = sound.room;
      uncut = sound.uncut;
      short = sound.short;
      told = λ tells.
          is_told_later (g.N.Start.may_follow old.latest) (g.N.Start.may_follow c.max-self.result) g.N.Start.may_say
          (λ trail told partition going may. g.N.Start.later_follows old.latest c.max-self.result trail told partition going (omega (arith, c.max-self.ensures)) may)
          g.N.Start.origin (g.V.Site.history old.site) old.ways.items (trail_of old.trail.items) (told_of old.told.items) old.cut (sound.told tells);
    }
