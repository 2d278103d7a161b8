use Rattle.std.proofs.Common.{◌++◌, ℕ, List, sym, subst}
use Rattle.hub_store.specs.Changes.{stage_at, going_at, trail_in, told_in}
use Rattle.hub_store.specs.Trail.{Settled, Said}
use Rattle.hub_store.specs.Ways.{way_of, going_in, stage_of}
use Rattle.gated_store.specs.Kept.{Fits}
use Rattle.gated_store.proofs.Saying.{fits_says, says_more}
use Rattle.gated_store.proofs.store.GatedStore.say.Goals as goal

pub returns-in-Ok-clause-kept : goal.returns-in-Ok-clause-kept
returns-in-Ok-clause-kept g c =
    let L = g.L.Local in
    let old = c.args.self.now.logs in
    let new = c.say.new.self in
    let e = c.say.ensures in
    let list = c.args.self.now.ledgers.items in
    let more = says_more c.say.result (told_in old) (told_in new) _ e.ok e.err in
    let fits = fits_says L.origin.count L.ledgers L.readers L.may_make L.still_makes old.latest (trail_in old) (told_in old) more.0 (going_at old) (stage_at old) list c.requires.kept.fits in
    record {
      sound = e.sound;
      fits = subst (λ (n : ℕ). Fits L.origin.count L.ledgers L.readers L.may_make n (trail_in new) (told_in new) (going_at new) (stage_at new) list) (sym e.latest)
          (subst (λ (l : List Settled). Fits L.origin.count L.ledgers L.readers L.may_make old.latest l (told_in new) (going_at new) (stage_at new) list) (sym e.trail)
          (subst (λ (t : List Said). Fits L.origin.count L.ledgers L.readers L.may_make old.latest (trail_in old) t (going_at new) (stage_at new) list) (sym more.1)
          (subst (λ (w : _). Fits L.origin.count L.ledgers L.readers L.may_make old.latest (trail_in old) (told_in old ++ more.0) (λ p. going_in (way_of w.items p)) (λ p. stage_of (way_of w.items p)) list) (sym e.ways) fits)));
    }

pub returns-in-Err-SayFault-clause-kept : goal.returns-in-Err-SayFault-clause-kept
returns-in-Err-SayFault-clause-kept g c =
    let L = g.L.Local in
    let old = c.args.self.now.logs in
    let new = c.say.new.self in
    let e = c.say.ensures in
    let list = c.args.self.now.ledgers.items in
    let more = says_more c.say.result (told_in old) (told_in new) _ e.ok e.err in
    let fits = fits_says L.origin.count L.ledgers L.readers L.may_make L.still_makes old.latest (trail_in old) (told_in old) more.0 (going_at old) (stage_at old) list c.requires.kept.fits in
    record {
      sound = e.sound;
      fits = subst (λ (n : ℕ). Fits L.origin.count L.ledgers L.readers L.may_make n (trail_in new) (told_in new) (going_at new) (stage_at new) list) (sym e.latest)
          (subst (λ (l : List Settled). Fits L.origin.count L.ledgers L.readers L.may_make old.latest l (told_in new) (going_at new) (stage_at new) list) (sym e.trail)
          (subst (λ (t : List Said). Fits L.origin.count L.ledgers L.readers L.may_make old.latest (trail_in old) t (going_at new) (stage_at new) list) (sym more.1)
          (subst (λ (w : _). Fits L.origin.count L.ledgers L.readers L.may_make old.latest (trail_in old) (told_in old ++ more.0) (λ p. going_in (way_of w.items p)) (λ p. stage_of (way_of w.items p)) list) (sym e.ways) fits)));
    }

pub returns-in-Err-Memory-clause-kept : goal.returns-in-Err-Memory-clause-kept
returns-in-Err-Memory-clause-kept g c =
    let L = g.L.Local in
    let old = c.args.self.now.logs in
    let new = c.say.new.self in
    let e = c.say.ensures in
    let list = c.args.self.now.ledgers.items in
    let more = says_more c.say.result (told_in old) (told_in new) _ e.ok e.err in
    let fits = fits_says L.origin.count L.ledgers L.readers L.may_make L.still_makes old.latest (trail_in old) (told_in old) more.0 (going_at old) (stage_at old) list c.requires.kept.fits in
    record {
      sound = e.sound;
      fits = subst (λ (n : ℕ). Fits L.origin.count L.ledgers L.readers L.may_make n (trail_in new) (told_in new) (going_at new) (stage_at new) list) (sym e.latest)
          (subst (λ (l : List Settled). Fits L.origin.count L.ledgers L.readers L.may_make old.latest l (told_in new) (going_at new) (stage_at new) list) (sym e.trail)
          (subst (λ (t : List Said). Fits L.origin.count L.ledgers L.readers L.may_make old.latest (trail_in old) t (going_at new) (stage_at new) list) (sym more.1)
          (subst (λ (w : _). Fits L.origin.count L.ledgers L.readers L.may_make old.latest (trail_in old) (told_in old ++ more.0) (λ p. going_in (way_of w.items p)) (λ p. stage_of (way_of w.items p)) list) (sym e.ways) fits)));
    }
