use Rattle.std.proofs.Common.{◌<◌, arith, None, length, subst, sym}
use Rattle.site_model.specs.History.{content_of}
use Rattle.site_memory.specs.Place.{IsPlace, Shows}
use Rattle.site_memory.proofs.History.{history_empty, history_more}
use Rattle.site_memory.proofs.Place.{place_empty, within}
use Rattle.site_memory.proofs.replay.replay.Goals as goal

pub loop-entry-init : goal.loop-entry-init
loop-entry-init c = record {
  place = subst (λ s. IsPlace (record { length = 0; cursor = None }) c.args.file s) (sym history_empty) (place_empty c.args.file);
  shows = subst (λ s. Shows (content_of c.args.file s) c.args.at c.args.out.now) (sym history_empty) (λ k fits reached. absurd (omega arith));
  short = omega arith;
}

pub step-place-requires-clause-within : goal.step-place-requires-clause-within
step-place-requires-clause-within c = within c.loop-entry.place c.args.file _ c.loop-entry.invariant.place

pub loop-entry-preserved : goal.loop-entry-preserved
loop-entry-preserved c =
    let below : c.loop-entry.entry-index < length c.args.kept.now = omega arith in
    record {
      place =
          subst (λ s. IsPlace c.step-place.result c.args.file s) (sym (history_more c.args.kept.now c.loop-entry.entry-index _ below))
          (c.step-place.ensures.place _ c.loop-entry.invariant.place);
      shows =
          subst (λ s. Shows (content_of c.args.file s) c.args.at c.step-place.new.out) (sym (history_more c.args.kept.now c.loop-entry.entry-index _ below))
          (c.step-place.ensures.shows _ c.loop-entry.invariant.place c.loop-entry.invariant.shows);
      short = omega arith;
    }
