-- A frame that doesn't fit, once it came back.
use Rattle.std.proofs.Common.{◌≡◌, ◌<◌, ◌≤◌, ℕ, List, length, sym, ap, subst, ◌∙◌, arith}
use Rattle.cell_frames.specs.Fills.{WouldFill}
use Rattle.dura_value.specs.Items.{Entry}
use Rattle.gated_store.specs.declared.local.Gated as gated_types
use Rattle.gated_store.specs.declared.store.GatedStore.{GatedStore}
use Rattle.hub_store.specs.Changes.{stage_at, trail_in, told_in}
use Rattle.hub_store.specs.Frames.{length_with}
use Rattle.hub_store.specs.Trail.{Settled, Said, of_part}
use Rattle.hub_store.specs.Ways.{way_of}
use Rattle.hub_store.specs.declared.start.Start as starts
use Rattle.hub_store.specs.declared.way.Stage.TheVariants as stages
use Rattle.hub_store.specs.declared.way.Way.{Way}
use Rattle.many_rules.specs.Makes.{Makes}
use Rattle.many_rules.specs.Rules.{Rules}
use Rattle.part_items.specs.Spelling.{CanSpellFrame}
use Rattle.site_model.specs.declared.site.Site as sites

-- what may be made is so where nothing was settled or said since, and no later moment came
makes_still : (rules : Rules) (p : ℕ) (frame : List Entry) (latest latest_then : ℕ) (trail trail_then : List Settled) (told told_then : List Said) → latest_then ≡ latest → trail_then ≡ trail → told_then ≡ told → Makes rules latest (of_part p trail) told p frame
    → Makes rules latest_then (of_part p trail_then) told_then p frame
makes_still rules p frame latest latest_then trail trail_then told told_then one two three makes =
    subst (λ (n : ℕ). Makes rules n (of_part p trail_then) told_then p frame) (sym one)
    (subst (λ (t : List Settled). Makes rules latest (of_part p t) told_then p frame) (sym two) (subst (λ (d : List Said). Makes rules latest (of_part p trail) d p frame) (sym three) makes))

module _ {V L : Type 0} {G : sites.Ghosts V} {K : starts.Ghosts (gated_types.Gated L)} (rules : Rules) (p n : ℕ) (old new : GatedStore V L G K) (frame : List Entry) where
  pub fills_so : 0 < length frame → CanSpellFrame frame → Makes rules old.logs.latest (of_part p (trail_in old.logs)) (told_in old.logs) p frame → n ≡ length_with (way_of old.logs.ways.items p) frame → old.logs.segment ≤ n
      → new.logs.latest ≡ old.logs.latest → trail_in new.logs ≡ trail_in old.logs → told_in new.logs ≡ told_in old.logs → way_of new.logs.ways.items p ≡ way_of old.logs.ways.items p → new.logs.segment ≡ old.logs.segment → stage_at new.logs p ≡ stages.Resting → WouldFill rules new p n
  fills_so some spells makes long past latest trail told way segment rests = record {
    frame = frame;
    some = some;
    spells = spells;
    rests = rests;
    makes = makes_still rules p frame old.logs.latest new.logs.latest (trail_in old.logs) (trail_in new.logs) (told_in old.logs) (told_in new.logs) latest trail told makes;
    length_is = long ∙ ap (λ (w : Way). length_with w frame) (sym way);
    past = subst (λ (s : ℕ). s ≤ n) (sym segment) past;
  }
