-- The entry at a position goes on a log there, and the log goes on behind it.
use Rattle.std.proofs.Common.{◌≡◌, ℕ, ◌+◌, ◌<◌, ◌^◌, List, [], ◌∷◌, ◌++◌, Option, Some, None, Result, Ok, Err, refl, sym, ap, subst, ◌∙◌, append_assoc, arith}
use Rattle.std.specs.List.{AllByRecursion}
use Rattle.std.proofs.lemmas.List.Elements.{All-from_recursion}
use Rattle.dura_value.specs.Items.{Entry}
use Rattle.part_items.specs.Numbered.{Next, behind_all}
use Rattle.part_items.specs.ItemFits.{FitsItem, FitsEntry, FitsFrame}
use Rattle.part_items.specs.Kept.{first_of}
use Rattle.hub_store.specs.Origin.{Log}
use Rattle.hub_store.specs.Trail.{Settled, of_part, settling}
use Rattle.site_model.specs.declared.site.Site as sites
use Rattle.hub_store.specs.declared.start.Start as starts
use Rattle.hub_store.specs.declared.store.Store.{Store}
use Rattle.hub_store.specs.Sound.{IsSound}
use Rattle.hub_store.specs.Changes.{Settles, trail_in, going_at, stage_at}
use Rattle.hub_store.specs.Frames.{GoesBehind, goes_on}
use Rattle.hub_store.proofs.FramesGo.{frame_goes}
use Rattle.hub_store.proofs.Payloads.{behind_more}
use Rattle.hub_store.proofs.Settling.{of_part-append, own_part}
use Rattle.hub_store.specs.Ways.{stage_of, going_in}
use Rattle.hub_store.specs.declared.way.Way.{Way}
use Rattle.hub_store.specs.declared.way.Way.TheVariants.{Resting, Bodied, Synced, Gated, Safe, BrokenBody, BrokenGate, Away}
use Rattle.hub_store.specs.declared.way.Stage.TheVariants as stages
use Rattle.log_tests.specs.Stores.{letting_go, trimming, next_at, Goes, IsAt}

item_fits : AllByRecursion FitsItem (letting_go ∷ [])
item_fits = ((record { partition_fits = omega arith; incarnation_fits = omega arith; position_fits = omega arith }, omega arith), tt)

entry_fits : (position : ℕ) → position < 2 ^ 63 → FitsEntry (trimming position)
entry_fits position low = record { position_fits = low; incarnation_fits = omega arith; some = omega arith; few = omega arith; each = All-from_recursion FitsItem (letting_go ∷ []) item_fits }

trimming_fits : (position : ℕ) → position < 2 ^ 63 → FitsFrame (trimming position ∷ [])
trimming_fits position low = record { some = omega arith; few = omega arith; each = All-from_recursion FitsEntry (trimming position ∷ []) (entry_fits position low, tt) }

pub trimming_goes : (next : Next) (going : List Entry) (position : ℕ) → next ≡ next_at position → going ≡ trimming position ∷ [] → position < 2 ^ 63 → GoesBehind next going
trimming_goes next going position here is low =
    subst (GoesBehind next) (sym is)
    (subst (λ (n : Next). GoesBehind n (trimming position ∷ [])) (sym here) (frame_goes (next_at position) (trimming position ∷ []) (trimming_fits position low) (refl, omega arith, tt)))

pub next_after : (tells : Type 0) (log : Log) (moment : ℕ) (going : Option (List Entry)) (old new : List Settled) (position : ℕ) → Settles tells moment 0 going old new → ((some : List Entry) → going ≡ Some some → some ≡ trimming position ∷ [])
    → goes_on log (of_part 0 old) ≡ next_at position → goes_on log (of_part 0 new) ≡ next_at (position + 1)
next_after tells log moment going old new position settles is here =
    let first = first_of log.header in
    let same : trimming position ∷ [] ≡ settles.entries = sym (is settles.entries settles.frame) in
    let own : of_part 0 new ≡ of_part 0 old ++ trimming position ∷ [] =
    ap (of_part 0) settles.trail ∙ of_part-append 0 old (settling 0 settles.at settles.entries)
    ∙ ap (λ (more : List Entry). of_part 0 old ++ more) (own_part 0 settles.at settles.entries ∙ sym same) in
    ap (goes_on log) own
    ∙ ap (behind_all first) (sym (append_assoc log.entries (of_part 0 old) (trimming position ∷ [])))
    ∙ sym (behind_more first (log.entries ++ of_part 0 old) (trimming position ∷ []))

-- a log at rest has no frame under way
pub none_going : (way : Way) → stage_of way ≡ stages.Resting → (going wanted : List Entry) → going_in way ≡ Some going → going ≡ wanted
none_going (Resting log) rests going wanted is = cc
none_going (Bodied log frame) rests going wanted is = cc
none_going (Synced log frame) rests going wanted is = cc
none_going (Gated log frame) rests going wanted is = cc
none_going (Safe log frame) rests going wanted is = cc
none_going (BrokenBody log frame) rests going wanted is = cc
none_going (BrokenGate log frame) rests going wanted is = cc
none_going Away rests going wanted is = cc

module _ {V N : Type 0} {G : sites.Ghosts V} {H : starts.Ghosts N} where
  -- a store goes on where another did, if nothing was settled and its frame is the same
  pub goes_still : (old new : Store V N G H) (position : ℕ) → Goes old position → new.cut ≡ old.cut → trail_in new ≡ trail_in old → going_at new 0 ≡ going_at old 0 → Goes new position
  goes_still old new position goes cut trail going = record {
    one = goes.one;
    follow = goes.follow;
    say = goes.say;
    whole = cut ∙ goes.whole;
    next = subst (λ (settled : List Settled). goes_on (H.origin.logs 0) (of_part 0 settled) ≡ next_at position) (sym trail) goes.next;
    frame = λ some is. goes.frame some (sym going ∙ is);
  }

  -- and at another place, if no frame is under way
  pub goes_rests : (old new : Store V N G H) (here there : ℕ) → Goes old here → new.cut ≡ old.cut → goes_on (H.origin.logs 0) (of_part 0 (trail_in new)) ≡ next_at there → stage_at new 0 ≡ stages.Resting → Goes new there
  goes_rests old new here there goes cut next rests = record {
    one = goes.one;
    follow = goes.follow;
    say = goes.say;
    whole = cut ∙ goes.whole;
    next = next;
    frame = λ some is. none_going _ rests some _ is;
  }

  -- at each place it is sound
  pub sound_at : (store : Store V N G H) (place : Result ℕ (Option ℕ)) → IsAt store place → IsSound store
  sound_at store (Ok position) here = here.sound
  sound_at store (Err (Some position)) here = here.sound
  sound_at store (Err None) here = here
