-- A log that was full when rounds ended.
use Rattle.std.proofs.Common.{◌≡◌, ◌≤◌, ◌<◌, ◌∙◌, inl, inr, ℕ, List, ◌++◌, Ok, sym, ap, subst, arith}
use Rattle.std.specs.List.{All}
use Rattle.cell_frames.specs.Fills.{WouldFill}
use Rattle.cell_frames.specs.Joined.{view_of}
use Rattle.commit_log.proofs.Written.{reads_closed}
use Rattle.commit_log.specs.Segment.{segment, reading_of}
use Rattle.dura_model.specs.Entries.{placed}
use Rattle.engine_rounds.specs.Halts.{HasSpent, IsFull, HaltsFor}
use Rattle.gated_store.specs.declared.local.Gated as gated_types
use Rattle.gated_store.specs.declared.store.GatedStore.{GatedStore}
use Rattle.hub_store.specs.Changes.{trail_in, told_in}
use Rattle.hub_store.specs.Frames.{length_with}
use Rattle.hub_store.specs.Origin.{Origin, Log}
use Rattle.hub_store.specs.Trail.{of_part}
use Rattle.hub_store.specs.Ways.{LogFits, stage_of, way_of}
use Rattle.hub_store.specs.declared.start.Start as starts
use Rattle.hub_store.specs.declared.way.Stage.TheVariants as stages
use Rattle.hub_store.specs.declared.way.Way.{Way}
use Rattle.hub_store.specs.declared.way.Way.TheVariants.{Resting, Bodied, Synced, Gated, Safe, BrokenBody, BrokenGate, Away}
use Rattle.dura_value.specs.Items.{Entry}
use Rattle.many_rules.specs.Local.{later_makes}
use Rattle.many_rules.specs.Ours.{ours_later}
use Rattle.many_rules.specs.Rules.{Rules, IsOurs, pairs_of}
use Rattle.node_core.specs.Halts.{IsPast, IsSpent}
use Rattle.node_core.specs.declared.halt.Halt.{Halt}
use Rattle.node_core.specs.declared.halt.Halt.TheVariants as halts
use Rattle.part_items.specs.Spelling.{spell_frame}
use Rattle.site_model.specs.History.{Step, changes_of, content_of}
use Rattle.site_model.specs.declared.site.Site as sites
use Rattle.spec_cell.specs.Views.{CellView}
use Rattle.std.specs.Prelude.{◌+◌, length}

-- where a log at rest ends, and what it reads as
record EndsAt (log : Log) (entries frame : List Entry) (tells : Type 0) (steps : List Step) (n : ℕ) : Type 0 where
  gate : ℕ
  length_is : n ≡ gate + 6 + length (spell_frame frame)
  stands : tells → (payloads : List (List ℕ)) × (reading_of (content_of log.file steps) ≡ segment log.header payloads gate)

ends_at : (log : Log) (entries frame : List Entry) (tells : Type 0) (steps : List Step) (n : ℕ) (way : Way) → stage_of way ≡ stages.Resting → n ≡ length_with way frame → (tells → LogFits log entries (changes_of log.file steps) way) → EndsAt log entries frame tells steps n
ends_at log entries frame tells steps n (Resting own) rests is fits = record {
  gate = own.gate;
  length_is = is;
  stands = λ told. let there = fits told in let at = there.fits.1 in (there.payloads, ap reading_of at.content ∙ reads_closed log.header there.payloads own.gate at.byte at.rest at.ends at.closed);
}
ends_at log entries frame tells steps n (Bodied own going) rests is fits = absurd (cc rests)
ends_at log entries frame tells steps n (Synced own going) rests is fits = absurd (cc rests)
ends_at log entries frame tells steps n (Gated own going) rests is fits = absurd (cc rests)
ends_at log entries frame tells steps n (Safe own going) rests is fits = absurd (cc rests)
ends_at log entries frame tells steps n (BrokenBody own going) rests is fits = absurd (cc rests)
ends_at log entries frame tells steps n (BrokenGate own going) rests is fits = absurd (cc rests)
ends_at log entries frame tells steps n Away rests is fits = absurd (cc rests)

module _ {V L : Type 0} {G : sites.Ghosts V} {K : starts.Ghosts (gated_types.Gated L)} (o : Origin) (rules : Rules) (store : GatedStore V L G K) (latest : ℕ) (above : store.logs.latest ≤ latest)
    (fits : G.tells store.logs.site → (p : ℕ) → p < rules.count → LogFits (o.logs p) (of_part p (trail_in store.logs)) (changes_of (o.logs p).file (G.history store.logs.site)) (way_of store.logs.ways.items p)) where
  is_full : (p n : ℕ) → WouldFill rules store p n → IsFull rules o store.logs.segment latest (G.tells store.logs.site) (G.history store.logs.site) (trail_in store.logs) (told_in store.logs) p n
  is_full p n fills =
      let end = ends_at (o.logs p) (of_part p (trail_in store.logs)) fills.frame (G.tells store.logs.site) (G.history store.logs.site) n (way_of store.logs.ways.items p) fills.rests fills.length_is (λ told. fits told p fills.makes.below) in
      record {
        frame = fills.frame;
        some = fills.some;
        spells = fills.spells;
        makes = later_makes rules store.logs.latest latest (of_part p (trail_in store.logs)) (told_in store.logs) p fills.frame above fills.makes;
        gate = end.gate;
        length_is = end.length_is;
        past = fills.past;
        stands = end.stands;
      }

  has_spent : (cells : List CellView) (p n : ℕ) → IsSpent rules (view_of store) cells p n → HasSpent rules latest (trail_in store.logs) (told_in store.logs) p n
  has_spent cells p n spent =
      let c = spent.cell in
      let goes = spent.joined.goes in
      let told = pairs_of (told_in store.logs) in
      record {
        held = c.entries;
        ours = subst (λ (k : ℕ). All (IsOurs rules latest told k) c.entries) goes.number (λ k d inside. ours_later rules store.logs.latest c.number _ latest told above (goes.ours.ours k d inside));
        incarnation = c.incarnation;
        of_call = goes.of_call;
        comes = elim spent.comes [
          | inl at ↦ inl (at.0, subst (λ (l : List Entry). placed rules.flows rules.count (rules.begin p) (l ++ c.entries) ≡ Ok at.0) goes.mine (subst (λ (k : ℕ). placed rules.flows rules.count (rules.begin k) (c.slot.mine ++ c.entries) ≡ Ok at.0) goes.number at.1), at.2)
          | inr other ↦ inr other
        ];
        past = spent.past;
      }

  pub halts_for : (cells : List CellView) (halt : Halt) → IsPast rules store cells halt → HaltsFor rules o store.logs.segment latest (G.tells store.logs.site) (G.history store.logs.site) (trail_in store.logs) (told_in store.logs) halt
  halts_for cells (halts.Full partition length) past = is_full partition length past
  halts_for cells (halts.Spent partition number) past = has_spent cells partition number past
  halts_for cells halts.SiteFault past = tt
  halts_for cells halts.SayFault past = tt
  halts_for cells halts.ClockFault past = tt
  halts_for cells halts.Memory past = tt
