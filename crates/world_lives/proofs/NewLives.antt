-- A life that begins is a new one.
use Rattle.std.proofs.Common.{◌≡◌, ◌<◌, ◌∷◌, ℕ, false, List, [], sym, subst, arith, inl, inr}
use Rattle.std.specs.List.{Contains}
use Rattle.std.proofs.lemmas.List.Elements.{Contains-push_cases}
use Rattle.call_begins.specs.Begins.{AllBegun}
use Rattle.cell_frames.specs.Joined.{view_of}
use Rattle.commit_gate.specs.Views.{floors_of}
use Rattle.gated_store.specs.declared.local.Gated as gated_types
use Rattle.gated_store.specs.declared.store.GatedStore.{GatedStore}
use Rattle.hub_store.specs.Changes.{stage_at, going_at, trail_in, told_in}
use Rattle.hub_store.specs.declared.start.Start as starts
use Rattle.log_items.specs.declared.items.Packet.{Packet}
use Rattle.many_rules.specs.Rules.{Rules}
use Rattle.site_model.specs.declared.site.Site as sites
use Rattle.spec_cell.specs.Views.{CellView}
use Rattle.spec_tracker.specs.declared.marks.Marks.{Marks}
use Rattle.world_steps.specs.Known.{AreMarksOf}
use Rattle.world_core.specs.World.{world}
use Rattle.world_laws.proofs.Marks.{marks_hold}
use Rattle.world_laws.specs.Lives.{IsNewLife, IsCurrent}
use Rattle.world_laws.specs.Made.{MarksHold}

module _ {V L : Type 0} {G : sites.Ghosts V} {K : starts.Ghosts (gated_types.Gated L)} (rules : Rules) (old new : GatedStore V L G K) (logs : new.logs ≡ old.logs) (ledgers : new.ledgers ≡ old.ledgers) (first : Marks) (known : AreMarksOf rules (view_of old) first) (marks : List Marks) (marks_are : marks ≡ first ∷ []) where
  -- with the same logs and ledgers a store has the same
  same_view : view_of new ≡ view_of old
  same_view i = record {
    latest = (logs i).latest;
    trail = trail_in (logs i);
    told = told_in (logs i);
    going = going_at (logs i);
    stage = stage_at (logs i);
    floors = floors_of (ledgers i).items;
  }

  known_now : AreMarksOf rules (view_of new) first
  known_now = subst (λ v. AreMarksOf rules v first) (sym same_view) known

  pub current_first : (cells : List CellView) (packets : List Packet) → IsCurrent rules (world new cells packets marks false)
  current_first cells packets = ([], first, marks_are, known_now)

  pub new_first : (incarnations : List ℕ) (cells : List CellView) (packets : List Packet) (since : ℕ) → AllBegun incarnations since cells → packets ≡ [] → IsNewLife rules (world new cells packets marks false)
  new_first incarnations cells packets since begun none = record {
    settled = λ p c there. (begun p c there).2.mine;
    held = λ p c there. (begun p c there).2.entries;
    waits = λ p c there. (begun p c there).2.waits;
    packets = none;
    marks = λ one inside. elim (Contains-push_cases [] first one (subst (λ (l : List Marks). Contains l one) marks_are inside)) [
      | inl before ↦ absurd (let none : before.0 < 0 = before.1 in omega (arith, none))
      | inr same ↦ subst (MarksHold rules (view_of new)) same (marks_hold rules (view_of new) first known_now)
    ];
  }
