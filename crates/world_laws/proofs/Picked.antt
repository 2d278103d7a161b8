-- What entries that were picked name is ready: by the marks they were picked by it was, and so it is.
use Rattle.std.proofs.Common.{◌≡◌, ◌⊎◌, inl, inr, ◌<◌, ◌∙◌, ℕ, List, take, length, Some, sym, subst}
use Rattle.std.specs.List.{All, Contains}
use Rattle.std.proofs.lemmas.List.Elements.{All-contains}
use Rattle.cell_frames.proofs.Frames.{stands_behind}
use Rattle.cell_frames.specs.Joined.{StoreView}
use Rattle.cell_steps.specs.Depends.{last_made}
use Rattle.commit_gate.specs.Refused.{Names}
use Rattle.dura_model.proofs.EntriesSend.{entries_send}
use Rattle.dura_model.specs.Partition.{fresh}
use Rattle.dura_model.specs.Sends.{IsOfOthers}
use Rattle.dura_value.specs.Dependencies.{Ready}
use Rattle.dura_value.specs.Items.{Identity, Item, Entry}
use Rattle.log_items.specs.Entries.{items_in}
use Rattle.many_logs.specs.Placing.{states_after}
use Rattle.many_rules.specs.Local.{in_turn}
use Rattle.many_rules.specs.Rules.{Rules}
use Rattle.spec_cell.specs.Picks.{identities, HasPicked}
use Rattle.spec_cell.specs.Views.{CellView, HasFacts, next_at}
use Rattle.spec_tracker.specs.Marks.{floors_of, length_in}
use Rattle.spec_tracker.specs.declared.marks.Marks.{Marks}
use Rattle.world_laws.proofs.Lines.{begin_number}
use Rattle.world_laws.proofs.Lists.{front_items}
use Rattle.world_laws.proofs.Naming.{dependencies_named, names_other, own_names}
use Rattle.world_laws.specs.Made.{MadeEntry, IsReadyIn, CellMade, MarksHold}

module _ (rules : Rules) (begun : states_after rules.flows rules.count fresh rules.recovered ≡ Some rules.begin) (made : List MadeEntry) (s : StoreView) (p : ℕ) (below : p < rules.count) (c after : CellView) (cell : CellMade rules made s p c)
    (facts : HasFacts rules.flows rules.count (rules.begin p) c) (marks : Marks) (hold : MarksHold rules s marks) (frame : List Entry) (sending : _) (picked : HasPicked rules.flows rules.count (rules.begin p) marks c frame sending after) where
  -- what a cell's entries take in and let go is others'
  others : All (IsOfOthers rules.count p) (items_in c.entries)
  others =
      let at = stands_behind rules.flows rules.count c.slot.mine (rules.begin p) facts.base facts.settled in
      (entries_send rules.flows rules.count p below facts.base facts.ahead c.entries (at.number ∙ begin_number rules begun p below) (in_turn (next_at facts.base) c.entries facts.numbered) facts.made).inside

  base_number : picked.base.number ≡ p
  base_number = (stands_behind rules.flows rules.count c.slot.mine (rules.begin p) picked.base picked.is_base).number ∙ begin_number rules begun p below

  ready_now : (item : Item) (e : Identity) → Contains (items_in (take (length frame) c.entries)) item → Names item e → IsReadyIn rules s e
  ready_now item e inside names =
      let other = names_other rules.count p item e (All-contains (IsOfOthers rules.count p) (items_in c.entries) item others (front_items (length frame) c.entries item inside)) names in
      let Q : Identity → Type 0 = λ (i : Identity). Ready (length_in marks) (floors_of marks) i ⊎ Contains (identities picked.base.number (take (length frame) c.entries)) i in
      elim (dependencies_named Q picked.base.number (last_made picked.base) c.entries (length frame) item e picked.go inside names) [
        | inl ready ↦ hold.ready e other.below ready
        | inr own ↦ absurd (other.apart (own_names picked.base.number (take (length frame) c.entries) e own ∙ base_number))
      ]

  pub picks : CellMade rules made s p after
  picks = subst (CellMade rules made s p) (sym picked.becomes) (record { held = cell.held; fate = cell.fate; younger = cell.younger; holds = cell.holds; waits = cell.waits; ready = ready_now })
