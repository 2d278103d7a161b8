-- A batch that goes on.
use Rattle.std.proofs.Common.{◌≡◌, ◌∙◌, ◌<◌, ◌+◌, length, arith, ℕ, true, List, [], ◌∷◌, ◌++◌, map, Some, ap, sym, subst}
use Rattle.std.proofs.lemmas.List.{map-append, length-map, length-append}
use Rattle.dura_value.specs.Items.{Item}
use Rattle.dura_value.specs.declared.outputs.Outputs as made_outputs
use Rattle.flow_syntax.specs.Syntax.{Flows}
use Rattle.log_items.specs.Plain.{item_of, items_of}
use Rattle.log_items.specs.declared.items.Item as own
use Rattle.dura_model.specs.Partition.{accepted}
use Rattle.part_steps.specs.declared.batch.Batch.{Batch}
use Rattle.part_steps.specs.declared.state.PartState.{PartState}
use Rattle.part_steps.specs.Batches.{HasMore, IsOver}
use Rattle.part_steps.specs.Enabled.{stamp_at, is_at, NoneEnabled, Makes, nothing, one_more}
use Rattle.part_steps.specs.Outputs.{Outputs, outputs_by, outputs_of}
use Rattle.part_steps.specs.States.{IsSound, state_of, count_of}

pub one_item_more : (flows : Flows) (now : ℕ) (old new : Batch) (item : own.Item) (made : made_outputs.Outputs) (state : PartState)
    → is_at (item_of item) (stamp_at (state_of old.state) now) ≡ true → accepted flows (count_of old.state) (state_of old.state) (item_of item) ≡ Some (state_of state) → outputs_of made ≡ outputs_by flows (state_of old.state) (item_of item) → count_of state ≡ count_of old.state → (state_of state).position ≡ (state_of old.state).position → IsSound state
    → new.state ≡ state → new.items.items ≡ old.items.items ++ item ∷ [] → new.outputs.items ≡ old.outputs.items ++ made ∷ [] → HasMore flows now old new
one_item_more flows now old new item made state at taken made_is count_is position_is sound_too state_is items_is outputs_is = record {
  item = item_of item;
  at = at;
  items = ap items_of items_is ∙ map-append item_of old.items.items (item ∷ []);
  outputs = ap (map outputs_of) outputs_is ∙ map-append outputs_of old.outputs.items (made ∷ []) ∙ ap (λ (o : _). map outputs_of old.outputs.items ++ o ∷ []) made_is;
  taken = taken ∙ ap (λ (s : PartState). Some (state_of s)) (sym state_is);
  partitions = ap count_of state_is ∙ count_is;
  position = ap (λ (s : PartState). (state_of s).position) state_is ∙ position_is;
  sound = subst IsSound (sym state_is) sound_too;
}

-- A batch with so many items that began in this state.
pub record Filled (flows : Flows) (now : ℕ) (first : PartState) (many : ℕ) (b : Batch) : Type 0 where
  pub makes : Makes flows (count_of first) now (state_of first) (items_of b.items.items) (map outputs_of b.outputs.items) (state_of b.state)
  pub partitions : count_of b.state ≡ count_of first
  pub sound : IsSound b.state
  pub begun : 0 < (state_of b.state).position
  pub entry : (state_of b.state).position ≡ (state_of first).position
  pub length_is : length b.items.items ≡ many

pub filled_first : (flows : Flows) (now : ℕ) (first : PartState) (b : Batch) → IsSound first → 0 < (state_of first).position → b.state ≡ first → b.items.items ≡ [] → b.outputs.items ≡ [] → Filled flows now first 0 b
filled_first flows now first b sound begun state_is items_is outputs_is = record {
  makes = subst (λ (s : PartState). Makes flows (count_of first) now (state_of first) (items_of b.items.items) (map outputs_of b.outputs.items) (state_of s)) (sym state_is)
      (subst (λ (l : List own.Item). Makes flows (count_of first) now (state_of first) (items_of l) (map outputs_of b.outputs.items) (state_of first)) (sym items_is)
      (subst (λ (l : List made_outputs.Outputs). Makes flows (count_of first) now (state_of first) [] (map outputs_of l) (state_of first)) (sym outputs_is) nothing));
  partitions = ap count_of state_is;
  sound = subst IsSound (sym state_is) sound;
  begun = subst (λ (s : PartState). 0 < (state_of s).position) (sym state_is) begun;
  entry = ap (λ (s : PartState). (state_of s).position) state_is;
  length_is = ap (λ (l : List own.Item). length l) items_is;
}

pub filled_more : (flows : Flows) (now : ℕ) (first : PartState) (many : ℕ) (old new : Batch) → Filled flows now first many old → HasMore flows now old new → Filled flows now first (many + 1) new
filled_more flows now first many old new filled more = record {
  makes = subst (λ (l : List Item). Makes flows (count_of first) now (state_of first) l (map outputs_of new.outputs.items) (state_of new.state)) (sym more.items)
      (subst (λ (l : List Outputs). Makes flows (count_of first) now (state_of first) (items_of old.items.items ++ more.item ∷ []) l (state_of new.state)) (sym more.outputs)
      (one_more filled.makes more.item more.at (subst (λ (k : ℕ). accepted flows k (state_of old.state) more.item ≡ Some (state_of new.state)) filled.partitions more.taken)));
  partitions = more.partitions ∙ filled.partitions;
  sound = more.sound;
  begun = let same = more.position in let some = filled.begun in omega (arith, same, some);
  entry = more.position ∙ filled.entry;
  length_is =
      let here = ap (λ (l : List Item). length l) more.items in
      let was = filled.length_is in
      omega (arith, here, was, length-map new.items.items item_of, length-map old.items.items item_of, length-append (items_of old.items.items) (more.item ∷ []));
}

-- nothing more was possible
pub none_behind : (flows : Flows) (first : PartState) (many now : ℕ) (old new : Batch) → Filled flows now first many old → IsOver flows now old new → NoneEnabled flows (count_of first) (state_of new.state) (stamp_at (state_of new.state) now)
none_behind flows first many now old new filled over =
    subst (λ (b : Batch). NoneEnabled flows (count_of first) (state_of b.state) (stamp_at (state_of b.state) now)) (sym over.same)
    (subst (λ (k : ℕ). NoneEnabled flows k (state_of old.state) (stamp_at (state_of old.state) now)) filled.partitions over.none)

pub over_filled : (flows : Flows) (first : PartState) (many now : ℕ) (old new : Batch) → Filled flows now first many old → IsOver flows now old new → Filled flows now first many new
over_filled flows first many now old new filled over = subst (Filled flows now first many) (sym over.same) filled
