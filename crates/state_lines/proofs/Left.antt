-- Behind the next id the states have fewer ids left than behind the last one.
use Rattle.std.proofs.Common.{◌≡◌, ℕ, zero, suc, ◌+◌, ◌<◌, ◌≤◌, length, true, List, [], ◌∷◌, Option, Some, slice_index_or, arith}
use Rattle.dura_value.specs.Ids.{Id}
use Rattle.flow_messages.specs.Views.{entity_of}
use Rattle.shared_maps.specs.IdOrder.{is_behind, IsNextBehind}
use Rattle.part_rows.specs.Views.{row_of}
use Rattle.part_steps.specs.States.{state_of}
use Rattle.part_steps.specs.declared.state.PartState.{PartState}
use Rattle.state_lines.specs.Kinds.{keeps}
use Rattle.state_lines.specs.declared.kind.Kind.{Kind}
use Rattle.state_lines.specs.declared.kind.Kind.TheVariants.{Entity, Instance}
use Rattle.state_lines.proofs.Behind.{count_behind, no_more}
use Rattle.state_lines.proofs.Keys.{fewer_behind, keys_in}

-- how many ids a state has left behind the last one
abbrev pub left_in : Kind → Option Id → PartState → ℕ
left_in Entity last s = count_behind last (keys_in s.rows.entities.entries)
left_in Instance last s = count_behind last (keys_in s.rows.instances.entries)

-- how many these states have left
abbrev pub left : Kind → Option Id → List PartState → ℕ
left kind last [] = 0
left kind last (s ∷ states) = left_in kind last s + left kind last states

module _ (last : Option Id) (id : Id) (behind : is_behind last id ≡ true) where
  no_more_in : (kind : Kind) (s : PartState) → left_in kind (Some id) s ≤ left_in kind last s
  no_more_in Entity s = no_more last id behind (keys_in s.rows.entities.entries)
  no_more_in Instance s = no_more last id behind (keys_in s.rows.instances.entries)

  no_more_left : (kind : Kind) (states : List PartState) → left kind (Some id) states ≤ left kind last states
  no_more_left kind [] = omega arith
  no_more_left kind (s ∷ states) = let here = no_more_in kind s in let those = no_more_left kind states in omega arith

fewer_in : (kind : Kind) (last : Option Id) (id : Id) (s : PartState) → IsNextBehind (keeps kind (state_of s)) last id → left_in kind (Some id) s < left_in kind last s
fewer_in Entity last id s next = fewer_behind entity_of s.rows.entities.entries last id next
fewer_in Instance last id s next = fewer_behind row_of s.rows.instances.entries last id next

-- where the next id of one of the states is said they have fewer left
pub fewer_left : (kind : Kind) (last : Option Id) (id : Id) (states : List PartState) (place : ℕ) (d : PartState) → place < length states → IsNextBehind (keeps kind (state_of (slice_index_or states place d))) last id
    → left kind (Some id) states < left kind last states
fewer_left kind last id [] place d inside next = absurd (omega arith)
fewer_left kind last id (s ∷ states) zero d inside next = let here = fewer_in kind last id s next in let those = no_more_left last id next.behind kind states in omega arith
fewer_left kind last id (s ∷ states) (suc place) d inside next =
    let here = no_more_in last id next.behind kind s in let those = fewer_left kind last id states place d (omega arith) next in omega arith
