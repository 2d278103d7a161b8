-- A merge of states goes on by the least head: it is the next line, with the answer of its state, and fewer ids are left behind it.
use Rattle.std.proofs.Common.{◌≡◌, ◌∙◌, ℕ, ◌<◌, length, Bool, List, Option, Some, None, slice_index_or, slice_set, ap, sym, subst, arith}
use Rattle.std.proofs.lemmas.List.{length-map, map-set}
use Rattle.std.specs.Borrow.{Bor}
use Rattle.dura_model.specs.Partition.{Partition, shown}
use Rattle.dura_model.specs.World.{World}
use Rattle.dura_value.specs.declared.addresses.Id.{Id as Given}
use Rattle.dura_value.specs.Ids.{Id}
use Rattle.dura_value.specs.Views.{id_of}
use Rattle.flow_syntax.specs.Syntax.{Flows}
use Rattle.shared_maps.specs.IdOrder.{IsNextBehind, NoneBehind}
use Rattle.part_steps.specs.States.{AreStatesOfAll, parts_in, state_of}
use Rattle.part_steps.specs.declared.state.PartState.{PartState}
use Rattle.state_lines.specs.Heads.{IsHead, AreHeads, IsLeast, IsLeastOf, head_of, heads_of}
use Rattle.state_lines.specs.Kinds.{has_line, keeps, kept_answer, line_answer}
use Rattle.state_lines.specs.declared.kind.Kind.{Kind}
use Rattle.state_lines.proofs.Kept.{answer_kept, are_kept, part_at}
use Rattle.state_lines.proofs.Left.{left, fewer_left}
use Rattle.state_lines.proofs.Merging.{least_next, least_kept, heads_after, none_next}

module _ (flows : Flows) (states : List PartState) (are : AreStatesOfAll states) (kind : Kind) where
  abbrev world : World
  world = shown flows (length states) (parts_in states)

  abbrev kept : ℕ → Id → Bool
  kept place = keeps kind (parts_in states place)

  module _ (last : Option (Bor Given)) (heads : List (Option (Bor Given))) (long : length heads ≡ length states) (all : AreHeads kept (head_of last) (heads_of heads)) where
    as_many : length (heads_of heads) ≡ length states
    as_many = length-map heads head_of ∙ long

    -- where no state has a head all lines are said
    pub none_left : IsLeastOf (heads_of heads) None → NoneBehind (has_line kind world) (head_of last)
    none_left none = none_next (length states) (has_line kind world) kept (are_kept flows states are kind) (head_of last) (heads_of heads) as_many all none

    module _ (place : ℕ) (id : Bor Given) (least : IsLeast (heads_of heads) (place, id_of id.now)) where
      pub inside : place < length states
      inside = let below : place < length (heads_of heads) = least.inside in let many = as_many in omega arith

      mine : IsNextBehind (kept place) (head_of last) (id_of id.now)
      mine = least_kept (length states) (has_line kind world) kept (are_kept flows states are kind) (head_of last) (heads_of heads) as_many all place (id_of id.now) least

      -- the least head is the next line's id
      pub next_line : IsNextBehind (has_line kind world) (head_of last) (id_of id.now)
      next_line = least_next (length states) (has_line kind world) kept (are_kept flows states are kind) (head_of last) (heads_of heads) as_many all place (id_of id.now) least

      -- its state moves on
      pub heads_go_on : (found : Option (Bor Given)) → IsHead (kept place) (Some (id_of id.now)) (head_of found) → AreHeads kept (Some (id_of id.now)) (heads_of (slice_set heads place found))
      heads_go_on found is = subst (AreHeads kept (Some (id_of id.now))) (sym (map-set head_of heads place found))
          (heads_after (length states) (has_line kind world) kept (are_kept flows states are kind) (head_of last) (heads_of heads) as_many all place (id_of id.now) least (head_of found) is)

      module _ (state : PartState) (at : state ≡ slice_index_or states place state) where
        -- its state has the answer
        pub next_answer : kept_answer kind flows (state_of state) (id_of id.now) ≡ line_answer kind flows world (id_of id.now)
        next_answer = ap (λ (s : PartState). kept_answer kind flows (state_of s) (id_of id.now)) at ∙ sym (answer_kept flows states are kind place (id_of id.now) state inside mine.found)

        pub fewer_lines : left kind (Some (id_of id.now)) states < left kind (head_of last) states
        fewer_lines = fewer_left kind (head_of last) (id_of id.now) states place state inside
            (subst (λ (p : Partition). IsNextBehind (keeps kind p) (head_of last) (id_of id.now)) (part_at states place state inside) mine)
