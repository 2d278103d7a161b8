-- The world that the states of all partitions show has lines for just those ids that a state keeps something for, with its answers.
use Rattle.std.proofs.Common.{◌≡◌, ◌↔◌, ◌∙◌, ℕ, ◌<◌, length, true, List, [], ◌∷◌, Option, Some, None, option_map, is_some, slice_index_or, refl, ap, sym, subst, arith}
use Rattle.std.proofs.Math.Nat.{mod-lt}
use Rattle.std.proofs.lemmas.List.{get_or-map}
use Rattle.dura_model.specs.Partition.{Partition, fresh, instance_in, shown}
use Rattle.dura_model.specs.World.{World}
use Rattle.dura_value.specs.Digest.{fnv1a_64}
use Rattle.dura_value.specs.Ids.{Id, home, written}
use Rattle.dura_value.specs.Messages.{is_value}
use Rattle.flow_syntax.specs.Syntax.{Flows}
use Rattle.part_steps.specs.States.{AreStatesOfAll, IsStateOf, parts_in, state_of}
use Rattle.part_steps.specs.declared.state.PartState.{PartState}
use Rattle.state_lines.specs.Kinds.{has_line, line_answer, keeps, kept_answer}
use Rattle.state_lines.specs.Table.{answer_at, has_entity, has_instance}
use Rattle.state_lines.specs.declared.kind.Kind.{Kind}
use Rattle.state_lines.specs.declared.kind.Kind.TheVariants.{Entity, Instance}
use Rattle.state_lines.proofs.Merging.{AreKept, kept_there, there_kept}

some_is : {X : Type 0} (o : Option X) → is_some o ≡ true → (x : X) × (o ≡ Some x)
some_is None found = absurd (cc found)
some_is (Some x) found = (x, refl)

pub seen_there : {X Y : Type 0} (view : X → Y) (o : Option X) → is_some (option_map view o) ≡ is_some o
seen_there view None = refl
seen_there view (Some x) = refl

seen_twice : {X Y Z : Type 0} (f : X → Y) (g : Y → Z) (o : Option X) → option_map (λ x. g (f x)) o ≡ option_map g (option_map f o)
seen_twice f g None = refl
seen_twice f g (Some x) = refl

pub first_of_all : (states : List PartState) → 0 < length states → PartState
first_of_all [] some = absurd (omega arith)
first_of_all (s ∷ states) some = s

-- what the partition at a place knows is what the state there does
pub part_at : (states : List PartState) (place : ℕ) (d : PartState) → place < length states → parts_in states place ≡ state_of (slice_index_or states place d)
part_at states place d inside = get_or-map state_of states place d (fresh place) inside

-- what a state keeps lives at its place
lives : (kind : Kind) (count place : ℕ) (s : PartState) (id : Id) → IsStateOf count place s → keeps kind (state_of s) id ≡ true → home count id ≡ place
lives Entity count place s id is found =
    let there = some_is ((state_of s).entities id) found in
    ap (λ (n : ℕ). home n id) (sym is.among) ∙ is.sound.belongs.rows.reached id there.0 there.1 ∙ is.number
lives Instance count place s id is found =
    let there = some_is ((state_of s).instances id) found in
    ap (λ (n : ℕ). home n id) (sym is.among) ∙ is.sound.belongs.rows.kept id there.0 there.1 ∙ is.number

module _ (flows : Flows) (states : List PartState) where
  -- the world that they show
  abbrev pub world_of : World
  world_of = shown flows (length states) (parts_in states)

  has_kept : (kind : Kind) (id : Id) → has_line kind world_of id ≡ keeps kind (parts_in states (home (length states) id)) id
  has_kept Entity id = refl
  has_kept Instance id = seen_there (instance_in flows id) ((parts_in states (home (length states) id)).instances id)

  answers_kept : (kind : Kind) (id : Id) → line_answer kind flows world_of id ≡ kept_answer kind flows (parts_in states (home (length states) id)) id
  answers_kept Entity id = seen_twice (λ e. is_value e.value) (answer_at flows id) ((parts_in states (home (length states) id)).entities id)
  answers_kept Instance id = refl

  module _ (are : AreStatesOfAll states) where
    home_at : (kind : Kind) (place : ℕ) (id : Id) → place < length states → keeps kind (parts_in states place) id ≡ true → home (length states) id ≡ place
    home_at kind place id inside found =
        let d : PartState = first_of_all states are.some in
        lives kind (length states) place (slice_index_or states place d) id (are.each place d inside) (subst (λ (p : Partition). keeps kind p id ≡ true) (part_at states place d inside) found)

    pub are_kept : (kind : Kind) → AreKept (length states) (has_line kind world_of) (λ place. keeps kind (parts_in states place))
    are_kept kind = record {
      place_of = home (length states);
      inside = λ id. mod-lt (fnv1a_64 (written id)) are.some;
      same = has_kept kind;
      only = home_at kind;
    }

    -- the answer of a line is that of the state which keeps what it is for
    pub answer_kept : (kind : Kind) (place : ℕ) (id : Id) (d : PartState) → place < length states → keeps kind (parts_in states place) id ≡ true → line_answer kind flows world_of id ≡ kept_answer kind flows (state_of (slice_index_or states place d)) id
    answer_kept kind place id d inside found =
        answers_kept kind id ∙ ap (λ (p : ℕ). kept_answer kind flows (parts_in states p) id) (home_at kind place id inside found) ∙ ap (λ (p : Partition). kept_answer kind flows p id) (part_at states place d inside)

    is_kept : (kind : Kind) (id : Id) → has_line kind world_of id ≡ true ↔ ((place : ℕ) × (place < length states) × (keeps kind (parts_in states place) id ≡ true))
    unfolding are_kept
    is_kept kind id = (
      λ found. (home (length states) id, mod-lt (fnv1a_64 (written id)) are.some, there_kept (length states) (has_line kind world_of) (λ place. keeps kind (parts_in states place)) (are_kept kind) id found),
      λ has. kept_there (length states) (has_line kind world_of) (λ place. keeps kind (parts_in states place)) (are_kept kind) has.0 id has.1 has.2,
    )

pub entities_kept : (flows : Flows) (states : List PartState) → AreStatesOfAll states → (id : Id) → has_entity (shown flows (length states) (parts_in states)) id ≡ true ↔ ((place : ℕ) × (place < length states) × (is_some ((parts_in states place).entities id) ≡ true))
entities_kept flows states are id = is_kept flows states are Entity id

pub instances_kept : (flows : Flows) (states : List PartState) → AreStatesOfAll states → (id : Id) → has_instance (shown flows (length states) (parts_in states)) id ≡ true ↔ ((place : ℕ) × (place < length states) × (is_some ((parts_in states place).instances id) ≡ true))
instances_kept flows states are id = is_kept flows states are Instance id
