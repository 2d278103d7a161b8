-- Ids one after another, and their lines.
use Rattle.std.proofs.Common.{◌≡◌, ◌∙◌, ℕ, Bool, List, [], ◌∷◌, ◌++◌, Option, Some, refl, sym, ap, append_assoc}
use Rattle.std.proofs.lemmas.List.{append-nil}
use Rattle.dura_value.specs.Ids.{Id}
use Rattle.dura_value.specs.Messages.{Answer}
use Rattle.shared_maps.specs.IdOrder.{IsNextBehind}
use Rattle.state_lines.specs.Table.{table_line, table_lines, last_of, AreNext}

pub last_of-one_more : (last : Option Id) (ids : List Id) (id : Id) → last_of last (ids ++ id ∷ []) ≡ Some id
last_of-one_more last [] id = refl
last_of-one_more last (first ∷ ids) id = last_of-one_more (Some first) ids id

module _ (standing : Id → Option Answer) where
  pub table_lines-append : (ids more : List Id) → table_lines standing (ids ++ more) ≡ table_lines standing ids ++ table_lines standing more
  table_lines-append [] more = refl
  table_lines-append (id ∷ ids) more = ap (λ (l : List ℕ). table_line id (standing id) ++ l) (table_lines-append ids more) ∙ sym (append_assoc (table_line id (standing id)) (table_lines standing ids) (table_lines standing more))

  pub table_lines-one_more : (ids : List Id) (id : Id) → table_lines standing (ids ++ id ∷ []) ≡ table_lines standing ids ++ table_line id (standing id)
  table_lines-one_more ids id = table_lines-append ids (id ∷ []) ∙ ap (λ (l : List ℕ). table_lines standing ids ++ l) (append-nil (table_line id (standing id)))

module _ (there : Id → Bool) where
  pub one_more : (last : Option Id) (ids : List Id) (id : Id) → AreNext there last ids → IsNextBehind there (last_of last ids) id → AreNext there last (ids ++ id ∷ [])
  one_more last [] id next behind = (behind, tt)
  one_more last (first ∷ ids) id next behind = (next.0, one_more (Some first) ids id next.1 behind)
