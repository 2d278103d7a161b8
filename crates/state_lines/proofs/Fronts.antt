-- What follows of tables from their definition: there is one, and what is said first is its front.
use Rattle.std.proofs.Common.{◌≡◌, ◌∙◌, ◌⊎◌, inl, inr, ℕ, Bool, List, [], ◌∷◌, ◌++◌, Option, Some, None, refl, sym, ap, subst, append_assoc}
use Rattle.std.proofs.lemmas.List.{append-nil}
use Rattle.dura_value.specs.Ids.{Id}
use Rattle.dura_value.specs.Messages.{Answer}
use Rattle.shared_maps.specs.IdOrder.{NoneBehind}
use Rattle.state_lines.specs.Table.{table_line, table_lines, last_of, AreNext, AreAll}
use Rattle.state_lines.specs.Fronts.{IsPartOfNext, AreFirst}
use Rattle.state_lines.proofs.Next.{table_lines-append}
use Rattle.state_lines.proofs.Order.{one_next}

module _ (there : Id → Bool) where
  -- what of the ids behind these is left
  record Goes (last : Option Id) (ids all : List Id) : Type 0 where
    rest : List Id
    split : all ≡ ids ++ rest
    next : AreNext there (last_of last ids) rest
    end : NoneBehind there (last_of (last_of last ids) rest)

  -- the first ids are a front of all
  goes_on : (last : Option Id) (ids all : List Id) → AreNext there last ids → AreNext there last all → NoneBehind there (last_of last all) → Goes last ids all
  goes_on last [] all first next end = record { rest = all; split = refl; next = next; end = end }
  goes_on last (id ∷ ids) [] first next end = absurd (end id first.0.found first.0.behind)
  goes_on last (id ∷ ids) (other ∷ all) first next end =
      let same : other ≡ id = one_next there last other id next.0 first.0 in
      let goes : Goes (Some id) ids all = goes_on (Some id) ids all first.1 (subst (λ (i : Id). AreNext there (Some i) all) same next.1) (subst (λ (i : Id). NoneBehind there (last_of (Some i) all)) same end) in
      record { rest = goes.rest; split = ap (λ (i : Id). i ∷ all) same ∙ ap (λ (l : List Id). id ∷ l) goes.split; next = goes.next; end = goes.end }

  nothing_left : (last : Option Id) (rest : List Id) → AreNext there last rest → NoneBehind there last → rest ≡ []
  nothing_left last [] next end = refl
  nothing_left last (id ∷ rest) next end = absurd (end id next.0.found next.0.behind)

  -- all ids are one list
  pub one_list : (ids others : List Id) → AreAll there ids → AreAll there others → ids ≡ others
  one_list ids others these those =
      let goes : Goes None ids others = goes_on None ids others these.next those.next those.end in
      sym (goes.split ∙ ap (λ (l : List Id). ids ++ l) (nothing_left (last_of None ids) goes.rest goes.next these.end) ∙ append-nil ids)

  module _ (standing : Id → Option Answer) where
    part_of_rest : (last : Option Id) (part : List ℕ) (rest : List Id) → (part ≡ []) ⊎ IsPartOfNext there standing last part → AreNext there last rest → NoneBehind there (last_of last rest)
        → (behind : List ℕ) × (table_lines standing rest ≡ part ++ behind)
    part_of_rest last part rest (inl nothing) next end = (table_lines standing rest, ap (λ (l : List ℕ). l ++ table_lines standing rest) (sym nothing))
    part_of_rest last part [] (inr going) next end = absurd (end going.id going.next.found going.next.behind)
    part_of_rest last part (id ∷ rest) (inr going) next end =
        let same : id ≡ going.id = one_next there last id going.id next.0 going.next in (
          going.rest ++ table_lines standing rest,
          ap (λ (i : Id). table_line i (standing i) ++ table_lines standing rest) same ∙ ap (λ (l : List ℕ). l ++ table_lines standing rest) going.front ∙ append_assoc part going.rest (table_lines standing rest),
        )

    -- the first lines, and a part of the next, are a front of all lines
    pub front_of_all : (lines part : List ℕ) (all : List Id) → AreFirst there standing lines part → AreAll there all → (behind : List ℕ) × (table_lines standing all ≡ (lines ++ part) ++ behind)
    front_of_all lines part all first those =
        let goes : Goes None first.ids all = goes_on None first.ids all first.next those.next those.end in
        let left : (behind : List ℕ) × (table_lines standing goes.rest ≡ part ++ behind) = part_of_rest (last_of None first.ids) part goes.rest first.going goes.next goes.end in (
          left.0,
          ap (table_lines standing) goes.split ∙ table_lines-append standing first.ids goes.rest ∙ ap (λ (l : List ℕ). table_lines standing first.ids ++ l) left.1
              ∙ ap (λ (l : List ℕ). l ++ (part ++ left.0)) (sym first.whole) ∙ sym (append_assoc lines part left.0),
        )
