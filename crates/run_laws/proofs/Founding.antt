-- Entries of one partition are founded on the ones before them.
use Rattle.std.proofs.Common.{◌≡◌, ◌⊎◌, inl, inr, ◌<◌, List, [], ◌∷◌, ◌++◌, Option, Some, Ok, refl, sym, ap, subst, ◌∙◌, append_assoc, arith}
use Rattle.std.specs.List.{All, Contains}
use Rattle.std.specs.Prelude.{MatchOption}
use Rattle.std.proofs.lemmas.List.{append-nil, map-append}
use Rattle.dura_value.specs.Reading.{◌>>=◌}
use Rattle.dura_value.specs.Dependencies.{Committed, names_of, named_by, newest_of, or_later, IsRightBefore, FollowsIn, Founded}
use Rattle.dura_value.specs.Dependencies.Founded.{none, one_more}
use Rattle.dura_model.specs.Partition.{Partition, fresh, enter, accepted, label_in, with_part}
use Rattle.dura_model.specs.Placed.{AreShown}
use Rattle.dura_model.specs.Steps.{Label}
use Rattle.dura_model.proofs.Kept.{fresh_shown, item_keeps, item_stands, enter_keeps}
use Rattle.dura_value.specs.Items.{Identity, Item, took, got, ran, ended, fired, trim, Entry}
use Rattle.flow_syntax.specs.Syntax.{Flows}
use Rattle.many_logs.specs.Labels.{state_next}
use Rattle.dura_model.specs.Entries.{or_place, all_accepted, entry_accepted, placed, AllGiven}
use Rattle.dura_model.proofs.Alone.{are_shown_alone, accepted_is_step}
use Rattle.dura_model.proofs.Appending.{both_placed}
use Rattle.run_rules.proofs.EntriesLead.{entries_lead}
use Rattle.part_items.specs.Numbered.{Next, behind, IsNumbered}
use Rattle.run_laws.specs.Leaves.{committed, committed_in}
use Rattle.dura_value.proofs.Basics.{both_some}

-- ---- the entry right before

newest_last : (front : List Entry) (last : Entry) → newest_of 0 (names_of (committed_in (front ++ last ∷ []))) ≡ Some (committed last).name
newest_last [] last = refl
newest_last (entry ∷ front) last = ap (λ (o : Option Identity). or_later o (committed entry).name) (newest_last front last)

ends : (entries : List Entry) → (entries ≡ []) ⊎ ((front : List Entry) × (last : Entry) × (entries ≡ front ++ last ∷ []))
ends [] = inl refl
ends (entry ∷ entries) = elim (ends entries) [
  | inl empty ↦ inr ([], entry, ap (λ (l : List Entry). entry ∷ l) empty)
  | inr more ↦ inr (entry ∷ more.0, more.1, ap (λ (l : List Entry). entry ∷ l) more.2)
]

right_before : (next : Next) (front : List Entry) (last e : Entry) (rest : List Entry) → IsNumbered next (front ++ last ∷ e ∷ rest) → IsRightBefore (committed last).name (committed e).name
right_before next [] last e rest numbered = record { partition = refl; position = numbered.2.0; incarnation = numbered.2.1 }
right_before next (entry ∷ front) last e rest numbered = right_before (behind entry) front last e rest numbered.2

follows_known : (before : List Entry) (e : Entry) (rest : List Entry) → IsNumbered (state_next (fresh 0)) (before ++ e ∷ rest) → FollowsIn (names_of (committed_in before)) (committed e).name
follows_known before e rest numbered = elim (ends before) [
  | inl empty ↦
      subst (λ (l : List Entry). FollowsIn (names_of (committed_in l)) (committed e).name) (sym empty)
      (subst (λ (l : List Entry). IsNumbered (state_next (fresh 0)) (l ++ e ∷ rest)) empty numbered).0
  | inr more ↦
      let there = subst (λ (l : List Entry). IsNumbered (state_next (fresh 0)) (l ++ e ∷ rest)) more.2 numbered in
      let grouped = subst (IsNumbered (state_next (fresh 0))) (append_assoc more.0 (more.1 ∷ []) (e ∷ rest)) there in
      subst (λ (l : List Entry). FollowsIn (names_of (committed_in l)) (committed e).name) (sym more.2)
      (subst (λ (o : Option Identity). MatchOption o (e.position ≡ 0) (λ b. IsRightBefore b (committed e).name)) (sym (newest_last more.0 more.1)) (right_before (state_next (fresh 0)) more.0 more.1 e rest grouped))
]

-- ---- what items name

no_name : (item : Item) (label : Label) (items : List Item) → label_in item ≡ Some label → named_by (item ∷ items) ≡ named_by items
no_name (took message) label items is = refl
no_name (got source number message) label items is = absurd (cc is)
no_name (ran from to stamp) label items is = refl
no_name (ended id task outcome) label items is = refl
no_name (fired id task stamp) label items is = refl
no_name (trim reader number) label items is = absurd (cc is)

-- each of these names no entry
abbrev Unnamed : List Entry → Type 0
Unnamed [] = Unit {0}
Unnamed (entry ∷ entries) = (named_by entry.items ≡ []) × Unnamed entries

unnamed_behind : (a b : List Entry) → Unnamed (a ++ b) → Unnamed b
unnamed_behind [] b all = all
unnamed_behind (entry ∷ a) b all = unnamed_behind a b all.1

module _ (flows : Flows) where
  items_unnamed : (items : List Item) (p q : Partition) → AreShown 1 (λ place. p) → 0 < p.position → all_accepted flows 1 p items ≡ Some q → named_by items ≡ []
  items_unnamed [] p q shows begun all = refl
  items_unnamed (item ∷ items) p q shows begun all =
      let first = both_some (accepted flows 1 p item) (λ next. all_accepted flows 1 next items) q all in
      let next = first.0 in
      let is = accepted_is_step flows p next item (shows.each 0 (omega arith)).number first.1 in
      let here = are_shown_alone (with_part (λ place. p) 0 next) next refl (item_keeps flows 1 (λ place. p) 0 item next shows (omega arith) begun is.alone first.1) in
      let stands = item_stands flows 1 (λ place. p) 0 item next shows (omega arith) begun first.1 in
      no_name item is.label items is.labelled ∙ items_unnamed items next q here (omega (arith, begun, stands.position)) first.2

  entries_unnamed : (p q : Partition) (entries : List Entry) → AreShown 1 (λ place. p) → IsNumbered (state_next p) entries → AllGiven flows 1 p entries → placed flows 1 p entries ≡ Ok q → Unnamed entries
  entries_unnamed p q [] shows numbered given all = tt
  entries_unnamed p q (entry ∷ entries) shows numbered given all =
      let first = both_placed entry.position (entry_accepted flows 1 p entry) (λ next. placed flows 1 next entries) q all in
      let next = first.0 in
      let entered = enter entry.incarnation p in
      let begins = are_shown_alone (with_part (λ place. p) 0 entered) entered refl (enter_keeps flows 1 (λ place. p) 0 entry.incarnation shows (omega arith) numbered.1) in
      let alone : placed flows 1 p (entry ∷ []) ≡ Ok next = ap (λ (o : Option Partition). or_place entry.position o >>= λ n. placed flows 1 n []) first.1 in
      let led = entries_lead flows p next (entry ∷ []) shows (numbered.0, numbered.1, tt) (given.0, λ n is. tt) alone in (
        items_unnamed entry.items entered next begins (omega arith) first.1,
        entries_unnamed next q entries led.1 (subst (λ (n : Next). IsNumbered n entries) (sym led.2) numbered.2) (given.1 next first.1) first.2,
      )

-- ---- both

founded_on : (recovered acc rest : List Entry) → IsNumbered (state_next (fresh 0)) (recovered ++ (acc ++ rest)) → Unnamed rest → Founded (names_of (committed_in recovered)) (committed_in acc)
    → Founded (names_of (committed_in recovered)) (committed_in (acc ++ rest))
founded_on recovered acc [] numbered unnamed before = subst (λ (l : List Entry). Founded (names_of (committed_in recovered)) (committed_in l)) (sym (append-nil acc)) before
founded_on recovered acc (e ∷ rest) numbered unnamed before =
    let known : names_of (committed_in (recovered ++ acc)) ≡ names_of (committed_in recovered) ++ names_of (committed_in acc) =
    ap names_of (map-append committed recovered acc) ∙ map-append (λ (c : Committed). c.name) (committed_in recovered) (committed_in acc) in
    let grouped = subst (IsNumbered (state_next (fresh 0))) (sym (append_assoc recovered acc (e ∷ rest))) numbered in
    let one = one_more (committed e) before (record {
      follows = subst (λ (l : List Identity). FollowsIn l (committed e).name) known (follows_known (recovered ++ acc) e rest grouped);
      named = subst (λ (l : List Identity). All (Contains (names_of (committed_in recovered) ++ names_of (committed_in acc))) l) (sym unnamed.0) (λ k d inside. absurd (omega (arith, inside)));
    }) in
    let longer = subst (Founded (names_of (committed_in recovered))) (sym (map-append committed acc (e ∷ []))) one in
    let regrouped : recovered ++ (acc ++ (e ∷ rest)) ≡ recovered ++ ((acc ++ (e ∷ [])) ++ rest) = ap (λ (l : List Entry). recovered ++ l) (sym (append_assoc acc (e ∷ []) rest)) in
    subst (λ (l : List Entry). Founded (names_of (committed_in recovered)) (committed_in l)) (append_assoc acc (e ∷ []) rest)
    (founded_on recovered (acc ++ e ∷ []) rest (subst (IsNumbered (state_next (fresh 0))) regrouped numbered) unnamed.1 longer)

-- entries behind others that are accepted one after another
pub entries_founded : (flows : Flows) (recovered more : List Entry) (q : Partition) → IsNumbered (state_next (fresh 0)) (recovered ++ more) → placed flows 1 (fresh 0) (recovered ++ more) ≡ Ok q → AllGiven flows 1 (fresh 0) (recovered ++ more)
    → Founded (names_of (committed_in recovered)) (committed_in more)
entries_founded flows recovered more q numbered made given =
    let unnamed = entries_unnamed flows (fresh 0) q (recovered ++ more) (are_shown_alone fresh (fresh 0) refl (fresh_shown 1)) numbered given made in
    founded_on recovered [] more numbered (unnamed_behind recovered more unnamed) none
