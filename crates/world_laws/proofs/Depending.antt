-- Nothing that a cell holds depends on an entry that was given up, once each cell was judged by what is known of the logs.
use Rattle.std.proofs.Common.{◌≡◌, inl, inr, ◌<◌, ◌≤◌, ◌∙◌, false, ℕ, zero, suc, List, [], ◌∷◌, ◌++◌, length, take, drop, Option, Some, refl, sym, ap, subst, arith, slice_get, append_assoc}
use Rattle.std.specs.List.{All, Contains}
use Rattle.std.proofs.lemmas.List.Concat.{flat_map-cons}
use Rattle.std.proofs.lemmas.List.Elements.{All-head, All-tail, All-contains, Contains-append_left, Contains-append_right}
use Rattle.std.proofs.lemmas.Option.{slice_get_within, slice_get-get_or}
use Rattle.cell_frames.specs.Joined.{Joined}
use Rattle.cell_steps.specs.Depends.{identity_in, last_made, depends_on, dependencies}
use Rattle.commit_gate.proofs.Losing.{get_either}
use Rattle.commit_gate.specs.Refused.{Names}
use Rattle.commit_gate.specs.Refused.Names.{by_got, by_trim}
use Rattle.dura_value.specs.Dependencies.{named_by, Lost}
use Rattle.dura_value.specs.Items.{Identity, Item, Entry, Floor, took, got, ran, ended, fired, trim}
use Rattle.hub_store.specs.Trail.{of_part}
use Rattle.log_items.specs.Entries.{items_in}
use Rattle.many_logs.specs.Placing.{of_partition}
use Rattle.many_rules.proofs.Meeting.{below_or}
use Rattle.many_rules.specs.Rules.{Rules}
use Rattle.spec_cell.specs.Views.{CellView}
use Rattle.spec_tracker.specs.Marks.{floors_of}
use Rattle.spec_tracker.specs.declared.marks.Marks.{Marks}
use Rattle.world_core.specs.World.{WorldView, Stands}
use Rattle.world_steps.specs.Known.{AreMarksOf}
use Rattle.world_laws.proofs.Lists.{there_is}
use Rattle.world_laws.proofs.Marks.{lost_marked}
use Rattle.world_laws.proofs.Naming.{cons_cases, depends_named}
use Rattle.world_laws.proofs.Placing.{at_end, on_trail, held_unlost, line_unlost}
use Rattle.world_laws.specs.Depends.{StandsBefore, DependsOn, HoldsNothingLost, IsJudged}
use Rattle.world_laws.specs.Depends.DependsOn.{named, before, further}
use Rattle.world_laws.specs.Made.{MadeEntry, line_of, name_of, line_in, AreMade, IsGrounded}

-- ---- whom items name

-- an item among these that names an entry
record NamedIn (items : List Item) (d : Identity) : Type 0 where
  item : Item
  there : Contains items item
  names : Names item d

named_first : (item : Item) (items : List Item) (d : Identity) → Names item d → NamedIn (item ∷ items) d
named_first item items d names = record { item = item; there = (0, omega arith, refl); names = names }

named_later : (first : Item) (items : List Item) (d : Identity) → NamedIn items d → NamedIn (first ∷ items) d
named_later first items d found = record { item = found.item; there = Contains-append_right (first ∷ []) items found.item found.there; names = found.names }

-- each entry that items name one of them does
named_item : (items : List Item) (d : Identity) → Contains (named_by items) d → NamedIn items d
named_item [] d inside = absurd (let none : inside.0 < 0 = inside.1 in omega (arith, none))
named_item (got source number message ∷ items) d inside = elim (cons_cases source (named_by items) d inside) [
  | inl same ↦ named_first (got source number message) items d (subst (Names (got source number message)) same by_got)
  | inr there ↦ named_later (got source number message) items d (named_item items d there)
]
named_item (trim reader number ∷ items) d inside = elim (cons_cases reader (named_by items) d inside) [
  | inl same ↦ named_first (trim reader number) items d (subst (Names (trim reader number)) same by_trim)
  | inr there ↦ named_later (trim reader number) items d (named_item items d there)
]
named_item (took message ∷ items) d inside = named_later (took message) items d (named_item items d inside)
named_item (ran from to stamp ∷ items) d inside = named_later (ran from to stamp) items d (named_item items d inside)
named_item (ended id task outcome ∷ items) d inside = named_later (ended id task outcome) items d (named_item items d inside)
named_item (fired id task stamp ∷ items) d inside = named_later (fired id task stamp) items d (named_item items d inside)

-- an item of one of the first entries is an item of theirs
front_item : (n : ℕ) (entries : List Entry) (k : ℕ) (entry : Entry) (item : Item) → k < n → slice_get entries k ≡ Some entry → Contains entry.items item → Contains (items_in (take n entries)) item
front_item zero entries k entry item low is inside = absurd (omega (arith, low))
front_item (suc n) [] k entry item low is inside = absurd (cc is)
front_item (suc n) (first ∷ entries) zero entry item low is inside =
    let same : first ≡ entry = cc is in
    subst (λ (l : List Item). Contains l item) (sym (flat_map-cons (λ (e : Entry). e.items) first (take n entries)))
    (Contains-append_left first.items (items_in (take n entries)) item (subst (λ (e : Entry). Contains e.items item) (sym same) inside))
front_item (suc n) (first ∷ entries) (suc k) entry item low is inside =
    subst (λ (l : List Item). Contains l item) (sym (flat_map-cons (λ (e : Entry). e.items) first (take n entries)))
    (Contains-append_right first.items (items_in (take n entries)) item (front_item n entries k entry item (omega (arith, low)) is inside))

-- what holds of all that the entries from a place on depend on holds of what one of them names
named_behind : (Q : Identity → Type 0) (number : ℕ) (last : Option Identity) (entries : List Entry) (n k : ℕ) (entry : Entry) (d : Identity) → All (All Q) (drop n (dependencies number last entries)) → n ≤ k → slice_get entries k ≡ Some entry → Contains (named_by entry.items) d → Q d
named_behind Q number last [] n k entry d all low is inside = absurd (cc is)
named_behind Q number last (first ∷ entries) zero zero entry d all low is inside =
    let same : first ≡ entry = cc is in
    let here = depends_named Q last first (All-head (All Q) (depends_on last first) (dependencies number (Some (identity_in number first)) entries) all) in
    All-contains Q (named_by first.items) d here (subst (λ (e : Entry). Contains (named_by e.items) d) (sym same) inside)
named_behind Q number last (first ∷ entries) zero (suc k) entry d all low is inside =
    named_behind Q number (Some (identity_in number first)) entries zero k entry d (All-tail (All Q) (depends_on last first) (dependencies number (Some (identity_in number first)) entries) all) (omega arith) is inside
named_behind Q number last (first ∷ entries) (suc n) zero entry d all low is inside = absurd (omega (arith, low))
named_behind Q number last (first ∷ entries) (suc n) (suc k) entry d all low is inside = named_behind Q number (Some (identity_in number first)) entries n k entry d all (omega (arith, low)) is inside

-- ---- what an entry that was made depends on

module _ (rules : Rules) (made : List MadeEntry) (w : WorldView) (marks : Marks) (on : w.ended ≡ false) (stands : Stands rules w) (ground : IsGrounded rules w) (are : AreMade rules made w) (known : AreMarksOf rules w.store marks)
    (judged : (partition : ℕ) (c : CellView) → slice_get w.cells partition ≡ Some c → IsJudged rules marks c) where
  -- it was not given up
  abbrev Stays : Identity → Type 0
  Stays e = Lost (w.store.floors e.partition) e → ⊥

  -- what is known of the logs tells of all that was given up
  unmarked : (d : Identity) → (Lost (floors_of marks) d → ⊥) → Stays d
  unmarked d kept lost = elim (below_or d.partition rules.count) [
    | inl low ↦ kept (lost_marked rules w.store marks known d low lost)
    | inr past ↦
        let none : Contains [] lost.floor = subst (λ (f : List Floor). Contains f lost.floor) (ground.floors d.partition past) lost.there in
        let low : none.0 < 0 = none.1 in
        absurd (omega (arith, low))
  ]

  -- an entry that was made and not given up is still in its place
  record InPlace (one : MadeEntry) : Type 0 where
    cell : CellView
    there : slice_get w.cells one.partition ≡ Some cell
    below : one.partition < rules.count
    behind : List Entry
    line : line_in cell ≡ line_of one ++ behind

  in_place : (one : MadeEntry) → Contains made one → Stays (name_of one) → InPlace one
  in_place one there stays =
      let cell = there_is w.cells one.partition (are.below one there) in
      elim ((are.cells one.partition cell.0 cell.1).fate one there refl) [
        | inl begins ↦ record { cell = cell.0; there = cell.1; below = let low = are.below one there in let long = stands.many in omega (arith, low, long); behind = begins.0; line = begins.1 }
        | inr lost ↦ absurd (stays lost)
      ]

  module _ (one : MadeEntry) (place : InPlace one) where
    joined : Joined rules w.store one.partition place.cell
    joined = (stands.joined on one.partition place.cell place.there).1

    -- what an entry names that is settled was not given up, since that is settled too
    settled_names : (k : ℕ) → slice_get place.cell.slot.mine k ≡ Some one.entry → (d : Identity) → Contains (named_by one.entry.items) d → Stays d
    settled_names k is d inside =
        let on_it = on_trail one.partition w.store.trail one.entry k (subst (λ (l : List Entry). slice_get l k ≡ Some one.entry) joined.goes.mine is) in
        ground.unlost d (ground.named on_it.one d on_it.there (subst (λ (e : Entry). Contains (named_by e.items) d) (sym on_it.same) inside))

    -- nor what one names that is out, which is ready, nor one behind it, which was judged
    held_names : (k : ℕ) → slice_get place.cell.entries k ≡ Some one.entry → (d : Identity) → Contains (named_by one.entry.items) d → Stays d
    held_names k is d inside = elim (below_or k place.cell.out) [
      | inl out ↦
          let found = named_item one.entry.items d inside in
          ((are.cells one.partition place.cell place.there).ready found.item d (front_item place.cell.out place.cell.entries k one.entry found.item out is found.there) found.names).kept
      | inr behind ↦
          let by = judged one.partition place.cell place.there in
          unmarked d (named_behind (λ (e : Identity). Lost (floors_of marks) e → ⊥) by.base.number (last_made by.base) place.cell.entries place.cell.out k one.entry d by.kept behind is inside)
    ]

    names_stay : (d : Identity) → Contains (named_by one.entry.items) d → Stays d
    names_stay d inside =
        let is : slice_get (line_in place.cell) (length one.front) ≡ Some one.entry = subst (λ (l : List Entry). slice_get l (length one.front) ≡ Some one.entry) (sym place.line) (at_end one.front one.entry place.behind) in
        elim (get_either place.cell.slot.mine place.cell.entries (length one.front) one.entry is) [ inl settled ↦ settled_names (length one.front) settled d inside | inr held ↦ held_names held.0 held.2 d inside ]

    -- the one right before it is settled or held, and was not given up
    before_stays : (d : Identity) → StandsBefore rules one d → Stays d
    before_stays d is =
        let recovered = of_partition one.partition rules.recovered in
        let rest = one.entry ∷ place.behind in
        let line : (recovered ++ of_part one.partition w.store.trail) ++ place.cell.entries ≡ (is.before ++ is.entry ∷ []) ++ rest =
        append_assoc recovered (of_part one.partition w.store.trail) place.cell.entries
        ∙ ap (λ (l : List Entry). recovered ++ (l ++ place.cell.entries)) (sym joined.goes.mine)
        ∙ ap (λ (l : List Entry). recovered ++ l) (place.line ∙ append_assoc one.front (one.entry ∷ []) place.behind)
        ∙ sym (append_assoc recovered one.front rest)
        ∙ ap (λ (l : List Entry). l ++ rest) is.split in
        let there : slice_get ((recovered ++ of_part one.partition w.store.trail) ++ place.cell.entries) (length is.before) ≡ Some is.entry = subst (λ (l : List Entry). slice_get l (length is.before) ≡ Some is.entry) (sym line) (at_end is.before is.entry rest) in
        subst Stays (sym is.name) (line_unlost rules w on stands ground one.partition place.below place.cell place.there (length is.before) is.entry there)

  -- where an entry was not given up, nothing was that it depends on
  depends_stays : {e d : Identity} → DependsOn rules made e d → Stays e → Stays d
  depends_stays (named one d there inside) stays = names_stay one (in_place one there stays) d inside
  depends_stays (before one d there is) stays = before_stays one (in_place one there stays) d is
  depends_stays (further e d f near far) stays = depends_stays far (depends_stays near stays)

  pub nothing_lost : HoldsNothingLost rules made w
  nothing_lost partition c entry d there held depends =
      let below : partition < rules.count = let low = slice_get_within w.cells partition c there in let long = stands.many in omega (arith, low, long) in
      let is : slice_get c.entries held.0 ≡ Some entry = slice_get-get_or c.entries held.0 entry held.1 ∙ ap (λ (e : Entry). Some e) held.2 in
      depends_stays depends (held_unlost rules w on stands ground partition below c there held.0 entry is)
