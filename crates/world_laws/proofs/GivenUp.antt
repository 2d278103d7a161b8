-- Entries were given up from a place on: those that were made and stood there are lost by the floor of the incarnation that began, and what is
-- settled lies before it.
use Rattle.std.proofs.Common.{◌≡◌, ◌≢◌, inl, inr, ◌<◌, ◌≤◌, ◌∙◌, ℕ, ◌+◌, List, [], ◌∷◌, ◌++◌, length, take, drop, Option, sym, ap, subst, arith, append_assoc, length-append}
use Rattle.std.specs.List.{All, Contains}
use Rattle.std.specs.Prelude.{filter}
use Rattle.std.proofs.lemmas.Bool.{cases_eq}
use Rattle.std.proofs.lemmas.Grind.{flat_map-append}
use Rattle.std.proofs.lemmas.List.{take-append-drop}
use Rattle.std.proofs.lemmas.List.Elements.{All-contains, All-filter, Contains-append_left, Contains-push_cases}
use Rattle.cell_frames.specs.Joined.{StoreView}
use Rattle.cell_tasks.specs.declared.given_out.GivenOut.{GivenOut}
use Rattle.cell_waits.specs.Waits.{Waiting, lasting}
use Rattle.commit_gate.proofs.Going.{all_front}
use Rattle.commit_gate.specs.Ledgers.{IsKnown, log_length}
use Rattle.commit_gate.specs.Refused.{Names}
use Rattle.dura_value.specs.Dependencies.{Lost}
use Rattle.dura_value.specs.Items.{Identity, Item, Entry, Floor}
use Rattle.hub_store.specs.Trail.{Settled, of_part}
use Rattle.log_items.specs.Entries.{items_in}
use Rattle.many_rules.proofs.Meeting.{below_or}
use Rattle.many_rules.specs.Ledgers.{ledgers}
use Rattle.many_rules.specs.Rules.{Rules}
use Rattle.spec_cell.specs.Moves.{given_up}
use Rattle.spec_cell.specs.Views.{CellView}
use Rattle.world_laws.proofs.Later.{Later, no_more, all_true_still, waits_still, lost_still}
use Rattle.world_laws.proofs.Lists.{fronts, among}
use Rattle.world_laws.specs.Made.{MadeEntry, line_of, name_of, line_in, IsReadyIn, IsTrue, CellMade}

-- the same behind the same
behind_same : {X : Type 0} (xs a b : List X) → xs ++ a ≡ xs ++ b → a ≡ b
behind_same [] a b same = same
behind_same (x ∷ xs) a b same = behind_same xs a b (cc same)

-- ---- the store

-- another incarnation of this partition began, from no earlier place on than where its log ends
pub floor_later : (rules : Rules) (old new : StoreView) (p : ℕ) (floor : Floor) → new.trail ≡ old.trail → new.floors p ≡ old.floors p ++ floor ∷ [] → ((q : ℕ) → q ≢ p → new.floors q ≡ old.floors q) → log_length (ledgers rules p (of_part p old.trail)) ≤ floor.from → Later rules old new
floor_later rules old new p floor trail here others behind = record {
  ready = λ e ready. record {
    settled = subst (λ (t : List Settled). e.position < log_length (ledgers rules e.partition (of_part e.partition t))) (sym trail) ready.settled;
    kept = λ lost. elim (cases_eq e.partition p) [
      | inl same ↦
          let there : Contains (old.floors p ++ floor ∷ []) lost.floor = subst (λ (f : List Floor). Contains f lost.floor) here (subst (λ (k : ℕ). Contains (new.floors k) lost.floor) same lost.there) in
          elim (Contains-push_cases (old.floors p) floor lost.floor there) [
            | inl before ↦ ready.kept (record { floor = lost.floor; there = subst (λ (k : ℕ). Contains (old.floors k) lost.floor) (sym same) before; partition = lost.partition; later = lost.later; below = lost.below })
            | inr this ↦
                let settled : e.position < log_length (ledgers rules p (of_part p old.trail)) = subst (λ (k : ℕ). e.position < log_length (ledgers rules k (of_part k old.trail))) same ready.settled in
                let from : floor.from ≡ lost.floor.from = ap (λ (f : Floor). f.from) this in
                let low = lost.below in
                absurd (omega (arith, settled, from, low, behind))
          ]
      | inr apart ↦ ready.kept (record { floor = lost.floor; there = subst (λ (f : List Floor). Contains f lost.floor) (others e.partition apart) lost.there; partition = lost.partition; later = lost.later; below = lost.below })
    ];
  };
  known = λ e known. subst (λ (t : List Settled). IsKnown (ledgers rules e.partition (of_part e.partition t)) e) (sym trail) known;
  floors = λ q one inside. elim (cases_eq q p) [
    | inl same ↦ subst (λ (k : ℕ). Contains (new.floors k) one) (sym same) (subst (λ (f : List Floor). Contains f one) (sym here) (Contains-append_left (old.floors p) (floor ∷ []) one (subst (λ (k : ℕ). Contains (old.floors k) one) same inside)))
    | inr apart ↦ subst (λ (f : List Floor). Contains f one) (sym (others q apart)) inside
  ];
}

-- ---- the cell

module _ (rules : Rules) (made : List MadeEntry) (old new : StoreView) (p : ℕ) (c : CellView) (later : Later rules old new) (cell : CellMade rules made old p c) (kept out : ℕ) (given : Option GivenOut) (floor : Floor)
    (here : Contains (new.floors p) floor) (of_p : floor.partition ≡ p) (incarnation : floor.incarnation ≡ c.incarnation + 1) (from : All (λ e. floor.from ≤ e.position) (drop kept c.entries))
    (ready : (item : Item) (e : Identity) → Contains (items_in (take out (take kept c.entries))) item → Names item e → IsReadyIn rules new e) where
  abbrev left : CellView
  left = given_up kept out given c

  -- all that it had is what is left and what was given up
  all_is : line_in c ≡ (c.slot.mine ++ take kept c.entries) ++ drop kept c.entries
  all_is = ap (λ (l : List Entry). c.slot.mine ++ l) (sym (take-append-drop kept c.entries)) ∙ sym (append_assoc c.slot.mine (take kept c.entries) (drop kept c.entries))

  -- one that doesn't stand among what is left is lost
  is_lost : (one : MadeEntry) → Contains made one → one.partition ≡ p → (behind : List Entry) → line_in c ≡ line_of one ++ behind → length (c.slot.mine ++ take kept c.entries) ≤ length one.front → Lost (new.floors p) (name_of one)
  is_lost one there at behind is short =
      let whole : one.front ++ one.entry ∷ behind ≡ (c.slot.mine ++ take kept c.entries) ++ drop kept c.entries = sym (append_assoc one.front (one.entry ∷ []) behind) ∙ sym is ∙ all_is in
      let rest = fronts one.front (one.entry ∷ behind) (c.slot.mine ++ take kept c.entries) (drop kept c.entries) whole short in
      let gone : drop kept c.entries ≡ rest.0 ++ one.entry ∷ behind =
      behind_same (c.slot.mine ++ take kept c.entries) (drop kept c.entries) (rest.0 ++ one.entry ∷ behind)
      (sym whole ∙ ap (λ (l : List Entry). l ++ one.entry ∷ behind) rest.1 ∙ append_assoc (c.slot.mine ++ take kept c.entries) rest.0 (one.entry ∷ behind)) in
      let low = All-contains (λ (e : Entry). floor.from ≤ e.position) (drop kept c.entries) one.entry from (subst (λ (l : List Entry). Contains l one.entry) (sym gone) (among rest.0 one.entry behind)) in
      let younger = cell.younger one there at in
      record { floor = floor; there = here; partition = of_p ∙ sym at; later = omega (arith, younger, incarnation); below = low }

  pub gives_up_cell : CellMade rules made new p (given_up kept out given c)
  gives_up_cell =
      let more = no_more p made in
      record {
        held = λ front entry behind split.
            cell.held front entry (behind ++ drop kept c.entries) (all_is ∙ ap (λ (l : List Entry). l ++ drop kept c.entries) split ∙ append_assoc front (entry ∷ behind) (drop kept c.entries));
        fate = λ one there at. elim (cell.fate one there at) [
          | inl begins ↦ elim (below_or (length one.front) (length (c.slot.mine ++ take kept c.entries))) [
            | inl inside ↦
                let long = length-append one.front (one.entry ∷ []) in
                inl (fronts (c.slot.mine ++ take kept c.entries) (drop kept c.entries) (line_of one) begins.0 (sym all_is ∙ begins.1) (omega (arith, long, inside)))
            | inr short ↦ inr (is_lost one there at begins.0 begins.1 short)
          ]
          | inr lost ↦ inr (lost_still rules p made made more old new later p (name_of one) lost)
        ];
        younger = λ one there at. let low = cell.younger one there at in omega (arith, low);
        holds = all_true_still rules p made made more old new later p (items_in (take kept c.entries))
            (all_front (IsTrue rules made old p) (items_in (take kept c.entries)) (items_in (drop kept c.entries))
            (subst (All (IsTrue rules made old p)) (flat_map-append (λ (e : Entry). e.items) (take kept c.entries) (drop kept c.entries)) (subst (λ (l : List Entry). All (IsTrue rules made old p) (items_in l)) (sym (take-append-drop kept c.entries)) cell.holds)));
        waits = waits_still rules p made made more old new later p (filter lasting c.waits) (All-filter lasting (λ (w : Waiting). IsTrue rules made old p w.item) c.waits cell.waits);
        ready = ready;
      }
