-- Where entries of a partition stand: among those that were recovered or settled, or among those that its cell holds. No such entry is lost.
use Rattle.std.proofs.Common.{◌≡◌, inl, inr, ◌<◌, ◌==◌, cond, Bool, true, false, ℕ, zero, suc, ◌+◌, List, [], ◌∷◌, ◌++◌, length, Some, refl, sym, ap, subst, arith, slice_get}
use Rattle.std.specs.List.{Contains}
use Rattle.std.proofs.lemmas.List.Elements.{Contains-append_right}
use Rattle.cell_frames.proofs.Frames.{stands_behind}
use Rattle.cell_frames.specs.Joined.{Joined}
use Rattle.commit_gate.proofs.Losing.{get_either}
use Rattle.commit_gate.specs.Ledgers.{Ledger, IsKnown}
use Rattle.dura_value.specs.Dependencies.{Lost}
use Rattle.dura_value.specs.Items.{Entry}
use Rattle.hub_store.specs.Trail.{Settled, of_part}
use Rattle.log_items.specs.Entries.{incarnations_in, identity_at, AreInTurn}
use Rattle.many_logs.specs.Placing.{of_partition}
use Rattle.many_rules.specs.Local.{in_turn}
use Rattle.many_rules.specs.Rules.{Rules}
use Rattle.spec_cell.specs.Views.{CellView, HasFacts, next_at}
use Rattle.world_core.specs.World.{WorldView, Stands}
use Rattle.world_laws.proofs.Lines.{begin_position, settled_turn, shows, many}
use Rattle.world_laws.specs.Made.{IsKnownIn, IsGrounded}

-- ---- lists

-- what stands behind these, before others
pub at_end : {X : Type 0} (xs : List X) (x : X) (ys : List X) → slice_get ((xs ++ x ∷ []) ++ ys) (length xs) ≡ Some x
at_end [] x ys = refl
at_end (first ∷ xs) x ys = at_end xs x ys

-- what stands in turn stands at its place
turn_at : (position : ℕ) (entries : List Entry) (k : ℕ) (e : Entry) → AreInTurn position entries → slice_get entries k ≡ Some e → e.position ≡ position + k
turn_at position [] k e turn is = absurd (cc is)
turn_at position (first ∷ entries) zero e turn is =
    let same : first ≡ e = cc is in
    let here = turn.0 in
    let place : first.position ≡ e.position = ap (λ (one : Entry). one.position) same in
    omega (arith, here, place)
turn_at position (first ∷ entries) (suc k) e turn is = let rest = turn_at (position + 1) entries k e turn.1 is in omega (arith, rest)

incarnation_at : (entries : List Entry) (k : ℕ) (e : Entry) → slice_get entries k ≡ Some e → slice_get (incarnations_in entries) k ≡ Some e.incarnation
incarnation_at [] k e is = absurd (cc is)
incarnation_at (first ∷ entries) zero e is = let same : first ≡ e = cc is in ap (λ (one : Entry). Some one.incarnation) same
incarnation_at (first ∷ entries) (suc k) e is = incarnation_at entries k e is

-- an entry of a partition that is settled, on the trail
pub record OnTrail (trail : List Settled) (e : Entry) : Type 0 where
  pub one : Settled
  pub there : Contains trail one
  pub same : one.entry ≡ e

on_trail_more : (first : Settled) (trail : List Settled) (e : Entry) → OnTrail trail e → OnTrail (first ∷ trail) e
on_trail_more first trail e found = record { one = found.one; there = Contains-append_right (first ∷ []) trail found.one found.there; same = found.same }

on_trail_by : (p : ℕ) (first : Settled) (trail : List Settled) (e : Entry) → ((k : ℕ) → slice_get (of_part p trail) k ≡ Some e → OnTrail trail e) → (own : Bool) (k : ℕ) → slice_get (cond own (first.entry ∷ of_part p trail) (of_part p trail)) k ≡ Some e → OnTrail (first ∷ trail) e
on_trail_by p first trail e rest true zero is = record { one = first; there = (0, omega arith, refl); same = cc is }
on_trail_by p first trail e rest true (suc k) is = on_trail_more first trail e (rest k is)
on_trail_by p first trail e rest false k is = on_trail_more first trail e (rest k is)

pub on_trail : (p : ℕ) (trail : List Settled) (e : Entry) (k : ℕ) → slice_get (of_part p trail) k ≡ Some e → OnTrail trail e
on_trail p [] e k is = absurd (cc is)
on_trail p (first ∷ trail) e k is = on_trail_by p first trail e (λ i at. on_trail p trail e i at) (first.partition == p) k is

-- ---- a partition's entries

module _ (rules : Rules) (w : WorldView) (on : w.ended ≡ false) (stands : Stands rules w) (ground : IsGrounded rules w) (p : ℕ) (below : p < rules.count) (c : CellView) (there : slice_get w.cells p ≡ Some c) where
  -- what was recovered and settled
  abbrev pub settled : List Entry
  settled = of_partition p rules.recovered ++ of_part p w.store.trail

  joined : Joined rules w.store p c
  joined = (stands.joined on p c there).1

  facts : HasFacts rules.flows rules.count (rules.begin p) c
  facts = ground.facts p c there

  -- one of them is known
  settled_known : (k : ℕ) (e : Entry) → slice_get settled k ≡ Some e → IsKnownIn rules w.store (identity_at p e)
  settled_known k e is =
      let position : e.position ≡ 0 + k = turn_at 0 settled k e (settled_turn rules ground.begun p below w.store.trail ground.have) is in
      let place : k ≡ e.position = omega (arith, position) in
      let here : slice_get (incarnations_in settled) e.position ≡ Some e.incarnation = subst (λ (n : ℕ). slice_get (incarnations_in settled) n ≡ Some e.incarnation) place (incarnation_at settled k e is) in
      subst (λ (l : Ledger). IsKnown l (identity_at p e)) (sym (shows rules ground.begun p below w.store.trail ground.have)) here

  settled_unlost : (k : ℕ) (e : Entry) → slice_get settled k ≡ Some e → Lost (w.store.floors p) (identity_at p e) → ⊥
  settled_unlost k e is = ground.unlost (identity_at p e) (settled_known k e is)

  -- one that the cell holds was not given up
  pub held_unlost : (k : ℕ) (e : Entry) → slice_get c.entries k ≡ Some e → Lost (w.store.floors p) (identity_at p e) → ⊥
  held_unlost k e is lost =
      let at = (stands_behind rules.flows rules.count c.slot.mine (rules.begin p) facts.base facts.settled).position in
      let first = begin_position rules ground.begun p below in
      let all = many rules ground.begun p below w.store.trail ground.have in
      let mine : length c.slot.mine ≡ length (of_part p w.store.trail) = ap length joined.goes.mine in
      let position : e.position ≡ facts.base.position + k = turn_at facts.base.position c.entries k e (in_turn (next_at facts.base) c.entries facts.numbered) is in
      let low = joined.goes.unlost.unlost k e is lost.floor lost.there lost.later in
      let from = lost.below in
      omega (arith, at, first, all, mine, position, low, from)

  -- none of all these is lost
  pub line_unlost : (k : ℕ) (e : Entry) → slice_get (settled ++ c.entries) k ≡ Some e → Lost (w.store.floors p) (identity_at p e) → ⊥
  line_unlost k e is = elim (get_either settled c.entries k e is) [ inl before ↦ settled_unlost k e before | inr behind ↦ held_unlost behind.0 e behind.2 ]
