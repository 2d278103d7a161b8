-- What is picked, by a cell's view.
use Rattle.std.proofs.Common.{◌≡◌, ◌≢◌, ◌≤◌, ◌<◌, ◌+◌, ◌-◌, ◌==◌, inl, inr, ℕ, zero, suc, Bool, true, false, cond, List, [], ◌∷◌, Some, None, refl, sym, ◌∙◌, ap, subst, arith, get_or}
use Rattle.std.specs.Prelude.{◌⊎◌, MatchOption, length, take}
use Rattle.std.specs.List.{All}
use Rattle.std.proofs.lemmas.Bool.Decides.{nat_tests}
use Rattle.std.proofs.lemmas.List.{length-map, length-take-le}
use Rattle.commit_gate.specs.declared.ledger.Sending.{Sending}
use Rattle.dura_model.specs.Partition.{Partition}
use Rattle.dura_value.specs.Dependencies.{named_by, Ready}
use Rattle.dura_value.specs.Items.{Identity, Entry}
use Rattle.flow_syntax.specs.Syntax.{Flows}
use Rattle.log_items.specs.Plain.{entry_of}
use Rattle.part_steps.specs.States.{IsSound, state_of}
use Rattle.part_steps.specs.declared.state.PartState.{PartState}
use Rattle.spec_tracker.specs.Marks.{floors_of, length_in}
use Rattle.spec_tracker.specs.declared.marks.Marks.{Marks}
use Rattle.cell_steps.specs.Depends.{identity_in, last_made, dependencies}
use Rattle.spec_cell.specs.Picks.{AreReadyIn, identities, MayGo, HasPicked, CantPick}
use Rattle.spec_cell.specs.Seats.{Slot}
use Rattle.spec_cell.specs.Sends.{FrameSends}
use Rattle.cell_steps.specs.Steps.{AreSteps, entries_in}
use Rattle.spec_cell.specs.Views.{CellView, Stands, IsBase}
use Rattle.cell_steps.specs.declared.live.Live.{Live}
use Rattle.cell_steps.specs.declared.step.Step.{Step}
use Rattle.spec_cell.proofs.CellFacts.{view, base_of_self, entries_are, out_is}
use Rattle.spec_cell.proofs.FrontReady.{steps_apart, may_go, goes_further, before_ready}
use Rattle.cell_steps.specs.declared.round.Round.{Round}

-- the entry that made a state last isn't the one that comes next
other_made : (p : Partition) (e : Entry) → e.position ≡ p.position → MatchOption (last_made p) (Unit {0}) (λ (b : Identity). b ≢ identity_in p.number e)
other_made p e at = by (p.position == 0) refl
  where
    by : (t : Bool) → (p.position == 0) ≡ t → MatchOption (cond t None (Some (record { partition = p.number; incarnation = p.incarnation; position = p.position - 1 }))) (Unit {0}) (λ (b : Identity). b ≢ identity_in p.number e)
    by true zero_is = tt
    by false some_is = λ same.
        let position = ap (λ (one : Identity). one.position) same in
        let some : 0 < p.position = grind (arith, nat_tests, some_is) in
        omega (arith, position, at, some)

module _ (flows : Flows) (marks : Marks) (base : PartState) (sound : IsSound base) where
  abbrev number : ℕ
  number = (state_of base).number

  abbrev may_go_so : List Entry → ℕ → Type 0
  may_go_so entries n = All (AreReadyIn marks (identities number (take n entries))) (take n (dependencies number (last_made (state_of base)) entries))

  -- the entry before isn't ready
  not_before : (steps : List Step) → AreSteps flows base steps → (MatchOption (last_made (state_of base)) (Unit {0}) (Ready (length_in marks) (floors_of marks)) → ⊥) → (entries_in steps ≡ []) ⊎ (may_go_so (entries_in steps) 1 → ⊥)
  not_before [] are not_ready = inl refl
  not_before (s ∷ steps) are not_ready = inr (λ go. not_ready (before_ready marks number (last_made (state_of base)) (entry_of s.entry) (entries_in steps) (other_made (state_of base) (entry_of s.entry) are.0.position) go))

  -- the first entry names what isn't
  not_first : (steps : List Step) → AreSteps flows base steps → (0 < length steps → (d : Entry) → All (Ready (length_in marks) (floors_of marks)) (named_by (get_or (entries_in steps) 0 d).items) → ⊥) → (entries_in steps ≡ []) ⊎ (may_go_so (entries_in steps) 1 → ⊥)
  not_first [] are stop = inl refl
  not_first (s ∷ steps) are stop = inr (λ go.
      stop (omega arith) (entry_of s.entry)
      (goes_further marks number (last_made (state_of base)) (entries_in (s ∷ steps)) zero (entry_of s.entry) (omega arith) (steps_apart flows base (s ∷ steps) sound are) go))

none_out : (out own : ℕ) → out ≡ own → (0 < out → ⊥) → own ≡ 0
none_out zero own same none = sym same
none_out (suc out) own same none = absurd (none (omega arith))

some_entry : Entry
some_entry = record { position = 0; incarnation = 0; items = [] }

module _ (flows : Flows) (count : ℕ) (begin : ℕ → Partition) (number : ℕ) (slot : Slot) (now out owner : ℕ) (round : Round) (live : Live) (stands : Stands flows count (begin number) slot.mine now out live)
    (self : CellView) (view_is : view number slot (Some live) now out owner round ≡ self) (marks : Marks) where
  abbrev base : Partition
  base = state_of live.base

  is_base : IsBase flows count (begin self.number) self base
  is_base = base_of_self flows count begin number slot now out owner round live stands self view_is

  entries : entries_in live.steps.items ≡ self.entries
  entries = entries_are flows count begin number slot now out owner round live stands self view_is

  outs : out ≡ self.out
  outs = out_is flows count begin number slot now out owner round live stands self view_is

  pub cant_while : 0 < out → CantPick flows count (begin self.number) marks self self
  cant_while some = record { base = base; is_base = is_base; cause = inl (let same = outs in omega (arith, some, same)); same = refl }

  in_self : (entries_in live.steps.items ≡ []) ⊎ (may_go_so flows marks live.base stands.sound (entries_in live.steps.items) 1 → ⊥) → (self.entries ≡ []) ⊎ (MayGo marks base self 1 → ⊥)
  in_self = subst (λ (l : List Entry). (l ≡ []) ⊎ (may_go_so flows marks live.base stands.sound l 1 → ⊥)) entries

  pub cant_before : (MatchOption (last_made base) (Unit {0}) (Ready (length_in marks) (floors_of marks)) → ⊥) → CantPick flows count (begin self.number) marks self self
  cant_before not_ready = record { base = base; is_base = is_base; cause = inr (in_self (not_before flows marks live.base stands.sound live.steps.items stands.steps not_ready)); same = refl }

  pub cant_first : (0 < length live.steps.items → (d : Entry) → All (Ready (length_in marks) (floors_of marks)) (named_by (get_or (entries_in live.steps.items) 0 d).items) → ⊥) → CantPick flows count (begin self.number) marks self self
  cant_first stop = record { base = base; is_base = is_base; cause = inr (in_self (not_first flows marks live.base stands.sound live.steps.items stands.steps stop)); same = refl }

  pub has_picked : (n : ℕ) (frame : List Entry) (sending : List Sending) → FrameSends flows count (begin self.number) self n sending → frame ≡ take n (entries_in live.steps.items) → (0 < out → ⊥) → 0 < n → n ≤ 64 → n ≤ length live.steps.items → MatchOption (last_made base) (Unit {0}) (Ready (length_in marks) (floors_of marks))
      → All (λ (e : Entry). All (Ready (length_in marks) (floors_of marks)) (named_by e.items)) (take n (entries_in live.steps.items))
      → (n < length live.steps.items → n < 64 → (d : Entry) → All (Ready (length_in marks) (floors_of marks)) (named_by (get_or (entries_in live.steps.items) n d).items) → ⊥)
      → HasPicked flows count (begin self.number) marks self frame sending (view number slot (Some live) now n owner round)
  has_picked n frame sending sends frame_is rests some few within first ready stop =
      let long = length-map live.steps.items (λ (s : Step). entry_of s.entry) in
      let own : length frame ≡ n = ap length frame_is ∙ length-take-le n (entries_in live.steps.items) (omega (arith, within, long)) in
      let same = outs in
      let many = ap (λ (l : List Entry). length l) entries in
      let go = may_go marks base.number (last_made base) (entries_in live.steps.items) n first ready in
      let one : suc n ≡ length frame + 1 = omega (arith, own) in
      record {
        base = base;
        is_base = is_base;
        rests = none_out out self.out same rests;
        some = omega (arith, own, some);
        few = omega (arith, own, few);
        first = frame_is ∙ ap (λ (l : List Entry). take n l) entries ∙ ap (λ (k : ℕ). take k self.entries) (sym own);
        go = subst (MayGo marks base self) (sym own) (subst (λ (l : List Entry). All (AreReadyIn marks (identities base.number (take n l))) (take n (dependencies base.number (last_made base) l))) entries go);
        most = λ less inside further.
            let here : n < length live.steps.items = omega (arith, inside, own, many, long) in
            stop here (omega (arith, less, own)) some_entry
            (goes_further marks base.number (last_made base) (entries_in live.steps.items) n some_entry (omega (arith, here, long)) (steps_apart flows live.base live.steps.items stands.sound stands.steps)
            (subst (λ (l : List Entry). All (AreReadyIn marks (identities base.number (take (suc n) l))) (take (suc n) (dependencies base.number (last_made base) l))) (sym entries) (subst (MayGo marks base self) (sym one) further)));
        sends = subst (λ (k : ℕ). FrameSends flows count (begin self.number) self k sending) (sym own) sends;
        becomes = subst (λ (v : CellView). view number slot (Some live) now n owner round ≡ record v { out = length frame }) view_is (λ i. record (view number slot (Some live) now n owner round) { out = (sym own) i });
      }
