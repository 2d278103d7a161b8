-- The first entries whose dependencies are ready, or among them.
use Rattle.std.proofs.Common.{◌≡◌, ◌≢◌, ◌≤◌, ◌<◌, ◌&&◌, ◌==◌, inl, inr, ℕ, zero, suc, Bool, true, false, cond, List, [], ◌∷◌, Option, Some, None, refl, sym, ◌∙◌, ap, subst, arith, get_or}
use Rattle.std.specs.Prelude.{◌⊎◌, MatchOption, not, length, take}
use Rattle.std.specs.List.{All, Contains}
use Rattle.std.proofs.lemmas.Bool.Decides.{nat_tests}
use Rattle.std.proofs.lemmas.List.{length-map, get_or-map, take-map, take_all}
use Rattle.std.proofs.lemmas.List.Elements.{All-cons, All-head, All-tail, All-contains, All-contains_itself}
use Rattle.dura_model.specs.Entries.{all_accepted}
use Rattle.dura_model.specs.Partition.{Partition, accepted, enter}
use Rattle.dura_value.proofs.Basics.{both_some}
use Rattle.dura_value.specs.Dependencies.{named_by, Ready}
use Rattle.dura_value.specs.Items.{Identity, Item, took, got, ran, ended, fired, trim, Entry}
use Rattle.flow_syntax.specs.Syntax.{Flows}
use Rattle.log_items.specs.Plain.{entry_of, items_of}
use Rattle.part_steps.specs.States.{IsSound, state_of, count_of}
use Rattle.part_steps.specs.declared.state.PartState.{PartState}
use Rattle.spec_tracker.specs.Marks.{floors_of, length_in}
use Rattle.spec_tracker.specs.declared.marks.Marks.{Marks}
use Rattle.cell_steps.specs.Depends.{identity_in, depends_on, dependencies}
use Rattle.spec_cell.specs.Picks.{identities, AreReadyIn}
use Rattle.cell_steps.specs.Steps.{AreSteps, entries_in}
use Rattle.cell_steps.specs.declared.step.Step.{Step}
use Rattle.cell_steps.proofs.Staying.{item_stays, items_stay}
use Rattle.cell_steps.proofs.Walks.{all_whole_shown}

none_all : {X : Type 0} (P : X → Type 0) → All P []
none_all P = λ k d inside. absurd (omega (arith, inside))

-- ---- what items name is of other partitions

apart_so : (b : Bool) (m n : ℕ) (x y : Partition) → cond (not (m == n) && b) (Some x) None ≡ Some y → m ≢ n
apart_so b m n x y is = by (m == n) refl
  where
    by : (t : Bool) → (m == n) ≡ t → m ≢ n
    by true so = let never : None ≡ Some y = ap (λ (u : Bool). cond (not u && b) (Some x) None) (sym so) ∙ is in absurd (cc never)
    by false so = λ same. let wrong : (m == n) ≡ true = grind (arith, nat_tests, same) in cc (so, wrong)

module _ (flows : Flows) (count : ℕ) where
  items_apart : (items : List Item) (p q : Partition) → p.number < count → all_accepted flows count p items ≡ Some q → All (λ (e : Identity). e.partition ≢ p.number) (named_by items)
  items_apart [] p q below is = none_all (λ (e : Identity). e.partition ≢ p.number)
  items_apart (item ∷ items) p q below is =
      let first = both_some (accepted flows count p item) (λ next. all_accepted flows count next items) q is in
      let same = item_stays flows count p first.0 item below first.1 in
      let rest = subst (λ (n : ℕ). All (λ (e : Identity). e.partition ≢ n) (named_by items)) same.number (items_apart items first.0 q (subst (λ (n : ℕ). n < count) (sym same.number) below) first.2) in
      by item first.0 first.1 rest
    where
      by : (one : Item) (next : Partition) → accepted flows count p one ≡ Some next → All (λ (e : Identity). e.partition ≢ p.number) (named_by items) → All (λ (e : Identity). e.partition ≢ p.number) (named_by (one ∷ items))
      by (took message) next made rest = rest
      by (got source number message) next made rest = All-cons (λ (e : Identity). e.partition ≢ p.number) source (named_by items) (apart_so _ source.partition p.number _ next made) rest
      by (ran from to stamp) next made rest = rest
      by (ended id task outcome) next made rest = rest
      by (fired id task stamp) next made rest = rest
      by (trim reader number) next made rest = All-cons (λ (e : Identity). e.partition ≢ p.number) reader (named_by items) (apart_so _ reader.partition p.number _ next made) rest

-- of each step's entry
pub steps_apart : (flows : Flows) (before : PartState) (steps : List Step) → IsSound before → AreSteps flows before steps → All (λ (e : Entry). All (λ (d : Identity). d.partition ≢ (state_of before).number) (named_by e.items)) (entries_in steps)
steps_apart flows before [] sound are = none_all (λ (e : Entry). All (λ (d : Identity). d.partition ≢ (state_of before).number) (named_by e.items))
steps_apart flows before (s ∷ steps) sound are =
    let stays = items_stay flows (count_of before) (items_of s.entry.items) (enter s.entry.incarnation (state_of before)) (state_of s.after) sound.below are.0.accepted in
    All-cons (λ (e : Entry). All (λ (d : Identity). d.partition ≢ (state_of before).number) (named_by e.items)) (entry_of s.entry) (entries_in steps)
    (items_apart flows (count_of before) (items_of s.entry.items) (enter s.entry.incarnation (state_of before)) (state_of s.after) sound.below are.0.accepted)
    (subst (λ (n : ℕ). All (λ (e : Entry). All (λ (d : Identity). d.partition ≢ n) (named_by e.items)) (entries_in steps)) stays.number (steps_apart flows s.after steps are.0.sound are.1))

-- ---- ready, or in the frame

module _ (marks : Marks) (number : ℕ) where
  abbrev IsReady : Identity → Type 0
  IsReady = Ready (length_in marks) (floors_of marks)

  abbrev MayBe : List Identity → Identity → Type 0
  MayBe frame e = IsReady e ⊎ Contains frame e

  all_so : (frame named : List Identity) → All IsReady named → All (MayBe frame) named
  all_so frame [] ready = none_all (MayBe frame)
  all_so frame (e ∷ named) ready = All-cons (MayBe frame) e named (inl (All-head IsReady e named ready)) (all_so frame named (All-tail IsReady e named ready))

  own_so : (frame : List Identity) (before : Option Identity) (e : Entry) → MatchOption before (Unit {0}) (MayBe frame) → All IsReady (named_by e.items) → All (MayBe frame) (depends_on before e)
  own_so frame None e first ready = all_so frame (named_by e.items) ready
  own_so frame (Some before) e first ready = All-cons (MayBe frame) before (named_by e.items) first (all_so frame (named_by e.items) ready)

  go_on : (frame : List Identity) (before : Option Identity) (entries : List Entry) (n : ℕ) → MatchOption before (Unit {0}) (MayBe frame) → All (Contains frame) (identities number (take n entries)) → All (λ (e : Entry). All IsReady (named_by e.items)) (take n entries)
      → All (AreReadyIn marks frame) (take n (dependencies number before entries))
  go_on frame before entries zero first inside ready = none_all (AreReadyIn marks frame)
  go_on frame before [] (suc n) first inside ready = none_all (AreReadyIn marks frame)
  go_on frame before (e ∷ entries) (suc n) first inside ready =
      All-cons (AreReadyIn marks frame) (depends_on before e) (take n (dependencies number (Some (identity_in number e)) entries))
      (own_so frame before e first (All-head (λ (one : Entry). All IsReady (named_by one.items)) e (take n entries) ready))
      (go_on frame (Some (identity_in number e)) entries n (inr (All-head (Contains frame) (identity_in number e) (identities number (take n entries)) inside)) (All-tail (Contains frame) (identity_in number e) (identities number (take n entries)) inside)
      (All-tail (λ (one : Entry). All IsReady (named_by one.items)) e (take n entries) ready))

  is_first : (frame : List Identity) (before : Option Identity) → MatchOption before (Unit {0}) IsReady → MatchOption before (Unit {0}) (MayBe frame)
  is_first frame None first = tt
  is_first frame (Some before) first = inl first

  -- the first so many may go
  pub may_go : (before : Option Identity) (entries : List Entry) (n : ℕ) → MatchOption before (Unit {0}) IsReady → All (λ (e : Entry). All IsReady (named_by e.items)) (take n entries)
      → All (AreReadyIn marks (identities number (take n entries))) (take n (dependencies number before entries))
  may_go before entries n first ready =
      go_on (identities number (take n entries)) before entries n (is_first (identities number (take n entries)) before first) (All-contains_itself (identities number (take n entries))) ready

  -- ---- and no more

  here : (entries : List Entry) → All (λ (e : Identity). e.partition ≡ number) (identities number entries)
  here [] = none_all (λ (e : Identity). e.partition ≡ number)
  here (e ∷ entries) = All-cons (λ (one : Identity). one.partition ≡ number) (identity_in number e) (identities number entries) refl (here entries)

  ready_apart : (entries : List Entry) (named : List Identity) → All (λ (d : Identity). d.partition ≢ number) named → All (MayBe (identities number entries)) named → All IsReady named
  ready_apart entries [] apart may_be = none_all IsReady
  ready_apart entries (d ∷ named) apart may_be =
      All-cons IsReady d named
      (elim (All-head (MayBe (identities number entries)) d named may_be) [
        | inl ready ↦ ready
        | inr inside ↦ absurd (All-head (λ (one : Identity). one.partition ≢ number) d named apart (All-contains (λ (one : Identity). one.partition ≡ number) (identities number entries) d (here entries) inside))
      ])
      (ready_apart entries named (All-tail (λ (one : Identity). one.partition ≢ number) d named apart) (All-tail (MayBe (identities number entries)) d named may_be))

  behind_own : (frame : List Identity) (before : Option Identity) (e : Entry) → All (MayBe frame) (depends_on before e) → All (MayBe frame) (named_by e.items)
  behind_own frame None e all = all
  behind_own frame (Some before) e all = All-tail (MayBe frame) before (named_by e.items) all

  named_at : (frame : List Identity) (before : Option Identity) (entries : List Entry) (n : ℕ) (d : Entry) → n < length entries → All (AreReadyIn marks frame) (take (suc n) (dependencies number before entries)) → All (MayBe frame) (named_by (get_or entries n d).items)
  named_at frame before [] n d inside all = absurd (omega (arith, inside))
  named_at frame before (e ∷ entries) zero d inside all = behind_own frame before e (All-head (AreReadyIn marks frame) (depends_on before e) (take zero (dependencies number (Some (identity_in number e)) entries)) all)
  named_at frame before (e ∷ entries) (suc n) d inside all =
      named_at frame (Some (identity_in number e)) entries n d (omega (arith, inside)) (All-tail (AreReadyIn marks frame) (depends_on before e) (take (suc n) (dependencies number (Some (identity_in number e)) entries)) all)

  apart_at : (entries : List Entry) (n : ℕ) (d : Entry) → n < length entries → All (λ (e : Entry). All (λ (one : Identity). one.partition ≢ number) (named_by e.items)) entries → All (λ (one : Identity). one.partition ≢ number) (named_by (get_or entries n d).items)
  apart_at entries n d inside all = all n d inside

  -- where one more may go, all that it names is ready
  pub goes_further : (before : Option Identity) (entries : List Entry) (n : ℕ) (d : Entry) → n < length entries → All (λ (e : Entry). All (λ (one : Identity). one.partition ≢ number) (named_by e.items)) entries
      → All (AreReadyIn marks (identities number (take (suc n) entries))) (take (suc n) (dependencies number before entries)) → All IsReady (named_by (get_or entries n d).items)
  goes_further before entries n d inside apart all =
      ready_apart (take (suc n) entries) (named_by (get_or entries n d).items) (apart_at entries n d inside apart) (named_at (identities number (take (suc n) entries)) before entries n d inside all)

  -- where the first may go, the one before it is ready
  pub before_ready : (before : Option Identity) (e : Entry) (entries : List Entry) → MatchOption before (Unit {0}) (λ b. b ≢ identity_in number e) → All (AreReadyIn marks (identities number (e ∷ []))) (take 1 (dependencies number before (e ∷ entries))) → MatchOption before (Unit {0}) IsReady
  before_ready None e entries other all = tt
  before_ready (Some before) e entries other all =
      elim (All-head (MayBe (identities number (e ∷ []))) before (named_by e.items) (All-head (AreReadyIn marks (identities number (e ∷ []))) (before ∷ named_by e.items) (take zero (dependencies number (Some (identity_in number e)) entries)) all)) [
        | inl ready ↦ ready
        | inr inside ↦ absurd (other (sym (All-contains (λ (one : Identity). identity_in number e ≡ one) (identities number (e ∷ [])) before (All-cons (λ (one : Identity). identity_in number e ≡ one) (identity_in number e) [] refl (none_all (λ (one : Identity). identity_in number e ≡ one))) inside)))
      ]

-- ---- of steps

module _ (marks : Marks) (steps : List Step) where
  abbrev NamesReady : Entry → Type 0
  NamesReady e = All (Ready (length_in marks) (floors_of marks)) (named_by e.items)

  pub front_of : (n : ℕ) → All NamesReady (entries_in (take n steps)) → All NamesReady (take n (entries_in steps))
  front_of n all = subst (All NamesReady) (sym (take-map (λ (s : Step). entry_of s.entry) n steps)) all

  pub front_whole : (n : ℕ) → length steps ≤ n → All NamesReady (entries_in (take n steps)) → All NamesReady (take (length steps) (entries_in steps))
  front_whole n end all =
      let whole : All NamesReady (entries_in steps) = all_whole_shown (λ (s : Step). entry_of s.entry) NamesReady steps n end all in
      let long = length-map steps (λ (s : Step). entry_of s.entry) in
      subst (All NamesReady) (sym (take_all (length steps) (entries_in steps) (omega (arith, long)))) whole

  pub at_step : (n : ℕ) (s : Step) (d : Entry) → n < length steps → s ≡ get_or steps n s → NamesReady (get_or (entries_in steps) n d) → NamesReady (entry_of s.entry)
  at_step n s d inside at all = subst NamesReady (get_or-map (λ (one : Step). entry_of one.entry) steps n s d inside ∙ ap (λ (one : Step). entry_of one.entry) (sym at)) all
