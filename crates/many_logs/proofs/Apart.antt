-- Entries of different partitions don't disturb one another.
use Rattle.std.proofs.Common.{◌≡◌, ◌≤◌, ◌==◌, ℕ, Bool, true, false, cond, List, [], ◌∷◌, Some, None, refl, sym, ap, subst, ◌∙◌, arith}
use Rattle.std.proofs.lemmas.Bool.{leb-true, le-leb, eqb-true, and_parts}
use Rattle.dura_value.specs.Items.{Item, took, got, ran, ended, fired, trim, Entry}
use Rattle.dura_value.proofs.Ids.{and_true}
use Rattle.flow_syntax.specs.Syntax.{Flows}
use Rattle.dura_model.specs.Partition.{Partition, with_part}
use Rattle.dura_model.proofs.Basics.{passes}
use Rattle.dura_model.specs.Entries.{entry_accepted}
use Rattle.many_logs.specs.Placing.{is_ready, are_ready, commit_accepted}
use Rattle.many_logs.proofs.Basics.{apart_eqb, self_eqb}
use Rattle.many_logs.proofs.Streams.{Grows, same_grows, entry_grows}

-- ---- one of the states in partition of another

pub part_here : (parts : ℕ → Partition) (partition : ℕ) (next : Partition) → with_part parts partition next partition ≡ next
part_here parts partition next = ap (λ (b : Bool). cond b next (parts partition)) (self_eqb partition)

pub part_there : (parts : ℕ → Partition) (partition other : ℕ) (next : Partition) → (partition ≡ other → ⊥) → with_part parts partition next other ≡ parts other
part_there parts partition other next apart = ap (λ (b : Bool). cond b next (parts other)) (apart_eqb partition other apart)

pub parts_turned : (parts : ℕ → Partition) (a b : ℕ) (x y : Partition) → (a ≡ b → ⊥) → with_part (with_part parts a x) b y ≡ with_part (with_part parts b y) a x
parts_turned parts a b x y apart = λ i partition. at partition i
  where
    at : (partition : ℕ) → with_part (with_part parts a x) b y partition ≡ with_part (with_part parts b y) a x partition
    at partition = by (a == partition) (b == partition) refl refl
      where
        by : (first second : Bool) → (a == partition) ≡ first → (b == partition) ≡ second → cond (b == partition) y (cond (a == partition) x (parts partition)) ≡ cond (a == partition) x (cond (b == partition) y (parts partition))
        by true true is also = absurd (apart (eqb-true a partition is ∙ sym (eqb-true b partition also)))
        by true false is also = ap (λ (t : Bool). cond t y (cond (a == partition) x (parts partition))) also ∙ ap (λ (t : Bool). cond t x (parts partition)) is ∙ sym (ap (λ (t : Bool). cond t x (cond (b == partition) y (parts partition))) is)
        by false second is also = ap (λ (t : Bool). cond (b == partition) y (cond t x (parts partition))) is ∙ sym (ap (λ (t : Bool). cond t x (cond (b == partition) y (parts partition))) is)

-- ---- what an item needs of the others stays

-- all states are as far or further
abbrev pub AllGrow : (parts later : ℕ → Partition) → Type 0
AllGrow parts later = (partition : ℕ) → Grows (parts partition) (later partition)

pub ready_still : (parts later : ℕ → Partition) (partition : ℕ) (item : Item) → AllGrow parts later → is_ready parts partition item ≡ true → is_ready later partition item ≡ true
ready_still parts later partition (got source number message) grow is = (grow source.partition).sent partition source number message is
ready_still parts later partition (trim reader number) grow is =
    let low : number ≤ ((parts reader.partition).inboxes partition).next = leb-true number ((parts reader.partition).inboxes partition).next is in
    le-leb number ((later reader.partition).inboxes partition).next (omega (arith, low, (grow reader.partition).read partition))
ready_still parts later partition (took message) grow is = refl
ready_still parts later partition (ran from to stamp) grow is = refl
ready_still parts later partition (ended id task outcome) grow is = refl
ready_still parts later partition (fired id task stamp) grow is = refl

pub all_ready_still : (parts later : ℕ → Partition) (partition : ℕ) (items : List Item) → AllGrow parts later → are_ready parts partition items ≡ true → are_ready later partition items ≡ true
all_ready_still parts later partition [] grow is = refl
all_ready_still parts later partition (item ∷ items) grow is =
    let both = and_parts (is_ready parts partition item) (are_ready parts partition items) is in
    and_true (is_ready later partition item) (are_ready later partition items) (ready_still parts later partition item grow both.0) (all_ready_still parts later partition items grow both.1)

-- ---- entries

module _ (flows : Flows) (count : ℕ) where
  pub accepted_parts : (parts : ℕ → Partition) (partition : ℕ) (entry : Entry) (next : Partition) → commit_accepted flows count parts partition entry ≡ Some next
      → (are_ready parts partition entry.items ≡ true) × (entry_accepted flows count (parts partition) entry ≡ Some next)
  accepted_parts parts partition entry next is = passes (are_ready parts partition entry.items) (entry_accepted flows count (parts partition) entry) next is

  -- an entry stays accepted where its own partition's state is the same and the others are as far or further
  pub accepted_still : (parts later : ℕ → Partition) (partition : ℕ) (entry : Entry) (next : Partition) → AllGrow parts later → later partition ≡ parts partition → commit_accepted flows count parts partition entry ≡ Some next → commit_accepted flows count later partition entry ≡ Some next
  accepted_still parts later partition entry next grow same is =
      let both = accepted_parts parts partition entry next is in
      ap (λ (b : Bool). cond b (entry_accepted flows count (later partition) entry) None) (all_ready_still parts later partition entry.items grow both.0)
      ∙ ap (λ (p : Partition). entry_accepted flows count p entry) same
      ∙ both.1

  -- after an entry all states are as far or further
  pub one_grows : (parts : ℕ → Partition) (partition : ℕ) (entry : Entry) (next : Partition) → commit_accepted flows count parts partition entry ≡ Some next → AllGrow parts (with_part parts partition next)
  one_grows parts partition entry next is other = by (partition == other) refl
    where
      by : (test : Bool) → (partition == other) ≡ test → Grows (parts other) (cond test next (parts other))
      by true same = subst (λ (p : ℕ). Grows (parts p) next) (eqb-true partition other same) (entry_grows flows count entry (parts partition) next (accepted_parts parts partition entry next is).1)
      by false apart = same_grows (parts other) (parts other) refl refl refl

  -- an entry stays accepted behind one of another partition
  pub stays : (parts : ℕ → Partition) (partition other : ℕ) (entry more : Entry) (next also : Partition) → (partition ≡ other → ⊥) → commit_accepted flows count parts partition entry ≡ Some next → commit_accepted flows count parts other more ≡ Some also
      → commit_accepted flows count (with_part parts partition next) other more ≡ Some also
  stays parts partition other entry more next also apart is too =
      accepted_still parts (with_part parts partition next) other more also (one_grows parts partition entry next is) (part_there parts partition other next apart) too
