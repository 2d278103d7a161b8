-- From states that the first of each partition's entries made, the others are accepted.
use Rattle.std.proofs.Common.{◌≡◌, ◌==◌, ℕ, Bool, true, false, cond, List, [], ◌∷◌, ◌++◌, Some, Ok, refl, sym, ap, subst, ◌∙◌}
use Rattle.std.specs.Option.{option_and_then}
use Rattle.std.proofs.lemmas.Bool.{eqb-true}
use Rattle.dura_value.specs.Items.{Entry}
use Rattle.flow_syntax.specs.Syntax.{Flows}
use Rattle.dura_model.specs.Partition.{Partition, with_part}
use Rattle.dura_model.specs.Entries as alone
use Rattle.dura_model.specs.Entries.{entry_accepted, or_place}
use Rattle.dura_model.proofs.Appending.{both_placed}
use Rattle.many_logs.specs.Placing.{commit_accepted, Commit, states_after, of_partition, with_left, AllBelow}
use Rattle.many_logs.proofs.Basics.{self_eqb}
use Rattle.many_logs.proofs.Streams.{Grows, grows_then, same_grows, entry_grows}
use Rattle.many_logs.proofs.Apart.{AllGrow, accepted_still, accepted_parts}
use Rattle.dura_value.proofs.Basics.{some_same, both_some}

module _ (flows : Flows) (count : ℕ) where
  chain_grows : (entries : List Entry) (p q : Partition) → alone.placed flows count p entries ≡ Ok q → Grows p q
  chain_grows [] p q is = let same : p ≡ q = cc is in subst (Grows p) same (same_grows p p refl refl refl)
  chain_grows (entry ∷ entries) p q is =
      let first = both_placed entry.position (entry_accepted flows count p entry) (λ next. alone.placed flows count next entries) q is in
      grows_then p first.0 q (entry_grows flows count entry p first.0 first.1) (chain_grows entries first.0 q first.2)

  -- Each partition's entries in the order are those in front, which made its state, and those behind.
  pub record Splits (run : List Commit) (parts ahead : ℕ → Partition) (front back : ℕ → List Entry) : Type 0 where
    pub all_of : (partition : ℕ) → of_partition partition run ≡ front partition ++ back partition
    pub made : (partition : ℕ) → alone.placed flows count (parts partition) (front partition) ≡ Ok (ahead partition)

  pub record GoesBehind (run : List Commit) (ahead final : ℕ → Partition) (back : ℕ → List Entry) : Type 0 where
    pub rest : List Commit
    pub all : states_after flows count ahead rest ≡ Some final
    pub theirs : (partition : ℕ) → of_partition partition rest ≡ back partition
    pub below : AllBelow count run → AllBelow count rest

  pub back_goes : (run : List Commit) (parts final ahead : ℕ → Partition) (front back : ℕ → List Entry) → states_after flows count parts run ≡ Some final → Splits run parts ahead front back → GoesBehind run ahead final back
  back_goes [] parts final ahead front back all splits = record {
    rest = [];
    all = ap (λ (f : ℕ → Partition). Some f) ((λ i partition. same partition i) ∙ some_same all);
    theirs = λ partition. sym (both partition).1;
    below = λ low. low;
  }
    where
      empty : (a b : List Entry) → [] ≡ a ++ b → (a ≡ []) × (b ≡ [])
      empty [] b is = (refl, sym is)
      empty (x ∷ a) b is = absurd (cc is)

      both : (partition : ℕ) → (front partition ≡ []) × (back partition ≡ [])
      both partition = empty (front partition) (back partition) (splits.all_of partition)

      same : (partition : ℕ) → ahead partition ≡ parts partition
      same partition = let made : alone.placed flows count (parts partition) [] ≡ Ok (ahead partition) = subst (λ (l : List Entry). alone.placed flows count (parts partition) l ≡ Ok (ahead partition)) (both partition).0 (splits.made partition) in cc made
  back_goes (one ∷ run) parts final ahead front back all splits = by (front one.partition) refl (back_goes run)
    where
      first : (x : Partition) × (commit_accepted flows count parts one.partition one.entry ≡ Some x) × (states_after flows count (with_part parts one.partition x) run ≡ Some final)
      first = both_some (commit_accepted flows count parts one.partition one.entry) (λ x. states_after flows count (with_part parts one.partition x) run) final all

      next : ℕ → Partition
      next = with_part parts one.partition first.0

      own : one.entry ∷ of_partition one.partition run ≡ front one.partition ++ back one.partition
      own = sym (ap (λ (b : Bool). cond b (one.entry ∷ of_partition one.partition run) (of_partition one.partition run)) (self_eqb one.partition)) ∙ splits.all_of one.partition

      grow : AllGrow parts ahead
      grow partition = chain_grows (front partition) (parts partition) (ahead partition) (splits.made partition)

      Earlier : Type 0
      Earlier = (parts final ahead : ℕ → Partition) (front back : ℕ → List Entry) → states_after flows count parts run ≡ Some final → Splits run parts ahead front back → GoesBehind run ahead final back

      by : (mine : List Entry) → front one.partition ≡ mine → Earlier → GoesBehind (one ∷ run) ahead final back
      by [] none earlier =
          let split : one.entry ∷ of_partition one.partition run ≡ back one.partition = own ∙ ap (λ (l : List Entry). l ++ back one.partition) none in
          let made : alone.placed flows count (parts one.partition) [] ≡ Ok (ahead one.partition) = subst (λ (l : List Entry). alone.placed flows count (parts one.partition) l ≡ Ok (ahead one.partition)) none (splits.made one.partition) in
          let same : ahead one.partition ≡ parts one.partition = cc made in
          let still = accepted_still flows count parts ahead one.partition one.entry first.0 grow same first.1 in
          let later = earlier next final (with_part ahead one.partition first.0) front (with_left back one.partition (of_partition one.partition run)) first.2
          (record { all_of = λ partition. alls none partition (one.partition == partition) refl; made = λ partition. mades none partition (one.partition == partition) refl }) in
          record {
            rest = one ∷ later.rest;
            all = ap (option_and_then (λ x. states_after flows count (with_part ahead one.partition x) later.rest)) still ∙ later.all;
            theirs = λ partition. ap (λ (l : List Entry). cond (one.partition == partition) (one.entry ∷ l) l) (later.theirs partition) ∙ gives split partition (one.partition == partition) refl;
            below = λ low. (low.0, later.below low.1);
          }
        where
          alls : front one.partition ≡ [] → (partition : ℕ) (test : Bool) → (one.partition == partition) ≡ test → of_partition partition run ≡ front partition ++ cond test (of_partition one.partition run) (back partition)
          alls empty partition true same = subst (λ (p : ℕ). of_partition p run ≡ front p ++ of_partition one.partition run) (eqb-true one.partition partition same) (sym (ap (λ (l : List Entry). l ++ of_partition one.partition run) empty))
          alls empty partition false apart = sym (ap (λ (b : Bool). cond b (one.entry ∷ of_partition partition run) (of_partition partition run)) apart) ∙ splits.all_of partition

          mades : front one.partition ≡ [] → (partition : ℕ) (test : Bool) → (one.partition == partition) ≡ test → alone.placed flows count (cond test first.0 (parts partition)) (front partition) ≡ Ok (cond test first.0 (ahead partition))
          mades empty partition true same = subst (λ (p : ℕ). alone.placed flows count first.0 (front p) ≡ Ok first.0) (eqb-true one.partition partition same) (ap (alone.placed flows count first.0) empty)
          mades empty partition false apart = splits.made partition

          gives : one.entry ∷ of_partition one.partition run ≡ back one.partition → (partition : ℕ) (test : Bool) → (one.partition == partition) ≡ test
              → cond test (one.entry ∷ cond test (of_partition one.partition run) (back partition)) (cond test (of_partition one.partition run) (back partition)) ≡ back partition
          gives split partition true same = subst (λ (p : ℕ). one.entry ∷ of_partition one.partition run ≡ back p) (eqb-true one.partition partition same) split
          gives split partition false apart = refl
      by (entry ∷ entries) is earlier =
          let split : one.entry ∷ of_partition one.partition run ≡ entry ∷ (entries ++ back one.partition) = own ∙ ap (λ (l : List Entry). l ++ back one.partition) is in
          let its : entry ≡ one.entry = cc split in
          let others : of_partition one.partition run ≡ entries ++ back one.partition = cc split in
          let made : alone.placed flows count (parts one.partition) (one.entry ∷ entries) ≡ Ok (ahead one.partition) = subst (λ (l : List Entry). alone.placed flows count (parts one.partition) l ≡ Ok (ahead one.partition)) (is ∙ ap (λ (e : Entry). e ∷ entries) its) (splits.made one.partition) in
          let start = both_placed one.entry.position (entry_accepted flows count (parts one.partition) one.entry) (λ x. alone.placed flows count x entries) (ahead one.partition) made in
          let state : start.0 ≡ first.0 = some_same (sym start.1 ∙ (accepted_parts flows count parts one.partition one.entry first.0 first.1).1) in
          let goes : alone.placed flows count first.0 entries ≡ Ok (ahead one.partition) = ap (λ (s : Partition). alone.placed flows count s entries) (sym state) ∙ start.2 in
          let later = earlier next final ahead (with_left front one.partition entries) back first.2
          (record { all_of = λ partition. alls entries others partition (one.partition == partition) refl; made = λ partition. mades entries goes partition (one.partition == partition) refl }) in
          record { rest = later.rest; all = later.all; theirs = later.theirs; below = λ low. later.below low.1 }
        where
          alls : (entries : List Entry) → of_partition one.partition run ≡ entries ++ back one.partition → (partition : ℕ) (test : Bool) → (one.partition == partition) ≡ test → of_partition partition run ≡ cond test entries (front partition) ++ back partition
          alls entries others partition true same = subst (λ (p : ℕ). of_partition p run ≡ entries ++ back p) (eqb-true one.partition partition same) others
          alls entries others partition false apart = sym (ap (λ (b : Bool). cond b (one.entry ∷ of_partition partition run) (of_partition partition run)) apart) ∙ splits.all_of partition

          mades : (entries : List Entry) → alone.placed flows count first.0 entries ≡ Ok (ahead one.partition) → (partition : ℕ) (test : Bool) → (one.partition == partition) ≡ test → alone.placed flows count (cond test first.0 (parts partition)) (cond test entries (front partition)) ≡ Ok (ahead partition)
          mades entries goes partition true same = subst (λ (p : ℕ). alone.placed flows count first.0 entries ≡ Ok (ahead p)) (eqb-true one.partition partition same) goes
          mades entries goes partition false apart = splits.made partition
