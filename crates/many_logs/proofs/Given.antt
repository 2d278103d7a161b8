-- What is known of outcomes is known of each partition by itself.
use Rattle.std.proofs.Common.{◌≡◌, ◌==◌, ℕ, Bool, true, false, cond, List, [], ◌∷◌, Some, refl, sym, subst, ◌∙◌}
use Rattle.std.proofs.lemmas.Bool.{eqb-true}
use Rattle.flow_syntax.specs.Syntax.{Flows}
use Rattle.dura_model.specs.Partition.{Partition, enter, with_part}
use Rattle.dura_model.proofs.Basics.{eqb_apart}
use Rattle.dura_model.specs.Entries as alone
use Rattle.dura_model.specs.Entries.{entry_accepted, AreGiven}
use Rattle.many_logs.specs.Placing.{commit_accepted, Commit, states_after, of_partition}
use Rattle.many_logs.specs.Labels.{AllGiven}
use Rattle.many_logs.proofs.Basics.{self_eqb}
use Rattle.many_logs.proofs.Apart.{part_here, part_there, accepted_parts}
use Rattle.dura_value.proofs.Basics.{some_same, both_some}

module _ (flows : Flows) (count : ℕ) where
  -- from each partition to all
  pub given_of_each : (run : List Commit) (parts : ℕ → Partition) → ((partition : ℕ) → alone.AllGiven flows count (parts partition) (of_partition partition run)) → AllGiven flows count parts run
  given_of_each [] parts each = tt
  given_of_each (one ∷ run) parts each =
      let mine : alone.AllGiven flows count (parts one.partition) (one.entry ∷ of_partition one.partition run) =
      subst (λ (b : Bool). alone.AllGiven flows count (parts one.partition) (cond b (one.entry ∷ of_partition one.partition run) (of_partition one.partition run))) (self_eqb one.partition) (each one.partition) in (
        mine.0,
        λ next is. given_of_each run (with_part parts one.partition next) (λ partition. by next (accepted_parts flows count parts one.partition one.entry next is).1 partition (one.partition == partition) refl (each partition)),
      )
    where
      by : (next : Partition) → entry_accepted flows count (parts one.partition) one.entry ≡ Some next → (partition : ℕ) → (test : Bool) → (one.partition == partition) ≡ test
          → alone.AllGiven flows count (parts partition) (cond test (one.entry ∷ of_partition partition run) (of_partition partition run)) → alone.AllGiven flows count (cond test next (parts partition)) (of_partition partition run)
      by next is partition true same given = given.1 next (subst (λ (p : ℕ). entry_accepted flows count (parts p) one.entry ≡ Some next) (eqb-true one.partition partition same) is)
      by next is partition false apart given = given

  -- from all to each partition
  pub each_of_given : (run : List Commit) (parts later : ℕ → Partition) → states_after flows count parts run ≡ Some later → AllGiven flows count parts run → (partition : ℕ) → alone.AllGiven flows count (parts partition) (of_partition partition run)
  each_of_given [] parts later all given partition = tt
  each_of_given (one ∷ run) parts later all given partition = by (one.partition == partition) refl (each_of_given run next later first.2 (given.1 first.0 first.1) partition)
    where
      first : (x : Partition) × (commit_accepted flows count parts one.partition one.entry ≡ Some x) × (states_after flows count (with_part parts one.partition x) run ≡ Some later)
      first = both_some (commit_accepted flows count parts one.partition one.entry) (λ x. states_after flows count (with_part parts one.partition x) run) later all

      next : ℕ → Partition
      next = with_part parts one.partition first.0

      by : (test : Bool) → (one.partition == partition) ≡ test → alone.AllGiven flows count (next partition) (of_partition partition run) → alone.AllGiven flows count (parts partition) (cond test (one.entry ∷ of_partition partition run) (of_partition partition run))
      by true same rest =
          let at = eqb-true one.partition partition same in
          let here : next partition ≡ first.0 = subst (λ (p : ℕ). next p ≡ first.0) at (part_here parts one.partition first.0) in
          let made : entry_accepted flows count (parts partition) one.entry ≡ Some first.0 = subst (λ (p : ℕ). entry_accepted flows count (parts p) one.entry ≡ Some first.0) at (accepted_parts flows count parts one.partition one.entry first.0 first.1).1 in (
            subst (λ (p : ℕ). AreGiven flows count (enter one.entry.incarnation (parts p)) one.entry.items) at given.0,
            λ q is. subst (λ (s : Partition). alone.AllGiven flows count s (of_partition partition run)) (here ∙ some_same (sym made ∙ is)) rest,
          )
      by false apart rest = subst (λ (s : Partition). alone.AllGiven flows count s (of_partition partition run)) (part_there parts one.partition partition first.0 (eqb_apart one.partition partition apart)) rest
