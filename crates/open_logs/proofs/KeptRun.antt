-- A run that made what a life begins with, and whose entries the files keep.
use Rattle.std.proofs.Common.{◌≡◌, ℕ, Bool, true, false, List, refl, sym, ◌∙◌, subst}
use Rattle.std.specs.Prelude.{nat_lt}
use Rattle.std.proofs.lemmas.Bool.{ltb-true, ltb-false}
use Rattle.dura_model.specs.Entries as alone
use Rattle.dura_model.specs.Partition.{fresh}
use Rattle.dura_value.proofs.Basics.{some_same}
use Rattle.dura_value.specs.Items.{Entry}
use Rattle.flow_syntax.specs.Syntax.{Flows}
use Rattle.many_logs.proofs.Frames.{of_none}
use Rattle.many_logs.proofs.Given.{given_of_each, each_of_given}
use Rattle.many_logs.specs.Labels.{AllGiven}
use Rattle.many_logs.specs.Placing.{Commit, AllBelow, of_partition}
use Rattle.many_logs.specs.Stands.{AreKept}
use Rattle.open_logs.specs.Begun.{MadeBy, AreTheirs}
use Rattle.open_logs.specs.declared.begun.Begun.{Begun}
use Rattle.part_steps.specs.States.{parts_in}

-- two orders of the entries that the files keep have the same entries of each partition
pub same_own : (count digest : ℕ) (files : ℕ → List ℕ) (run other : List Commit) → AllBelow count run → AllBelow count other → AreTheirs count digest files run → AreTheirs count digest files other → (partition : ℕ) → of_partition partition other ≡ of_partition partition run
same_own count digest files run other low other_low theirs others partition = by (nat_lt partition count) refl
  where
    by : (test : Bool) → nat_lt partition count ≡ test → of_partition partition other ≡ of_partition partition run
    by true is = let below = ltb-true partition count is in some_same (sym (others partition below) ∙ theirs partition below)
    by false is = let past = ltb-false partition count is in of_none count partition other other_low past ∙ sym (of_none count partition run low past)

module _ (flows : Flows) (count digest : ℕ) (files : ℕ → List ℕ) (begun : Begun) (run : List Commit) (made : MadeBy flows count begun run) (theirs : AreTheirs count digest files run) where
  -- where each outcome is one that its activity may give, the files keep the run
  pub run_is_kept : AllGiven flows count fresh run → AreKept flows count digest files run
  run_is_kept given = record { below = made.below; kept = theirs; states = parts_in begun.states.items; made = made.made; given = given }

  -- what is known of outcomes in another order of the same entries is known in this one
  pub given_by_other : (other : List Commit) → AreKept flows count digest files other → AllGiven flows count fresh run
  given_by_other other kept =
      given_of_each flows count run fresh (λ partition.
      subst (λ (l : List Entry). alone.AllGiven flows count (fresh partition) l) (same_own count digest files run other made.below kept.below theirs kept.kept partition) (each_of_given flows count other fresh kept.states kept.made kept.given partition))

  -- so the files keep the run where they keep another order of the same entries
  pub kept_by_other : (other : List Commit) → AreKept flows count digest files other → AreKept flows count digest files run
  kept_by_other other kept = run_is_kept (given_by_other other kept)
