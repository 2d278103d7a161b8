-- Two orders of the same entries.
use Rattle.std.proofs.Common.{◌≡◌, ◌<◌, ℕ, Bool, true, false, List, [], ◌∷◌, ◌++◌, Some, refl, sym, ap, subst, ◌∙◌, append-nil}
use Rattle.std.specs.Prelude.{nat_lt}
use Rattle.std.proofs.lemmas.Bool.{ltb-true, ltb-false}
use Rattle.dura_model.proofs.Kept.{fresh_shown}
use Rattle.dura_model.specs.Entries as alone
use Rattle.dura_model.specs.Legal.{Legal, after_from}
use Rattle.dura_model.specs.Partition.{Partition, fresh, shown, with_part}
use Rattle.dura_value.specs.Items.{Entry}
use Rattle.flow_syntax.specs.Syntax.{Flows}
use Rattle.many_logs.proofs.Frames.{of_both, of_none, below_both, put_then, put_apart}
use Rattle.many_logs.proofs.Given.{given_of_each, each_of_given}
use Rattle.many_logs.proofs.Leads.{commits_lead}
use Rattle.many_logs.proofs.Orders.{any_order}
use Rattle.many_logs.proofs.OrdersStand.{logs_numbered}
use Rattle.many_logs.specs.Labels.{labels_of_commits, AllGiven}
use Rattle.many_logs.specs.Placing.{Commit, states_after, of_partition, AllBelow}
use Rattle.many_logs.specs.Stands.{AreKept}
use Rattle.many_rules.proofs.Trails.{numbered_front}

-- these have the same entries of each partition
abbrev pub SameOwn : (run other : List Commit) → Type 0
SameOwn run other = (partition : ℕ) → of_partition partition other ≡ of_partition partition run

-- of the partitions past the first so many neither has an entry
pub same_own : (count : ℕ) (run other : List Commit) → AllBelow count run → AllBelow count other → ((partition : ℕ) → partition < count → of_partition partition other ≡ of_partition partition run) → SameOwn run other
same_own count run other low other_low same partition = by (nat_lt partition count) refl
  where
    by : (test : Bool) → nat_lt partition count ≡ test → of_partition partition other ≡ of_partition partition run
    by true is = same partition (ltb-true partition count is)
    by false is = let past = ltb-false partition count is in of_none count partition other other_low past ∙ sym (of_none count partition run low past)

-- the same may come behind both
pub same_longer : (run other more : List Commit) → SameOwn run other → SameOwn (run ++ more) (other ++ more)
same_longer run other more same partition = of_both partition other more ∙ ap (λ (l : List Entry). l ++ of_partition partition more) (same partition) ∙ sym (of_both partition run more)

-- the partitions of all are those of the first and those of the others
pub below_apart : (count : ℕ) (a b : List Commit) → AllBelow count (a ++ b) → AllBelow count a × AllBelow count b
below_apart count [] b low = (tt, low)
below_apart count (one ∷ a) b low = let rest = below_apart count a b low.1 in ((low.0, rest.0), rest.1)

module _ (flows : Flows) (count : ℕ) where
  -- they make the same states
  pub same_states : (run other : List Commit) (states also : ℕ → Partition) → AllBelow count run → AllBelow count other → SameOwn run other → states_after flows count fresh run ≡ Some states → states_after flows count fresh other ≡ Some also → also ≡ states
  same_states run other states also low other_low same made other_made =
      let one = any_order flows count run (λ partition. of_partition partition run) states low made (λ partition below. refl) in
      let two = any_order flows count other (λ partition. of_partition partition run) also other_low other_made (λ partition below. sym (same partition)) in
      sym two.states ∙ one.states

  -- what is known of outcomes in one is known in the other
  pub given_alike : (run other : List Commit) (states : ℕ → Partition) → SameOwn run other → states_after flows count fresh run ≡ Some states → AllGiven flows count fresh run → AllGiven flows count fresh other
  given_alike run other states same made given = given_of_each flows count other fresh (λ partition. subst (λ (l : List Entry). alone.AllGiven flows count (fresh partition) l) (sym (same partition)) (each_of_given flows count run fresh states made given partition))

  -- what is known of the outcomes of all is known of those of the first
  pub given_front : (a b : List Commit) (parts : ℕ → Partition) → AllGiven flows count parts (a ++ b) → AllGiven flows count parts a
  given_front [] b parts given = tt
  given_front (one ∷ a) b parts given = (given.0, λ next is. given_front a b (with_part parts one.partition next) (given.1 next is))

  module _ (digest : ℕ) (files : ℕ → List ℕ) where
    -- the first of the entries that files keep are a legal run
    pub legal_front : (a b : List Commit) (states : ℕ → Partition) → AreKept flows count digest files (a ++ b) → states_after flows count fresh a ≡ Some states → Legal flows (labels_of_commits a) (shown flows count states)
    legal_front a b states kept made =
        let low = (below_apart count a b kept.below).0 in
        let numbered = numbered_front a b (logs_numbered count digest files (a ++ b) kept.below kept.kept) in
        ap (after_from flows (shown flows count fresh)) (sym (append-nil (labels_of_commits a)))
        ∙ (commits_lead flows count a fresh states (fresh_shown count) low numbered (given_front a b fresh kept.given) made).comes []

    -- files that keep entries behind the one keep them behind the other
    pub kept_alike : (run other more : List Commit) (states : ℕ → Partition) → AllBelow count other → SameOwn run other → states_after flows count fresh other ≡ Some states → AreKept flows count digest files (run ++ more) → AreKept flows count digest files (other ++ more)
    kept_alike run other more states low same made kept =
        let both = below_apart count run more kept.below in
        let first = put_apart flows count fresh kept.states run more kept.made in
        let longer = same_longer run other more same in
        let alike : states ≡ first.0 = same_states run other first.0 states both.0 low same first.1 made in
        record {
          below = below_both count other more low both.1;
          kept = λ partition inside. kept.kept partition inside ∙ ap (λ (l : List Entry). Some l) (sym (longer partition));
          states = kept.states;
          made = put_then flows count fresh first.0 kept.states other more (made ∙ ap (λ (f : ℕ → Partition). Some f) alike) first.2;
          given = given_alike (run ++ more) (other ++ more) kept.states longer kept.made kept.given;
        }
