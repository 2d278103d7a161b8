-- Files whose entries are accepted in some order stand for the labels of that order.
use Rattle.std.proofs.Common.{◌≡◌, ◌<◌, ◌==◌, ℕ, zero, suc, Bool, true, false, cond, List, [], ◌∷◌, ◌++◌, Option, Some, None, refl, sym, ap, subst, ◌∙◌, append-nil}
use Rattle.std.specs.Prelude.{nat_lt}
use Rattle.std.specs.Option.{option_and_then}
use Rattle.std.proofs.lemmas.Bool.{eqb-true, ltb-true, ltb-false}
use Rattle.dura_value.specs.Items.{Entry}
use Rattle.flow_syntax.specs.Syntax.{Flows}
use Rattle.dura_model.specs.Legal.{after_from}
use Rattle.dura_model.specs.Partition.{Partition, fresh, shown, with_part}
use Rattle.dura_model.proofs.Kept.{fresh_shown}
use Rattle.part_items.specs.Numbered.{IsNumbered}
use Rattle.part_items.specs.Logs.{logs_in, entries_in}
use Rattle.part_items.proofs.LogsNumbered.{entries_numbered}
use Rattle.many_logs.specs.Placing.{Commit, states_after, of_partition, Placing, with_left, lowest, goes_on, placed_in, placed, AllBelow}
use Rattle.many_logs.specs.Labels.{labels_of_commits, AllGiven, AreNumbered, state_next}
use Rattle.many_logs.specs.Stands.{asked_at, FilesStand}
use Rattle.many_logs.proofs.Leads.{commits_lead}
use Rattle.many_logs.proofs.Orders.{any_order, lowest_took, Took}
use Rattle.many_logs.proofs.Frames.{of_none}

-- the entries of logs are numbered in whatever order they come
pub logs_numbered : (count digest : ℕ) (files : ℕ → List ℕ) (run : List Commit) → AllBelow count run → ((partition : ℕ) → partition < count → entries_in (logs_in (asked_at count digest partition) files) ≡ Some (of_partition partition run)) → AreNumbered fresh run
logs_numbered count digest files run low kept partition = by (nat_lt partition count) refl
  where
    by : (test : Bool) → nat_lt partition count ≡ test → IsNumbered (state_next (fresh partition)) (of_partition partition run)
    by true is = entries_numbered (asked_at count digest partition) files (of_partition partition run) (kept partition (ltb-true partition count is))
    by false is = subst (IsNumbered (state_next (fresh partition))) (sym (of_none count partition run low (ltb-false partition count is))) tt

pub orders_stand : (flows : Flows) (count digest : ℕ) (files : ℕ → List ℕ) (run : List Commit) (final : ℕ → Partition) → AllBelow count run → ((partition : ℕ) → partition < count → entries_in (logs_in (asked_at count digest partition) files) ≡ Some (of_partition partition run))
    → states_after flows count fresh run ≡ Some final → AllGiven flows count fresh run → FilesStand flows count digest files (labels_of_commits run)
orders_stand flows count digest files run final low kept all given =
    let lead = commits_lead flows count run fresh final (fresh_shown count) low (logs_numbered count digest files run low kept) given all in
    let they = any_order flows count run (λ partition. of_partition partition run) final low all (λ partition below. refl) in
    record {
      logs = λ partition. of_partition partition run;
      kept = kept;
      none_left = they.left;
      legal =
          ap (after_from flows (shown flows count fresh)) (sym (append-nil (labels_of_commits run)))
          ∙ lead.comes []
          ∙ ap (λ (f : ℕ → Partition). Some (shown flows count f)) (sym they.states);
    }

-- ---- an order of what was placed

module _ (flows : Flows) (count : ℕ) where
  -- the order in which the lowest that can took its next
  pub record Traced (s end : Placing) : Type 0 where
    pub run : List Commit
    pub all : states_after flows count s.states run ≡ Some end.states
    pub below : AllBelow count run
    pub left : (partition : ℕ) → s.left partition ≡ of_partition partition run ++ end.left partition

  traced : (often : ℕ) (s : Placing) → Traced s (placed_in flows count often s)
  traced zero s = record { run = []; all = refl; below = tt; left = λ partition. refl }
  traced (suc often) s = by (lowest flows count count s) refl (traced often)
    where
      by : (found : Option Placing) → lowest flows count count s ≡ found → ((t : Placing) → Traced t (placed_in flows count often t)) → Traced s (goes_on s found (λ next. placed_in flows count often next))
      by None found rest = record { run = []; all = refl; below = tt; left = λ partition. refl }
      by (Some next) found rest =
          let took = lowest_took flows count count s next found in
          let after : Placing = record { states = with_part s.states took.partition took.state; left = with_left s.left took.partition took.entries } in
          let later = rest after in
          let one : Commit = record { partition = took.partition; entry = took.entry } in
          subst (λ (t : Placing). Traced s (placed_in flows count often t)) took.is
          (record {
            run = one ∷ later.run;
            all = ap (option_and_then (λ x. states_after flows count (with_part s.states took.partition x) later.run)) took.accepted ∙ later.all;
            below = (took.below, later.below);
            left = λ partition. at took (placed_in flows count often after) later partition (took.partition == partition) refl (later.left partition);
          })
        where
          at : (took : Took flows count count s next) (end : Placing) (later : Traced (record { states = with_part s.states took.partition took.state; left = with_left s.left took.partition took.entries }) end) (partition : ℕ) (test : Bool) → (took.partition == partition) ≡ test
              → cond test took.entries (s.left partition) ≡ of_partition partition later.run ++ end.left partition → s.left partition ≡ cond test (took.entry ∷ of_partition partition later.run) (of_partition partition later.run) ++ end.left partition
          at took end later partition true same is = ap s.left (sym (eqb-true took.partition partition same)) ∙ took.first ∙ ap (λ (l : List Entry). took.entry ∷ l) is
          at took end later partition false apart is = is

  -- what is placed was accepted in some order
  pub placed_in_order : (logs : ℕ → List Entry) → Traced (record { states = fresh; left = logs }) (placed flows count logs)
  placed_in_order logs = traced _ (record { states = fresh; left = logs })
