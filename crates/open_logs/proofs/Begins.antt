-- A life begins at the origin that is picked, where the logs are opened.
use Rattle.std.proofs.Common.{◌≡◌, ◌<◌, ◌==◌, ◌⊎◌, inl, inr, ℕ, Bool, true, false, cond, List, length, Some, refl, sym, ◌∙◌, ap, subst, arith, eqb-true, slice_get}
use Rattle.std.specs.Prelude.{if◌then◌else◌}
use Rattle.std.proofs.lemmas.Bool.{eq-eqb}
use Rattle.std.proofs.lemmas.Option.{slice_get_within}
use Rattle.commit_log.specs.declared.states.Resting.{Resting}
use Rattle.commit_log.specs.States.{IsResting}
use Rattle.dura_model.specs.Partition.{Partition, fresh}
use Rattle.dura_value.specs.Items.{Entry}
use Rattle.hub_store.specs.Opened.{HasBegun}
use Rattle.hub_store.specs.Origin.{Log}
use Rattle.many_logs.specs.Labels.{AllGiven, state_next}
use Rattle.many_logs.specs.Placing.{AllBelow, of_partition, states_after}
use Rattle.many_rules.specs.Leaves.{header_at, Begins}
use Rattle.many_rules.specs.Rules.{Rules}
use Rattle.open_logs.specs.Picks.{log_picked, origin_picked, files_of}
use Rattle.open_logs.specs.Ready.{IsOpened}
use Rattle.open_logs.proofs.Picked.{file_at, picked_is}
use Rattle.open_logs.proofs.Pushed.{element}
use Rattle.part_items.specs.Kept.{first_of}
use Rattle.part_items.specs.Logs.{first_log, second_log}
use Rattle.part_items.specs.Numbered.{behind_all}
use Rattle.site_model.specs.History.{Step, changes_of, Leaves}
use Rattle.part_items.specs.Kept.{nothing, kept_in}

-- Each partition's log is opened, and its entries lead to the state.
pub record AreOpenedLogs (count digest : ℕ) (entries : ℕ → List Entry) (steps : List Step) (logs : List Resting) (states : ℕ → Partition) : Type 0 where
  pub many : length logs ≡ count
  pub opened : (partition : ℕ) (log : Resting) → slice_get logs partition ≡ Some log → IsOpened count digest partition (entries partition) steps log
  pub goes : (partition : ℕ) → partition < count → state_next (states partition) ≡ behind_all (first_of (header_at count digest partition)) (entries partition)

-- the other of a partition's two files
abbrev other_file : (partition file : ℕ) → ℕ
other_file partition file = if file == second_log partition then first_log partition else second_log partition

other_is : (partition file other : ℕ) → ((file ≡ first_log partition) × (other ≡ second_log partition)) ⊎ ((file ≡ second_log partition) × (other ≡ first_log partition)) → other_file partition file ≡ other
other_is partition file other (inl first) = by (file == second_log partition) refl
  where
    by : (test : Bool) → (file == second_log partition) ≡ test → cond test (first_log partition) (second_log partition) ≡ other
    by true same = absurd (let wrong = eqb-true file (second_log partition) same in let is = first.0 in omega (arith, wrong, is))
    by false apart = sym first.1
other_is partition file other (inr second) = ap (λ (b : Bool). cond b (first_log partition) (second_log partition)) (eq-eqb file (second_log partition) second.0) ∙ sym second.1

module _ (count digest : ℕ) (entries : ℕ → List Entry) (steps : List Step) (logs : List Resting) (states : ℕ → Partition) (are : AreOpenedLogs count digest entries steps logs states) where
  -- the log that is picked is the one that rests
  log_is : (partition : ℕ) (log : Resting) (at : slice_get logs partition ≡ Some log)
      → log_picked count digest partition (files_of logs partition) steps (states partition) ≡ record { file = log.file; header = header_at count digest partition; payloads = (are.opened partition log at).payloads; entries = entries partition }
  log_is partition log at =
      let below = slice_get_within logs partition log at in
      ap (λ (f : ℕ). log_picked count digest partition f steps (states partition)) (file_at logs partition log at)
      ∙ picked_is count digest partition (entries partition) steps log (states partition) (are.opened partition log at) (are.goes partition (let many = are.many in omega (arith, below, many)))

  pub has_begun : HasBegun (origin_picked count digest (files_of logs) steps states) steps logs
  has_begun = record {
    now = refl;
    rests = λ partition log at.
        let is = sym (log_is partition log at) in (
          ap (λ (l : Log). l.file) is,
          subst (λ (l : Log). IsResting (changes_of l.file steps) l.header l.payloads log.gate) is (are.opened partition log at).rests,
        );
  }

  -- where it lies, and what its other file keeps
  pub record Lies (partition : ℕ) (log : Log) : Type 0 where
    pub header : log.header ≡ header_at count digest partition
    pub theirs : log.entries ≡ entries partition
    pub files : ((log.file ≡ first_log partition) × (other_file partition log.file ≡ second_log partition)) ⊎ ((log.file ≡ second_log partition) × (other_file partition log.file ≡ first_log partition))
    pub empty : (image : List ℕ) → Leaves (changes_of (other_file partition log.file) steps) image → kept_in partition image ≡ nothing

  lies : (partition : ℕ) → partition < count → Lies partition (log_picked count digest partition (files_of logs partition) steps (states partition))
  lies partition below =
      let one = element logs partition (let many = are.many in omega (arith, below, many)) in
      let is = are.opened partition one.0 one.1 in
      let other = other_is partition one.0.file is.other is.files in
      subst (Lies partition) (sym (log_is partition one.0 one.1)) (record {
        header = refl;
        theirs = refl;
        files = subst (λ (o : ℕ). ((one.0.file ≡ first_log partition) × (o ≡ second_log partition)) ⊎ ((one.0.file ≡ second_log partition) × (o ≡ first_log partition))) (sym other) is.files;
        empty = subst (λ (o : ℕ). (image : List ℕ) → Leaves (changes_of o steps) image → kept_in partition image ≡ nothing) (sym other) is.empty;
      })

-- by rules whose recovered entries are those of the logs
pub begins_there : (rules : Rules) (digest : ℕ) (entries : ℕ → List Entry) (steps : List Step) (logs : List Resting) → AreOpenedLogs rules.count digest entries steps logs rules.begin → AllBelow rules.count rules.recovered
    → ((partition : ℕ) → partition < rules.count → of_partition partition rules.recovered ≡ entries partition) → states_after rules.flows rules.count fresh rules.recovered ≡ Some rules.begin → AllGiven rules.flows rules.count fresh rules.recovered
    → Begins (origin_picked rules.count digest (files_of logs) steps rules.begin) rules digest
begins_there rules digest entries steps logs are below theirs made given =
    let at = lies rules.count digest entries steps logs rules.begin are in
    record {
      count = refl;
      headers = λ partition low. (at partition low).header;
      below = below;
      theirs = λ partition low. theirs partition low ∙ sym (at partition low).theirs;
      made = made;
      given = given;
      other = λ partition. other_file partition (log_picked rules.count digest partition (files_of logs partition) steps (rules.begin partition)).file;
      files = λ partition low. (at partition low).files;
      empty = λ partition low. (at partition low).empty;
    }
