-- Why files are refused by their fronts.
use Rattle.std.proofs.Common.{◌≡◌, ◌≢◌, ◌∙◌, ℕ, List, false, ◌==◌, Some, None, inl, inr, refl, sym, eqb-true}
use Rattle.std.proofs.lemmas.Bool.{cases_Bool, eq-eqb}
use Rattle.commit_log.specs.declared.header.Header.{Header}
use Rattle.dura_value.specs.Items.{Entry}
use Rattle.part_items.specs.Kept.{nothing, keeps}
use Rattle.part_items.specs.Logs.{Asked, damaged_at, other_shape, other_flows, fault_of, first_log, second_log}
use Rattle.log_files.specs.Fitting.{tied_fault}

pub is_other : (n m : ℕ) → n ≢ m → (n == m) ≡ false
is_other n m other = elim (cases_Bool (n == m)) [ inl is ↦ absurd (other (eqb-true n m is)) | inr apart ↦ apart ]

module _ (asked : Asked) (file : ℕ) (h : Header) (entries : List Entry) (gate : ℕ) where
  pub shape_fault : h.partitions ≢ asked.count → fault_of asked file (keeps h entries gate) ≡ Some (other_shape h.partitions)
  shape_fault other = rw (is_other h.partitions asked.count other) refl

  pub flows_fault : h.partitions ≡ asked.count → h.digest ≢ asked.digest → fault_of asked file (keeps h entries gate) ≡ Some (other_flows h.digest)
  flows_fault same other = rw (eq-eqb h.partitions asked.count same, is_other h.digest asked.digest other) refl

  pub no_fault : h.partitions ≡ asked.count → h.digest ≡ asked.digest → fault_of asked file (keeps h entries gate) ≡ None
  no_fault same own = rw (eq-eqb h.partitions asked.count same, eq-eqb h.digest asked.digest own) refl

module _ (partition : ℕ) (a : Header) (some : List Entry) (gate : ℕ) where
  pub one_late : a.base ≢ 0 → tied_fault partition (keeps a some gate) nothing ≡ Some (damaged_at (first_log partition) 25)
  one_late late = rw (is_other a.base 0 late) refl

  pub other_late : a.base ≢ 0 → tied_fault partition nothing (keeps a some gate) ≡ Some (damaged_at (second_log partition) 25)
  other_late late = rw (is_other a.base 0 late) refl

module _ (partition : ℕ) (a b : Header) (some more : List Entry) (gate other : ℕ) where
  pub same_tied : a.base ≡ b.base → tied_fault partition (keeps a some gate) (keeps b more other) ≡ Some (damaged_at (second_log partition) 25)
  same_tied same = rw (eq-eqb a.base b.base same) refl

  pub second_late : a.base ≢ b.base → a.base ≡ 0 → tied_fault partition (keeps a some gate) (keeps b more other) ≡ Some (damaged_at (second_log partition) 25)
  second_late apart first = rw (is_other a.base b.base apart, eq-eqb a.base 0 first, is_other b.base 0 (λ second. apart (first ∙ sym second))) refl

  pub first_late : a.base ≢ b.base → a.base ≢ 0 → tied_fault partition (keeps a some gate) (keeps b more other) ≡ Some (damaged_at (first_log partition) 25)
  first_late apart first = rw (is_other a.base b.base apart, is_other a.base 0 first) refl
