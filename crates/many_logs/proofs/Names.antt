-- Streams are of the entries of their order.
use Rattle.std.proofs.Common.{◌≡◌, ◌⊎◌, inl, inr, ◌<◌, ◌+◌, ◌-◌, ◌==◌, ℕ, zero, suc, drop, Bool, true, false, cond, List, [], ◌∷◌, ◌++◌, Some, None, refl, sym, ap, subst, ◌∙◌, append_assoc, append-nil, arith}
use Rattle.std.specs.Prelude.{nat_lt}
use Rattle.std.specs.List.{Contains}
use Rattle.std.proofs.lemmas.Bool.{eqb-true}
use Rattle.std.proofs.lemmas.List.Elements.{Contains-append_left, Contains-append_right}
use Rattle.dura_value.specs.Items.{Identity, Posted}
use Rattle.flow_syntax.specs.Syntax.{Flows}
use Rattle.dura_model.specs.Partition.{Inbox, Partition, fresh, entry_of, enter, with_part}
use Rattle.part_items.specs.Numbered.{Next, behind, IsNumbered}
use Rattle.many_logs.specs.Placing.{first_of, message_at, commit_accepted, Commit, states_after, of_partition}
use Rattle.many_logs.specs.Labels.{AreNumbered, state_next}
use Rattle.many_logs.specs.Names.{identity_at, identities_in, AreOf}
use Rattle.many_logs.proofs.Basics.{self_eqb}
use Rattle.many_logs.proofs.Apart.{accepted_parts}
use Rattle.many_logs.proofs.Moving.{Moves, entry_moves}
use Rattle.dura_value.proofs.Basics.{some_same, both_some}

no_message : (number : ℕ) (posted : Posted) → message_at (record { first = 0; messages = [] }) number ≡ Some posted → ⊥
no_message number posted is = by (nat_lt number 0) is
  where
    nothing : (n : ℕ) → first_of (drop n []) ≡ Some posted → ⊥
    nothing zero wrong = cc wrong
    nothing (suc n) wrong = cc wrong

    by : (test : Bool) → cond test None (first_of (drop (number - 0) [])) ≡ Some posted → ⊥
    by true wrong = cc wrong
    by false wrong = nothing (number - 0) wrong

pub fresh_of : AreOf [] fresh
fresh_of = record { senders = λ partition target number posted is. absurd (no_message number posted is); readers = λ partition source some. absurd (omega (arith, some)) }

module _ (flows : Flows) (count : ℕ) where
  -- one more entry
  one_of : (known : List Identity) (one : Commit) (parts : ℕ → Partition) (next : Partition) → (parts one.partition).number ≡ one.partition → one.entry.position ≡ (parts one.partition).position → AreOf known parts → commit_accepted flows count parts one.partition one.entry ≡ Some next
      → AreOf (known ++ identity_at one.partition one.entry ∷ []) (with_part parts one.partition next)
  one_of known one parts next number position are is = record {
    senders = λ partition target at posted found. sends partition (one.partition == partition) refl target at posted found;
    readers = λ partition source some. takes partition (one.partition == partition) refl source some;
  }
    where
      p : Partition
      p = parts one.partition

      entered : Partition
      entered = enter one.entry.incarnation p

      moves : Moves entered next
      moves = entry_moves flows count one.entry p next (accepted_parts flows count parts one.partition one.entry next is).1

      name : Identity
      name = identity_at one.partition one.entry

      named : entry_of entered ≡ name
      named = let same : p.position + 1 - 1 ≡ one.entry.position = omega (arith, position) in λ i. record { partition = number i; incarnation = one.entry.incarnation; position = same i }

      old : (who : Identity) → Contains known who → Contains (known ++ name ∷ []) who
      old who has = Contains-append_left known (name ∷ []) who has

      new : (who : Identity) → who ≡ entry_of entered → Contains (known ++ name ∷ []) who
      new who its = subst (Contains (known ++ name ∷ [])) (sym (its ∙ named)) (Contains-append_right known (name ∷ []) name (0, omega arith, refl))

      sends : (partition : ℕ) (test : Bool) → (one.partition == partition) ≡ test → (target at : ℕ) (posted : Posted) → message_at ((cond test next (parts partition)).outboxes target) at ≡ Some posted → Contains (known ++ name ∷ []) posted.entry
      sends partition false apart target at posted found = old posted.entry (are.senders partition target at posted found)
      sends partition true same target at posted found = by ((moves.sent target).old at posted found)
        where
          by : (message_at (p.outboxes target) at ≡ Some posted) ⊎ (posted.entry ≡ entry_of entered) → Contains (known ++ name ∷ []) posted.entry
          by (inl before) = old posted.entry (are.senders one.partition target at posted before)
          by (inr its) = new posted.entry its

      takes : (partition : ℕ) (test : Bool) → (one.partition == partition) ≡ test → (source : ℕ) → 0 < ((cond test next (parts partition)).inboxes source).next → Contains (known ++ name ∷ []) ((cond test next (parts partition)).inboxes source).reader
      takes partition false apart source some = old _ (are.readers partition source some)
      takes partition true same source some = by (moves.read source).old
        where
          by : (next.inboxes source ≡ p.inboxes source) ⊎ ((next.inboxes source).reader ≡ entry_of entered) → Contains (known ++ name ∷ []) (next.inboxes source).reader
          by (inl before) = subst (λ (box : Inbox). Contains (known ++ name ∷ []) box.reader) (sym before) (old _ (are.readers one.partition source (subst (λ (box : Inbox). 0 < box.next) before some)))
          by (inr its) = new _ its

  pub run_of : (run : List Commit) (known : List Identity) (parts later : ℕ → Partition) → ((partition : ℕ) → (parts partition).number ≡ partition) → AreNumbered parts run → AreOf known parts → states_after flows count parts run ≡ Some later → AreOf (known ++ identities_in run) later
  run_of [] known parts later numbers numbered are all = subst (AreOf (known ++ [])) (some_same all) (subst (λ (l : List Identity). AreOf l parts) (sym (append-nil known)) are)
  run_of (one ∷ run) known parts later numbers numbered are all =
      let first = both_some (commit_accepted flows count parts one.partition one.entry) (λ x. states_after flows count (with_part parts one.partition x) run) later all in
      let next = with_part parts one.partition first.0 in
      let mine : IsNumbered (state_next (parts one.partition)) (one.entry ∷ of_partition one.partition run) = subst (IsNumbered (state_next (parts one.partition))) (ap (λ (b : Bool). cond b (one.entry ∷ of_partition one.partition run) (of_partition one.partition run)) (self_eqb one.partition)) (numbered one.partition) in
      let moves = entry_moves flows count one.entry (parts one.partition) first.0 (accepted_parts flows count parts one.partition one.entry first.0 first.1).1 in
      let goes : state_next first.0 ≡ behind one.entry =
      let position : first.0.position ≡ one.entry.position + 1 = moves.position ∙ ap (λ (n : ℕ). n + 1) (sym mine.0) in λ i. record { position = position i; incarnation = moves.incarnation i } in
      subst (λ (l : List Identity). AreOf l later) (append_assoc known (identity_at one.partition one.entry ∷ []) (identities_in run))
      (run_of run (known ++ identity_at one.partition one.entry ∷ []) next later (λ partition. number_of first.0 moves.number partition (one.partition == partition) refl) (λ partition. numbers_of first.0 partition (one.partition == partition) goes (numbered partition))
      (one_of known one parts first.0 (numbers one.partition) mine.0 are first.1) first.2)
    where
      number_of : (x : Partition) → x.number ≡ (parts one.partition).number → (partition : ℕ) (test : Bool) → (one.partition == partition) ≡ test → (cond test x (parts partition)).number ≡ partition
      number_of x is partition true same = is ∙ numbers one.partition ∙ eqb-true one.partition partition same
      number_of x is partition false apart = numbers partition

      numbers_of : (x : Partition) (partition : ℕ) (test : Bool) → state_next x ≡ behind one.entry → IsNumbered (state_next (parts partition)) (cond test (one.entry ∷ of_partition partition run) (of_partition partition run)) → IsNumbered (state_next (cond test x (parts partition))) (of_partition partition run)
      numbers_of x partition true goes is = subst (λ (n : Next). IsNumbered n (of_partition partition run)) (sym goes) is.2
      numbers_of x partition false goes is = is

  pub order_of : (run : List Commit) (later : ℕ → Partition) → AreNumbered fresh run → states_after flows count fresh run ≡ Some later → AreOf (identities_in run) later
  order_of run later numbered all = run_of run [] fresh later (λ partition. refl) numbered fresh_of all
