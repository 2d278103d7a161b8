-- A partition's state is made of its own entries alone.
use Rattle.std.proofs.Common.{◌≡◌, ◌==◌, ℕ, Bool, true, false, cond, List, [], ◌∷◌, Option, Some, None, Ok, refl, sym, ap, subst, ◌∙◌}
use Rattle.std.specs.Option.{option_and_then}
use Rattle.std.proofs.lemmas.Bool.{eqb-true}
use Rattle.dura_value.specs.Reading.{◌>>=◌}
use Rattle.dura_value.specs.Items.{Entry}
use Rattle.flow_syntax.specs.Syntax.{Flows}
use Rattle.dura_model.specs.Partition.{Partition, with_part}
use Rattle.dura_model.proofs.Basics.{eqb_apart}
use Rattle.dura_model.specs.Entries as alone
use Rattle.dura_model.specs.Entries.{entry_accepted, or_place, AreGiven}
use Rattle.dura_model.proofs.Appending.{both_placed}
use Rattle.many_logs.specs.Placing.{commit_accepted, Commit, states_after, of_partition, commits_at, AllReady}
use Rattle.many_logs.specs.Labels.{AllGiven}
use Rattle.many_logs.proofs.Apart.{part_here, part_there, AllGrow, all_ready_still, accepted_parts, one_grows}
use Rattle.many_logs.proofs.Leads.{parts_again, parts_same}
use Rattle.dura_value.proofs.Basics.{some_same, both_some}

ready_later : (parts later : ℕ → Partition) (partition : ℕ) (entries : List Entry) → AllGrow parts later → AllReady parts partition entries → AllReady later partition entries
ready_later parts later partition [] grow ready = tt
ready_later parts later partition (entry ∷ entries) grow ready = (all_ready_still parts later partition entry.items grow ready.0, ready_later parts later partition entries grow ready.1)

module _ (flows : Flows) (count : ℕ) where
  -- the state of one partition that an order makes is what its own entries make
  pub own_chain : (run : List Commit) (parts later : ℕ → Partition) (partition : ℕ) → states_after flows count parts run ≡ Some later → alone.placed flows count (parts partition) (of_partition partition run) ≡ Ok (later partition)
  own_chain [] parts later partition all = ap (λ (f : ℕ → Partition). Ok (f partition)) (some_same all)
  own_chain (one ∷ run) parts later partition all = by (one.partition == partition) refl (own_chain run next later partition first.2)
    where
      first : (x : Partition) × (commit_accepted flows count parts one.partition one.entry ≡ Some x) × (states_after flows count (with_part parts one.partition x) run ≡ Some later)
      first = both_some (commit_accepted flows count parts one.partition one.entry) (λ x. states_after flows count (with_part parts one.partition x) run) later all

      next : ℕ → Partition
      next = with_part parts one.partition first.0

      by : (test : Bool) → (one.partition == partition) ≡ test → alone.placed flows count (next partition) (of_partition partition run) ≡ Ok (later partition) → alone.placed flows count (parts partition) (cond test (one.entry ∷ of_partition partition run) (of_partition partition run)) ≡ Ok (later partition)
      by true same rest =
          let at = eqb-true one.partition partition same in
          let here : next partition ≡ first.0 = subst (λ (p : ℕ). next p ≡ first.0) at (part_here parts one.partition first.0) in
          let made : entry_accepted flows count (parts partition) one.entry ≡ Some first.0 = subst (λ (p : ℕ). entry_accepted flows count (parts p) one.entry ≡ Some first.0) at (accepted_parts flows count parts one.partition one.entry first.0 first.1).1 in
          ap (λ (o : Option Partition). or_place one.entry.position o >>= λ s. alone.placed flows count s (of_partition partition run)) made
          ∙ ap (λ (s : Partition). alone.placed flows count s (of_partition partition run)) (sym here)
          ∙ rest
      by false apart rest = ap (λ (s : Partition). alone.placed flows count s (of_partition partition run)) (sym (part_there parts one.partition partition first.0 (eqb_apart one.partition partition apart))) ∙ rest

  -- Entries of one partition that make a state by themselves are accepted among the others, where these are as far as each needs.
  pub chain_goes : (entries : List Entry) (parts : ℕ → Partition) (partition : ℕ) (q : Partition) → AllReady parts partition entries → alone.placed flows count (parts partition) entries ≡ Ok q
      → states_after flows count parts (commits_at partition entries) ≡ Some (with_part parts partition q)
  chain_goes [] parts partition q ready made = let same : parts partition ≡ q = cc made in ap (λ (f : ℕ → Partition). Some f) (sym (parts_same parts partition) ∙ ap (with_part parts partition) same)
  chain_goes (entry ∷ entries) parts partition q ready made =
      let first = both_placed entry.position (entry_accepted flows count (parts partition) entry) (λ next. alone.placed flows count next entries) q made in
      let it : commit_accepted flows count parts partition entry ≡ Some first.0 = ap (λ (b : Bool). cond b (entry_accepted flows count (parts partition) entry) None) ready.0 ∙ first.1 in
      let next = with_part parts partition first.0 in
      let here = part_here parts partition first.0 in
      ap (option_and_then (λ x. states_after flows count (with_part parts partition x) (commits_at partition entries))) it
      ∙ chain_goes entries next partition q (ready_later parts next partition entries (one_grows flows count parts partition entry first.0 it) ready.1) (ap (λ (s : Partition). alone.placed flows count s entries) here ∙ first.2)
      ∙ ap (λ (f : ℕ → Partition). Some f) (parts_again parts partition first.0 q)

  -- what is known of their outcomes by themselves holds among the others
  pub chain_given : (entries : List Entry) (parts : ℕ → Partition) (partition : ℕ) → alone.AllGiven flows count (parts partition) entries → AllGiven flows count parts (commits_at partition entries)
  chain_given [] parts partition given = tt
  chain_given (entry ∷ entries) parts partition given = (
    given.0,
    λ next is.
        let made = (accepted_parts flows count parts partition entry next is).1 in
        chain_given entries (with_part parts partition next) partition (subst (λ (s : Partition). alone.AllGiven flows count s entries) (sym (part_here parts partition next)) (given.1 next made)),
  )
