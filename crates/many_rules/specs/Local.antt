-- What a partition makes by its own state it makes still later, and goes on where its ledger stands; and what may be said of it is the
-- line that answers.
use Rattle.std.proofs.Common.{◌≡◌, ◌<◌, ◌≤◌, ℕ, ◌+◌, Bool, cond, List, [], ◌∷◌, ◌++◌, Some, Result, Ok, sym, ap, subst, ◌∙◌, append_assoc, length-append, get_or}
use Rattle.std.specs.List.{Contains}
use Rattle.std.specs.Option.{option_map}
use Rattle.client_port.specs.Lines.{line_of}
use Rattle.std.proofs.lemmas.Bool.{lt-ltb, le-ltb}
use Rattle.std.proofs.lemmas.List.{map-append, length-map}
use Rattle.std.proofs.lemmas.List.Elements.{All-weaker}
use Rattle.commit_gate.specs.Ledgers.{Ledger, log_length, after_frame}
use Rattle.commit_gate.specs.Views.{no_ledger}
use Rattle.dura_model.proofs.Appending.{placed_both}
use Rattle.dura_model.proofs.EntriesSend.{entries_send}
use Rattle.dura_model.specs.Entries.{placed}
use Rattle.dura_model.specs.Partition.{Partition}
use Rattle.dura_model.specs.Sends.{Sends}
use Rattle.dura_value.specs.Ids.{client, home}
use Rattle.dura_value.specs.Items.{Entry}
use Rattle.dura_value.specs.Reading.{◌>>=◌}
use Rattle.gated_store.specs.Follows.{GoesOnThere}
use Rattle.hub_store.specs.Trail.{Settled, Said, of_part}
use Rattle.log_items.specs.Entries.{items_in, incarnations_in, identities_at, AreInTurn}
use Rattle.log_items.specs.Readings.{ReadOn}
use Rattle.log_items.specs.Streams.{Sent}
use Rattle.many_logs.proofs.Own.{own_chain}
use Rattle.many_logs.specs.Labels.{state_next}
use Rattle.many_logs.specs.Placing.{of_partition}
use Rattle.many_rules.specs.Answering.{line_in, answer}
use Rattle.many_rules.specs.Appended.{puts_part, pairs_both}
use Rattle.many_rules.specs.Ledgers.{ledger_of, all_entries, ledger_made, ledgers}
use Rattle.many_rules.specs.Makes.{Makes}
use Rattle.many_rules.specs.Ours.{ours_still, ours_later}
use Rattle.many_rules.specs.Rules.{Rules, IsOurs, Answers, commits_of, pairs_of}
use Rattle.part_items.specs.Numbered.{Next, behind, IsNumbered}
use Rattle.run_rules.specs.Rules.{Told}

-- entries that are numbered stand one position after another
pub in_turn : (next : Next) (going : List Entry) → IsNumbered next going → AreInTurn next.position going
in_turn next [] numbered = tt
in_turn next (entry ∷ going) numbered = (numbered.0, subst (λ (n : ℕ). AreInTurn (n + 1) going) numbered.0 (in_turn (behind entry) going numbered.2))

module _ (rules : Rules) where
  -- where a state was made, and where there is no partition
  pub ledger_is : (partition : ℕ) (mine : List Entry) (p : Partition) → partition < rules.count → placed rules.flows rules.count (rules.begin partition) mine ≡ Ok p → ledgers rules partition mine ≡ ledger_of (all_entries rules partition mine) p
  ledger_is partition mine p below made =
      ap (λ (b : Bool). cond b (ledger_made rules partition mine (placed rules.flows rules.count (rules.begin partition) mine)) no_ledger) (lt-ltb partition rules.count below) ∙ ap (ledger_made rules partition mine) made

  pub outside : (partition : ℕ) (mine : List Entry) → rules.count ≤ partition → ledgers rules partition mine ≡ no_ledger
  outside partition mine past = ap (λ (b : Bool). cond b (ledger_made rules partition mine (placed rules.flows rules.count (rules.begin partition) mine)) no_ledger) (le-ltb partition rules.count past)

  -- what it may make it may make still
  pub still_makes : (latest : ℕ) (mine : List Entry) (told also : List Said) (partition : ℕ) (going : List Entry) → Makes rules latest mine told partition going → Makes rules latest mine (told ++ also) partition going
  still_makes latest mine told also partition going makes = record {
    below = makes.below;
    before = makes.before;
    made = makes.made;
    number = makes.number;
    position = makes.position;
    numbered = makes.numbered;
    after = makes.after;
    accepted = makes.accepted;
    given = makes.given;
    pending = makes.pending;
    ours = λ k d inside. subst (λ (t : Told). IsOurs rules latest t partition (get_or going k d)) (sym (pairs_both told also)) (ours_still rules latest partition _ (pairs_of told) (pairs_of also) (makes.ours k d inside));
  }

  pub later_makes : (latest later : ℕ) (mine : List Entry) (told : List Said) (partition : ℕ) (going : List Entry) → latest ≤ later → Makes rules latest mine told partition going → Makes rules later mine told partition going
  later_makes latest later mine told partition going above makes = record {
    below = makes.below;
    before = makes.before;
    made = makes.made;
    number = makes.number;
    position = makes.position;
    numbered = makes.numbered;
    after = makes.after;
    accepted = makes.accepted;
    given = makes.given;
    pending = makes.pending;
    ours = λ k d inside. ours_later rules latest partition _ later (pairs_of told) above (makes.ours k d inside);
  }

  pub goes_on : (latest : ℕ) (mine : List Entry) (told : List Said) (partition : ℕ) (going : List Entry) → Makes rules latest mine told partition going → GoesOnThere (ledgers rules) mine partition going
  goes_on latest mine told partition going makes =
      let turn : AreInTurn makes.before.position going = in_turn (state_next makes.before) going makes.numbered in
      let s : Sends rules.count partition makes.before going makes.after = entries_send rules.flows rules.count partition makes.below makes.before makes.after going makes.number turn makes.accepted in
      let old = of_partition partition rules.recovered in
      let before : ledgers rules partition mine ≡ ledger_of (old ++ mine) makes.before = ledger_is partition mine makes.before makes.below makes.made in
      let both : placed rules.flows rules.count (rules.begin partition) (mine ++ going) ≡ Ok makes.after =
      placed_both rules.flows rules.count (rules.begin partition) mine going ∙ ap (λ (r : Result Partition ℕ). r >>= λ q. placed rules.flows rules.count q going) makes.made ∙ makes.accepted in
      let after : ledgers rules partition (mine ++ going) ≡ ledger_of (old ++ (mine ++ going)) makes.after = ledger_is partition (mine ++ going) makes.after makes.below both in
      let incarnations : incarnations_in (old ++ (mine ++ going)) ≡ incarnations_in (old ++ mine) ++ incarnations_in going = ap incarnations_in (sym (append_assoc old mine going)) ∙ map-append (λ (e : Entry). e.incarnation) (old ++ mine) going in
      let same : ledger_of (old ++ (mine ++ going)) makes.after ≡ after_frame (ledger_of (old ++ mine) makes.before) going s.sent = λ i. record { incarnations = incarnations i; nexts = s.nexts i; boxes = s.boxes i } in
      let long : makes.before.position ≡ log_length (ledgers rules partition mine) =
      makes.position ∙ sym (length-append old mine) ∙ sym (length-map (old ++ mine) (λ (e : Entry). e.incarnation)) ∙ sym (ap log_length before) in (
        s.sent,
        record {
          positions = subst (λ (n : ℕ). AreInTurn n going) long turn;
          reads = subst (λ (l : Ledger). ReadOn l.nexts (items_in going)) (sym before) s.reads;
          senders = All-weaker (λ (one : Sent). (one.to < rules.count) × Contains (identities_at partition going) one.posted.entry) (λ (one : Sent). Contains (identities_at partition going) one.posted.entry) (λ one is. is.1) s.sent s.senders;
          makes = after ∙ same ∙ sym (ap (λ (l : Ledger). after_frame l going s.sent) before);
        },
      )

pub says : (rules : Rules) (trail : List Settled) (told : List Said) (one : Said) (line : List ℕ) → Answers rules trail told one line → answer rules trail one ≡ Some line
says rules trail told one line a =
    let place = home rules.count (client one.client) in
    let chain : placed rules.flows rules.count (rules.begin place) (of_part place trail) ≡ Ok (a.states place) =
    ap (placed rules.flows rules.count (rules.begin place)) (sym (puts_part place trail)) ∙ own_chain rules.flows rules.count (commits_of trail) rules.begin a.states place a.made in
    ap (line_in one) chain ∙ ap (option_map (line_of one.client one.number)) a.has ∙ ap (λ (l : List ℕ). Some l) (sym a.line_is)

-- where a call has as many partitions as its rules
pub outside_of : (rules : Rules) (count : ℕ) → rules.count ≡ count → (partition : ℕ) (mine : List Entry) → count ≤ partition → ledgers rules partition mine ≡ no_ledger
outside_of rules count same partition mine past = outside rules partition mine (subst (λ (n : ℕ). n ≤ partition) (sym same) past)
