-- What the entries of a partition make of it, up to what is settled.
use Rattle.std.proofs.Common.{◌≡◌, ◌<◌, ◌≤◌, ◌∙◌, ℕ, ◌+◌, List, ◌++◌, length, Some, Ok, Result, sym, ap, subst, arith, length-append, append_assoc}
use Rattle.std.proofs.lemmas.List.{length-map}
use Rattle.cell_frames.proofs.Frames.{stands_behind}
use Rattle.commit_gate.specs.Ledgers.{log_length}
use Rattle.commit_gate.specs.Met.{HasPosted}
use Rattle.dura_model.proofs.Appending.{placed_both}
use Rattle.dura_model.proofs.EntriesSend.{entries_send}
use Rattle.dura_model.specs.Entries.{placed}
use Rattle.dura_model.specs.Partition.{Partition, fresh}
use Rattle.dura_value.specs.Items.{Entry, Posted}
use Rattle.dura_value.specs.Reading.{◌>>=◌}
use Rattle.hub_store.specs.Trail.{Settled, of_part}
use Rattle.log_items.specs.Entries.{items_in, AreInTurn}
use Rattle.log_items.specs.Streams.{Outbox, with_sent, boxes_after}
use Rattle.many_logs.proofs.Frames.{of_both}
use Rattle.many_logs.proofs.Own.{own_chain}
use Rattle.many_logs.specs.Labels.{state_next}
use Rattle.many_logs.specs.Placing.{states_after, of_partition}
use Rattle.many_rules.specs.Appended.{puts_part}
use Rattle.many_rules.specs.Ledgers.{ledger_of, ledgers}
use Rattle.many_rules.specs.Local.{in_turn, ledger_is}
use Rattle.many_rules.specs.Rules.{Rules, commits_of}
use Rattle.part_items.specs.Numbered.{IsNumbered}
use Rattle.trail_states.specs.HaveMade.{HaveMade}
use Rattle.world_laws.proofs.Lists.{turn_behind}
use Rattle.world_laws.proofs.Streams.{posted_stays}

module _ (rules : Rules) (begun : states_after rules.flows rules.count fresh rules.recovered ≡ Some rules.begin) (q : ℕ) (below : q < rules.count) where
  abbrev recovered : List Entry
  recovered = of_partition q rules.recovered

  first : placed rules.flows rules.count (fresh q) recovered ≡ Ok (rules.begin q)
  first = own_chain rules.flows rules.count rules.recovered fresh rules.begin q begun

  -- the state that a call begins with is the partition's, and stands behind what was recovered
  pub begin_number : (rules.begin q).number ≡ q
  begin_number = (stands_behind rules.flows rules.count recovered (fresh q) (rules.begin q) first).number

  pub begin_position : (rules.begin q).position ≡ length recovered
  begin_position = let at = (stands_behind rules.flows rules.count recovered (fresh q) (rules.begin q) first).position in omega (arith, at)

  -- what lies in a stream of a state stays in those behind it, until it is let go
  pub stays_behind : (line rest : List Entry) (after last : Partition) (target number : ℕ) (posted : Posted) → AreInTurn 0 (recovered ++ (line ++ rest)) → placed rules.flows rules.count (rules.begin q) line ≡ Ok after
      → placed rules.flows rules.count (rules.begin q) (line ++ rest) ≡ Ok last → (last.outboxes target).first ≤ number → HasPosted (after.outboxes target) number posted → HasPosted (last.outboxes target) number posted
  stays_behind line rest after last target number posted turn made all low has =
      let at = stands_behind rules.flows rules.count line (rules.begin q) after made in
      let long = length-append recovered line in
      let e : 0 + length (recovered ++ line) ≡ after.position = omega (arith, at.position, begin_position, long) in
      let there : AreInTurn after.position rest =
      subst (λ (n : ℕ). AreInTurn n rest) e (turn_behind 0 (recovered ++ line) rest (subst (AreInTurn 0) (sym (append_assoc recovered line rest)) turn)) in
      let then : placed rules.flows rules.count after rest ≡ Ok last =
      sym (placed_both rules.flows rules.count (rules.begin q) line rest ∙ ap (λ (r : Result Partition ℕ). r >>= λ s. placed rules.flows rules.count s rest) made) ∙ all in
      let s = entries_send rules.flows rules.count q below after last rest (at.number ∙ begin_number) there then in
      let box : last.outboxes target ≡ boxes_after (with_sent after.outboxes s.sent) (items_in rest) target = ap (λ (f : ℕ → Outbox). f target) s.boxes in
      subst (λ (b : Outbox). HasPosted b number posted) (sym box) (posted_stays after.outboxes s.sent (items_in rest) target number posted (subst (λ (b : Outbox). b.first ≤ number) box low) has)

  module _ (trail : List Settled) (have : HaveMade rules trail) where
    abbrev mine : List Entry
    mine = of_part q trail

    -- what was recovered and settled stands in turn
    pub settled_turn : AreInTurn 0 (recovered ++ mine)
    settled_turn =
        in_turn (state_next (fresh q)) (recovered ++ mine)
        (subst (IsNumbered (state_next (fresh q))) (of_both q rules.recovered (commits_of trail) ∙ ap (λ (l : List Entry). recovered ++ l) (puts_part q trail)) (have.numbered q))

    -- others see the state that it makes
    pub shows : ledgers rules q mine ≡ ledger_of (recovered ++ mine) (have.states q)
    shows = ledger_is rules q mine (have.states q) below (have.each q below)

    -- and as many entries as there are
    pub many : log_length (ledgers rules q mine) ≡ length recovered + length mine
    many = ap log_length shows ∙ length-map (recovered ++ mine) (λ (e : Entry). e.incarnation) ∙ length-append recovered mine

    pub stays_settled : (line rest : List Entry) (after : Partition) (target number : ℕ) (posted : Posted) → mine ≡ line ++ rest → placed rules.flows rules.count (rules.begin q) line ≡ Ok after
        → ((have.states q).outboxes target).first ≤ number → HasPosted (after.outboxes target) number posted → HasPosted ((have.states q).outboxes target) number posted
    stays_settled line rest after target number posted split made low has =
        stays_behind line rest after (have.states q) target number posted (subst (λ (l : List Entry). AreInTurn 0 (recovered ++ l)) split settled_turn) made
        (subst (λ (l : List Entry). placed rules.flows rules.count (rules.begin q) l ≡ Ok (have.states q)) split (have.each q below)) low has
