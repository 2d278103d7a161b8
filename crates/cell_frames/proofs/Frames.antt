-- The first entries that a cell holds go on from what its seat has settled.
use Rattle.std.proofs.Common.{◌≡◌, ◌<◌, ℕ, ◌+◌, List, [], ◌∷◌, ◌++◌, length, take, drop, Some, Ok, sym, ap, subst, ◌∙◌, arith}
use Rattle.std.specs.List.{All}
use Rattle.std.proofs.lemmas.List.{take-append-drop}
use Rattle.cell_frames.specs.Ours.{AreOurs}
use Rattle.commit_gate.proofs.Going.{all_front}
use Rattle.commit_gate.specs.declared.ledger.Sending.{Sending}
use Rattle.dura_model.proofs.Appending.{both_placed, placed_both, given_both}
use Rattle.dura_model.specs.Entries.{placed, entry_accepted, AllGiven}
use Rattle.dura_model.specs.Partition.{Partition, fresh}
use Rattle.dura_value.proofs.Basics.{both_ok}
use Rattle.dura_value.specs.Items.{Entry}
use Rattle.flow_syntax.specs.Syntax.{Flows}
use Rattle.hub_store.specs.Trail.{Said}
use Rattle.many_logs.proofs.Moving.{entry_moves}
use Rattle.many_logs.proofs.Own.{own_chain}
use Rattle.many_logs.specs.Labels.{state_next}
use Rattle.many_logs.specs.Placing.{states_after, of_partition}
use Rattle.many_rules.specs.Makes.{Makes}
use Rattle.many_rules.specs.Rules.{Rules, IsOurs, pairs_of}
use Rattle.part_items.proofs.Behind.{numbered_both}
use Rattle.part_items.specs.Numbered.{IsNumbered}
use Rattle.spec_cell.specs.Picks.{HasPicked}
use Rattle.spec_cell.specs.Views.{CellView, HasFacts}
use Rattle.spec_tracker.specs.declared.marks.Marks.{Marks}
use Rattle.task_laws.proofs.Pending.{asked_pending}
use Rattle.task_laws.specs.Asked.{WasAsked}

-- the state that entries make is of the same partition, and stands behind them
pub record StandsBehind (p : Partition) (entries : List Entry) (q : Partition) : Type 0 where
  pub number : q.number ≡ p.number
  pub position : q.position ≡ p.position + length entries

pub stands_behind : (flows : Flows) (count : ℕ) (entries : List Entry) (p q : Partition) → placed flows count p entries ≡ Ok q → StandsBehind p entries q
stands_behind flows count [] p q made =
    let same : p ≡ q = cc made in
    let position : q.position ≡ p.position = ap (λ (s : Partition). s.position) (sym same) in
    record { number = ap (λ (s : Partition). s.number) (sym same); position = omega (arith, position) }
stands_behind flows count (entry ∷ entries) p q made =
    let first = both_placed entry.position (entry_accepted flows count p entry) (λ next. placed flows count next entries) q made in
    let moves = entry_moves flows count entry p first.0 first.1 in
    let here : first.0.position ≡ p.position + 1 = moves.position in
    let rest = stands_behind flows count entries first.0 q first.2 in
    let behind = rest.position in
    record { number = rest.number ∙ moves.number; position = omega (arith, here, behind) }

module _ (rules : Rules) (made : states_after rules.flows rules.count fresh rules.recovered ≡ Some rules.begin) (latest : ℕ) (told : List Said) (c : CellView) (below : c.number < rules.count)
    (facts : HasFacts rules.flows rules.count (rules.begin c.number) c) (ours : AreOurs rules latest told c) where
  abbrev begin : Partition
  begin = rules.begin c.number

  -- what was recovered of the partition
  abbrev old : List Entry
  old = of_partition c.number rules.recovered

  begun : StandsBehind (fresh c.number) old begin
  begun = stands_behind rules.flows rules.count old (fresh c.number) begin (own_chain rules.flows rules.count rules.recovered fresh rules.begin c.number made)

  settled : StandsBehind begin c.slot.mine facts.base
  settled = stands_behind rules.flows rules.count c.slot.mine begin facts.base facts.settled

  -- the first so many of those that it holds may be made
  first_makes : (n : ℕ) → Makes rules latest c.slot.mine told c.number (take n c.entries)
  first_makes n =
      let front = take n c.entries in
      let behind = drop n c.entries in
      let whole : front ++ behind ≡ c.entries = take-append-drop n c.entries in
      let goes = both_ok (placed rules.flows rules.count facts.base front) (λ q. placed rules.flows rules.count q behind) facts.ahead
      (sym (placed_both rules.flows rules.count facts.base front behind) ∙ ap (placed rules.flows rules.count facts.base) whole ∙ facts.made) in
      record {
        below = below;
        before = facts.base;
        made = facts.settled;
        number = settled.number ∙ begun.number;
        position = let first = begun.position in let then = settled.position in omega (arith, first, then);
        numbered = ((numbered_both (state_next facts.base) front behind).0 (subst (IsNumbered (state_next facts.base)) (sym whole) facts.numbered)).0;
        after = goes.0;
        accepted = goes.1;
        given = ((given_both rules.flows rules.count facts.base front behind).0 (subst (AllGiven rules.flows rules.count facts.base) (sym whole) facts.given)).0;
        pending = λ serves.
            let Were = λ (entry : Entry). All (WasAsked rules.flows facts.base) entry.items in
            asked_pending rules.flows rules.count facts.base goes.0 front goes.1 (all_front Were front behind (subst (All Were) (sym whole) (ours.run facts.base facts.settled serves)));
        ours = all_front (IsOurs rules latest (pairs_of told) c.number) front behind (subst (All (IsOurs rules latest (pairs_of told) c.number)) (sym whole) ours.ours);
      }

pub picked_makes : (rules : Rules) (latest : ℕ) (told : List Said) (marks : Marks) (old new : CellView) (frame : List Entry) (sending : List Sending) → states_after rules.flows rules.count fresh rules.recovered ≡ Some rules.begin → old.number < rules.count
    → HasFacts rules.flows rules.count (rules.begin old.number) old → AreOurs rules latest told old → HasPicked rules.flows rules.count (rules.begin old.number) marks old frame sending new → Makes rules latest old.slot.mine told old.number frame
picked_makes rules latest told marks old new frame sending made below facts ours picked =
    subst (Makes rules latest old.slot.mine told old.number) (sym picked.first) (first_makes rules made latest told old below facts ours (length frame))
