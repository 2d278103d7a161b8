-- A frame that a cell picks may be written behind what the store has settled.
use Rattle.std.proofs.Common.{◌≡◌, inl, inr, ◌<◌, ◌≤◌, ℕ, zero, suc, ◌+◌, ◌^◌, List, [], ◌∷◌, ◌++◌, length, take, Some, Ok, sym, ap, subst, ◌∙◌, arith, length-append}
use Rattle.std.specs.List.{All}
use Rattle.std.proofs.lemmas.List.{length-map, length-take}
use Rattle.std.proofs.lemmas.List.Elements.{All-cons, All-head, All-tail, All-nil}
use Rattle.cell_frames.specs.Begun.{HasBegun}
use Rattle.cell_frames.specs.Joined.{StoreView, Joined, read_by}
use Rattle.cell_frames.specs.Writes.{MayBeWritten}
use Rattle.cell_frames.proofs.Behind.{goes_there, are_of_one, picked_inside}
use Rattle.cell_frames.proofs.Frames.{picked_makes, stands_behind}
use Rattle.cell_frames.proofs.Ledgers.{picked_goes}
use Rattle.cell_frames.proofs.Unlost.{picked_unlost}
use Rattle.cell_frames.specs.LetGo.{LetGoBefore}
use Rattle.cell_packets.specs.Packets.{ends_of}
use Rattle.commit_gate.specs.Ledgers.{Ledger, log_length, after_frame}
use Rattle.commit_gate.specs.Views.{all_sent}
use Rattle.commit_gate.specs.declared.ledger.Sending.{Sending}
use Rattle.many_rules.proofs.GateMoments.{goes_behind}
use Rattle.many_rules.proofs.Meeting.{below_or}
use Rattle.dura_model.specs.Entries.{placed}
use Rattle.dura_model.specs.Partition.{Partition, fresh}
use Rattle.dura_value.specs.Items.{Entry}
use Rattle.hub_store.specs.Origin.{Origin}
use Rattle.hub_store.specs.Trail.{of_part}
use Rattle.log_items.specs.Entries.{items_in}
use Rattle.many_logs.proofs.Frames.{of_both}
use Rattle.many_logs.proofs.Own.{own_chain}
use Rattle.many_logs.specs.Labels.{state_next}
use Rattle.many_logs.specs.Placing.{of_partition}
use Rattle.many_rules.specs.Appended.{puts_part}
use Rattle.many_rules.specs.Ledgers.{ledgers, ledger_of, all_entries}
use Rattle.many_rules.specs.Local.{ledger_is, outside}
use Rattle.many_rules.specs.Makes.{Makes}
use Rattle.many_rules.specs.Rules.{Rules, commits_of}
use Rattle.part_items.specs.ItemFits.{FitsEntry, FitsFrame}
use Rattle.part_items.proofs.Behind.{numbered_both}
use Rattle.part_items.specs.Numbered.{Next, IsNumbered}
use Rattle.spec_cell.specs.Picks.{HasPicked}
use Rattle.spec_cell.specs.Views.{CellView, HasFacts, IsBase}
use Rattle.spec_tracker.specs.declared.marks.Marks.{Marks}
use Rattle.trail_states.proofs.States.{reads_inside}
use Rattle.cell_frames.proofs.Reading.{picked_lets_go}
use Rattle.trail_states.specs.HaveMade.{HaveMade}

all_taken : {X : Type 0} (P : X → Type 0) (n : ℕ) (xs : List X) → All P xs → All P (take n xs)
all_taken P zero xs all = All-nil P
all_taken P (suc n) [] all = all
all_taken P (suc n) (x ∷ xs) all = All-cons P x (take n xs) (All-head P x xs all) (all_taken P n xs (All-tail P x xs all))

-- where a partition's state made what it has, its position is how many entries its log has
pub long_as : (rules : Rules) (latest : ℕ) (mine : List Entry) (told : _) (p : ℕ) (going : List Entry) → (makes : Makes rules latest mine told p going) → makes.before.position ≡ log_length (ledgers rules p mine)
long_as rules latest mine told p going makes =
    let old = of_partition p rules.recovered in
    makes.position ∙ sym (length-append old mine) ∙ sym (length-map (old ++ mine) (λ (e : Entry). e.incarnation)) ∙ sym (ap log_length (ledger_is rules p mine makes.before makes.below makes.made))

module _ (o : Origin) (rules : Rules) (begins : HasBegun o rules) (s : StoreView) (made : HaveMade rules s.trail) (p : ℕ) (below : p < rules.count) (c new : CellView) (joined : Joined rules s p c)
    (facts : HasFacts rules.flows rules.count (rules.begin p) c) (marks : Marks) (frame : List Entry) (sending : List Sending) (picked : HasPicked rules.flows rules.count (rules.begin p) marks c frame sending new) where
  abbrev mine : List Entry
  mine = of_part p s.trail

  facts_own : HasFacts rules.flows rules.count (rules.begin c.number) c
  facts_own = subst (λ (n : ℕ). HasFacts rules.flows rules.count (rules.begin n) c) (sym joined.goes.number) facts

  picked_own : HasPicked rules.flows rules.count (rules.begin c.number) marks c frame sending new
  picked_own = subst (λ (n : ℕ). HasPicked rules.flows rules.count (rules.begin n) marks c frame sending new) (sym joined.goes.number) picked

  below_own : c.number < rules.count
  below_own = subst (λ (n : ℕ). n < rules.count) (sym joined.goes.number) below

  makes_own : Makes rules s.latest c.slot.mine s.told c.number frame
  makes_own = picked_makes rules s.latest s.told marks c new frame sending begins.made below_own facts_own joined.goes.ours picked_own

  makes_here : Makes rules s.latest mine s.told p frame
  makes_here = subst (λ (l : List Entry). Makes rules s.latest l s.told p frame) joined.goes.mine (subst (λ (n : ℕ). Makes rules s.latest c.slot.mine s.told n frame) joined.goes.number makes_own)

  fits_frame : FitsFrame frame
  fits_frame = record {
    some = picked.some;
    few = picked.few;
    each = subst (All FitsEntry) (sym picked.first) (all_taken FitsEntry (length frame) c.entries facts.fit);
  }

  numbered : IsNumbered (state_next (rules.begin p)) mine
  numbered =
      let first = state_next (fresh p) in
      let old = of_partition p rules.recovered in
      let whole : IsNumbered first (old ++ mine) = subst (IsNumbered first) (of_both p rules.recovered (commits_of s.trail) ∙ ap (λ (l : List Entry). old ++ l) (puts_part p s.trail)) (made.numbered p) in
      let halves = (numbered_both first old mine).0 whole in
      let begun = goes_behind rules.flows rules.count old (fresh p) (rules.begin p) (own_chain rules.flows rules.count rules.recovered fresh rules.begin p begins.made) halves.0 in
      subst (λ (n : Next). IsNumbered n mine) (sym begun) halves.1

  -- its state is the cell's settled one
  base_is : makes_here.before ≡ facts.base
  base_is =
      let there = makes_here.made in
      let settled = facts.settled in
      let own = joined.goes.mine in
      cc (there, settled, own)

  room : log_length (ledgers rules p mine) + length frame ≤ 2 ^ 62
  room =
      let behind = stands_behind rules.flows rules.count c.entries facts.base facts.ahead facts.made in
      let position = behind.position in
      let top = facts.room in
      let short : length frame ≤ length c.entries = let taken = length-take (length frame) c.entries in let front = ap length picked.first in omega (arith, taken, front) in
      let long = long_as rules s.latest mine s.told p frame makes_here in
      let same = ap (λ (q : Partition). q.position) base_is in
      omega (arith, position, top, short, long, same)

  let_go : (base : Partition) → IsBase rules.flows rules.count (rules.begin c.number) c base → LetGoBefore (ends_of (Some base.outboxes)) (items_in frame)
  let_go base is =
      let own : made.states p ≡ base =
      let there = made.each p below in
      let settled = subst (λ (l : List Entry). placed rules.flows rules.count (rules.begin p) l ≡ Ok base) joined.goes.mine (subst (λ (n : ℕ). placed rules.flows rules.count (rules.begin n) c.slot.mine ≡ Ok base) joined.goes.number is) in
      cc (there, settled) in
      let ledger : ledgers rules p mine ≡ ledger_of (all_entries rules p mine) base = ledger_is rules p mine (made.states p) below (made.each p below) ∙ ap (ledger_of (all_entries rules p mine)) own in
      picked_lets_go (read_by rules s p) c joined.goes.read (ends_of (Some base.outboxes)) rules.flows rules.count (rules.begin c.number) marks new frame sending (λ reader. inside_of base ledger reader) picked_own
    where
      inside_of : (base : Partition) → ledgers rules p mine ≡ ledger_of (all_entries rules p mine) base → (reader : ℕ) → read_by rules s p reader ≤ ends_of (Some base.outboxes) reader
      inside_of base ledger reader = elim (below_or reader rules.count) [
        | inl low ↦
            let inside = reads_inside rules s.trail reader p made low below in
            subst (λ (l : Ledger). read_by rules s p reader ≤ (l.boxes reader).first + length (l.boxes reader).messages) ledger inside
        | inr past ↦
            let none : read_by rules s p reader ≡ 0 = ap (λ (l : Ledger). l.nexts p) (outside rules reader (of_part reader s.trail) past) in
            omega (arith, none)
      ]

  pub may_be_written : MayBeWritten o rules s p frame (all_sent sending)
  may_be_written = record {
    behind = goes_there o rules s.latest mine s.told p frame (begins.goes p below) numbered makes_here fits_frame;
    numbers = room;
    inside = picked_inside rules.flows rules.count (rules.begin p) marks c new frame sending picked;
    fits = are_of_one rules s.latest mine s.told p frame makes_here fits_frame;
    may = makes_here;
    makes =
        let goes = picked_goes rules s.latest s.told marks c new frame sending makes_own picked_own let_go in
        subst (λ (l : List Entry). ledgers rules p (l ++ frame) ≡ after_frame (ledgers rules p l) frame (all_sent sending)) joined.goes.mine
        (subst (λ (n : ℕ). ledgers rules n (c.slot.mine ++ frame) ≡ after_frame (ledgers rules n c.slot.mine) frame (all_sent sending)) joined.goes.number goes);
    unlost = picked_unlost (log_length (ledgers rules p mine)) (s.floors p) c joined.goes.unlost rules.flows rules.count (rules.begin p) marks frame sending new picked;
  }

-- the same, as the cell's calls say it
pub may_be_written_by : (o : Origin) (rules : Rules) → HasBegun o rules → (s : StoreView) → HaveMade rules s.trail → (p : ℕ) → p < rules.count → (c new : CellView) → Joined rules s p c → HasFacts rules.flows rules.count (rules.begin c.number) c
    → (marks : Marks) (frame : List Entry) (sending : List Sending) → HasPicked rules.flows rules.count (rules.begin c.number) marks c frame sending new → MayBeWritten o rules s p frame (all_sent sending)
may_be_written_by o rules begins s made p below c new joined facts marks frame sending picked =
    may_be_written o rules begins s made p below c new joined (subst (λ (n : ℕ). HasFacts rules.flows rules.count (rules.begin n) c) joined.goes.number facts) marks frame sending
    (subst (λ (n : ℕ). HasPicked rules.flows rules.count (rules.begin n) marks c frame sending new) joined.goes.number picked)
