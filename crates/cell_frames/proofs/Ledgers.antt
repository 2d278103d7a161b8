-- What a frame sends by its cell makes of its partition's ledger what its entries do.
use Rattle.std.proofs.Common.{◌≡◌, inl, inr, ◌<◌, ◌≤◌, ℕ, List, ◌++◌, map, Some, Ok, Result, sym, ap, subst, ◌∙◌, append_assoc, arith}
use Rattle.std.specs.List.{All, Contains, flat_map, range_with_len}
use Rattle.std.proofs.lemmas.List.{map-append}
use Rattle.std.proofs.lemmas.List.Elements.{All-weaker}
use Rattle.cell_frames.specs.LetGo.{LetGoBefore}
use Rattle.cell_frames.proofs.Joined.{posts_to, joined, sent_joined, posts_among, posts_beyond, posts_none}
use Rattle.cell_frames.proofs.LetGo.{Dropped, boxes_dropped, sent_beyond}
use Rattle.cell_packets.specs.Packets.{all_sent_from, ends_of, end_of, sent_to, sent_from}
use Rattle.commit_gate.specs.Ledgers.{Ledger, after_frame}
use Rattle.commit_gate.specs.Views.{all_sent}
use Rattle.commit_gate.specs.declared.ledger.Sending.{Sending}
use Rattle.dura_model.proofs.EntriesSend.{entries_send}
use Rattle.dura_model.proofs.Appending.{placed_both}
use Rattle.dura_model.specs.Entries.{placed}
use Rattle.dura_model.specs.Partition.{Partition}
use Rattle.dura_model.specs.Sends.{Sends}
use Rattle.dura_value.specs.Items.{Entry}
use Rattle.dura_value.specs.Reading.{◌>>=◌}
use Rattle.hub_store.specs.Trail.{Said}
use Rattle.log_items.specs.Entries.{items_in, identities_at, incarnations_in}
use Rattle.log_items.specs.Streams.{Outbox, Sent, with_sent, boxes_after}
use Rattle.many_logs.specs.Labels.{state_next}
use Rattle.many_logs.specs.Placing.{of_partition}
use Rattle.many_rules.proofs.Meeting.{below_or}
use Rattle.many_rules.specs.Ledgers.{ledger_of, ledgers}
use Rattle.many_rules.specs.Local.{in_turn, ledger_is}
use Rattle.many_rules.specs.Makes.{Makes}
use Rattle.many_rules.specs.Rules.{Rules}
use Rattle.spec_cell.specs.Picks.{HasPicked}
use Rattle.spec_cell.specs.Views.{CellView, IsBase}
use Rattle.spec_tracker.specs.declared.marks.Marks.{Marks}

-- streams that these messages join are those that what lies beyond their old ends joins
module _ (count : ℕ) (boxes after : ℕ → Outbox) (sent : List Sent) (inside : All (λ one. one.to < count) sent) (beyond : (target : ℕ) → sent_from target (end_of (boxes target)) (after target) ≡ map (sent_to target) (posts_to target sent)) where
  abbrev found : List Sent
  found = all_sent_from count (ends_of (Some boxes)) after

  found_is : found ≡ flat_map (λ target. map (sent_to target) (posts_to target sent)) (range_with_len 0 count)
  found_is = ap (λ (f : ℕ → List Sent). flat_map f (range_with_len 0 count)) (λ i target. (beyond target) i)

  same_posts : (target : ℕ) → posts_to target found ≡ posts_to target sent
  same_posts target = ap (posts_to target) found_is ∙ elim (below_or target count) [
    | inl low ↦ posts_among (λ other. posts_to other sent) target 0 count (omega arith) (omega (arith, low))
    | inr past ↦ posts_beyond (λ other. posts_to other sent) target 0 count (omega (arith, past)) ∙ sym (posts_none count target sent past inside)
  ]

  pub same_streams : with_sent boxes found ≡ with_sent boxes sent
  same_streams = λ i target. (sent_joined boxes found target ∙ ap (joined (boxes target)) (same_posts target) ∙ sym (sent_joined boxes sent target)) i

module _ (rules : Rules) (latest : ℕ) (mine : List Entry) (told : List Said) (partition : ℕ) (going : List Entry) (makes : Makes rules latest mine told partition going) where
  abbrev old : List Entry
  old = of_partition partition rules.recovered

  s : Sends rules.count partition makes.before going makes.after
  s = entries_send rules.flows rules.count partition makes.below makes.before makes.after going makes.number (in_turn (state_next makes.before) going makes.numbered) makes.accepted

  inside : All (λ one. one.to < rules.count) s.sent
  inside = All-weaker (λ (one : Sent). (one.to < rules.count) × Contains (identities_at partition going) one.posted.entry) (λ (one : Sent). one.to < rules.count) (λ one is. is.0) s.sent s.senders

  -- what the state has beyond where its streams ended is what the entries sent
  beyond : LetGoBefore (ends_of (Some makes.before.outboxes)) (items_in going) → (target : ℕ) → sent_from target (end_of (makes.before.outboxes target)) (makes.after.outboxes target) ≡ map (sent_to target) (posts_to target s.sent)
  beyond before target =
      let box = makes.before.outboxes target in
      let posts = posts_to target s.sent in
      let all = with_sent makes.before.outboxes s.sent in
      let here : all target ≡ joined box posts = sent_joined makes.before.outboxes s.sent target in
      let dropped = boxes_dropped (ends_of (Some makes.before.outboxes)) target (items_in going) all (subst (λ (b : Outbox). b.first ≤ end_of box) (sym here) (omega arith)) before in
      let after : boxes_after all (items_in going) target ≡ makes.after.outboxes target = sym (ap (λ (f : ℕ → Outbox). f target) s.boxes) in
      sent_beyond target box posts (makes.after.outboxes target)
      (subst (Dropped (end_of box) (joined box posts)) after (subst (λ (b : Outbox). Dropped (end_of box) b (boxes_after all (items_in going) target)) here dropped))

  both : placed rules.flows rules.count (rules.begin partition) (mine ++ going) ≡ Ok makes.after
  both = placed_both rules.flows rules.count (rules.begin partition) mine going ∙ ap (λ (r : Result Partition ℕ). r >>= λ q. placed rules.flows rules.count q going) makes.made ∙ makes.accepted

  pub ledgers_go : LetGoBefore (ends_of (Some makes.before.outboxes)) (items_in going) → ledgers rules partition (mine ++ going) ≡ after_frame (ledgers rules partition mine) going (all_sent_from rules.count (ends_of (Some makes.before.outboxes)) makes.after.outboxes)
  ledgers_go before =
      let first : ledgers rules partition mine ≡ ledger_of (old ++ mine) makes.before = ledger_is rules partition mine makes.before makes.below makes.made in
      let last : ledgers rules partition (mine ++ going) ≡ ledger_of (old ++ (mine ++ going)) makes.after = ledger_is rules partition (mine ++ going) makes.after makes.below both in
      let incarnations : incarnations_in (old ++ (mine ++ going)) ≡ incarnations_in (old ++ mine) ++ incarnations_in going = ap incarnations_in (sym (append_assoc old mine going)) ∙ map-append (λ (e : Entry). e.incarnation) (old ++ mine) going in
      let streams = same_streams rules.count makes.before.outboxes makes.after.outboxes s.sent inside (beyond before) in
      let goes : ledger_of (old ++ (mine ++ going)) makes.after ≡ after_frame (ledger_of (old ++ mine) makes.before) going (all_sent_from rules.count (ends_of (Some makes.before.outboxes)) makes.after.outboxes) =
      λ i. record { incarnations = incarnations i; nexts = s.nexts i; boxes = (s.boxes ∙ ap (λ (f : ℕ → Outbox). boxes_after f (items_in going)) (sym streams)) i } in
      last ∙ goes ∙ sym (ap (λ (l : Ledger). after_frame l going (all_sent_from rules.count (ends_of (Some makes.before.outboxes)) makes.after.outboxes)) first)

pub picked_goes : (rules : Rules) (latest : ℕ) (told : List Said) (marks : Marks) (c new : CellView) (frame : List Entry) (sending : List Sending) → Makes rules latest c.slot.mine told c.number frame → HasPicked rules.flows rules.count (rules.begin c.number) marks c frame sending new
    → ((base : Partition) → IsBase rules.flows rules.count (rules.begin c.number) c base → LetGoBefore (ends_of (Some base.outboxes)) (items_in frame)) → ledgers rules c.number (c.slot.mine ++ frame) ≡ after_frame (ledgers rules c.number c.slot.mine) frame (all_sent sending)
picked_goes rules latest told marks c new frame sending makes picked before =
    let begin = rules.begin c.number in
    let sends = picked.sends in
    let same : sends.base ≡ makes.before = let both : Ok sends.base ≡ Ok makes.before = sym sends.is_base ∙ makes.made in cc both in
    let whole : placed rules.flows rules.count begin (c.slot.mine ++ frame) ≡ Ok makes.after = both rules latest c.slot.mine told c.number frame makes in
    let there : sends.behind ≡ makes.after =
    let both : Ok sends.behind ≡ Ok makes.after = sym sends.made ∙ ap (λ (l : List Entry). placed rules.flows rules.count begin (c.slot.mine ++ l)) (sym picked.first) ∙ whole in cc both in
    let sent : all_sent sending ≡ all_sent_from rules.count (ends_of (Some makes.before.outboxes)) makes.after.outboxes =
    sends.sends ∙ ap (λ (p : Partition). all_sent_from rules.count (ends_of (Some p.outboxes)) sends.behind.outboxes) same ∙ ap (λ (p : Partition). all_sent_from rules.count (ends_of (Some makes.before.outboxes)) p.outboxes) there in
    ledgers_go rules latest c.slot.mine told c.number frame makes (before makes.before makes.made) ∙ ap (after_frame (ledgers rules c.number c.slot.mine) frame) (sym sent)
