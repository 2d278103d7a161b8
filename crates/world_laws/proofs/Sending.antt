-- Who sent what lies in a stream: what a frame's entries sent, each sent in its own name.
use Rattle.std.proofs.Common.{◌≡◌, inl, inr, ◌<◌, ◌≤◌, ◌∙◌, ℕ, ◌+◌, ◌-◌, List, [], ◌∷◌, ◌++◌, Some, Ok, Option, Result, refl, sym, ap, subst, arith, append_assoc, append-nil}
use Rattle.std.specs.List.{Contains}
use Rattle.std.proofs.lemmas.List.Elements.{All-contains}
use Rattle.std.proofs.lemmas.Option.{slice_get_within}
use Rattle.cell_frames.proofs.Frames.{stands_behind}
use Rattle.cell_packets.specs.Packets.{end_of}
use Rattle.commit_gate.specs.Met.{HasPosted}
use Rattle.dura_model.proofs.Appending.{placed_both, both_placed}
use Rattle.dura_model.proofs.EntriesSend.{entries_send}
use Rattle.dura_model.specs.Entries.{entry_accepted, or_place, placed}
use Rattle.dura_model.specs.Partition.{Partition}
use Rattle.dura_value.specs.Items.{Identity, Entry, Posted}
use Rattle.dura_value.specs.Reading.{◌>>=◌}
use Rattle.log_items.specs.Entries.{items_in, identity_at, identities_at, AreInTurn}
use Rattle.log_items.specs.Streams.{Outbox, Sent, with_sent, boxes_after}
use Rattle.many_rules.proofs.Meeting.{below_or}
use Rattle.many_rules.specs.Rules.{Rules}
use Rattle.world_laws.proofs.Lists.{there_is}
use Rattle.world_laws.proofs.Naming.{cons_cases}
use Rattle.world_laws.proofs.Streams.{posted_stays, posted_among, first_rises}
use Rattle.world_laws.specs.Made.{MadeEntry, WasSent}

-- a number has one message
one_message : (box : Outbox) (number : ℕ) (a b : Posted) → HasPosted box number a → HasPosted box number b → a ≡ b
one_message box number a b first second = let both : Some a ≡ Some b = sym first.stands ∙ second.stands in cc both

module _ (rules : Rules) (p : ℕ) (below : p < rules.count) where
  -- what lies beyond where a stream ended the entry sent that came
  pub sender_of : (before after : Partition) (entry : Entry) → before.number ≡ p → entry.position ≡ before.position → placed rules.flows rules.count before (entry ∷ []) ≡ Ok after → (target number : ℕ) (posted : Posted)
      → end_of (before.outboxes target) ≤ number → HasPosted (after.outboxes target) number posted → identity_at p entry ≡ posted.entry
  sender_of before after entry own at accepted target number posted past has =
      let sends = entries_send rules.flows rules.count p below before after (entry ∷ []) own (at, tt) accepted in
      let box : after.outboxes target ≡ boxes_after (with_sent before.outboxes sends.sent) (items_in (entry ∷ [])) target = ap (λ (f : ℕ → Outbox). f target) sends.boxes in
      let found = posted_among before.outboxes sends.sent (items_in (entry ∷ [])) target number posted (subst (λ (b : Outbox). HasPosted b number posted) box has) past in
      let by = (All-contains (λ (sent : Sent). (sent.to < rules.count) × Contains (identities_at p (entry ∷ [])) sent.posted.entry) sends.sent found.0 sends.senders found.1).1 in
      elim (cons_cases (identity_at p entry) [] found.0.posted.entry by) [
        | inl same ↦ same ∙ ap (λ (x : Posted). x.entry) found.2
        | inr none ↦ absurd (let low : none.0 < 0 = none.1 in omega arith)
      ]

  module _ (made : List MadeEntry) (target number : ℕ) (posted : Posted) where
    -- of entries behind others, each of which was made, one sent it
    pub frame_sent : (line frame : List Entry) (before after : Partition) → before.number ≡ p → AreInTurn before.position frame → placed rules.flows rules.count (rules.begin p) line ≡ Ok before → placed rules.flows rules.count before frame ≡ Ok after
        → ((front : List Entry) (entry : Entry) (behind : List Entry) → frame ≡ front ++ entry ∷ behind → Contains made (record { partition = p; front = line ++ front; entry = entry }))
        → end_of (before.outboxes target) ≤ number → HasPosted (after.outboxes target) number posted → WasSent rules made posted.entry target number posted.message
    frame_sent line [] before after own turn chain all every past has =
        let same : before ≡ after = cc all in
        let there : HasPosted (before.outboxes target) number posted = subst (λ (s : Partition). HasPosted (s.outboxes target) number posted) (sym same) has in
        let inside = slice_get_within (before.outboxes target).messages (number - (before.outboxes target).first) posted there.stands in
        let begun = there.begun in
        absurd (omega (arith, inside, begun, past))
    frame_sent line (entry ∷ frame) before after own turn chain all every past has =
        let first = both_placed entry.position (entry_accepted rules.flows rules.count before entry) (λ s. placed rules.flows rules.count s frame) after all in
        let next = first.0 in
        let accepted : placed rules.flows rules.count before (entry ∷ []) ≡ Ok first.0 = ap (λ (o : Option Partition). or_place entry.position o >>= λ s. placed rules.flows rules.count s []) first.1 in
        let moves = stands_behind rules.flows rules.count (entry ∷ []) before first.0 accepted in
        let there : placed rules.flows rules.count (rules.begin p) (line ++ entry ∷ []) ≡ Ok first.0 =
        placed_both rules.flows rules.count (rules.begin p) line (entry ∷ []) ∙ ap (λ (r : Result Partition ℕ). r >>= λ s. placed rules.flows rules.count s (entry ∷ [])) chain ∙ accepted in
        let e : before.position + 1 ≡ first.0.position = omega (arith, moves.position) in
        let later : AreInTurn first.0.position frame = subst (λ (n : ℕ). AreInTurn n frame) e turn.1 in
        elim (below_or number (end_of (first.0.outboxes target))) [
          | inl low ↦
              let sends = entries_send rules.flows rules.count p below first.0 after frame (moves.number ∙ own) later first.2 in
              let box : after.outboxes target ≡ boxes_after (with_sent first.0.outboxes sends.sent) (items_in frame) target = ap (λ (f : ℕ → Outbox). f target) sends.boxes in
              let has_then : HasPosted (boxes_after (with_sent first.0.outboxes sends.sent) (items_in frame) target) number posted = subst (λ (b : Outbox). HasPosted b number posted) box has in
              let one = here first.0 sends.sent frame low has_then in
              let name = sender_of before first.0 entry own turn.0 accepted target number posted past one in
              record {
                one = record { partition = p; front = line; entry = entry };
                there = subst (λ (l : List Entry). Contains made (record { partition = p; front = l; entry = entry })) (append-nil line) (every [] entry frame refl);
                name = name;
                sent = record {
                  after = first.0;
                  makes = there;
                  posted = subst (λ (i : Identity). HasPosted (first.0.outboxes target) number (record { entry = i; message = posted.message })) (sym name) one;
                };
              }
          | inr beyond ↦
              frame_sent (line ++ entry ∷ []) frame first.0 after (moves.number ∙ own) later there first.2
              (λ front e behind split. subst (λ (l : List Entry). Contains made (record { partition = p; front = l; entry = e })) (sym (append_assoc line (entry ∷ []) front)) (every (entry ∷ front) e behind (ap (λ (l : List Entry). entry ∷ l) split)))
              beyond has
        ]
      where
        -- what lies before where the stream ended then was there by then
        here : (next : Partition) (sent : List Sent) (rest : List Entry) → number < end_of (next.outboxes target) → HasPosted (boxes_after (with_sent next.outboxes sent) (items_in rest) target) number posted → HasPosted (next.outboxes target) number posted
        here next sent rest low has_then =
            let first = first_rises next.outboxes sent (items_in rest) target in
            let begun = has_then.begun in
            let there = there_is (next.outboxes target).messages (number - (next.outboxes target).first) (omega (arith, first, begun, low)) in
            let own_one : HasPosted (next.outboxes target) number there.0 = record { begun = omega (arith, first, begun); stands = there.1 } in
            let then = posted_stays next.outboxes sent (items_in rest) target number there.0 begun own_one in
            subst (HasPosted (next.outboxes target) number) (one_message (boxes_after (with_sent next.outboxes sent) (items_in rest) target) number there.0 posted then has_then) own_one
