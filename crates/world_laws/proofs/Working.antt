-- What events that make entries, settle them or give them up leave of all that were made.
use Rattle.std.proofs.Common.{◌≡◌, ◌≢◌, inl, inr, ◌<◌, ◌∙◌, false, ℕ, List, [], ◌∷◌, ◌++◌, length, take, Some, refl, sym, ap, subst, arith, append-nil, slice_get, slice_set}
use Rattle.std.specs.List.{All, Contains}
use Rattle.std.proofs.lemmas.List.{length-set, get_or-set_same}
use Rattle.cell_steps.specs.Possible.{next_round}
use Rattle.std.proofs.lemmas.List.Elements.{All-nil, Contains-append_cases, Contains-push_cases}
use Rattle.std.specs.declared.alloc.Global.{Global}
use Rattle.std.specs.declared.vec.Vec.{Vec}
use Rattle.cell_frames.specs.declared.owning.Reopened.{Reopened}
use Rattle.cell_frames.specs.declared.owning.Reopened.TheVariants as reopenings
use Rattle.spec_cell.specs.Seats.{Slot}
use Rattle.world_core.specs.Reopens.{packets_in}
use Rattle.world_steps.specs.TakesOver.{TakesOver, CantTakeOver}
use Rattle.std.proofs.lemmas.Option.{slice_get_within, slice_get-get_or}
use Rattle.cell_frames.specs.Joined.{StoreView, Joined}
use Rattle.cell_frames.specs.Unlost.{floor_of}
use Rattle.cell_steps.specs.declared.mode.Mode.{Mode}
use Rattle.cell_waits.specs.Waits.{Waiting}
use Rattle.commit_gate.proofs.Going.{all_back}
use Rattle.commit_gate.specs.Ledgers.{log_length}
use Rattle.dura_value.specs.Items.{Entry, Floor}
use Rattle.dura_value.specs.Views.{message_of}
use Rattle.hub_store.proofs.Settling.{of_part-append, own_part}
use Rattle.hub_store.specs.Trail.{of_part, settling}
use Rattle.log_items.specs.declared.items.Packet.{Packet}
use Rattle.many_rules.specs.Rules.{Rules}
use Rattle.spec_cell.specs.Turns.{MakesEntry}
use Rattle.spec_cell.specs.Views.{CellView, HasFacts}
use Rattle.spec_tracker.specs.declared.marks.Marks.{Marks}
use Rattle.world_steps.specs.Cells.{CellBecomes}
use Rattle.world_core.specs.Happens.{OnlyCells, HasTurned, HasWritten, MarksNow, HasSettledFrame, HasJudged, HasOwned}
use Rattle.world_core.specs.World.{WorldView, Stands}
use Rattle.world_core.specs.declared.answer.Answer.{Answer}
use Rattle.world_core.specs.declared.answer.Answer.TheVariants as answers
use Rattle.world_laws.proofs.Events.{MadeOn, none_made, at_place, over, same_world, only_cell}
use Rattle.many_rules.specs.Ledgers.{ledgers}
use Rattle.spec_cell.specs.Moves.{IsReset}
use Rattle.spec_tracker.specs.Marks.{identity_of}
use Rattle.world_laws.proofs.GivingUp.{rewound_later, rewound_cell, reset_later, reset_cell}
use Rattle.world_laws.proofs.Later.{Later, same_later, later_both, no_more, other_store, world_moves}
use Rattle.world_laws.proofs.Marks.{marks_hold}
use Rattle.world_laws.proofs.Picked.{picks}
use Rattle.world_laws.proofs.Settled.{settled_later, settled_cell, later_out}
use Rattle.world_laws.proofs.Turned.{made_then, more_by_one, numbered_then, turned, packets_sent}
use Rattle.world_laws.proofs.Waiting.{alike, kept}
use Rattle.world_laws.specs.Made.{MadeEntry, line_in, IsSent, IsTrue, CellMade, MarksHold, AreMade, IsGrounded}

-- what was written at a place stands there
set_there : {X : Type 0} (xs : List X) (k : ℕ) (x : X) → k < length xs → slice_get (slice_set xs k x) k ≡ Some x
set_there xs k x low = slice_get-get_or (slice_set xs k x) k x (omega (arith, length-set xs k x, low)) ∙ ap (λ (y : _). Some y) (get_or-set_same xs k x x low)

module _ (rules : Rules) (made : List MadeEntry) (old new : WorldView) (are : AreMade rules made old) (on : old.ended ≡ false) (still : new.ended ≡ false) (stands : Stands rules old) (stands_then : Stands rules new) (ground : IsGrounded rules old) (ground_then : IsGrounded rules new) where
  abbrev Goes : Type 0
  Goes = MadeOn rules made new

  module _ (p : ℕ) (Does : CellView → CellView → Type 0) (becomes : CellBecomes p old.cells new.cells Does) where
    inside : p < length old.cells
    inside = slice_get_within old.cells p becomes.cell becomes.there

    below : p < rules.count
    below = let low = slice_get_within old.cells p becomes.cell becomes.there in let long = stands.many in omega (arith, low, long)

    there_then : slice_get new.cells p ≡ Some becomes.after
    there_then = subst (λ (l : List CellView). slice_get l p ≡ Some becomes.after) (sym becomes.becomes) (set_there old.cells p becomes.after (slice_get_within old.cells p becomes.cell becomes.there))

    joined : Joined rules old.store p becomes.cell
    joined = (stands.joined on p becomes.cell becomes.there).1

    joined_then : Joined rules new.store p becomes.after
    joined_then = (stands_then.joined still p becomes.after there_then).1

    was : CellMade rules made old.store p becomes.cell
    was = are.cells p becomes.cell becomes.there

    facts : HasFacts rules.flows rules.count (rules.begin p) becomes.cell
    facts = ground.facts p becomes.cell becomes.there

    facts_then : HasFacts rules.flows rules.count (rules.begin p) becomes.after
    facts_then = ground_then.facts p becomes.after there_then

    -- nothing was made, sent or known more
    alone : Later rules old.store new.store → new.packets ≡ old.packets → new.marks ≡ old.marks → CellMade rules made new.store p becomes.after → Goes
    alone later packets marks cell =
        none_made rules made new
        (world_moves rules made made old new p becomes.after inside are later (no_more p made) becomes.becomes (λ one there at. are.numbered one there) cell
        (λ packet in_new. inl (subst (λ (l : List Packet). Contains l packet) packets in_new)) (λ one in_new. inl (subst (λ (l : List Marks). Contains l one) marks in_new)))

    -- nothing was made, and these marks came to be known
    noted : (packets : List Packet) → Later rules old.store new.store → new.packets ≡ old.packets ++ packets → ((packet : Packet) → Contains packets packet → IsSent rules made (record { partition = packet.src; incarnation = packet.inc; position = packet.pos }) packet.dst packet.seq (message_of packet.message))
        → MarksNow rules old new → CellMade rules made new.store p becomes.after → Goes
    noted packets later packets_are sent now cell =
        none_made rules made new
        (world_moves rules made made old new p becomes.after inside are later (no_more p made) becomes.becomes (λ one there at. are.numbered one there) cell
        (λ packet in_new. elim (Contains-append_cases old.packets packets packet (subst (λ (l : List Packet). Contains l packet) packets_are in_new)) [ inl before ↦ inl before | inr more ↦ inr (sent packet more) ])
        (λ one in_new. elim (Contains-push_cases old.marks now.0 one (subst (λ (l : List Marks). Contains l one) now.1 in_new)) [ inl before ↦ inl before | inr this ↦ inr (subst (MarksHold rules new.store) this (marks_hold rules new.store now.0 now.2)) ]))

  -- ---- a turn

  same_cell : (p : ℕ) (Does : CellView → CellView → Type 0) → OnlyCells old new → (b : CellBecomes p old.cells new.cells Does) → b.after ≡ b.cell → Goes
  same_cell p Does is b same = only_cell rules made old new are still p Does is b (subst (CellMade rules made old.store p) (sym same) (are.cells p b.cell b.there))

  pub turns : (mode : Mode) (p limit : ℕ) (answer : Answer) → HasTurned rules mode p limit old new answer → Goes
  turns mode p limit (answers.Turned position) has =
      let b = has.2 in
      let packets = has.0 in
      let makes : MakesEntry rules.flows rules.count (rules.begin p) mode limit has.2.cell has.2.after position has.0 =
      subst (λ (k : ℕ). MakesEntry rules.flows rules.count (rules.begin k) mode limit has.2.cell has.2.after position has.0) (joined p _ has.2).goes.number has.2.does.1 in
      let store : new.store ≡ old.store = ap (λ (w : WorldView). w.store) has.1 in
      let sent : new.packets ≡ old.packets ++ has.0 = ap (λ (w : WorldView). w.packets) has.1 in
      let marks : new.marks ≡ old.marks = ap (λ (w : WorldView). w.marks) has.1 in
      let later = same_later rules old.store new.store (ap (λ (s : StoreView). s.trail) store) (λ q. ap (λ (s : StoreView). s.floors q) store) in
      let none = same_later rules old.store old.store refl (λ q. refl) in
      let at = below p _ has.2 in
      let cell : CellMade rules made old.store p has.2.cell = was p _ has.2 in
      let own = facts p _ has.2 in
      let then = facts_then p _ has.2 in
      let turned_cell = turned rules ground.begun made old.store p at has.2.cell has.2.after cell own then mode limit position has.0 makes none in
      let made_new = made_then rules ground.begun made old.store p at has.2.cell has.2.after cell own then mode limit position has.0 makes in (
        record { partition = p; front = line_in has.2.cell; entry = makes.entry } ∷ [],
        world_moves rules made made_new old new p has.2.after (inside p _ has.2) are later (more_by_one rules ground.begun made old.store p at has.2.cell has.2.after cell own then mode limit position has.0 makes) has.2.becomes
            (λ one there is. numbered_then rules ground.begun made old.store p at has.2.cell has.2.after cell own then mode limit position has.0 makes one are.numbered there)
            (subst (λ (s : StoreView). CellMade rules made_new s p has.2.after) (sym store) turned_cell)
            (λ packet in_new. elim (Contains-append_cases old.packets has.0 packet (subst (λ (l : List Packet). Contains l packet) sent in_new)) [
              | inl before ↦ inl before
              | inr more ↦ inr (packets_sent rules ground.begun made old.store p at has.2.cell has.2.after cell own then mode limit position has.0 makes packet more)
            ])
            (λ one in_new. inl (subst (λ (l : List Marks). Contains l one) marks in_new)),
      )
  turns mode p limit answers.Held has = same_cell p _ has.0 has.1 has.1.does.1
  turns mode p limit answers.Idle has =
      let b = has.1 in
      let c = b.cell in
      let is = b.does.1 in
      let cell = are.cells p b.cell b.there in
      only_cell rules made old new are still p _ has.0 b
      (subst (CellMade rules made old.store p) (sym is.becomes) (alike rules made old.store p c cell [] (next_round c.round) c.now c.owner c.given (All-nil (λ (w : Waiting). IsTrue rules made old.store p w.item))))
  turns mode p limit (answers.Spent number) has =
      let b = has.1 in
      let c = b.cell in
      let is = b.does.1 in
      let cell = are.cells p b.cell b.there in
      let True : Waiting → Type 0 = λ (w : Waiting). IsTrue rules made old.store p w.item in
      only_cell rules made old new are still p _ has.0 b
      (subst (CellMade rules made old.store p) (sym is.becomes) (alike rules made old.store p c cell is.rest (next_round c.round) c.now c.owner c.given (all_back True is.looked is.rest (subst (All True) is.left cell.waits))))
  turns mode p limit answers.Memory has = over rules made old new are still has.ended
  turns mode p limit other has = absurd has

  -- ---- a frame is written

  same_floors : new.store.floors ≡ old.store.floors → (q : ℕ) → new.store.floors q ≡ old.store.floors q
  same_floors floors q = ap (λ (f : ℕ → List Floor). f q) floors

  pub writes : (p place : ℕ) (answer : Answer) → HasWritten rules p place old new answer → Goes
  writes p place answers.Written has =
      let written = has.2.does.0 in
      let later = same_later rules old.store new.store written.trail (same_floors written.floors) in
      let picked = picks rules ground.begun made old.store p (below p _ has.2) has.2.cell has.2.after (was p _ has.2) (facts p _ has.2) has.0 (are.marks has.0 (at_place old.marks place has.0 has.1)) written.frame written.sending written.picked in
      alone p _ has.2 later has.3.0 has.3.1 (other_store rules made old.store new.store later p has.2.after picked)
  writes p place answers.NoneReady has =
      let same = has.2.does.1 in
      let later = same_later rules old.store new.store (ap (λ (s : StoreView). s.trail) same) (same_floors (ap (λ (s : StoreView). s.floors) same)) in
      alone p _ has.2 later has.3.0 has.3.1 (other_store rules made old.store new.store later p has.2.after (subst (CellMade rules made old.store p) (sym has.2.does.0.same) (was p _ has.2)))
  writes p place (answers.Full length) has =
      let unwritten = has.2.does.0.1 in
      let later = same_later rules old.store new.store unwritten.1 (same_floors unwritten.2) in
      alone p _ has.2 later has.3.0 has.3.1 (other_store rules made old.store new.store later p has.2.after (subst (CellMade rules made old.store p) (sym unwritten.0) (was p _ has.2)))
  writes p place answers.SiteFault has = over rules made old new are still has.ended
  writes p place answers.Memory has = over rules made old new are still has.ended
  writes p place other has = absurd has

  -- ---- a frame is settled

  pub settles : (mode : Mode) (p : ℕ) (answer : Answer) → HasSettledFrame rules mode p old new answer → Goes
  settles mode p answers.Settled has =
      let b = has.1.2 in
      let c = b.cell in
      let on_trail = b.does.0 in
      let frame : List Entry = take has.1.2.cell.out has.1.2.cell.entries in
      let mine : has.1.2.after.slot.mine ≡ has.1.2.cell.slot.mine ++ take has.1.2.cell.out has.1.2.cell.entries =
      (joined_then p _ has.1.2).goes.mine ∙ ap (of_part p) on_trail.trail ∙ of_part-append p old.store.trail (settling p on_trail.at frame) ∙ (λ i. sym (joined p _ has.1.2).goes.mine i ++ own_part p on_trail.at frame i) in
      let later = settled_later rules ground.begun old.store new.store (settling p on_trail.at frame) on_trail.trail ground.have ground_then.have (same_floors b.does.3) in
      noted p _ has.1.2 has.1.0.items later has.1.1
      (later_out rules ground.begun made old.store p (below p _ has.1.2) has.1.2.cell has.1.2.after (was p _ has.1.2) (facts p _ has.1.2) mine has.1.0.items mode b.does.2)
      has.1.3 (settled_cell rules made old.store new.store p has.1.2.cell has.1.2.after later (was p _ has.1.2) b.does.1 mine)
  settles mode p answers.SiteFault has = over rules made old new are still has.1.ended
  settles mode p answers.Unmet has = same_world rules made old new are still has.1
  settles mode p answers.Memory has = over rules made old new are still has.1
  settles mode p other has = absurd has

  -- ---- what is given up

  pub judges : (p place : ℕ) (answer : Answer) → HasJudged rules p place old new answer → Goes
  judges p place answers.Kept has =
      let b = has.1.2 in
      only_cell rules made old new are still p _ has.0 b (kept rules made old.store p b.cell (are.cells p b.cell b.there) rules.flows rules.count (rules.begin p) has.1.0 b.after b.does.0)
  judges p place (answers.Rewound floor dep) has =
      let b = has.2 in
      let trail : new.store.trail ≡ old.store.trail = ap (λ (s : StoreView). s.trail) b.does.1.rest in
      let mine = (joined p _ has.2).goes.mine in
      let number = (joined p _ has.2).goes.number in
      let at = below p _ has.2 in
      let cell : CellMade rules made old.store p has.2.cell = was p _ has.2 in
      let own = facts p _ has.2 in
      let later = rewound_later rules ground.begun made old.store new.store p at has.2.cell has.2.after cell number trail b.does.1.others mine own ground.have has.0 floor (identity_of dep) b.does.0 b.does.1.own in
      let after = rewound_cell rules ground.begun made old.store new.store p at has.2.cell has.2.after cell number trail b.does.1.others mine own ground.have has.0 floor (identity_of dep) b.does.0 b.does.1.own in
      noted p _ has.2 [] later (has.4 ∙ sym (append-nil old.packets)) (λ packet none. absurd (let low : none.0 < 0 = none.1 in omega arith)) has.3 after
  judges p place (answers.Spent number) has = same_cell p _ has.0 has.1.2 has.1.2.does.0.0
  judges p place answers.Memory has = over rules made old new are still has.ended
  judges p place other has = absurd has

  -- ---- a node takes a partition over

  -- the store once a frame was settled, and before another incarnation began
  abbrev middle : StoreView
  middle = record old.store { trail = new.store.trail }

  module _ (p node : ℕ) (c mid last after : CellView) (below_p : p < rules.count) (number : c.number ≡ p) (cell : CellMade rules made middle p mid) (mid_number : mid.number ≡ p) (others : (q : ℕ) → q ≢ p → new.store.floors q ≡ old.store.floors q) (floors_at : new.store.floors p ≡ old.store.floors p ++ floor_of last (log_length (ledgers rules p (of_part p new.store.trail))) ∷ [])
      (is : IsReset (log_length (ledgers rules p (of_part p new.store.trail))) mid last) (owned : after ≡ record last { owner = node }) where
    begun_later : Later rules middle new.store
    begun_later = reset_later rules ground.begun made middle new.store p below_p mid last cell mid_number refl others is floors_at

    owned_cell : CellMade rules made new.store p after
    owned_cell =
        let given_up_all = reset_cell rules ground.begun made middle new.store p below_p mid last cell mid_number refl others is floors_at in
        subst (CellMade rules made new.store p) (sym owned) (alike rules made new.store p last given_up_all last.waits last.round last.now node last.given given_up_all.waits)

  -- nothing of a frame that was dropped is out
  dropped_cell : (s : StoreView) (p : ℕ) (c mid : CellView) → CellMade rules made s p c → mid ≡ record c { out = 0 } → CellMade rules made s p mid
  dropped_cell s p c mid cell is = subst (CellMade rules made s p) (sym is) (record {
    held = cell.held;
    fate = cell.fate;
    younger = cell.younger;
    holds = cell.holds;
    waits = cell.waits;
    ready = λ item e inside names. let none : inside.0 < 0 = inside.1 in absurd (omega (arith, none));
  })

  owned_settled : (mode : Mode) (p node : ℕ) (packets : List Packet) (many : Vec Packet Global) → many.items ≡ packets → new.packets ≡ old.packets ++ packets → (b : CellBecomes p old.cells new.cells (TakesOver rules mode p node old.store new.store (reopenings.Settled many)))
      → MarksNow rules old new → Goes
  owned_settled mode p node packets many all sent b now =
      let t = b.does in
      let c = b.cell in
      let frame : List Entry = take b.cell.out b.cell.entries in
      let trail : new.store.trail ≡ old.store.trail ++ settling p t.opens.0.at frame = ap (λ (s : StoreView). s.trail) t.rest ∙ t.opens.0.trail in
      let number = (joined p _ b).goes.number in
      let at = below p _ b in
      let slot : b.after.slot ≡ t.mid.slot = ap (λ (v : CellView). v.slot) t.owned ∙ ap (λ (v : CellView). v.slot) t.gives_up.0.becomes in
      let whole : of_part p new.store.trail ≡ of_part p old.store.trail ++ frame = ap (of_part p) trail ∙ of_part-append p old.store.trail (settling p t.opens.0.at frame) ∙ ap (λ (l : List Entry). of_part p old.store.trail ++ l) (own_part p t.opens.0.at frame) in
      let between : of_part p t.between.trail ≡ of_part p new.store.trail =
      ap (of_part p) t.opens.0.trail ∙ of_part-append p old.store.trail (settling p t.opens.0.at frame) ∙ ap (λ (l : List Entry). of_part p old.store.trail ++ l) (own_part p t.opens.0.at frame) ∙ sym whole in
      let mine : t.mid.slot.mine ≡ b.cell.slot.mine ++ take b.cell.out b.cell.entries =
      ap (λ (s : Slot). s.mine) (sym slot) ∙ (joined_then p _ b).goes.mine ∙ whole ∙ ap (λ (l : List Entry). l ++ frame) (sym (joined p _ b).goes.mine) in
      let first = settled_later rules ground.begun old.store middle (settling p t.opens.0.at frame) trail ground.have ground_then.have (λ q. refl) in
      let cell = settled_cell rules made old.store middle p b.cell t.mid first (was p _ b) t.opens.1 mine in
      let mid_number : t.mid.number ≡ p = ap (λ (v : CellView). v.number) t.opens.1.0 ∙ number in
      let others : (q : ℕ) → q ≢ p → new.store.floors q ≡ old.store.floors q = λ q apart. t.gives_up.1.others q apart ∙ ap (λ (f : ℕ → List Floor). f q) t.opens.3 in
      let floors_at : new.store.floors p ≡ old.store.floors p ++ floor_of t.last (log_length (ledgers rules p (of_part p new.store.trail))) ∷ [] =
      t.gives_up.1.own ∙ (λ i. t.opens.3 i p ++ floor_of t.last (log_length (ledgers rules p (between i))) ∷ []) in
      let is : IsReset (log_length (ledgers rules p (of_part p new.store.trail))) t.mid t.last = subst (λ (l : List Entry). IsReset (log_length (ledgers rules p l)) t.mid t.last) between t.gives_up.0 in
      let later = later_both rules old.store middle new.store first (begun_later p node b.cell t.mid t.last b.after at number cell mid_number others floors_at is t.owned) in
      noted p _ b packets later sent
      (λ packet inside_new. later_out rules ground.begun made old.store p at b.cell t.mid (was p _ b) (facts p _ b) mine many.items mode t.opens.2 packet (subst (λ (l : List Packet). Contains l packet) (sym all) inside_new))
      now (owned_cell p node b.cell t.mid t.last b.after at number cell mid_number others floors_at is t.owned)

  owned_dropped : (mode : Mode) (p node : ℕ) → new.packets ≡ old.packets → (b : CellBecomes p old.cells new.cells (TakesOver rules mode p node old.store new.store reopenings.Dropped)) → MarksNow rules old new → Goes
  owned_dropped mode p node sent b now =
      let t = b.does in
      let number = (joined p _ b).goes.number in
      let at = below p _ b in
      let trail : new.store.trail ≡ old.store.trail = ap (λ (s : StoreView). s.trail) t.rest ∙ t.opens.1 in
      let first = same_later rules old.store middle trail (λ q. refl) in
      let cell = dropped_cell middle p b.cell t.mid (other_store rules made old.store middle first p b.cell (was p _ b)) t.opens.2 in
      let mid_number : t.mid.number ≡ p = ap (λ (v : CellView). v.number) t.opens.2 ∙ number in
      let between : of_part p t.between.trail ≡ of_part p new.store.trail = ap (of_part p) (t.opens.1 ∙ sym trail) in
      let others : (q : ℕ) → q ≢ p → new.store.floors q ≡ old.store.floors q = λ q apart. t.gives_up.1.others q apart ∙ ap (λ (f : ℕ → List Floor). f q) t.opens.3 in
      let floors_at : new.store.floors p ≡ old.store.floors p ++ floor_of t.last (log_length (ledgers rules p (of_part p new.store.trail))) ∷ [] =
      t.gives_up.1.own ∙ (λ i. t.opens.3 i p ++ floor_of t.last (log_length (ledgers rules p (between i))) ∷ []) in
      let is : IsReset (log_length (ledgers rules p (of_part p new.store.trail))) t.mid t.last = subst (λ (l : List Entry). IsReset (log_length (ledgers rules p l)) t.mid t.last) between t.gives_up.0 in
      let later = later_both rules old.store middle new.store first (begun_later p node b.cell t.mid t.last b.after at number cell mid_number others floors_at is t.owned) in
      noted p _ b [] later (sent ∙ sym (append-nil old.packets)) (λ packet none. absurd (let low : none.0 < 0 = none.1 in omega arith)) now
      (owned_cell p node b.cell t.mid t.last b.after at number cell mid_number others floors_at is t.owned)

  -- no number was left for another incarnation
  cant_own : (mode : Mode) (p number : ℕ) (reopened : Reopened) → new.packets ≡ old.packets ++ packets_in reopened → (b : CellBecomes p old.cells new.cells (CantTakeOver rules mode p old.store new.store reopened number)) → MarksNow rules old new → Goes
  cant_own mode p number (reopenings.Settled many) sent b now =
      let t = b.does in
      let floors : (q : ℕ) → new.store.floors q ≡ old.store.floors q = same_floors (ap (λ (s : StoreView). s.floors) t.spent.1 ∙ t.opens.3) in
      let frame : List Entry = take b.cell.out b.cell.entries in
      let same : b.after ≡ t.mid = t.spent.0.0 in
      let trail : new.store.trail ≡ old.store.trail ++ settling p t.opens.0.at frame = ap (λ (s : StoreView). s.trail) t.spent.1 ∙ t.opens.0.trail in
      let mine : t.mid.slot.mine ≡ b.cell.slot.mine ++ take b.cell.out b.cell.entries =
      ap (λ (v : CellView). v.slot.mine) (sym same) ∙ (joined_then p _ b).goes.mine ∙ ap (of_part p) trail ∙ of_part-append p old.store.trail (settling p t.opens.0.at frame) ∙ (λ i. sym (joined p _ b).goes.mine i ++ own_part p t.opens.0.at frame i) in
      let later = settled_later rules ground.begun old.store new.store (settling p t.opens.0.at frame) trail ground.have ground_then.have floors in
      noted p _ b many.items later sent (later_out rules ground.begun made old.store p (below p _ b) b.cell t.mid (was p _ b) (facts p _ b) mine many.items mode t.opens.2) now
      (subst (CellMade rules made new.store p) (sym same) (settled_cell rules made old.store new.store p b.cell t.mid later (was p _ b) t.opens.1 mine))
  cant_own mode p number reopenings.Dropped sent b now =
      let t = b.does in
      let floors : (q : ℕ) → new.store.floors q ≡ old.store.floors q = same_floors (ap (λ (s : StoreView). s.floors) t.spent.1 ∙ t.opens.3) in
      let same : b.after ≡ t.mid = t.spent.0.0 in
      let trail : new.store.trail ≡ old.store.trail = ap (λ (s : StoreView). s.trail) t.spent.1 ∙ t.opens.1 in
      let later = same_later rules old.store new.store trail floors in
      noted p _ b [] later sent (λ packet none. absurd (let low : none.0 < 0 = none.1 in omega arith)) now
      (subst (CellMade rules made new.store p) (sym same) (dropped_cell new.store p b.cell t.mid (other_store rules made old.store new.store later p b.cell (was p _ b)) t.opens.2))

  pub owns : (mode : Mode) (p node : ℕ) (answer : Answer) → HasOwned rules mode p node old new answer → Goes
  owns mode p node answers.OwnedSettled has = owned_settled mode p node has.0.items has.0 refl has.1 has.2 has.3
  owns mode p node answers.OwnedDropped has = owned_dropped mode p node has.0 has.1 has.2
  owns mode p node (answers.Spent number) has = cant_own mode p number has.0 has.1 has.2 has.3
  owns mode p node answers.SiteFault has = over rules made old new are still has.ended
  owns mode p node answers.Memory has = over rules made old new are still has.0
  owns mode p node other has = absurd has
