-- What each event leaves of the entries that were made.
use Rattle.std.proofs.Common.{◌≡◌, inl, ◌∙◌, true, false, not, ℕ, ◌==◌, max, List, [], ◌++◌, Some, Option, sym, ap, subst, append-nil, slice_get}
use Rattle.std.specs.List.{Contains}
use Rattle.std.proofs.lemmas.Bool.{eqb-true, true_from_ne_false}
use Rattle.std.proofs.lemmas.Option.{slice_get_within, get_or_from_slice_get}
use Rattle.cell_frames.specs.Joined.{StoreView}
use Rattle.cell_waits.specs.declared.wait.Ended.{Ended}
use Rattle.dura_value.specs.Ids.{home}
use Rattle.hub_store.specs.declared.way.Stage.{Stage}
use Rattle.hub_store.specs.declared.way.Stage.TheVariants as stages
use Rattle.dura_value.specs.Items.{Identity}
use Rattle.dura_value.specs.Messages.{Message}
use Rattle.dura_value.specs.Views.{message_of}
use Rattle.log_items.specs.declared.items.Packet.{Packet}
use Rattle.many_rules.specs.Rules.{Rules}
use Rattle.spec_cell.specs.Views.{CellView}
use Rattle.spec_cell.specs.declared.coming.Arrived.{Arrived}
use Rattle.spec_cell.specs.declared.coming.Arrived.TheVariants as arrivals
use Rattle.spec_cell.specs.declared.coming.Offered.{Offered}
use Rattle.spec_cell.specs.declared.coming.Offered.TheVariants as offers
use Rattle.spec_cell.specs.declared.coming.Recorded.{Recorded}
use Rattle.spec_cell.specs.declared.coming.Recorded.TheVariants as records
use Rattle.spec_tracker.specs.declared.marks.Marks.{Marks}
use Rattle.world_steps.specs.Cells.{CellBecomes}
use Rattle.world_core.specs.Happens.{OnlyCells, HasSubmitted, Brings, HasArrived, HasRecorded, HasTrimmed, HasFired, MovesFrame, HasSynced, HasGated, HasSaid}
use Rattle.world_steps.specs.Comes.{OffersTo, ArrivesAt, RecordsAt, TrimsAt}
use Rattle.world_core.specs.Unmet.{is_not_to}
use Rattle.world_core.specs.World.{WorldView}
use Rattle.world_core.specs.declared.answer.Answer.{Answer}
use Rattle.world_core.specs.declared.answer.Answer.TheVariants as answers
use Rattle.world_laws.proofs.Later.{Later, same_later, no_more, other_store, world_moves, world_stays}
use Rattle.world_laws.proofs.Waiting.{alike, offered, recorded, arrived, trimmed}
use Rattle.world_laws.specs.Made.{MadeEntry, IsSent, CellMade, AreMade}

-- all that was made, and maybe more
abbrev pub MadeOn : Rules → List MadeEntry → WorldView → Type 0
MadeOn rules made w = (more : List MadeEntry) × AreMade rules (made ++ more) w

pub none_made : (rules : Rules) (made : List MadeEntry) (w : WorldView) → AreMade rules made w → MadeOn rules made w
none_made rules made w are = ([], subst (λ (l : List MadeEntry). AreMade rules l w) (sym (append-nil made)) are)

-- what stands at a place is among all
pub at_place : {X : Type 0} (xs : List X) (k : ℕ) (x : X) → slice_get xs k ≡ Some x → Contains xs x
at_place xs k x is = (k, slice_get_within xs k x is, get_or_from_slice_get xs k x x is)

module _ (rules : Rules) (made : List MadeEntry) (old new : WorldView) (are : AreMade rules made old) (on : new.ended ≡ false) where
  abbrev Goes : Type 0
  Goes = MadeOn rules made new

  -- the life would be over
  pub over : {A : Type 0} → new.ended ≡ true → A
  over ended = absurd (cc (ended, on))

  pub same_world : new ≡ old → Goes
  same_world same = none_made rules made new (subst (AreMade rules made) (sym same) are)

  -- only one cell changed
  pub only_cell : (p : ℕ) (Does : CellView → CellView → Type 0) → OnlyCells old new → (becomes : CellBecomes p old.cells new.cells Does) → CellMade rules made old.store p becomes.after → Goes
  only_cell p Does is becomes cell =
      let store : new.store ≡ old.store = ap (λ (w : WorldView). w.store) is in
      let packets : new.packets ≡ old.packets = ap (λ (w : WorldView). w.packets) is in
      let marks : new.marks ≡ old.marks = ap (λ (w : WorldView). w.marks) is in
      none_made rules made new
      (world_moves rules made made old new p becomes.after (slice_get_within old.cells p becomes.cell becomes.there) are
      (same_later rules old.store new.store (ap (λ (s : StoreView). s.trail) store) (λ q. ap (λ (s : StoreView). s.floors q) store)) (no_more p made) becomes.becomes (λ one there at. are.numbered one there)
      (subst (λ (s : StoreView). CellMade rules made s p becomes.after) (sym store) cell)
      (λ packet inside. inl (subst (λ (l : List Packet). Contains l packet) packets inside)) (λ one inside. inl (subst (λ (l : List Marks). Contains l one) marks inside)))

  -- ---- what comes

  offers_to : (p : ℕ) (message : Message) (offer : Offered) → OnlyCells old new × CellBecomes p old.cells new.cells (OffersTo rules message offer) → Goes
  offers_to p message offer has =
      let b = has.1 in
      let d = b.does in
      only_cell p (OffersTo rules message offer) has.0 b (offered rules made old.store p b.cell (are.cells p b.cell b.there) d.0 d.2.0 message offer b.after d.2.2)

  pub submitted : (message : Message) (answer : Answer) → HasSubmitted rules message old new answer → Goes
  submitted message answers.Queued has = offers_to (home rules.count message.from) message offers.Queued has
  submitted message answers.Taken has = offers_to (home rules.count message.from) message offers.Taken has
  submitted message (answers.Answered reply) has = offers_to (home rules.count message.from) message (offers.Kept reply) has
  submitted message answers.Clash has = offers_to (home rules.count message.from) message offers.Clash has
  submitted message answers.Memory has = over has.ended
  submitted message other has = absurd has

  brings : (p place : ℕ) (arrival : Arrived) → is_not_to p (slice_get old.packets place) ≡ false → Brings rules p place old new arrival → Goes
  brings p place arrival to has =
      let packet = has.1.0 in
      let source : Identity = record { partition = has.1.0.src; incarnation = has.1.0.inc; position = has.1.0.pos } in
      let b = has.1.2 in
      let goes_to : has.1.0.dst ≡ p = eqb-true has.1.0.dst p (true_from_ne_false (has.1.0.dst == p) (λ wrong. absurd (let both : true ≡ false = ap not (sym wrong) ∙ subst (λ (o : Option Packet). is_not_to p o ≡ false) has.1.1 to in cc both))) in
      let sent : IsSent rules made source p has.1.0.seq (message_of has.1.0.message) = subst (λ (t : ℕ). IsSent rules made source t has.1.0.seq (message_of has.1.0.message)) goes_to (are.packets has.1.0 (at_place old.packets place has.1.0 has.1.1)) in
      only_cell p (ArrivesAt rules has.1.0 arrival) has.0 b (arrived rules made old.store p b.cell (are.cells p b.cell b.there) b.does.0 source has.1.0.seq (message_of has.1.0.message) arrival b.after sent b.does.2)

  pub comes_in : (p place : ℕ) (answer : Answer) → is_not_to p (slice_get old.packets place) ≡ false → HasArrived rules p place old new answer → Goes
  comes_in p place answers.Queued to has = brings p place arrivals.Queued to has
  comes_in p place (answers.Repeat next) to has = brings p place (arrivals.Repeat next) to has
  comes_in p place (answers.Gap next) to has = brings p place (arrivals.Gap next) to has
  comes_in p place answers.Memory to has = over has.ended
  comes_in p place other to has = absurd has

  records_at : (p : ℕ) (ended : Ended) (result : Recorded) → OnlyCells old new × CellBecomes p old.cells new.cells (RecordsAt rules ended result) → Goes
  records_at p ended result has =
      let b = has.1 in
      only_cell p (RecordsAt rules ended result) has.0 b (recorded rules made old.store p b.cell (are.cells p b.cell b.there) b.does.0 _ _ _ _ result b.after b.does.2)

  pub outcome_comes : (p : ℕ) (ended : Ended) (answer : Answer) → HasRecorded rules p ended old new answer → Goes
  outcome_comes p ended answers.Recorded has = records_at p ended records.Recorded has
  outcome_comes p ended answers.NotPending has = records_at p ended records.NotPending has
  outcome_comes p ended answers.Memory has = over has.ended
  outcome_comes p ended other has = absurd has

  pub trims_come : (p place : ℕ) (answer : Answer) → HasTrimmed rules p place old new answer → Goes
  trims_come p place (answers.Trimmed count) has =
      let b = has.1.2 in
      only_cell p (TrimsAt rules has.1.0 count) has.0 b (trimmed rules made old.store p b.cell (are.cells p b.cell b.there) has.1.0 b.does.0 count b.after (are.marks has.1.0 (at_place old.marks place has.1.0 has.1.1)) b.does.2)
  trims_come p place answers.Memory has = over has.ended
  trims_come p place other has = absurd has

  pub fires : (p now : ℕ) (answer : Answer) → HasFired rules p now old new answer → Goes
  fires p now (answers.Due count) has =
      let b = has.1 in
      let store : new.store ≡ record old.store { latest = max old.store.latest now } = ap (λ (w : WorldView). w.store) has.0 in
      let packets : new.packets ≡ old.packets = ap (λ (w : WorldView). w.packets) has.0 in
      let marks : new.marks ≡ old.marks = ap (λ (w : WorldView). w.marks) has.0 in
      let later = same_later rules old.store new.store (ap (λ (s : StoreView). s.trail) store) (λ q. ap (λ (s : StoreView). s.floors q) store) in
      let c = b.cell in
      let before = other_store rules made old.store new.store later p b.cell (are.cells p b.cell b.there) in
      let cell : CellMade rules made new.store p b.after = subst (CellMade rules made new.store p) (sym b.does.0) (alike rules made new.store p b.cell before b.cell.waits b.cell.round (max b.cell.now now) b.cell.owner b.cell.given before.waits) in
      none_made rules made new
      (world_moves rules made made old new p b.after (slice_get_within old.cells p b.cell b.there) are later (no_more p made) b.becomes (λ one there at. are.numbered one there) cell
      (λ packet inside. inl (subst (λ (l : List Packet). Contains l packet) packets inside)) (λ one inside. inl (subst (λ (l : List Marks). Contains l one) marks inside)))
  fires p now other has = absurd has

  -- ---- what is done to a frame without its cell

  stays_there : Later rules old.store new.store → new.cells ≡ old.cells → new.packets ≡ old.packets → new.marks ≡ old.marks → Goes
  stays_there later cells packets marks = none_made rules made new (world_stays rules made old new are later cells packets marks)

  moves_frame : (p : ℕ) (stage : Stage) → MovesFrame rules p old new stage → Goes
  moves_frame p stage moves =
      let is = moves.rest in
      stays_there (same_later rules old.store new.store (ap (λ (w : WorldView). w.store.trail) is) (λ q. ap (λ (w : WorldView). w.store.floors q) is)) (ap (λ (w : WorldView). w.cells) is) (ap (λ (w : WorldView). w.packets) is) (ap (λ (w : WorldView). w.marks) is)

  pub synced : (p : ℕ) (answer : Answer) → HasSynced rules p old new answer → Goes
  synced p answers.Synced has = moves_frame p stages.Synced has.1
  synced p answers.SiteFault has = over has.1.ended
  synced p answers.Unmet has = same_world has.1
  synced p other has = absurd has

  pub gated : (p : ℕ) (answer : Answer) → HasGated rules p old new answer → Goes
  gated p answers.Gated has = moves_frame p stages.Gated has.1
  gated p (answers.Refused why) has = same_world has.1
  gated p answers.SiteFault has = over has.1.ended
  gated p answers.Unmet has = same_world has.1
  gated p other has = absurd has

  pub said : (name : List ℕ) (number : ℕ) (answer : Answer) → HasSaid rules name number old new answer → Goes
  said name number answers.Said has =
      let is = has.1 in
      stays_there (same_later rules old.store new.store (ap (λ (w : WorldView). w.store.trail) is) (λ q. ap (λ (w : WorldView). w.store.floors q) is)) (ap (λ (w : WorldView). w.cells) is) (ap (λ (w : WorldView). w.packets) is) (ap (λ (w : WorldView). w.marks) is)
  said name number answers.NotAnswered has = same_world has.1
  said name number answers.SayFault has = over has.ended
  said name number answers.Memory has = over has.ended
  said name number other has = absurd has
