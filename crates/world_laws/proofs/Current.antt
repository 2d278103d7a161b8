-- What is known of the logs last is as they are still, whatever happens: where something is settled or given up, that comes to be known.
use Rattle.std.proofs.Common.{◌≡◌, inl, inr, ◌∙◌, true, false, ℕ, List, Some, sym, ap, subst}
use Rattle.std.specs.List.{flat_map, range_with_len}
use Rattle.std.specs.Prelude.{option_map}
use Rattle.std.proofs.lemmas.Bool.{cases_Bool}
use Rattle.cell_frames.specs.Joined.{StoreView}
use Rattle.cell_steps.specs.declared.mode.Mode.{Mode}
use Rattle.cell_waits.specs.declared.wait.Ended.{Ended}
use Rattle.commit_gate.specs.Ledgers.{log_length, IsKnown}
use Rattle.dura_value.specs.Items.{Floor}
use Rattle.dura_value.specs.Messages.{Message}
use Rattle.dura_value.specs.Views.{message_of}
use Rattle.hub_store.specs.Trail.{Settled, of_part}
use Rattle.hub_store.specs.declared.way.Stage.{Stage}
use Rattle.hub_store.specs.declared.way.Stage.TheVariants as stages
use Rattle.many_rules.specs.Ledgers.{ledgers}
use Rattle.many_rules.specs.Rules.{Rules}
use Rattle.spec_tracker.specs.Marks.{length_in, floors_of, read_in}
use Rattle.spec_tracker.specs.declared.marks.Marks.{Marks}
use Rattle.world_core.specs.Happens.{OnlyCells, HasSubmitted, HasArrived, HasRecorded, HasTrimmed, HasFired, HasTurned, MovesFrame, HasWritten, HasSynced, HasGated, MarksNow, HasSettledFrame, HasJudged, HasOwned, HasSaid, Makes, Happens}
use Rattle.world_core.specs.Unmet.{is_unmet, place_ago}
use Rattle.world_core.specs.World.{WorldView}
use Rattle.world_steps.specs.Known.{AreMarksOf}
use Rattle.world_core.specs.declared.answer.Answer.{Answer}
use Rattle.world_core.specs.declared.answer.Answer.TheVariants as answers
use Rattle.world_core.specs.declared.event.Event.{Event}
use Rattle.world_core.specs.declared.event.Event.TheVariants as events
use Rattle.world_laws.specs.Lives.{IsCurrent}

-- what is known tells of what is settled and of where incarnations began, and of nothing else
same_marks : (rules : Rules) (old new : StoreView) (marks : Marks) → new.trail ≡ old.trail → new.floors ≡ old.floors → AreMarksOf rules old marks → AreMarksOf rules new marks
same_marks rules old new marks trail floors are = record {
  lengths = λ p low. subst (λ (t : List Settled). length_in marks p ≡ log_length (ledgers rules p (of_part p t))) (sym trail) (are.lengths p low);
  floors = subst (λ (f : ℕ → List Floor). floors_of marks ≡ flat_map f (range_with_len 0 rules.count)) (sym floors) are.floors;
  reads = λ read there. subst (λ (t : List Settled). read.next ≡ (ledgers rules read.reader (of_part read.reader t)).nexts read.source) (sym trail) (are.reads read there);
  readers = λ read there some. subst (λ (t : List Settled). IsKnown (ledgers rules read.reader (of_part read.reader t)) (record { partition = read.reader; incarnation = read.inc; position = read.pos })) (sym trail) (are.readers read there some);
  all = λ reader source low below. subst (λ (t : List Settled). option_map (λ read. read.next) (read_in marks reader source) ≡ Some ((ledgers rules reader (of_part reader t)).nexts source)) (sym trail) (are.all reader source low below);
}

module _ (rules : Rules) (old new : WorldView) (known : IsCurrent rules old) (on : new.ended ≡ false) where
  abbrev Goes : Type 0
  Goes = IsCurrent rules new

  -- the life would be over
  over : new.ended ≡ true → Goes
  over ended = absurd (cc (ended, on))

  same_world : new ≡ old → Goes
  same_world same = subst (IsCurrent rules) (sym same) known

  -- nothing was settled, no incarnation began, and nothing more came to be known
  stays : new.store.trail ≡ old.store.trail → new.store.floors ≡ old.store.floors → new.marks ≡ old.marks → Goes
  stays trail floors marks = (known.0, known.1, marks ∙ known.2, same_marks rules old.store new.store known.1 trail floors known.3)

  only_cells : OnlyCells old new → Goes
  only_cells is = stays (ap (λ (w : WorldView). w.store.trail) is) (ap (λ (w : WorldView). w.store.floors) is) (ap (λ (w : WorldView). w.marks) is)

  -- all that was settled and given up came to be known
  noted : MarksNow rules old new → Goes
  noted now = (old.marks, now.0, now.1, now.2)

  -- ---- what comes

  submitted : (message : Message) (answer : Answer) → HasSubmitted rules message old new answer → Goes
  submitted message answers.Queued has = only_cells has.0
  submitted message answers.Taken has = only_cells has.0
  submitted message (answers.Answered reply) has = only_cells has.0
  submitted message answers.Clash has = only_cells has.0
  submitted message answers.Memory has = over has.ended
  submitted message other has = absurd has

  comes_in : (p place : ℕ) (answer : Answer) → HasArrived rules p place old new answer → Goes
  comes_in p place answers.Queued has = only_cells has.0
  comes_in p place (answers.Repeat next) has = only_cells has.0
  comes_in p place (answers.Gap next) has = only_cells has.0
  comes_in p place answers.Memory has = over has.ended
  comes_in p place other has = absurd has

  outcome_comes : (p : ℕ) (ended : Ended) (answer : Answer) → HasRecorded rules p ended old new answer → Goes
  outcome_comes p ended answers.Recorded has = only_cells has.0
  outcome_comes p ended answers.NotPending has = only_cells has.0
  outcome_comes p ended answers.Memory has = over has.ended
  outcome_comes p ended other has = absurd has

  trims_come : (p place : ℕ) (answer : Answer) → HasTrimmed rules p place old new answer → Goes
  trims_come p place (answers.Trimmed count) has = only_cells has.0
  trims_come p place answers.Memory has = over has.ended
  trims_come p place other has = absurd has

  fires : (p now : ℕ) (answer : Answer) → HasFired rules p now old new answer → Goes
  fires p now (answers.Due count) has = let is = has.0 in stays (ap (λ (w : WorldView). w.store.trail) is) (ap (λ (w : WorldView). w.store.floors) is) (ap (λ (w : WorldView). w.marks) is)
  fires p now other has = absurd has

  turns : (mode : Mode) (p limit : ℕ) (answer : Answer) → HasTurned rules mode p limit old new answer → Goes
  turns mode p limit (answers.Turned position) has = let is = has.1 in stays (ap (λ (w : WorldView). w.store.trail) is) (ap (λ (w : WorldView). w.store.floors) is) (ap (λ (w : WorldView). w.marks) is)
  turns mode p limit answers.Held has = only_cells has.0
  turns mode p limit answers.Idle has = only_cells has.0
  turns mode p limit (answers.Spent number) has = only_cells has.0
  turns mode p limit answers.Memory has = over has.ended
  turns mode p limit other has = absurd has

  -- ---- frames

  writes : (p place : ℕ) (answer : Answer) → HasWritten rules p place old new answer → Goes
  writes p place answers.Written has = stays has.2.does.0.trail has.2.does.0.floors has.3.1
  writes p place answers.NoneReady has = let same = has.2.does.1 in stays (ap (λ (s : StoreView). s.trail) same) (ap (λ (s : StoreView). s.floors) same) has.3.1
  writes p place (answers.Full length) has = let unwritten = has.2.does.0.1 in stays unwritten.1 unwritten.2 has.3.1
  writes p place answers.SiteFault has = over has.ended
  writes p place answers.Memory has = over has.ended
  writes p place other has = absurd has

  moves_frame : (p : ℕ) (stage : Stage) → MovesFrame rules p old new stage → Goes
  moves_frame p stage moves = let is = moves.rest in stays (ap (λ (w : WorldView). w.store.trail) is) (ap (λ (w : WorldView). w.store.floors) is) (ap (λ (w : WorldView). w.marks) is)

  synced : (p : ℕ) (answer : Answer) → HasSynced rules p old new answer → Goes
  synced p answers.Synced has = moves_frame p stages.Synced has.1
  synced p answers.SiteFault has = over has.1.ended
  synced p answers.Unmet has = same_world has.1
  synced p other has = absurd has

  gated : (p : ℕ) (answer : Answer) → HasGated rules p old new answer → Goes
  gated p answers.Gated has = moves_frame p stages.Gated has.1
  gated p (answers.Refused why) has = same_world has.1
  gated p answers.SiteFault has = over has.1.ended
  gated p answers.Unmet has = same_world has.1
  gated p other has = absurd has

  settles : (mode : Mode) (p : ℕ) (answer : Answer) → HasSettledFrame rules mode p old new answer → Goes
  settles mode p answers.Settled has = noted has.1.3
  settles mode p answers.SiteFault has = over has.1.ended
  settles mode p answers.Unmet has = same_world has.1
  settles mode p answers.Memory has = over has.1
  settles mode p other has = absurd has

  -- ---- what is given up

  judges : (p place : ℕ) (answer : Answer) → HasJudged rules p place old new answer → Goes
  judges p place answers.Kept has = only_cells has.0
  judges p place (answers.Rewound floor dep) has = noted has.3
  judges p place (answers.Spent number) has = only_cells has.0
  judges p place answers.Memory has = over has.ended
  judges p place other has = absurd has

  owns : (mode : Mode) (p node : ℕ) (answer : Answer) → HasOwned rules mode p node old new answer → Goes
  owns mode p node answers.OwnedSettled has = noted has.3
  owns mode p node answers.OwnedDropped has = noted has.2
  owns mode p node (answers.Spent number) has = noted has.3
  owns mode p node answers.SiteFault has = over has.ended
  owns mode p node answers.Memory has = over has.0
  owns mode p node other has = absurd has

  said : (name : List ℕ) (number : ℕ) (answer : Answer) → HasSaid rules name number old new answer → Goes
  said name number answers.Said has = let is = has.1 in stays (ap (λ (w : WorldView). w.store.trail) is) (ap (λ (w : WorldView). w.store.floors) is) (ap (λ (w : WorldView). w.marks) is)
  said name number answers.NotAnswered has = same_world has.1
  said name number answers.SayFault has = over has.ended
  said name number answers.Memory has = over has.ended
  said name number other has = absurd has

  -- ---- all events

  -- by what an event makes
  by_event : (mode : Mode) (event : Event) (answer : Answer) → Makes rules mode old event answer new → Goes
  by_event mode (events.Submit message) answer makes = submitted (message_of message) answer makes
  by_event mode (events.Arrive p packet) answer makes = comes_in p packet answer makes
  by_event mode (events.Turn p limit) answer makes = turns mode p limit answer makes
  by_event mode (events.Body p ago) answer makes = writes p (place_ago old.marks ago) answer makes
  by_event mode (events.SyncBody p) answer makes = synced p answer makes
  by_event mode (events.Gate p) answer makes = gated p answer makes
  by_event mode (events.Settle p) answer makes = settles mode p answer makes
  by_event mode (events.Judge p ago) answer makes = judges p (place_ago old.marks ago) answer makes
  by_event mode (events.Outcome p ended) answer makes = outcome_comes p ended answer makes
  by_event mode (events.Fire p now) answer makes = fires p now answer makes
  by_event mode (events.Trim p ago) answer makes = trims_come p (place_ago old.marks ago) answer makes
  by_event mode (events.Stop node) answer makes = same_world makes.1
  by_event mode (events.Own p node) answer makes = owns mode p node answer makes
  by_event mode (events.Say name number) answer makes = said name number answer makes
  by_event mode events.Image answer makes = same_world makes.1

  pub stays_current : (mode : Mode) (nodes : ℕ) (event : Event) (answer : Answer) → Happens rules mode nodes old event answer new → IsCurrent rules new
  stays_current mode nodes event answer happens = elim (cases_Bool (is_unmet rules.count nodes old event)) [
    | inl unmet ↦ elim (happens.unmet unmet) [ inl none ↦ same_world none.1 | inr ends ↦ over ends.2.ended ]
    | inr met ↦ by_event mode event answer (happens.met met).1
  ]
