-- What a cell does by itself, and what comes to it, leaves it joined to the store.
use Rattle.std.proofs.Common.{◌≡◌, ◌≤◌, ℕ, zero, suc, max, true, List, [], ◌∷◌, ◌++◌, length, take, Option, Some, None, refl, sym, ap, subst, ◌∙◌, arith}
use Rattle.std.specs.List.{All, Contains}
use Rattle.std.proofs.lemmas.List.Elements.{All-nil}
use Rattle.cell_frames.proofs.Coming.{arrives_ours, offers_ours, records_ours}
use Rattle.cell_frames.proofs.GivenUp.{trims_ours}
use Rattle.cell_frames.proofs.Fresh.{fresh_same, fresh_more, fresh_none}
use Rattle.cell_frames.proofs.Holding.{made_ours, one_fresh}
use Rattle.cell_frames.proofs.Reading.{made_read, idle_read, spent_read, arrives_read, offers_read, records_read, trims_read}
use Rattle.cell_frames.proofs.Unlost.{made_unlost}
use Rattle.cell_frames.specs.Fresh.{IsFresh}
use Rattle.cell_frames.specs.Joined.{StoreView, Joined, read_by}
use Rattle.cell_frames.specs.Ours.{AreOurs, WaitOurs}
use Rattle.cell_frames.specs.TrimsRead.{TrimsRead}
use Rattle.cell_frames.specs.Unlost.{HoldsUnlost}
use Rattle.cell_steps.specs.Possible.{next_round}
use Rattle.cell_steps.specs.declared.mode.Mode.{Mode}
use Rattle.cell_steps.specs.declared.round.Round.{Round}
use Rattle.cell_tasks.specs.declared.given_out.GivenOut.{GivenOut}
use Rattle.cell_waits.specs.Waits.{Waiting}
use Rattle.commit_gate.proofs.Going.{all_back}
use Rattle.commit_gate.specs.Ledgers.{log_length}
use Rattle.dura_model.specs.Partition.{Partition}
use Rattle.dura_model.specs.World.{Activity}
use Rattle.dura_value.specs.Ids.{Id}
use Rattle.dura_value.specs.Items.{Identity, Entry, got, took, ended}
use Rattle.dura_value.specs.Messages.{Message}
use Rattle.dura_value.specs.declared.outcome.Outcome.{Outcome}
use Rattle.hub_store.specs.Trail.{of_part}
use Rattle.log_items.specs.declared.items.Packet.{Packet}
use Rattle.many_rules.specs.Ledgers.{ledgers}
use Rattle.many_rules.specs.Ours.{ours_later}
use Rattle.many_rules.specs.Rules.{Rules, rules_at, pairs_of}
use Rattle.run_rules.specs.Rules.{IsAsked}
use Rattle.spec_cell.specs.Comes.{Arrives, Records, Offers}
use Rattle.spec_cell.specs.Trims.{Trims, trims_by, with_trims}
use Rattle.spec_cell.specs.Turns.{MakesEntry, IsIdle, IsSpent, CellTurns}
use Rattle.spec_cell.specs.Views.{CellView, HasFacts, IsBase}
use Rattle.spec_cell.specs.declared.cell.CellTurn.{CellTurn}
use Rattle.spec_cell.specs.declared.cell.CellTurn.TheVariants as turns
use Rattle.spec_cell.specs.declared.coming.Arrived.{Arrived}
use Rattle.spec_cell.specs.declared.coming.Arrived.TheVariants as arrivals
use Rattle.spec_cell.specs.declared.coming.Offered.{Offered}
use Rattle.spec_cell.specs.declared.coming.Offered.TheVariants as offers
use Rattle.spec_cell.specs.declared.coming.Recorded.{Recorded}
use Rattle.spec_cell.specs.declared.coming.Recorded.TheVariants as records
use Rattle.spec_tracker.specs.declared.marks.Marks.{Marks}
use Rattle.spec_tracker.specs.declared.marks.Read.{Read}
use Rattle.task_laws.specs.Asked.{WasAsked}

-- the front of what grows at its end
front_stays : (n : ℕ) (xs ys : List Entry) → n ≤ length xs → take n (xs ++ ys) ≡ take n xs
front_stays zero xs ys low = refl
front_stays (suc n) [] ys low = absurd (omega (arith, low))
front_stays (suc n) (x ∷ xs) ys low = ap (λ (l : List Entry). x ∷ l) (front_stays n xs ys (omega (arith, low)))

module _ (rules : Rules) (s : StoreView) (p : ℕ) (old : CellView) (joined : Joined rules s p old) where
  abbrev Unlost : CellView → Type 0
  Unlost c = HoldsUnlost (log_length (ledgers rules p (of_part p s.trail))) (s.floors p) c

  abbrev Both : CellView → Type 0
  Both c = AreOurs rules s.latest s.told c × WaitOurs rules s.told c

  abbrev Reads : CellView → Type 0
  Reads c = TrimsRead (read_by rules s p) c

  both : Both old
  both = (joined.goes.ours, joined.goes.waits)

  -- of its entries those that are out stay, and of all else it keeps what joins it
  alike : (entries : List Entry) (waits : List Waiting) (given : Option GivenOut) (owner : ℕ) (round : Round) (new : CellView) → new ≡ record old { entries = entries; waits = waits; given = given; owner = owner; round = round } → take old.out entries ≡ take old.out old.entries
      → Both new → Unlost new → Reads new → (rules.serves ≡ true → IsFresh s.latest new) → Joined rules s p new
  alike entries waits given owner round new is front ours unlost reads fresh =
      let goes = joined.goes in
      let same_out : new.out ≡ old.out = ap (λ (v : CellView). v.out) is in
      let same_front : take new.out new.entries ≡ take old.out old.entries = ap (λ (v : CellView). take v.out v.entries) is ∙ front in
      record {
        goes = record {
          number = ap (λ (v : CellView). v.number) is ∙ goes.number;
          mine = ap (λ (v : CellView). v.slot.mine) is ∙ goes.mine;
          ours = ours.0;
          waits = ours.1;
          of_call = let low = goes.of_call in let same : new.incarnation ≡ old.incarnation = ap (λ (v : CellView). v.incarnation) is in omega (arith, low, same);
          since = let since = goes.since in let same : new.now ≡ old.now = ap (λ (v : CellView). v.now) is in omega (arith, since, same);
          timely = let timely = goes.timely in let same : new.now ≡ old.now = ap (λ (v : CellView). v.now) is in omega (arith, timely, same);
          fresh = fresh;
          unlost = unlost;
          read = reads;
        };
        out = record {
          rests = λ none. joined.out.rests (sym same_out ∙ none);
          goes = λ some. joined.out.goes (omega (arith, some, same_out)) ∙ ap (λ (l : List Entry). Some l) (sym same_front);
        };
      }

  -- where it holds the same
  fresh_alike : (new : CellView) → new.now ≡ old.now → new.entries ≡ old.entries → rules.serves ≡ true → IsFresh s.latest new
  fresh_alike new now entries serves = fresh_same s.latest old new now entries (joined.goes.fresh serves)

  -- with the same entries
  waits_alike : (waits : List Waiting) (round : Round) (new : CellView) → new ≡ record old { waits = waits; round = round } → Both new → Reads new → Joined rules s p new
  waits_alike waits round new is ours reads =
      alike old.entries waits old.given old.owner round new is refl ours (subst Unlost (sym is) (record { unlost = joined.goes.unlost.unlost; latest = joined.goes.unlost.latest })) reads
      (fresh_alike new (ap (λ (v : CellView). v.now) is) (ap (λ (v : CellView). v.entries) is))

  same_joined : (new : CellView) → new ≡ old → Joined rules s p new
  same_joined new is = subst (Joined rules s p) (sym is) joined

  -- ---- turns

  pub made_joined : HasFacts rules.flows rules.count (rules.begin old.number) old → (mode : Mode) (limit : ℕ) → limit ≤ rules.most → (new : CellView) (position : ℕ) (packets : List Packet) → MakesEntry rules.flows rules.count (rules.begin old.number) mode limit old new position packets → Joined rules s p new
  made_joined facts mode limit most new position packets makes =
      let goes = joined.goes in
      let first : rules.incarnations old.number ≤ old.incarnation = subst (λ (n : ℕ). rules.incarnations n ≤ old.incarnation) (sym goes.number) goes.of_call in
      alike (old.entries ++ makes.entry ∷ []) makes.rest old.given old.owner (next_round old.round) new makes.becomes (front_stays old.out old.entries (makes.entry ∷ []) facts.within)
      (made_ours rules s.latest s.told mode limit old position packets facts first most goes.since goes.timely goes.ours goes.waits new makes)
      (made_unlost (log_length (ledgers rules p (of_part p s.trail))) (s.floors p) old goes.unlost rules.flows rules.count (rules.begin old.number) mode limit new position packets makes)
      (made_read (read_by rules s p) old goes.read rules.flows rules.count (rules.begin old.number) mode limit new position packets makes)
      (λ serves.
      let fresh = goes.fresh serves in
      fresh_more s.latest old new makes.entry (ap (λ (v : CellView). v.now) makes.becomes) (ap (λ (v : CellView). v.entries) makes.becomes)
      (one_fresh rules s.latest s.told mode limit old position packets facts first most goes.since goes.timely goes.ours goes.waits new makes s.latest fresh.heard) fresh)

  -- the last of what waits go on waiting
  fewer_ours : (looked rest : List Waiting) (round : Round) → old.waits ≡ looked ++ rest → Both (record old { waits = rest; round = round })
  fewer_ours looked rest round left = (
    record { ours = joined.goes.ours.ours; run = joined.goes.ours.run },
    record {
      asked = λ serves. let P = λ (w : Waiting). IsAsked (rules_at rules old.number) (pairs_of s.told) w.item in all_back P looked rest (subst (All P) left (joined.goes.waits.asked serves));
      run = λ base is serves. let P = λ (w : Waiting). WasAsked rules.flows base w.item in all_back P looked rest (subst (All P) left (joined.goes.waits.run base is serves));
    },
  )

  none_ours : (round : Round) → Both (record old { waits = []; round = round })
  none_ours round = (
    record { ours = joined.goes.ours.ours; run = joined.goes.ours.run },
    record { asked = λ serves. All-nil (λ (w : Waiting). IsAsked (rules_at rules old.number) (pairs_of s.told) w.item); run = λ base is serves. All-nil (λ (w : Waiting). WasAsked rules.flows base w.item) },
  )

  pub idle_joined : (new : CellView) → IsIdle rules.flows rules.count (rules.begin old.number) old new → Joined rules s p new
  idle_joined new idle =
      waits_alike [] (next_round old.round) new idle.becomes (subst Both (sym idle.becomes) (none_ours (next_round old.round))) (idle_read (read_by rules s p) old joined.goes.read rules.flows rules.count (rules.begin old.number) new idle)

  pub spent_joined : (new : CellView) (number : ℕ) → IsSpent rules.flows rules.count (rules.begin old.number) old new number → Joined rules s p new
  spent_joined new number spent =
      waits_alike spent.rest (next_round old.round) new spent.becomes (subst Both (sym spent.becomes) (fewer_ours spent.looked spent.rest (next_round old.round) spent.left))
      (spent_read (read_by rules s p) old joined.goes.read rules.flows rules.count (rules.begin old.number) new number spent)

  pub turned_joined : HasFacts rules.flows rules.count (rules.begin old.number) old → (mode : Mode) (limit : ℕ) → limit ≤ rules.most → (turned : CellTurn) (new : CellView) → CellTurns rules.flows rules.count (rules.begin old.number) mode limit old turned new → Joined rules s p new
  turned_joined facts mode limit most (turns.Turned position packets) new is = made_joined facts mode limit most new position packets.items is.1
  turned_joined facts mode limit most turns.Held new is = same_joined new is.1
  turned_joined facts mode limit most turns.Idle new is = idle_joined new is.1
  turned_joined facts mode limit most (turns.Spent number) new is = spent_joined new number is.1

  -- ---- what comes

  pub arrives_joined : (ahead : Partition) (source : Identity) (number : ℕ) (message : Message) (arrived : Arrived) (new : CellView) → Arrives ahead source number message old arrived new → Joined rules s p new
  arrives_joined ahead source number message arrivals.Queued new is =
      waits_alike (old.waits ++ record { item = got source number message; activity = None } ∷ []) old.round new is.1 (arrives_ours rules s.latest s.told old joined.goes.ours joined.goes.waits ahead source number message arrivals.Queued new is)
      (arrives_read (read_by rules s p) old joined.goes.read ahead source number message arrivals.Queued new is)
  arrives_joined ahead source number message (arrivals.Repeat next) new is = same_joined new is.2
  arrives_joined ahead source number message (arrivals.Gap next) new is = same_joined new is.2

  pub offers_joined : (base ahead : Partition) (message : Message) (offered : Offered) (new : CellView) → (rules.serves ≡ true → IsAsked (rules_at rules old.number) (pairs_of s.told) (took message)) → Offers base ahead message old offered new → Joined rules s p new
  offers_joined base ahead message offers.Queued new asked is =
      waits_alike (old.waits ++ record { item = took message; activity = None } ∷ []) old.round new is.1
      (offers_ours rules s.latest s.told old joined.goes.ours joined.goes.waits base ahead message offers.Queued new asked is) (offers_read (read_by rules s p) old joined.goes.read base ahead message offers.Queued new is)
  offers_joined base ahead message offers.Clash new asked is = same_joined new is.1
  offers_joined base ahead message offers.Taken new asked is = same_joined new is.1
  offers_joined base ahead message (offers.Kept answer) new asked is = same_joined new is.1

  pub records_joined : (ahead : Partition) (id : Id) (task : ℕ) (activity : Activity) (outcome : Outcome) (recorded : Recorded) (new : CellView)
      → (rules.serves ≡ true → (base : Partition) → IsBase rules.flows rules.count (rules.begin old.number) old base → WasAsked rules.flows base (ended id task outcome)) → Records ahead id task activity outcome old recorded new → Joined rules s p new
  records_joined ahead id task activity outcome records.Recorded new was is =
      waits_alike (old.waits ++ record { item = ended id task outcome; activity = Some activity } ∷ []) old.round new is.1
      (records_ours rules s.latest s.told old joined.goes.ours joined.goes.waits ahead id task activity outcome records.Recorded new (λ base there serves. was serves base there) is)
      (records_read (read_by rules s p) old joined.goes.read ahead id task activity outcome records.Recorded new is)
  records_joined ahead id task activity outcome records.NotPending new was is = same_joined new is.1

  pub trims_joined : (marks : Marks) (ahead : Partition) (count : ℕ) (new : CellView) → ((read : Read) → Contains marks.reads.items read → read.source ≡ ahead.number → read.next ≤ read_by rules s p read.reader) → Trims marks ahead old count new → Joined rules s p new
  trims_joined marks ahead count new told trims =
      waits_alike (with_trims old.waits (trims_by ahead marks.reads.items)) old.round new trims.1 (trims_ours rules s.latest s.told old joined.goes.ours joined.goes.waits marks ahead count new trims)
      (trims_read (read_by rules s p) old joined.goes.read marks ahead count new told trims)

  -- ---- moments, nodes and tasks

  -- the store heard of a later moment, and the cell of one that is no later
  abbrev heard : (later : ℕ) → StoreView
  heard later = record s { latest = later }

  ours_then : (later moment : ℕ) → s.latest ≤ later → AreOurs rules later s.told (record old { now = moment })
  ours_then later moment above = record { ours = λ k d inside. ours_later rules s.latest old.number _ later (pairs_of s.told) above (joined.goes.ours.ours k d inside); run = joined.goes.ours.run }

  moved : (later moment : ℕ) → s.latest ≤ later → old.now ≤ moment → moment ≤ later → (rules.serves ≡ true → IsFresh later (record old { now = moment })) → Joined rules (heard later) p (record old { now = moment })
  moved later moment above further low fresh =
      let goes = joined.goes in
      record {
        goes = record {
          number = goes.number;
          mine = goes.mine;
          ours = ours_then later moment above;
          waits = record { asked = goes.waits.asked; run = goes.waits.run };
          of_call = goes.of_call;
          since = let since = goes.since in omega (arith, since, further);
          timely = low;
          fresh = fresh;
          unlost = record { unlost = goes.unlost.unlost; latest = goes.unlost.latest };
          read = record { held = goes.read.held; waits = goes.read.waits };
        };
        out = record { rests = joined.out.rests; goes = joined.out.goes };
      }

  -- A cell that serves clients hears of a moment only where it holds nothing.
  pub fired_joined : (now later : ℕ) (new : CellView) → now ≤ later → s.latest ≤ later → (rules.serves ≡ true → (old.entries ≡ []) × (later ≤ max s.latest now)) → new ≡ record old { now = max old.now now } → Joined rules (heard later) p new
  fired_joined now later new low above none is =
      subst (Joined rules (heard later) p) (sym is) (moved later (max old.now now) above (omega arith) (let timely = joined.goes.timely in omega (arith, timely, low, above))
      (λ serves.
      let fresh = joined.goes.fresh serves in
      let heard = fresh.heard in
      let top = (none serves).1 in
      fresh_none later (record old { now = max old.now now }) (omega (arith, heard, top)) (none serves).0))

  pub heard_joined : (later : ℕ) → s.latest ≤ later → (rules.serves ≡ true → later ≤ s.latest) → Joined rules (heard later) p old
  heard_joined later above same =
      moved later old.now above (omega arith) (let timely = joined.goes.timely in omega (arith, timely, above)) (λ serves.
      let fresh = joined.goes.fresh serves in
      let is : later ≡ s.latest = let low = same serves in omega (arith, low, above) in
      subst (λ (n : ℕ). IsFresh n old) (sym is) fresh)

  -- what it gave out and who owns it joins nothing
  aside_joined : (given : Option GivenOut) (owner : ℕ) (new : CellView) → new ≡ record old { given = given; owner = owner } → Joined rules s p new
  aside_joined given owner new is =
      alike old.entries old.waits given owner old.round new is refl (subst Both (sym is) (record { ours = joined.goes.ours.ours; run = joined.goes.ours.run }, record { asked = joined.goes.waits.asked; run = joined.goes.waits.run }))
      (subst Unlost (sym is) (record { unlost = joined.goes.unlost.unlost; latest = joined.goes.unlost.latest })) (subst Reads (sym is) (record { held = joined.goes.read.held; waits = joined.goes.read.waits })) (fresh_alike new (ap (λ (v : CellView). v.now) is) (ap (λ (v : CellView). v.entries) is))

  pub owned_joined : (node : ℕ) (new : CellView) → new ≡ record old { owner = node } → Joined rules s p new
  owned_joined node new is = aside_joined old.given node new is

  pub tasks_joined : (new : CellView) → new ≡ record old { given = new.given } → Joined rules s p new
  tasks_joined new is = aside_joined new.given old.owner new is
