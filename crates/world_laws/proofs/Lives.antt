-- In every life all entries that were made are known, and no gate refuses.
use Rattle.std.proofs.Common.{◌≡◌, ◌⊎◌, inl, inr, ◌<◌, ◌∙◌, true, false, ℕ, zero, suc, ◌||◌, List, [], ◌∷◌, ◌++◌, length, take, refl, sym, ap, subst, arith, length-append}
use Rattle.std.specs.List.{All, Contains}
use Rattle.std.proofs.lemmas.Bool.{cases_Bool}
use Rattle.std.proofs.lemmas.List.Elements.{All-nil, Contains-push_cases}
use Rattle.cell_frames.specs.Joined.{StoreView}
use Rattle.cell_steps.specs.declared.mode.Mode.{Mode}
use Rattle.cell_waits.specs.Waits.{Waiting}
use Rattle.commit_gate.specs.declared.unmet.Unmet.{Unmet}
use Rattle.dura_value.specs.Items.{Item, Entry}
use Rattle.log_items.specs.Entries.{items_in}
use Rattle.log_items.specs.declared.items.Packet.{Packet}
use Rattle.many_rules.specs.Rules.{Rules}
use Rattle.spec_cell.specs.Views.{CellView}
use Rattle.world_core.specs.Happens.{Happens, Makes}
use Rattle.world_core.specs.Unmet.{is_unmet, names_nothing, has_no_frame}
use Rattle.world_core.specs.World.{WorldView}
use Rattle.world_core.specs.declared.answer.Answer.{Answer}
use Rattle.world_core.specs.declared.answer.Answer.TheVariants as answers
use Rattle.world_core.specs.declared.event.Event.{Event}
use Rattle.world_core.specs.declared.event.Event.TheVariants as events
use Rattle.world_laws.proofs.EachEvent.{goes_on, never_refused}
use Rattle.world_laws.specs.Lives.{IsNewLife, IsWell, GoesOn}
use Rattle.world_laws.specs.Lives.GoesOn.{nothing, one_more}
use Rattle.world_laws.specs.Made.{MadeEntry, IsTrue, CellMade, AreMade}

-- ---- how it begins

new_cell : (rules : Rules) (s : StoreView) (p : ℕ) (c : CellView) → c.slot.mine ≡ [] → c.entries ≡ [] → c.waits ≡ [] → CellMade rules [] s p c
new_cell rules s p c settled held waits = record {
  held = λ front entry behind split.
      let none : [] ≡ front ++ entry ∷ behind = sym (λ i. settled i ++ held i) ∙ split in
      let lengths : 0 ≡ length (front ++ entry ∷ behind) = ap length none in
      let long = length-append front (entry ∷ behind) in
      absurd (omega (arith, lengths, long));
  fate = λ one there at. let none : there.0 < 0 = there.1 in absurd (omega (arith, none));
  younger = λ one there at. let none : there.0 < 0 = there.1 in absurd (omega (arith, none));
  holds = subst (λ (l : List Entry). All (IsTrue rules [] s p) (items_in l)) (sym held) (All-nil (IsTrue rules [] s p));
  waits = subst (λ (l : List Waiting). All (λ w. IsTrue rules [] s p w.item) l) (sym waits) (All-nil (λ (w : Waiting). IsTrue rules [] s p w.item));
  ready = λ item e inside names.
      let none : Contains (items_in (take c.out [])) item = subst (λ (l : List Entry). Contains (items_in (take c.out l)) item) held inside in
      absurd (no_items c.out item none);
}
  where
    no_items : (n : ℕ) (item : Item) → Contains (items_in (take n [])) item → ⊥
    no_items zero item inside = let none : inside.0 < 0 = inside.1 in absurd (omega (arith, none))
    no_items (suc n) item inside = let none : inside.0 < 0 = inside.1 in absurd (omega (arith, none))

pub new_life : (rules : Rules) (w : WorldView) → IsNewLife rules w → AreMade rules [] w
new_life rules w new = record {
  below = λ one there. let none : there.0 < 0 = there.1 in absurd (omega (arith, none));
  numbered = λ one there. let none : there.0 < 0 = there.1 in absurd (omega (arith, none));
  cells = λ p c is. new_cell rules w.store p c (new.settled p c is) (new.held p c is) (new.waits p c is);
  packets = λ packet inside. let none : Contains [] packet = subst (λ (l : List Packet). Contains l packet) new.packets inside in let low : none.0 < 0 = none.1 in absurd (omega (arith, low));
  marks = new.marks;
}

-- ---- only a gate refuses

only_gates : (rules : Rules) (mode : Mode) (old new : WorldView) (event : Event) (why : Unmet) → Makes rules mode old event (answers.Refused why) new → (p : ℕ) × (event ≡ events.Gate p)
only_gates rules mode old new (events.Submit message) why makes = absurd makes
only_gates rules mode old new (events.Arrive p packet) why makes = absurd makes
only_gates rules mode old new (events.Turn p limit) why makes = absurd makes
only_gates rules mode old new (events.Body p ago) why makes = absurd makes
only_gates rules mode old new (events.SyncBody p) why makes = absurd makes
only_gates rules mode old new (events.Gate p) why makes = (p, refl)
only_gates rules mode old new (events.Settle p) why makes = absurd makes
only_gates rules mode old new (events.Judge p ago) why makes = absurd makes
only_gates rules mode old new (events.Outcome p ended) why makes = absurd makes
only_gates rules mode old new (events.Fire p now) why makes = absurd makes
only_gates rules mode old new (events.Trim p ago) why makes = absurd makes
only_gates rules mode old new (events.Stop node) why makes = absurd (cc makes.0)
only_gates rules mode old new (events.Own p node) why makes = absurd makes
only_gates rules mode old new (events.Say name number) why makes = absurd makes
only_gates rules mode old new events.Image why makes = absurd (cc makes.0)

module _ (rules : Rules) (mode : Mode) (nodes : ℕ) where
  -- what is known of a world, and of what came of all events so far
  pub record Known (came : List Answer) (w : WorldView) : Type 0 where
    pub well : IsWell rules w
    pub made : w.ended ≡ false → (made : List MadeEntry) × AreMade rules made w
    pub passed : (why : Unmet) → Contains came (answers.Refused why) → ⊥

  -- where the life is over nothing changes
  unmet_then : (old new : WorldView) (event : Event) (answer : Answer) → old.ended ≡ true → Happens rules mode nodes old event answer new → ((answer ≡ answers.Unmet) × (new ≡ old)) ⊎ ((answer ≡ answers.Memory) × (new.ended ≡ true))
  unmet_then old new event answer over happens = elim (happens.unmet (ap (λ b. b || (names_nothing rules.count nodes old event || has_no_frame old event)) over)) [ inl none ↦ inl none | inr ends ↦ inr (ends.1, ends.2.ended) ]

  -- the answer to an event isn't Refused
  not_refused : (old new : WorldView) (event : Event) (answer : Answer) (came : List Answer) → Known came old → Happens rules mode nodes old event answer new → (why : Unmet) → answer ≡ answers.Refused why → ⊥
  not_refused old new event answer came known happens why same = elim (cases_Bool old.ended) [
    | inl over ↦ elim (unmet_then old new event answer over happens) [ inl none ↦ absurd (cc (same, none.0)) | inr ends ↦ absurd (cc (same, ends.0)) ]
    | inr on ↦
        let here : Happens rules mode nodes old event (answers.Refused why) new = subst (λ (a : Answer). Happens rules mode nodes old event a new) same happens in
        let made = known.made on in
        elim (cases_Bool (is_unmet rules.count nodes old event)) [
          | inl unmet ↦ elim (here.unmet unmet) [ inl none ↦ absurd (cc none.0) | inr ends ↦ absurd (cc ends.1) ]
          | inr met ↦
              let gate = only_gates rules mode old new event why (here.met met).1 in
              never_refused rules mode nodes made.0 old new made.1 on known.well.stands (known.well.ground on) gate.0 why (subst (λ (e : Event). Happens rules mode nodes old e (answers.Refused why) new) gate.1 here)
        ]
  ]

  made_then : (old new : WorldView) (event : Event) (answer : Answer) (came : List Answer) → Known came old → Happens rules mode nodes old event answer new → IsWell rules new → new.ended ≡ false → (made : List MadeEntry) × AreMade rules made new
  made_then old new event answer came known happens well still = elim (cases_Bool old.ended) [
    | inl over ↦ elim (unmet_then old new event answer over happens) [
      | inl none ↦ absurd (let ended : new.ended ≡ true = ap (λ (w : WorldView). w.ended) none.1 ∙ over in cc (ended, still))
      | inr ends ↦ absurd (cc (ends.1, still))
    ]
    | inr on ↦
        let before = known.made on in
        let then = goes_on rules mode nodes before.0 old new before.1 on still known.well.stands well.stands (known.well.ground on) (well.ground still) event answer happens in
        (before.0 ++ then.0, then.1)
  ]

  pub known_on : (first : WorldView) (came : List Answer) (w : WorldView) → IsWell rules first → AreMade rules [] first → GoesOn rules mode nodes first came w → Known came w
  known_on first _ _ well are nothing = record { well = well; made = λ on. ([], are); passed = λ why inside. let none : inside.0 < 0 = inside.1 in absurd (omega (arith, none)) }
  known_on first _ _ well are (one_more {came} {old} before event answer new happens well_then) =
      let known = known_on first came old well are before in
      record {
        well = well_then;
        made = λ still. made_then old new event answer came known happens well_then still;
        passed = λ why inside. elim (Contains-push_cases came answer (answers.Refused why) inside) [ inl earlier ↦ known.passed why earlier | inr this ↦ not_refused old new event answer came known happens why this ];
      }
