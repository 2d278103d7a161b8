-- Whatever happens, all entries that were made are known still.
use Rattle.std.proofs.Common.{◌≡◌, ◌<◌, inl, inr, false, ℕ, ◌||◌, List}
use Rattle.std.specs.Prelude.{nat_le}
use Rattle.std.proofs.lemmas.Bool.{or_parts, cases_Bool, leb-false}
use Rattle.cell_steps.specs.declared.mode.Mode.{Mode}
use Rattle.dura_value.specs.Views.{message_of}
use Rattle.many_rules.specs.Rules.{Rules}
use Rattle.world_core.specs.Happens.{Makes, Happens}
use Rattle.world_core.specs.Unmet.{is_unmet, names_nothing, has_no_frame, is_not_to, place_ago}
use Rattle.world_core.specs.World.{WorldView, Stands}
use Rattle.world_core.specs.declared.answer.Answer.{Answer}
use Rattle.world_core.specs.declared.answer.Answer.TheVariants as answers
use Rattle.commit_gate.specs.declared.unmet.Unmet.{Unmet}
use Rattle.world_core.specs.declared.event.Event.{Event}
use Rattle.world_core.specs.declared.event.Event.TheVariants as events
use Rattle.world_laws.proofs.Events.{MadeOn, over, same_world, submitted, comes_in, outcome_comes, trims_come, fires, synced, gated, said}
use Rattle.world_laws.proofs.Passing.{passes}
use Rattle.world_laws.proofs.Working.{turns, writes, settles, judges, owns}
use Rattle.world_laws.specs.Made.{MadeEntry, AreMade, IsGrounded}

module _ (rules : Rules) (mode : Mode) (nodes : ℕ) (made : List MadeEntry) (old new : WorldView) (are : AreMade rules made old) (on : old.ended ≡ false) (still : new.ended ≡ false) (stands : Stands rules old) (stands_then : Stands rules new) (ground : IsGrounded rules old) (ground_then : IsGrounded rules new) where
  -- by what an event makes
  by_event : (event : Event) (answer : Answer) → names_nothing rules.count nodes old event ≡ false → Makes rules mode old event answer new → MadeOn rules made new
  by_event (events.Submit message) answer met makes = submitted rules made old new are still (message_of message) answer makes
  by_event (events.Arrive p packet) answer met makes = comes_in rules made old new are still p packet answer (or_parts (nat_le rules.count p) (is_not_to p _) met).1 makes
  by_event (events.Turn p limit) answer met makes = turns rules made old new are on still stands stands_then ground ground_then mode p limit answer makes
  by_event (events.Body p ago) answer met makes = writes rules made old new are on still stands stands_then ground ground_then p (place_ago old.marks ago) answer makes
  by_event (events.SyncBody p) answer met makes = synced rules made old new are still p answer makes
  by_event (events.Gate p) answer met makes = gated rules made old new are still p answer makes
  by_event (events.Settle p) answer met makes = settles rules made old new are on still stands stands_then ground ground_then mode p answer makes
  by_event (events.Judge p ago) answer met makes = judges rules made old new are on still stands stands_then ground ground_then p (place_ago old.marks ago) answer makes
  by_event (events.Outcome p ended) answer met makes = outcome_comes rules made old new are still p ended answer makes
  by_event (events.Fire p now) answer met makes = fires rules made old new are still p now answer makes
  by_event (events.Trim p ago) answer met makes = trims_come rules made old new are still p (place_ago old.marks ago) answer makes
  by_event (events.Stop node) answer met makes = same_world rules made old new are still makes.1
  by_event (events.Own p node) answer met makes = owns rules made old new are on still stands stands_then ground ground_then mode p node answer makes
  by_event (events.Say name number) answer met makes = said rules made old new are still name number answer makes
  by_event events.Image answer met makes = same_world rules made old new are still makes.1

  pub goes_on : (event : Event) (answer : Answer) → Happens rules mode nodes old event answer new → MadeOn rules made new
  goes_on event answer happens = elim (cases_Bool (is_unmet rules.count nodes old event)) [
    | inl unmet ↦ elim (happens.unmet unmet) [ inl none ↦ same_world rules made old new are still none.1 | inr ends ↦ over rules made old new are still ends.2.ended ]
    | inr met ↦ by_event event answer (or_parts (names_nothing rules.count nodes old event) (has_no_frame old event) (or_parts old.ended (names_nothing rules.count nodes old event || has_no_frame old event) met).1).0 (happens.met met).1
  ]

-- the gate refuses nothing
pub never_refused : (rules : Rules) (mode : Mode) (nodes : ℕ) (made : List MadeEntry) (old new : WorldView) → AreMade rules made old → old.ended ≡ false → Stands rules old → IsGrounded rules old → (p : ℕ) (why : Unmet) → Happens rules mode nodes old (events.Gate p) (answers.Refused why) new → ⊥
never_refused rules mode nodes made old new are on stands ground p why happens = elim (cases_Bool (is_unmet rules.count nodes old (events.Gate p))) [
  | inl unmet ↦ elim (happens.unmet unmet) [ inl none ↦ absurd (cc none.0) | inr ends ↦ absurd (cc ends.1) ]
  | inr met ↦
      let named : names_nothing rules.count nodes old (events.Gate p) ≡ false = (or_parts (names_nothing rules.count nodes old (events.Gate p)) (has_no_frame old (events.Gate p)) (or_parts old.ended (names_nothing rules.count nodes old (events.Gate p) || has_no_frame old (events.Gate p)) met).1).0 in
      let below : p < rules.count = leb-false rules.count p named in
      let refused = (happens.met met).1.2 in
      passes rules made old on stands ground are p below refused.0 refused.1 why refused.2
]
