-- Steps, cut in two and joined.
use Rattle.std.proofs.Common.{◌≡◌, ◌+◌, ◌<◌, ℕ, zero, suc, List, [], ◌∷◌, ◌++◌, Option, Some, Ok, get_or, refl, sym, ◌∙◌, ap, subst, arith}
use Rattle.std.specs.Prelude.{◌-◌, length, take, drop, slice_get}
use Rattle.std.specs.List.{All}
use Rattle.std.proofs.lemmas.List.{length-map}
use Rattle.std.proofs.lemmas.List.Elements.{All-nil, All-cons}
use Rattle.dura_model.specs.Entries.{entry_accepted, or_place, placed, AllGiven, AreGiven}
use Rattle.dura_model.specs.Partition.{Partition, enter}
use Rattle.dura_value.specs.Reading.{◌>>=◌}
use Rattle.flow_syntax.specs.Syntax.{Flows}
use Rattle.log_items.specs.Plain.{entry_of, item_of, items_of}
use Rattle.part_items.specs.ItemFits.{FitsEntry}
use Rattle.part_items.specs.Numbered.{Next, IsNumbered, behind}
use Rattle.part_steps.specs.States.{IsSound, state_of, count_of}
use Rattle.part_steps.specs.declared.state.PartState.{PartState}
use Rattle.cell_steps.specs.Steps.{Makes, AreSteps, last_of, entries_in}
use Rattle.cell_steps.specs.declared.step.Step.{Step}
use Rattle.cell_steps.proofs.Staying.{items_stay}

pub last_both : (before : PartState) (a b : List Step) → last_of before (a ++ b) ≡ last_of (last_of before a) b
last_both before [] b = refl
last_both before (s ∷ a) b = last_both s.after a b

last_place : (n : ℕ) (before : PartState) (steps : List Step) (s : Step) → length steps ≡ suc n → slice_get steps n ≡ Some s → last_of before steps ≡ s.after
last_place n before [] s long at = absurd (omega (arith, long))
last_place zero before (x ∷ []) s long at = let same : x ≡ s = cc at in ap (λ (one : Step). one.after) same
last_place zero before (x ∷ (y ∷ steps)) s long at = absurd (omega (arith, long))
last_place (suc n) before (x ∷ steps) s long at = last_place n x.after steps s (omega (arith, long)) at

-- the last step makes it
pub last_at : (before : PartState) (steps : List Step) (s : Step) → slice_get steps (length steps - 1) ≡ Some s → last_of before steps ≡ s.after
last_at before [] s at = absurd (cc at)
last_at before (x ∷ steps) s at =
    let one : suc (length steps) - 1 ≡ length steps = omega arith in
    last_place (length steps) before (x ∷ steps) s refl (subst (λ (k : ℕ). slice_get (x ∷ steps) k ≡ Some s) one at)

-- the step at a place makes the state behind those up to it
pub front_at : (n : ℕ) (before : PartState) (steps : List Step) (s : Step) → n < length steps → s ≡ get_or steps n s → last_of before (take (suc n) steps) ≡ s.after
front_at n before [] s inside at = absurd (omega (arith, inside))
front_at zero before (x ∷ steps) s inside at = ap (λ (one : Step). one.after) (sym at)
front_at (suc n) before (x ∷ steps) s inside at = front_at n x.after steps s (omega (arith, inside)) at

module _ (flows : Flows) where
  pub steps_both : (before : PartState) (a b : List Step) → AreSteps flows before a → AreSteps flows (last_of before a) b → AreSteps flows before (a ++ b)
  steps_both before [] b first second = second
  steps_both before (s ∷ a) b first second = (first.0, steps_both s.after a b first.1 second)

  pub steps_front : (n : ℕ) (before : PartState) (steps : List Step) → AreSteps flows before steps → AreSteps flows before (take n steps)
  steps_front zero before steps are = tt
  steps_front (suc n) before [] are = tt
  steps_front (suc n) before (s ∷ steps) are = (are.0, steps_front n s.after steps are.1)

  pub steps_back : (n : ℕ) (before : PartState) (steps : List Step) → AreSteps flows before steps → AreSteps flows (last_of before (take n steps)) (drop n steps)
  steps_back zero before steps are = are
  steps_back (suc n) before [] are = tt
  steps_back (suc n) before (s ∷ steps) are = steps_back n s.after steps are.1

  -- ---- what they make

  -- each state has as many partitions, is sound, and is of the same partition
  pub last_many : (before : PartState) (steps : List Step) → AreSteps flows before steps → count_of (last_of before steps) ≡ count_of before
  last_many before [] are = refl
  last_many before (s ∷ steps) are = last_many s.after steps are.1 ∙ are.0.partitions

  pub last_sound : (before : PartState) (steps : List Step) → IsSound before → AreSteps flows before steps → IsSound (last_of before steps)
  last_sound before [] sound are = sound
  last_sound before (s ∷ steps) sound are = last_sound s.after steps are.0.sound are.1

  pub steps_placed : (count : ℕ) (before : PartState) (steps : List Step) → count_of before ≡ count → AreSteps flows before steps → placed flows count (state_of before) (entries_in steps) ≡ Ok (state_of (last_of before steps))
  steps_placed count before [] many are = refl
  steps_placed count before (s ∷ steps) many are =
      let made = subst (λ (n : ℕ). entry_accepted flows n (state_of before) (entry_of s.entry) ≡ Some (state_of s.after)) many are.0.accepted in
      ap (λ (o : Option Partition). or_place s.entry.position o >>= λ next. placed flows count next (entries_in steps)) made
      ∙ steps_placed count s.after steps (are.0.partitions ∙ many) are.1

  pub steps_given : (count : ℕ) (before : PartState) (steps : List Step) → count_of before ≡ count → AreSteps flows before steps → AllGiven flows count (state_of before) (entries_in steps)
  steps_given count before [] many are = tt
  steps_given count before (s ∷ steps) many are = (
    subst (λ (n : ℕ). AreGiven flows n (enter s.entry.incarnation (state_of before)) (items_of s.entry.items)) many are.0.given,
    λ next made.
        let own = subst (λ (n : ℕ). entry_accepted flows n (state_of before) (entry_of s.entry) ≡ Some (state_of s.after)) many are.0.accepted in
        let same : state_of s.after ≡ next = cc (own, made) in
        subst (λ (p : Partition). AllGiven flows count p (entries_in steps)) same (steps_given count s.after steps (are.0.partitions ∙ many) are.1),
  )

  -- where a state's log goes on
  abbrev pub next_at : PartState → Next
  next_at s = record { position = (state_of s).position; incarnation = (state_of s).incarnation }

  -- a step goes on behind its entry
  pub step_next : (before : PartState) (s : Step) → IsSound before → Makes flows before s → next_at s.after ≡ behind (entry_of s.entry)
  step_next before s sound makes =
      let stays = items_stay flows (count_of before) (items_of s.entry.items) (enter s.entry.incarnation (state_of before)) (state_of s.after) sound.below makes.accepted in
      λ i. record { position = (stays.position ∙ ap (λ (n : ℕ). n + 1) (sym makes.position)) i; incarnation = stays.incarnation i }

  pub steps_numbered : (before : PartState) (steps : List Step) → IsSound before → AreSteps flows before steps → IsNumbered (next_at before) (entries_in steps)
  steps_numbered before [] sound are = tt
  steps_numbered before (s ∷ steps) sound are = (
    are.0.position,
    are.0.younger,
    subst (λ (next : Next). IsNumbered next (entries_in steps)) (step_next before s sound are.0) (steps_numbered s.after steps are.0.sound are.1),
  )

  -- each entry can be written
  step_fits : (before : PartState) (s : Step) → Makes flows before s → FitsEntry (entry_of s.entry)
  step_fits before s makes =
      let long = length-map s.entry.items item_of in
      let low = makes.low in
      let early = makes.early in
      let some = makes.some in
      let few = makes.few in
      record { position_fits = omega (arith, low); incarnation_fits = omega (arith, early); some = omega (arith, some, long); few = omega (arith, few, long); each = makes.fit }

  pub steps_fit : (before : PartState) (steps : List Step) → AreSteps flows before steps → All FitsEntry (entries_in steps)
  steps_fit before [] are = All-nil FitsEntry
  steps_fit before (s ∷ steps) are = All-cons FitsEntry (entry_of s.entry) (entries_in steps) (step_fits before s are.0) (steps_fit s.after steps are.1)

  -- the last state stands so many positions later
  pub last_position : (before : PartState) (steps : List Step) → IsSound before → AreSteps flows before steps → (state_of (last_of before steps)).position ≡ (state_of before).position + length steps
  last_position before [] sound are = omega arith
  last_position before (s ∷ steps) sound are =
      let rest = last_position s.after steps are.0.sound are.1 in
      let here = ap (λ (next : Next). next.position) (step_next before s sound are.0) in
      let at = are.0.position in
      omega (arith, rest, here, at)
