use Rattle.std.proofs.Common.{◌≡◌, ◌≤◌, [], ◌∷◌, Ok, sym, subst, arith, refl}
use Rattle.dura_model.specs.Entries.{placed}
use Rattle.dura_model.specs.Partition.{Partition}
use Rattle.dura_value.specs.Items.{took}
use Rattle.many_examples.specs.Pairs.{request, taking, coming_in}
use Rattle.many_examples.specs.Placings.{states_of}
use Rattle.many_examples.specs.RulesBy.{aged_rules}
use Rattle.many_logs.specs.Labels.{state_next}
use Rattle.part_items.specs.Numbered.{IsNumbered}
use Rattle.many_examples.proofs.MakesBy.{makes_coming, makes_later, makes_taking, not_there}
use Rattle.many_examples.proofs.makes_examples.frames_made.Goals as goal

pub returns-clause-coming : goal.returns-clause-coming
returns-clause-coming c = makes_coming

pub returns-clause-first : goal.returns-clause-first
returns-clause-first c = makes_taking

pub returns-clause-later : goal.returns-clause-later
returns-clause-later c = makes_later

pub returns-clause-earlier : goal.returns-clause-earlier
returns-clause-earlier c = λ flows makes.
    let same : (aged_rules flows).begin 0 ≡ makes.before = cc makes.made in
    let here : IsNumbered (state_next ((aged_rules flows).begin 0)) ((coming_in 0).entry ∷ []) = subst (λ (p : Partition). IsNumbered (state_next p) ((coming_in 0).entry ∷ [])) (sym same) makes.numbered in
    let low : 1 ≤ 0 = here.1 in
    omega (arith, low)

pub returns-clause-positions : goal.returns-clause-positions
returns-clause-positions c = λ flows makes. not_there flows [] makes

pub returns-clause-incarnation : goal.returns-clause-incarnation
returns-clause-incarnation c = λ flows makes. let incarnation : 1 ≤ 0 = (makes.ours 0 (coming_in 0).entry (omega arith)).incarnation in omega (arith, incarnation)

pub returns-clause-asked : goal.returns-clause-asked
returns-clause-asked c = λ flows makes. cc ((makes.ours 0 taking.entry (omega arith)).asked refl 0 (took (request 1)) (omega arith)).asked

pub returns-clause-accepted : goal.returns-clause-accepted
returns-clause-accepted c = λ flows makes.
    let same : states_of flows (taking ∷ coming_in 0 ∷ []) 0 ≡ makes.before = cc makes.made in
    let again : placed flows 2 (states_of flows (taking ∷ coming_in 0 ∷ []) 0) ((coming_in 1).entry ∷ []) ≡ Ok makes.after =
    subst (λ (p : Partition). placed flows 2 p ((coming_in 1).entry ∷ []) ≡ Ok makes.after) (sym same) makes.accepted in
    cc again

pub returns-clause-below : goal.returns-clause-below
returns-clause-below c = λ flows makes. omega (arith, makes.below)
