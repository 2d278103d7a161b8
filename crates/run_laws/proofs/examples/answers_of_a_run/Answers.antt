use Rattle.std.proofs.Common.{◌≡◌, ℕ, List, [], ◌∷◌, ◌++◌, drop, Some, codes, refl, ◌∙◌, ap, subst, arith}
use Rattle.client_port.specs.Lines.{line_of}
use Rattle.dura_model.specs.Legal.{Legal}
use Rattle.dura_model.specs.World.{World, empty}
use Rattle.dura_value.specs.Ids.{client}
use Rattle.dura_value.specs.Items.{Entry}
use Rattle.dura_value.specs.Messages.{is_unknown}
use Rattle.hub_store.specs.Trail.{Said}
use Rattle.dura_model.specs.Entries.{labels_in}
use Rattle.request_reader.specs.Line.{Request}
use Rattle.run_rules.specs.Examples.{first_asked, then_asked}
use Rattle.run_laws.specs.Examples.{empty_origin, no_flows, rules, answering, answered_world, first_said}
use Rattle.run_laws.specs.Leaves.{IsAnswered, AllAnswered}
use Rattle.run_laws.specs.Leaves.AllAnswered.{nothing_said, one_more}
use Rattle.run_laws.proofs.examples.answers_of_a_run.Goals as goal
use Rattle.run_laws.proofs.NothingAnswered.{nothing_before}

answered : IsAnswered rules empty_origin (answering ∷ []) [] first_said (line_of (codes "a") 1 is_unknown)
answered = record {
  request = first_asked;
  next = refl;
  number_is = refl;
  before = answering ∷ [];
  behind = [];
  front = refl;
  world = answered_world;
  legal = refl;
  answer = is_unknown;
  has = refl;
  line_is = refl;
}

pub returns-clause-settled : goal.returns-clause-settled
returns-clause-settled c = answered

pub returns-clause-early : goal.returns-clause-early
returns-clause-early c = λ one line it.
    let legal : Legal no_flows [] it.world = subst (λ (l : List Entry). Legal no_flows ([] ++ labels_in l) it.world) (nothing_before it.before it.behind it.front) it.legal in
    let world_is : empty ≡ it.world = cc legal in
    let has : empty.answers (client one.client) one.number ≡ Some it.answer = ap (λ (w : World). w.answers (client one.client) one.number) world_is ∙ it.has in
    cc has

pub returns-clause-again : goal.returns-clause-again
returns-clause-again c = λ line it.
    let second : then_asked ≡ it.request = cc it.next in
    let number : 2 ≡ 1 = ap (λ (r : Request). r.number) second ∙ it.number_is in
    omega (arith, number)

pub returns-clause-all : goal.returns-clause-all
returns-clause-all c = one_more nothing_said first_said (line_of (codes "a") 1 is_unknown) answered

none_said : (told : List Said) (line : List ℕ) → AllAnswered rules empty_origin (answering ∷ []) told line → told ≡ [] → line ≡ []
none_said told line nothing_said is = refl
none_said told line (one_more {told = before} all one more it) is = absurd (no_more before one is)
  where
    no_more : (before : List Said) (one : Said) → before ++ one ∷ [] ≡ [] → ⊥
    no_more [] one is = cc is
    no_more (first ∷ before) one is = cc is

pub returns-clause-none : goal.returns-clause-none
returns-clause-none c = λ line all. none_said [] line all refl

pub returns-clause-half : goal.returns-clause-half
returns-clause-half c = record {
  speaking = (97, [], refl);
  one = first_said;
  line = line_of (codes "a") 1 is_unknown;
  answered = answered;
  front = (drop 1 (line_of (codes "a") 1 is_unknown), refl);
}

pub returns-clause-silent : goal.returns-clause-silent
returns-clause-silent c = λ part half. cc half.speaking.2
