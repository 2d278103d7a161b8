use Rattle.std.proofs.Common.{◌≡◌, ◌⊎◌, inl, inr, ℕ, List, [], ◌∷◌, ◌++◌, drop, Some, codes, refl, sym, ◌∙◌, ap, subst}
use Rattle.client_port.specs.Lines.{line_of}
use Rattle.dura_model.specs.Legal.{Legal}
use Rattle.dura_model.specs.World.{World, empty}
use Rattle.dura_value.specs.Ids.{client}
use Rattle.dura_value.specs.Messages.{Answer, is_unknown}
use Rattle.many_examples.specs.Pairs.{asks}
use Rattle.many_examples.specs.RulesBy.{no_flows, unknown_rules, answering, answered_world, first_said}
use Rattle.many_logs.specs.Labels.{labels_of_commits}
use Rattle.many_logs.specs.Placing.{Commit}
use Rattle.many_rules.specs.Leaves.{IsAnswered}
use Rattle.many_rules.specs.Leaves.AllAnswered.{nothing_said, one_more}
use Rattle.many_rules.specs.Rules.{rules_at}
use Rattle.request_reader.specs.Line.{Request}
use Rattle.run_rules.specs.Rules.{request_at}
use Rattle.many_examples.proofs.rules_examples.answers_of_a_run.Goals as goal

answered : IsAnswered unknown_rules (answering ∷ []) [] first_said (line_of (codes "a") 1 is_unknown)
answered = record {
  next = λ serves. record { request = record { client = codes "a"; number = 1; message = asks (codes "a") (codes "x") 1 }; asked = refl; number_is = refl };
  before = answering ∷ [];
  behind = [];
  front = refl;
  world = answered_world;
  legal = refl;
  answer = is_unknown;
  has = refl;
  line_is = refl;
}

pub returns-clause-settled : goal.returns-clause-settled
returns-clause-settled c = answered

nothing_before : (before behind : List Commit) → [] ≡ before ++ behind → before ≡ []
nothing_before [] behind is = refl
nothing_before (one ∷ before) behind is = cc is

pub returns-clause-early : goal.returns-clause-early
returns-clause-early c = λ one line it.
    let legal : Legal no_flows [] it.world = subst (λ (l : List Commit). Legal no_flows ([] ++ labels_of_commits l) it.world) (nothing_before it.before it.behind it.front) it.legal in
    let world_is : empty ≡ it.world = cc legal in
    let has : empty.answers (client one.client) one.number ≡ Some it.answer = ap (λ (w : World). w.answers (client one.client) one.number) world_is ∙ it.has in
    cc has

nothing_more : (one : Commit) (before behind : List Commit) → one ∷ [] ≡ before ++ behind → (before ≡ []) ⊎ (before ≡ one ∷ [])
nothing_more one [] behind is = inl refl
nothing_more one (first ∷ before) behind is =
    let same : first ≡ one = cc is in
    let others : [] ≡ before ++ behind = cc is in
    inr (ap (λ (l : List Commit). first ∷ l) (nothing_before before behind others) ∙ ap (λ (a : Commit). a ∷ []) same)

no_answer : (line : List ℕ) (it : IsAnswered unknown_rules (answering ∷ []) [] first_said line) → it.before ≡ [] → ⊥
no_answer line it is =
    let legal : Legal no_flows [] it.world = subst (λ (l : List Commit). Legal no_flows ([] ++ labels_of_commits l) it.world) is it.legal in
    let world_is : empty ≡ it.world = cc legal in
    let has : empty.answers (client (codes "a")) 1 ≡ Some it.answer = ap (λ (w : World). w.answers (client (codes "a")) 1) world_is ∙ it.has in
    cc has

one_answer : (line : List ℕ) (it : IsAnswered unknown_rules (answering ∷ []) [] first_said line) → it.before ≡ answering ∷ [] → line ≡ line_of (codes "a") 1 is_unknown
one_answer line it is =
    let legal : Legal no_flows (labels_of_commits (answering ∷ [])) it.world = subst (λ (l : List Commit). Legal no_flows ([] ++ labels_of_commits l) it.world) is it.legal in
    let world_is : answered_world ≡ it.world = cc legal in
    let has : answered_world.answers (client (codes "a")) 1 ≡ Some it.answer = ap (λ (w : World). w.answers (client (codes "a")) 1) world_is ∙ it.has in
    let answer_is : is_unknown ≡ it.answer = cc has in
    it.line_is ∙ ap (λ (a : Answer). line_of (codes "a") 1 a) (sym answer_is)

pub returns-clause-only : goal.returns-clause-only
returns-clause-only c = λ line it.
    elim (nothing_more answering it.before it.behind it.front) [
      | inl is ↦ absurd (no_answer line it is)
      | inr is ↦ one_answer line it is
    ]

pub returns-clause-all : goal.returns-clause-all
returns-clause-all c = one_more nothing_said first_said (line_of (codes "a") 1 is_unknown) answered

pub returns-clause-half : goal.returns-clause-half
returns-clause-half c = record {
  speaking = (97, [], refl);
  one = first_said;
  line = line_of (codes "a") 1 is_unknown;
  answered = answered;
  front = (drop 1 (line_of (codes "a") 1 is_unknown), refl);
}

-- no line whose client asks for something begins with another byte than its name
no_line : (name : List ℕ) (request : Request) (number : ℕ) (answer : Answer) (rest : List ℕ) → request_at (rules_at unknown_rules 0) name 0 ≡ Some request → line_of name number answer ≡ 98 ∷ rest → ⊥
no_line [] request number answer rest next is = cc next
no_line (first ∷ name) request number answer rest next is =
    let at : first ≡ 98 = cc is in
    cc (subst (λ (c : ℕ). request_at (rules_at unknown_rules 0) (c ∷ name) 0 ≡ Some request) at next)

pub returns-clause-part : goal.returns-clause-part
returns-clause-part c = λ half.
    let it = half.answered in
    let next = it.next refl in
    no_line half.one.client next.request half.one.number it.answer half.front.0 next.asked (sym it.line_is ∙ half.front.1)
