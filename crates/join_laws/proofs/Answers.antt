-- What was said is a run's, and stays so where the run goes on.
use Rattle.std.proofs.Common.{inl, inr, ℕ, List, ◌++◌, sym, ◌∙◌, ap, subst, append_assoc}
use Rattle.dura_model.specs.Legal.{Legal}
use Rattle.dura_model.specs.Steps.{Label}
use Rattle.flow_syntax.specs.Syntax.{Flows}
use Rattle.hub_store.specs.Trail.{Said}
use Rattle.join_laws.specs.Joined.{Life, settled_then, IsSettledIn, IsAnsweredIn, AllAnsweredIn, IsPartIn, IsSaidBy}
use Rattle.join_laws.specs.Joined.AllAnsweredIn.{nothing_said, one_more}
use Rattle.many_logs.specs.Placing.{Commit}
use Rattle.many_rules.proofs.Trails.{labels_split}
use Rattle.many_rules.specs.Leaves.{IsAnswered, AllAnswered, IsHalfSaid}
use Rattle.many_rules.specs.Leaves.AllAnswered.{nothing_said as nothing_told, one_more as one_line}
use Rattle.many_rules.specs.Rules.{Rules}
use Rattle.site_model.specs.History.{Step}

-- ---- by the rules of a life, and by the run

module _ (rules : Rules) (settled : List Commit) where
  -- a line that answers by the rules does so by the run
  answered_in : (told : List Said) (one : Said) (line : List ℕ) → IsAnswered rules settled told one line → IsAnsweredIn rules.flows (rules.recovered ++ settled) one line
  answered_in told one line is = record {
    front = rules.recovered ++ is.before;
    rest = is.behind;
    split = ap (λ (l : List Commit). rules.recovered ++ l) is.front ∙ sym (append_assoc rules.recovered is.before is.behind);
    world = is.world;
    legal = subst (λ (l : List Label). Legal rules.flows l is.world) (sym (labels_split rules.recovered is.before)) is.legal;
    answer = is.answer;
    has = is.has;
    line_is = is.line_is;
  }

  -- and so do all
  pub all_in : {told : List Said} {lines : List ℕ} → AllAnswered rules settled told lines → AllAnsweredIn rules.flows (rules.recovered ++ settled) told lines
  all_in nothing_told = nothing_said
  all_in (one_line {told} all one line is) = one_more (all_in all) one line (answered_in told one line is)

  -- and the one of which a part was said
  pub part_in : (told : List Said) (steps : List Step) (part : List ℕ) → IsHalfSaid rules settled told steps part → IsPartIn rules.flows (rules.recovered ++ settled) part
  part_in told steps part half = record { one = half.one; line = half.line; answered = answered_in told half.one half.line half.answered; front = half.front }

-- ---- where the run goes on

module _ (flows : Flows) (run more : List Commit) where
  -- a line that answers by a run answers by one that goes on from it
  answered_still : (one : Said) (line : List ℕ) → IsAnsweredIn flows run one line → IsAnsweredIn flows (run ++ more) one line
  answered_still one line is = record {
    front = is.front;
    rest = is.rest ++ more;
    split = ap (λ (l : List Commit). l ++ more) is.split ∙ append_assoc is.front is.rest more;
    world = is.world;
    legal = is.legal;
    answer = is.answer;
    has = is.has;
    line_is = is.line_is;
  }

  -- and so do all
  all_still : {told : List Said} {lines : List ℕ} → AllAnsweredIn flows run told lines → AllAnsweredIn flows (run ++ more) told lines
  all_still nothing_said = nothing_said
  all_still (one_more all one line is) = one_more (all_still all) one line (answered_still one line is)

  -- and the one of which a part was said
  part_still : (part : List ℕ) → IsPartIn flows run part → IsPartIn flows (run ++ more) part
  part_still part half = record { one = half.one; line = half.line; answered = answered_still half.one half.line half.answered; front = half.front }

  -- what a life said stays the run's
  pub said_still : (life : Life) → IsSaidBy flows run life → IsSaidBy flows (run ++ more) life
  said_still life (inl silent) = inl silent
  said_still life (inr speaks) = inr (record {
    told = speaks.told;
    lines = speaks.lines;
    part = speaks.part;
    answered = all_still speaks.answered;
    spoken = speaks.spoken;
    saying = elim speaks.saying [ inl whole ↦ inl whole | inr half ↦ inr (part_still speaks.part half) ];
  })

-- what a life settled stays in the run
pub settled_still : (run more : List Commit) (life : Life) → IsSettledIn run life → IsSettledIn (run ++ more) life
settled_still run more life is = record {
  front = is.front;
  rest = is.rest ++ more;
  split = ap (λ (l : List Commit). l ++ more) is.split ∙ append_assoc (is.front ++ settled_then life) is.rest more;
}
