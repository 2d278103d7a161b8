use Rattle.std.proofs.Common.{◌≡◌, ◌&&◌, Bool, true, false, cond, List, [], ◌∷◌, ◌++◌, refl, ap, subst}
use Rattle.dura_value.specs.Ids.{Id, id_eq}
use Rattle.dura_value.specs.Messages.{Message}
use Rattle.flow_syntax.specs.Machine.{go_on}
use Rattle.dura_model.specs.Legal.{is_due}
use Rattle.dura_model.specs.Steps.{delivered}
use Rattle.worked_rows.specs.Runs.GateWaits.{flows}
use Rattle.worked_rows.specs.Waiting.{a, gate, first, second, waiting}
use Rattle.worked_rows.proofs.waiting.gate_waits_quietly.Goals as goal

-- each link was emptied after its last message
emptied : (x y z : List Message) (one other : Bool) → cond one [] (cond one x (cond other [] (cond other y (cond one [] (cond one z []))))) ≡ []
emptied x y z true other = refl
emptied x y z false true = refl
emptied x y z false false = refl

no_message : (from to : Id) → waiting.links from to ≡ []
unfolding go_on
no_message from to = emptied _ _ _ (id_eq a from && id_eq gate to) (id_eq gate from && id_eq a to)

never_due : (before : List Message) (request : Message) (behind : List Message) → first ∷ second ∷ [] ≡ before ++ request ∷ behind → is_due waiting before request ≡ false
unfolding go_on
never_due [] request behind split = let same : first ≡ request = cc in subst (λ (r : Message). is_due waiting [] r ≡ false) same refl
never_due (one ∷ []) request behind split =
    let same : first ≡ one = cc in
    let also : second ≡ request = cc in
    subst (λ (o : Message). is_due waiting (o ∷ []) request ≡ false) same (subst (λ (r : Message). is_due waiting (first ∷ []) r ≡ false) also refl)
never_due (one ∷ other ∷ []) request behind split = absurd cc
never_due (one ∷ other ∷ another ∷ more) request behind split = absurd cc

pub returns : goal.returns
unfolding go_on
returns c = (
  refl,
  record {
    delivered = λ from to stamp. ap (delivered flows waiting from to stamp) (no_message from to);
    finished = λ id task. refl;
    fired = λ id task. refl;
    asked = never_due;
  },
)
