-- Step after step.
use Rattle.std.proofs.Common.{◌≡◌, ◌∙◌, ◌++◌, ℕ, zero, suc, List, Bool, true, false, Result, Ok, Err, OnOk, refl, ap, sym, subst, append_assoc}
use Rattle.dura_value.specs.Messages.{Message}
use Rattle.flow_syntax.specs.Machine.{Machine, Asked, Resumed, Next, stays, goes, only, and_then, go, go_on, next_of}
use Rattle.flow_machine.specs.declared.machine.Machine.{Machine as OwnMachine}
use Rattle.flow_messages.specs.declared.made.Made.{Made}
use Rattle.flow_machine.specs.Views.{machine_of}
use Rattle.flow_machine.specs.Steps.{Makes, Moves, Leads}
use Rattle.flow_replay.specs.Moving.{stopped}
use Rattle.flow_machine.proofs.Leading.{leads_on}

-- one after the other after the other
three : (a b c : Resumed) → and_then (and_then a b) c ≡ and_then a (and_then b c)
three a b c =
    ap (λ (sent : List Message). record { machine = c.machine; sent = sent; asked = (a.asked ++ b.asked) ++ c.asked }) (append_assoc a.sent b.sent c.sent)
    ∙ ap (λ (asked : List Asked). record { machine = c.machine; sent = a.sent ++ (b.sent ++ c.sent); asked = asked }) (append_assoc a.asked b.asked c.asked)

-- what was made before stands before
from_here : (steps : ℕ) (before : Resumed) (next : Next) → go_on steps before next ≡ and_then before (go_on steps (only before.machine) next)
unfolding go_on
from_here steps before (stays r) = refl
from_here zero before (goes r) = refl
from_here (suc steps) before (goes r) =
    from_here steps (and_then before r) (next_of r.machine)
    ∙ three before r (go_on steps (only r.machine) (next_of r.machine))
    ∙ ap (and_then before) (sym (from_here steps r (next_of r.machine)))

-- one step, and then the others
one_more : (steps : ℕ) (m : Machine) (r : Resumed) → go_on (suc steps) (only m) (goes r) ≡ and_then r (go steps r.machine)
unfolding go_on
one_more steps m r = from_here steps r (next_of r.machine)

at_stop : (m : Machine) (next : Next) → go_on 0 (only m) next ≡ stopped m next
unfolding go_on
at_stop m (stays r) = refl
at_stop m (goes r) = refl

at_stay : (steps : ℕ) (m : Machine) (r : Resumed) → go_on steps (only m) (stays r) ≡ r
unfolding go_on
at_stay steps m r = refl

-- what is made leads on to the end
makes_all : (start was now : Made) (m : OwnMachine) (r total : Resumed) → Makes was now m r → Leads start was r total → Makes start now m total
makes_all start was now m r total makes leads = record {
  machine = makes.machine ∙ leads.machine;
  sent = makes.sent ∙ leads.sent;
  asked = makes.asked ∙ leads.asked;
}

went_by : (n : ℕ) (start was now : Made) (before : Machine) (m : OwnMachine) (next : Next) (total : Resumed) → Moves true was now m next → Leads start was (go_on (suc n) (only before) next) total → Leads start now (go n (machine_of m)) total
went_by n start was now before m (goes r) total makes leads =
    leads_on start was now m (go_on (suc n) (only before) (goes r)) r (go n (machine_of m)) total (one_more n before r ∙ ap (λ (after : Machine). and_then r (go n after)) (sym makes.machine)) makes leads
went_by n start was now before m (stays r) total moves leads = absurd moves

-- it went on, and the other steps are still to come
pub went : (went : Bool) (k n : ℕ) (start was now : Made) (before : Machine) (m : OwnMachine) (total : Resumed) → went ≡ true → k ≡ suc n → Moves went was now m (next_of before) → Leads start was (go k before) total → Leads start now (go n (machine_of m)) total
went true k n start was now before m total is left moves leads =
    went_by n start was now before m (next_of before) total moves (subst (λ (j : ℕ). Leads start was (go j before) total) left leads)
went false k n start was now before m total is left moves leads = absurd (cc is)

stays_by : (k : ℕ) (start was now : Made) (before : Machine) (m : OwnMachine) (next : Next) (total : Resumed) → Moves false was now m next → Leads start was (go_on k (only before) next) total → Makes start now m total
stays_by k start was now before m (stays r) total makes leads = makes_all start was now m r total makes (subst (λ (s : Resumed). Leads start was s total) (at_stay k before r) leads)
stays_by k start was now before m (goes r) total moves leads = absurd moves

-- it stayed
pub stayed : (went : Bool) (k : ℕ) (start was now : Made) (before : Machine) (m : OwnMachine) (total : Resumed) → went ≡ false → Moves went was now m (next_of before) → Leads start was (go k before) total → Makes start now m total
stayed false k start was now before m total is moves leads = stays_by k start was now before m (next_of before) total moves leads
stayed true k start was now before m total is moves leads = absurd (cc is)

-- no step is left
ran_out : (k : ℕ) (start was now : Made) (before : Machine) (m : OwnMachine) (total : Resumed) → k ≡ 0 → Makes was now m (stopped before (next_of before)) → Leads start was (go k before) total → Makes start now m total
ran_out k start was now before m total is makes leads =
    makes_all start was now m (stopped before (next_of before)) total makes
    (subst (λ (s : Resumed). Leads start was s total) (at_stop before (next_of before)) (subst (λ (j : ℕ). Leads start was (go j before) total) is leads))

pub ran_out_at_last : {E : Type 0} (result : Result Unit E) (k : ℕ) (start was now : Made) (before : Machine) (m : OwnMachine) (total : Resumed) → k ≡ 0 → OnOk result (Makes was now m (stopped before (next_of before)))
    → Leads start was (go k before) total → OnOk result (Makes start now m total)
ran_out_at_last (Ok x) k start was now before m total is makes leads = ran_out k start was now before m total is makes leads
ran_out_at_last (Err e) k start was now before m total is makes leads = tt
