-- What follows an event is what follows all that is sent.
use Rattle.std.proofs.Common.{◌≡◌, ◌∙◌, ◌++◌, ℕ, List, Option, Some, None, refl, ap}
use Rattle.dura_value.specs.Ids.{Id}
use Rattle.dura_value.specs.Messages.{Answer, Message}
use Rattle.flow_syntax.specs.Machine.{Machine, Asked, Resumed}
use Rattle.dura_model.specs.Deliveries.{Effect, at_end, ending}
use Rattle.flow_steps.specs.Ends.{settled_with}

at_answer : (r : Resumed) (waiting : List (Id × ℕ)) (before : List Message) (answer : Option Answer)
    → settled_with (record { machine = r.machine; waiting = waiting }) (before ++ r.sent) r.asked answer ≡ at_end r waiting before answer
at_answer r waiting before None = refl
at_answer r waiting before (Some answer) = refl

pub at_an_end : (e : Effect) (m : Machine) (waiting : List (Id × ℕ)) (before made sent : List Message) (asked : List Asked) (r : Resumed)
    → m ≡ r.machine → made ≡ r.sent → asked ≡ r.asked → sent ≡ before ++ made
    → e ≡ settled_with (record { machine = m; waiting = waiting }) sent asked (ending m.progress) → e ≡ at_end r waiting before (ending r.machine.progress)
at_an_end e m waiting before made sent asked r machine_is made_is asked_is all is =
    is
    ∙ ap (λ (n : Machine). settled_with (record { machine = n; waiting = waiting }) sent asked (ending n.progress)) machine_is
    ∙ ap (λ (ms : List Message). settled_with (record { machine = r.machine; waiting = waiting }) ms asked (ending r.machine.progress)) (all ∙ ap (λ (ms : List Message). before ++ ms) made_is)
    ∙ ap (λ (a : List Asked). settled_with (record { machine = r.machine; waiting = waiting }) (before ++ r.sent) a (ending r.machine.progress)) asked_is
    ∙ at_answer r waiting before (ending r.machine.progress)
