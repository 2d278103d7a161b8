-- What leads to a result, step by step.
use Rattle.std.proofs.Common.{◌≡◌, ◌∙◌, ◌++◌, List, map, ap, sym, append_assoc}
use Rattle.std.proofs.lemmas.List.{append-nil}
use Rattle.dura_value.specs.Messages.{Message}
use Rattle.dura_value.specs.Views.{messages_of}
use Rattle.flow_syntax.specs.Machine.{Resumed, Asked, only, and_then}
use Rattle.flow_machine.specs.declared.machine.Machine.{Machine as OwnMachine}
use Rattle.flow_messages.specs.declared.made.Made.{Made}
use Rattle.flow_messages.specs.Views.{asked_of}
use Rattle.flow_machine.specs.Views.{machine_of}
use Rattle.flow_machine.specs.Steps.{Makes, Leads}

-- nothing more is made
pub leads_to : (start now : Made) (m : OwnMachine) (more total : Resumed) → more ≡ only (machine_of m) → Leads start now more total → Makes start now m total
leads_to start now m more total is leads = record {
  machine = sym (ap (λ (r : Resumed). r.machine) is) ∙ leads.machine;
  sent = sym (append-nil (messages_of now.messages.items)) ∙ sym (ap (λ (r : Resumed). messages_of now.messages.items ++ r.sent) is) ∙ leads.sent;
  asked = sym (append-nil (map asked_of now.asked.items)) ∙ sym (ap (λ (r : Resumed). map asked_of now.asked.items ++ r.asked) is) ∙ leads.asked;
}

-- a step is made, and the rest leads on
pub leads_on : (start was now : Made) (m : OwnMachine) (more step next total : Resumed) → more ≡ and_then step next → Makes was now m step → Leads start was more total → Leads start now next total
leads_on start was now m more step next total is makes leads = record {
  machine = sym (ap (λ (r : Resumed). r.machine) is) ∙ leads.machine;
  sent = ap (λ (ms : List Message). ms ++ next.sent) makes.sent ∙ append_assoc (messages_of was.messages.items) step.sent next.sent ∙ sym (ap (λ (r : Resumed). messages_of was.messages.items ++ r.sent) is) ∙ leads.sent;
  asked = ap (λ (xs : List Asked). xs ++ next.asked) makes.asked ∙ append_assoc (map asked_of was.asked.items) step.asked next.asked ∙ sym (ap (λ (r : Resumed). map asked_of was.asked.items ++ r.asked) is) ∙ leads.asked;
}
