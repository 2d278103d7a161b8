-- How a machine ends.
use Rattle.std.proofs.Common.{◌≡◌, ◌∙◌, ◌++◌, List, [], Result, Ok, Err, OnOk, refl, ap, sym, subst, map, append_assoc}
use Rattle.std.proofs.lemmas.List.{append-nil}
use Rattle.dura_value.specs.Messages.{Message, Reply, to_nobody, to_task, to_request}
use Rattle.dura_value.specs.Views.{messages_of}
use Rattle.flow_syntax.specs.Machine.{Machine, Asked, Section, outside, acquiring, inside, Progress, unborn, running, done, failed, leaving, telling, ended}
use Rattle.flow_messages.specs.declared.made.Made.{Made}
use Rattle.flow_messages.specs.Views.{asked_of}
use Rattle.flow_machine.specs.declared.machine.Machine.{Machine as OwnMachine}
use Rattle.flow_machine.specs.Views.{machine_of}
use Rattle.flow_machine.specs.Steps.{Makes}

-- a machine that is over, with nothing to run
abbrev pub over : Machine → Progress → Machine
over m progress = record m { rest = []; progress = progress }

left : (m : Machine) (section : Section) (progress : Progress) → (leaving (over m progress) section).machine ≡ over (leaving m section).machine progress
left m outside progress = refl
left m (acquiring task set) progress = refl
left m (inside set) progress = refl

sent : (m : Machine) (section : Section) (progress : Progress) → (leaving (over m progress) section).sent ≡ (leaving m section).sent
sent m outside progress = refl
sent m (acquiring task set) progress = refl
sent m (inside set) progress = refl

asked : (m : Machine) (section : Section) (progress : Progress) → (leaving (over m progress) section).asked ≡ (leaving m section).asked
asked m outside progress = refl
asked m (acquiring task set) progress = refl
asked m (inside set) progress = refl

-- what is told is that of the machine before
told_over : (m : Machine) (reply : Reply) (progress : Progress) → telling (over m progress) reply progress ≡ telling m reply progress
told_over m to_nobody progress = refl
told_over m (to_request number) progress = refl
told_over m (to_task number) unborn = refl
told_over m (to_task number) running = refl
told_over m (to_task number) (done value) = refl
told_over m (to_task number) (failed text) = refl

told_outside : (m : Machine) (reply : Reply) (progress : Progress) → telling (record (over m progress) { section = outside }) reply progress ≡ telling m reply progress
told_outside m to_nobody progress = refl
told_outside m (to_request number) progress = refl
told_outside m (to_task number) unborn = refl
told_outside m (to_task number) running = refl
told_outside m (to_task number) (done value) = refl
told_outside m (to_task number) (failed text) = refl

abbrev tells : Machine → List Message
tells m = telling m m.reply m.progress

told : (m : Machine) (section : Section) (progress : Progress) → tells (over (leaving m section).machine progress) ≡ telling m m.reply progress
told m outside progress = told_over m m.reply progress
told m (acquiring task set) progress = told_over m m.reply progress
told m (inside set) progress = told_outside m m.reply progress

-- it is over, leaves its section and tells its starter: it has ended
pub ends : (was now then : Made) (own : OwnMachine) (begun m : Machine) (progress : Progress) → begun ≡ over m progress → Makes was now own (leaving begun begun.section)
    → Makes now then own (record { machine = machine_of own; sent = telling (machine_of own) (machine_of own).reply (machine_of own).progress; asked = [] }) → Makes was then own (ended m progress)
ends was now then own begun m progress is leaves tell =
    let leaves' : Makes was now own (leaving (over m progress) m.section) = subst (λ (b : Machine). Makes was now own (leaving b b.section)) is leaves in
    let is_over : machine_of own ≡ over (leaving m m.section).machine progress = leaves'.machine ∙ left m m.section progress in
    record {
      machine = is_over;
      sent =
          tell.sent
          ∙ ap (λ (ms : List Message). ms ++ tells (machine_of own)) (leaves'.sent ∙ ap (λ (ms : List Message). messages_of was.messages.items ++ ms) (sent m m.section progress))
          ∙ append_assoc (messages_of was.messages.items) (leaving m m.section).sent (tells (machine_of own))
          ∙ ap (λ (ms : List Message). messages_of was.messages.items ++ ((leaving m m.section).sent ++ ms)) (ap tells is_over ∙ told m m.section progress);
      asked =
          tell.asked
          ∙ append-nil (map asked_of now.asked.items)
          ∙ leaves'.asked
          ∙ ap (λ (xs : List Asked). map asked_of was.asked.items ++ xs) (asked m m.section progress ∙ sym (append-nil (leaving m m.section).asked));
    }

pub all_ends : {E : Type 0} (r : Result Unit E) (was now then : Made) (own : OwnMachine) (begun m : Machine) (progress : Progress) → begun ≡ over m progress → Makes was now own (leaving begun begun.section)
    → OnOk r (Makes now then own (record { machine = machine_of own; sent = telling (machine_of own) (machine_of own).reply (machine_of own).progress; asked = [] })) → OnOk r (Makes was then own (ended m progress))
all_ends (Ok x) was now then own begun m progress is leaves tell = ends was now then own begun m progress is leaves tell
all_ends (Err e) was now then own begun m progress is leaves tell = tt
