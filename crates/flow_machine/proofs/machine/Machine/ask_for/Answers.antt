use Rattle.std.proofs.Common.{◌==◌, ◌∙◌, ◌++◌, ◌∷◌, [], List, length, map, refl, ap, sym}
use Rattle.std.proofs.lemmas.List.{append-nil, map_push}
use Rattle.dura_value.specs.Messages.{Message}
use Rattle.dura_value.specs.declared.spots.Spot.{Spot}
use Rattle.dura_value.specs.Views.{messages_of, message_of, spots_of}
use Rattle.flow_messages.specs.Views.{asked_of}
use Rattle.flow_machine.specs.Views.{machine_of}
use Rattle.flow_machine.proofs.Locking.{to_first, not_empty}
use Rattle.flow_machine.proofs.machine.Machine.ask_for.Goals as goal

pub returns : goal.returns
returns c =
    let some = not_empty c.args.set.now (ap (λ (spots : List Spot). length spots == 0) (sym c.as_slice.ensures) ∙ sym c.is_empty.ensures ∙ c.if-is_empty.false) in
    record {
      machine = refl;
      sent =
          ap messages_of c.in_ok-push.ensures.items
          ∙ map_push message_of c.args.made.now.messages.items c.in_ok-lock.lock
          ∙ ap (λ one. messages_of c.args.made.now.messages.items ++ one ∷ []) c.in_ok-lock.ensures
          ∙ ap (λ (ms : List Message). messages_of c.args.made.now.messages.items ++ ms) (sym (to_first (machine_of c.args.self.now) c.args.number (spots_of c.args.set.now) some));
      asked = sym (append-nil (map asked_of c.args.made.now.asked.items));
    }
