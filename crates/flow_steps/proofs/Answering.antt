-- All that wait are answered one behind the other.
use Rattle.std.proofs.Common.{◌≡◌, ◌<◌, ◌+◌, ◌∙◌, ℕ, List, [], ◌∷◌, ◌++◌, length, get_or, drop, ap, sym, append_assoc}
use Rattle.std.proofs.lemmas.List.{drop_more, map-append}
use Rattle.dura_value.specs.Ids.{Id}
use Rattle.dura_value.specs.Messages.{Answer, Message, to_request, result}
use Rattle.dura_value.specs.declared.messages.Message.{Message as OwnMessage}
use Rattle.dura_value.specs.Views.{message_of, messages_of}
use Rattle.dura_model.specs.Deliveries.{answering_all}
use Rattle.part_rows.specs.declared.rows.Waiting.{Waiting}
use Rattle.part_rows.specs.Views.{waiting_of}
use Rattle.part_rows.specs.Reactions.{waits_of}

-- the answer to one of them
abbrev pub answers : Id → Answer → Id × ℕ → Message
answers id answer one = record { from = id; to = one.0; body = result (to_request one.1) answer }

pub one_answered : (sent : List OwnMessage) (m : OwnMessage) (id : Id) (answer : Answer) (waiting : List Waiting) (i : ℕ) (one : Waiting) (total : List Message)
    → i < length waiting → one ≡ get_or waiting i one → message_of m ≡ answers id answer (waiting_of one)
    → messages_of sent ++ answering_all id (waits_of (drop i waiting)) answer ≡ total
    → messages_of (sent ++ m ∷ []) ++ answering_all id (waits_of (drop (i + 1) waiting)) answer ≡ total
one_answered sent m id answer waiting i one total here is said so_far =
    let rest = answering_all id (waits_of (drop (i + 1) waiting)) answer in
    ap (λ (ms : List Message). ms ++ rest) (map-append message_of sent (m ∷ []))
    ∙ ap (λ (n : Message). (messages_of sent ++ n ∷ []) ++ rest) said
    ∙ append_assoc (messages_of sent) (answers id answer (waiting_of one) ∷ []) rest
    ∙ ap (λ (ws : List Waiting). messages_of sent ++ answering_all id (waits_of ws) answer) (sym (drop_more waiting i one here ∙ ap (λ (w : Waiting). w ∷ drop (i + 1) waiting) (sym is)))
    ∙ so_far
