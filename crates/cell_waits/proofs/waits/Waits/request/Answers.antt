use Rattle.std.proofs.Common.{◌∙◌, ap, sym}
use Rattle.std.specs.List.{slice_get}
use Rattle.dura_value.specs.Views.{id_of}
use Rattle.cell_waits.specs.Waits.{waits_of, is_request_of, message_of_one}
use Rattle.cell_waits.proofs.Finding.{none_placed, some_placed}
use Rattle.cell_waits.proofs.waits.Waits.request.Goals as goal

pub message_at-requires : goal.message_at-requires
message_at-requires c =
    (some_placed (is_request_of (id_of c.args.client.now) c.args.number) c.args.self.now.first (waits_of c.args.self.now) c.in-Some.place
    (ap (λ l. slice_get l 0) (sym (c.requires.requests (id_of c.args.client.now) c.args.number)) ∙ sym c.in-Some.ensures)).later

pub returns-in-Some : goal.returns-in-Some
returns-in-Some c =
    c.message_at.ensures
    ∙ ap message_of_one
    (some_placed (is_request_of (id_of c.args.client.now) c.args.number) c.args.self.now.first (waits_of c.args.self.now) c.in-Some.place
    (ap (λ l. slice_get l 0) (sym (c.requires.requests (id_of c.args.client.now) c.args.number)) ∙ sym c.in-Some.ensures)).found

pub returns-in-None : goal.returns-in-None
returns-in-None c =
    sym (ap message_of_one
    (none_placed (is_request_of (id_of c.args.client.now) c.args.number) c.args.self.now.first (waits_of c.args.self.now)
    (ap (λ l. slice_get l 0) (sym (c.requires.requests (id_of c.args.client.now) c.args.number)) ∙ sym c.in-None.ensures)))
