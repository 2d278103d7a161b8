use Rattle.std.proofs.Common.{◌≡◌, ◌∙◌, List, Some, ap, sym, option_map}
use Rattle.std.specs.List.{slice_get}
use Rattle.dura_value.specs.Views.{id_of}
use Rattle.dura_value.specs.declared.messages.Message.{Message}
use Rattle.part_rows.specs.Queues.{is_of_link}
use Rattle.part_rows.proofs.Links.{here_first, passed_over}
use Rattle.part_rows.proofs.queue.Queue.place_of.Goals as goal

pub returns-then-is_between : goal.returns-then-is_between
returns-then-is_between c =
    let p = is_of_link (id_of c.args.from.now) (id_of c.args.to.now) in
    let here : slice_get c.args.self.now c.loop-place.place ≡ Some c.in_ok-message.message.now =
    ap (λ (ms : List Message). slice_get ms c.loop-place.place) (sym c.self.view_is) ∙ sym c.get.ensures ∙ ap (option_map (λ m. m.now)) c.in_ok-message.was in
    here_first p c.args.self.now c.loop-place.place c.in_ok-message.message.now c.loop-place.invariant here (sym c.is_between.ensures ∙ c.if-is_between.true)

pub loop-place-preserved : goal.loop-place-preserved
loop-place-preserved c =
    let p = is_of_link (id_of c.args.from.now) (id_of c.args.to.now) in
    let here : slice_get c.args.self.now c.loop-place.place ≡ Some c.in_ok-message.message.now =
    ap (λ (ms : List Message). slice_get ms c.loop-place.place) (sym c.self.view_is) ∙ sym c.get.ensures ∙ ap (option_map (λ m. m.now)) c.in_ok-message.was in
    c.loop-place.invariant ∙ passed_over p c.args.self.now c.loop-place.place c.in_ok-message.message.now here (sym c.is_between.ensures ∙ c.if-is_between.false)
