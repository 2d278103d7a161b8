use Rattle.std.proofs.Common.{sym, ◌∙◌, ap, Some}
use Rattle.std.specs.Option.{option_map}
use Rattle.cell_frames.proofs.Calls.{made_of}
use Rattle.hub_store.specs.Changes.{asked, trail_in, told_in}
use Rattle.world_steps.proofs.Said.{may_be_said}
use Rattle.world_steps.proofs.saying.say_line.Goals as goal

pub say-requires-clause-may : goal.say-requires-clause-may
say-requires-clause-may g c =
    let rules = g.M.Picked.rules in
    let store = c.args.store.now in
    may_be_said rules (trail_in store.logs) (told_in store.logs) (asked c.args.client.now c.args.number) c.as_slice.result.now c.requires.next c.requires.count (made_of g.M.Picked.origin rules g.M.Picked.origin.count store c.requires.begun c.requires.kept)
    (c.requires.answer ∙ ap (option_map (λ l. l.items)) c.in-Some.is ∙ ap Some (sym c.as_slice.ensures.value))
