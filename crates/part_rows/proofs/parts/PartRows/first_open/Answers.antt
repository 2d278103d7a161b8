use Rattle.std.proofs.Common.{◌∙◌, sym, ap, option_map}
use Rattle.part_rows.specs.Parts.{part_of}
use Rattle.part_rows.proofs.Opening.{oldest_here}
use Rattle.part_rows.proofs.parts.PartRows.first_open.Goals as goal

pub returns-then-lets_in-clause-oldest :
    goal.returns-then-lets_in-clause-oldest
returns-then-lets_in-clause-oldest c =
    oldest_here (part_of c.args.self.now).entities c.args.self.now.queue c.loop-place.place c.in_ok-message.message.now c.loop-place.invariant
    (sym c.at.ensures ∙ ap (option_map (λ m. m.now)) c.in_ok-message.was) (sym c.lets_in.ensures ∙ c.if-lets_in.true)
