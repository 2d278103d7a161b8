use Rattle.std.proofs.Common.{ℕ, map, subst, ap, ◌∙◌}
use Rattle.dura_model.specs.Placed.{Belongs}
use Rattle.dura_value.specs.Views.{floor_of}
use Rattle.part_steps.specs.States.{state_of}
use Rattle.state_ledgers.proofs.LedgerShowsState.{shows}
use Rattle.state_ledgers.proofs.ledger.ledger_of.Goals as goal

pub returns : goal.returns
returns c =
    let p = state_of c.args.state.now in
    let place = c.args.state.now.rows.number in
    let belongs : Belongs c.args.count place p = subst (λ (n : ℕ). Belongs n place p) c.requires.among c.requires.sound.belongs in
    let made = c.recovered.ensures in
    shows c.args.count place p c.args.past c.in_ok-nexts.nexts.items c.in_ok-readers.readers.items c.in_ok-streams.streams.items c.recovered.result belongs c.in_ok-nexts.ensures c.in_ok-readers.ensures c.in_ok-streams.ensures.settled
    made.settled made.whole (made.floors ∙ ap (map floor_of) c.new.ensures.items) made.boxes made.nexts made.readers
