use Rattle.std.proofs.Common.{◌≡◌, ℕ, true, sym, subst}
use Rattle.cell_frames.proofs.ByItself.{offers_joined}
use Rattle.dura_value.specs.Items.{took}
use Rattle.dura_value.specs.Views.{message_of}
use Rattle.many_rules.specs.Rules.{pairs_of, rules_at}
use Rattle.run_rules.specs.Rules.{IsAsked}
use Rattle.world_steps.proofs.Cells.{each_ok}
use Rattle.world_steps.proofs.comes.offer_at.Goals as goal

pub returns-clause-joined : goal.returns-clause-joined
returns-clause-joined g c = λ s asked all.
    let rules = g.M.Picked.rules in
    let cell = c.index_mut-cell.result.now in
    each_ok rules s c.args.cells.now.items c.args.part cell c.offer.new.self c.offer.result _
    c.requires.place c.index_mut-cell.ensures.value c.offer.ensures.going c.offer.ensures.offers
    (λ it is joined. offers_joined rules s c.args.part cell joined is.0 is.2 (message_of c.args.request) it c.offer.new.self (λ serves. subst (λ (n : ℕ). IsAsked (rules_at rules n) (pairs_of s.told) (took (message_of c.args.request))) (sym joined.goes.number) (asked serves)) is.4) all
