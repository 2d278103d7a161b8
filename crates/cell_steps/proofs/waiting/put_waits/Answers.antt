use Rattle.std.proofs.Common.{◌≡◌, ◌∷◌, Option, subst, arith}
use Rattle.std.specs.List.{All}
use Rattle.std.specs.Prelude.{[], MatchOption}
use Rattle.std.proofs.lemmas.List.Elements.{All-head}
use Rattle.cell_waits.specs.Waits.{MayWait, wait_of, waits_of}
use Rattle.cell_waits.specs.declared.wait.Wait.{Wait}
use Rattle.cell_steps.proofs.Queueing.{has_put_nothing, has_put_one}
use Rattle.cell_steps.proofs.waiting.put_waits.Goals as goal

pub waits-init : goal.waits-init
waits-init g c = has_put_nothing (g.R.Reactions.flows c.args.reactions.now) c.args.limit c.args.filling c.args.waits.now c.requires.way c.requires.indexed c.requires.may

pub put_wait-requires-clause-may : goal.put_wait-requires-clause-may
put_wait-requires-clause-may g c =
    let split : waits_of c.waits.waits ≡ wait_of c.in-Some.wait ∷ waits_of c.pop.new.self =
    subst (λ (o : Option Wait). MatchOption o ((waits_of c.waits.waits ≡ []) × (waits_of c.pop.new.self ≡ [])) (λ wait. waits_of c.waits.waits ≡ wait_of wait ∷ waits_of c.pop.new.self)) c.in-Some.is c.in-Ok.ensures.popped in
    All-head MayWait (wait_of c.in-Some.wait) (waits_of c.pop.new.self) (subst (All MayWait) split c.waits.invariant.may)

pub waits-preserved : goal.waits-preserved
waits-preserved g c =
    let split : waits_of c.waits.waits ≡ wait_of c.in-Some.wait ∷ waits_of c.pop.new.self =
    subst (λ (o : Option Wait). MatchOption o ((waits_of c.waits.waits ≡ []) × (waits_of c.pop.new.self ≡ [])) (λ wait. waits_of c.waits.waits ≡ wait_of wait ∷ waits_of c.pop.new.self)) c.in-Some.is c.in-Ok.ensures.popped in
    let looks = c.in_ok-filling.ensures.on in
    has_put_one (g.R.Reactions.flows c.args.reactions.now) c.args.limit c.args.filling (waits_of c.args.waits.now) c.waits.filling c.in_ok-filling.filling c.waits.waits c.pop.new.self (wait_of c.in-Some.wait)
    c.waits.invariant split c.in-Ok.ensures.indexed (looks 0 (waits_of c.pop.new.self)).on.way (λ now. looks now (waits_of c.pop.new.self)) (omega (arith, c.waits-test.true, c.len.ensures)) c.in_ok-filling.ensures.few
