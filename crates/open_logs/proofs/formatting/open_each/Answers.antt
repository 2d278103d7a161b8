use Rattle.std.proofs.Common.{◌≡◌, ◌∙◌, ◌+◌, ◌++◌, ◌∷◌, [], ℕ, List, refl, sym, ap, subst, arith, append_assoc}
use Rattle.std.specs.Prelude.{IfOk}
use Rattle.commit_log.specs.declared.states.Resting.{Resting}
use Rattle.open_logs.specs.Ready.{HasOpened}
use Rattle.open_logs.proofs.Formats.{keeps_ready, none_opened}
use Rattle.open_logs.proofs.Lives.{none_ready, one_more_ready, next_opened}
use Rattle.open_logs.proofs.Pushed.{on_ok, element, one_longer}
use Rattle.open_logs.proofs.formatting.open_each.Goals as goal
use Rattle.recover_core.specs.declared.ending.Life.{Life}

pub lives-init : goal.lives-init
lives-init g c =
    let gives = c.into_iter-life-iterator.ensures.into_iter_gives in
    let base = g.V.Site.history c.args.site.now in
    record {
      told = λ tells. tells;
      of_lives = none_ready c.none-ready.result c.none-ready.ensures.logs c.none-ready.ensures.pasts c.none-ready.ensures.incarnations;
      place = refl;
      rest = gives.0;
      opened = λ tells logs ready.
          none_opened c.args.count c.args.digest logs base c.none-ready.result.logs.items c.none-ready.ensures.logs
          (λ partition below.
          let many = c.requires.many in
          let one = element c.args.lives.items partition (omega (arith, below, many)) in
          keeps_ready c.args.count c.args.digest partition (logs partition) base one.0.log (ready partition one.0 one.1));
      later = omega arith;
      say_faults = refl;
    }

pub lives-preserved : goal.lives-preserved
lives-preserved g c =
    let inv = c.lives.invariant in
    let life = c.in-Some.life in
    let left = c.next.new.self.rest.items in
    let step = c.in-Some.ensures.steps in
    let base = g.V.Site.history c.args.site.now in
    let now = g.V.Site.history c.lives.site in
    let new = g.V.Site.history c.open_log.new.site in
    let rest : (c.lives.yielded ++ (life ∷ left)) ≡ c.args.lives.items = ap (λ (l : List Life). c.lives.yielded ++ l) (sym step.0) ∙ inv.rest in
    let logs_are = on_ok c.push.result c.if-is_err.false c.is_err.ensures.value c.push.ensures.logs in
    let pasts_are = on_ok c.push.result c.if-is_err.false c.is_err.ensures.value c.push.ensures.pasts in
    let numbers_are = on_ok c.push.result c.if-is_err.false c.is_err.ensures.value c.push.ensures.incarnations in
    record {
      told = λ tells. inv.told (c.open_log.ensures.tells tells);
      of_lives = one_more_ready c.lives.yielded life c.lives.ready c.push.new.self c.in-Ok.log inv.of_lives logs_are pasts_are numbers_are;
      place = ap (λ (n : ℕ). n + 1) inv.place ∙ sym (one_longer c.lives.yielded life);
      rest = append_assoc c.lives.yielded (life ∷ []) left ∙ rest;
      opened = λ tells logs ready.
          let so_far = inv.opened (c.open_log.ensures.tells tells) logs ready in
          let one = next_opened c.args.count c.args.digest logs base now new c.args.lives.items c.lives.yielded left life c.lives.ready.logs.items c.lives.partition c.open_log.result c.requires.many rest inv.place inv.of_lives.logs ready so_far (c.open_log.ensures.opens tells) in
          subst (λ (l : List Resting). HasOpened c.args.count c.args.digest logs base new l) (sym logs_are) (subst (λ r. IfOk r (λ log. HasOpened c.args.count c.args.digest logs base new (c.lives.ready.logs.items ++ log ∷ []))) c.in-Ok.is one.1);
      later = let before = inv.later in let after = c.open_log.ensures.later in omega (arith, before, after);
      say_faults = c.open_log.ensures.say_faults ∙ inv.say_faults;
    }

pub returns-in_default-clause-during : goal.returns-in_default-clause-during
returns-in_default-clause-during g c tells logs ready =
    let inv = c.lives.invariant in
    let life = c.in-Some.life in
    let left = c.next.new.self.rest.items in
    let step = c.in-Some.ensures.steps in
    let base = g.V.Site.history c.args.site.now in
    let now = g.V.Site.history c.lives.site in
    let new = g.V.Site.history c.open_log.new.site in
    let rest : (c.lives.yielded ++ (life ∷ left)) ≡ c.args.lives.items = ap (λ (l : List Life). c.lives.yielded ++ l) (sym step.0) ∙ inv.rest in
    let so_far = inv.opened (c.open_log.ensures.tells tells) logs ready in
    (next_opened c.args.count c.args.digest logs base now new c.args.lives.items c.lives.yielded left life c.lives.ready.logs.items c.lives.partition c.open_log.result c.requires.many rest inv.place inv.of_lives.logs ready so_far (c.open_log.ensures.opens tells)).0

pub returns-then-is_err-clause-during : goal.returns-then-is_err-clause-during
returns-then-is_err-clause-during g c tells logs ready =
    let inv = c.lives.invariant in
    let life = c.in-Some.life in
    let left = c.next.new.self.rest.items in
    let step = c.in-Some.ensures.steps in
    let base = g.V.Site.history c.args.site.now in
    let now = g.V.Site.history c.lives.site in
    let new = g.V.Site.history c.open_log.new.site in
    let rest : (c.lives.yielded ++ (life ∷ left)) ≡ c.args.lives.items = ap (λ (l : List Life). c.lives.yielded ++ l) (sym step.0) ∙ inv.rest in
    let so_far = inv.opened (c.open_log.ensures.tells tells) logs ready in
    (next_opened c.args.count c.args.digest logs base now new c.args.lives.items c.lives.yielded left life c.lives.ready.logs.items c.lives.partition c.open_log.result c.requires.many rest inv.place inv.of_lives.logs ready so_far (c.open_log.ensures.opens tells)).0
