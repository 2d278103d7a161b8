use Rattle.std.proofs.Common.{◌≡◌, ◌∙◌, ◌++◌, ◌∷◌, ◌+◌, [], ℕ, List, sym, ap, subst, length, arith, append_assoc}
use Rattle.open_logs.proofs.Pushed.{one_longer}
use Rattle.recover_core.proofs.Pushed.{pushed_items}
use Rattle.call_begins.specs.Begins.{AreLedgersOf}
use Rattle.call_begins.proofs.Begins.{within}
use Rattle.call_begins.proofs.Ledgers.{one_more_shown}
use Rattle.call_begins.proofs.beginning.ledgers_of.Goals as goal

pub pasts-preserved : goal.pasts-preserved
pasts-preserved c =
    let inv = c.pasts.invariant in
    let past = c.in-Some.past in
    let left = c.next.new.self.rest.items in
    let step = c.in-Some.ensures.steps in
    let before = c.pasts.ledgers.items in
    let ledger = c.in_ok-ledger.ledger in
    let states = c.args.states.now in
    let rest : (c.pasts.yielded ++ (past ∷ left)) ≡ c.args.pasts.items = ap (λ (l : List (List ℕ)). c.pasts.yielded ++ l) (sym step.0) ∙ inv.rest in
    let items = pushed_items c.push.result (before ++ ledger ∷ []) before c.push.new.self.items c.if-is_err.false c.is_err.ensures.value c.push.ensures.items in
    record {
      place = ap (λ (n : ℕ). n + 1) inv.place ∙ sym (one_longer c.pasts.yielded past);
      many = ap length items ∙ one_longer before ledger ∙ ap (λ (n : ℕ). n + 1) inv.many ∙ sym (one_longer c.pasts.yielded past);
      rest = append_assoc c.pasts.yielded (past ∷ []) left ∙ rest;
      show = subst (AreLedgersOf c.args.count states (c.pasts.yielded ++ past ∷ [])) (sym items)
          (one_more_shown c.args.count c.pasts.place states c.pasts.yielded before c.index-states-place.result past ledger inv.place inv.many (let low = (within c.pasts.yielded past left c.args.pasts.items c.pasts.place inv.place rest).0 in let a = c.requires.states in let b = c.requires.pasts in omega (arith, low, a, b)) c.index-states-place.is c.in_ok-ledger.ensures inv.show);
    }
