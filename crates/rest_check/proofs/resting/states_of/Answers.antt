use Rattle.std.proofs.Common.{◌≡◌, ◌∙◌, ◌++◌, ◌∷◌, [], length, map, ap, arith, length-append}
use Rattle.std.proofs.lemmas.List.{map-append}
use Rattle.rest_check.proofs.AtRest.{no_states, one_more_state}
use Rattle.rest_check.proofs.resting.states_of.Goals as goal

pub cells-init : goal.cells-init
cells-init g c =
    let none = ap (map (λ s. s.now)) c.new-states.ensures.items in
    record { many = ap length none; each = no_states g.M.Picked.rules c.args.cells.now (map (λ s. s.now) c.new-states.result.items) none }

pub cells-preserved : goal.cells-preserved
cells-preserved g c =
    let inv = c.cells.invariant in
    let old = map (λ s. s.now) c.cells.states.items in
    let now = map (λ s. s.now) c.push.new.self.items in
    let s = c.in-Some.base.now in
    let is : now ≡ old ++ s ∷ [] = ap (map (λ s. s.now)) c.in_ok-push.ensures.items ∙ map-append (λ s. s.now) c.cells.states.items (c.in-Some.base ∷ []) in
    let base = c.in-Some.ensures in
    record {
      many = let long = ap length is in let more = length-append old (s ∷ []) in let many = inv.many in omega (arith, long, more, many);
      each = one_more_state g.M.Picked.rules c.args.cells.now old now c.cells.cell-index c.cell-item.result s inv.many c.cells-test.true c.cell-item.is is (record { sound = base.sound; among = base.partitions; base = base.base }) inv.each;
    }

pub returns : goal.returns
returns g c =
    let inv = c.cells.invariant in
    record { many = let many = inv.many in let low = c.cells.auto.cell-index-end in let high = c.cells-test.false in omega (arith, many, low, high); each = inv.each }
