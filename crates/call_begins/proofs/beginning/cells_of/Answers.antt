use Rattle.std.proofs.Common.{◌≡◌, ◌<◌, ◌∙◌, ◌++◌, ◌∷◌, ◌+◌, [], ℕ, List, sym, ap, subst, length, arith, append_assoc, get_or}
use Rattle.std.proofs.lemmas.Option.{slice_get-get_or}
use Rattle.open_logs.proofs.Pushed.{one_longer, on_ok}
use Rattle.part_steps.specs.declared.state.PartState.{PartState}
use Rattle.call_begins.specs.Begins.{AllBegun}
use Rattle.call_begins.proofs.Begins.{within, one_more_begun}
use Rattle.call_begins.proofs.beginning.cells_of.Goals as goal

pub states-preserved : goal.states-preserved
states-preserved g c =
    let inv = c.states.invariant in
    let state = c.in-Some.state in
    let left = c.next.new.self.rest.items in
    let step = c.in-Some.ensures.steps in
    let before = c.states.cells.items in
    let cell = c.cell_of-cell.result in
    let numbers = c.args.incarnations.now in
    let begins = c.requires.begins in
    let rest : (c.states.yielded ++ (state ∷ left)) ≡ c.args.states.items = ap (λ (l : List PartState). c.states.yielded ++ l) (sym step.0) ∙ inv.rest in
    let items = on_ok c.push_cell.result c.if-is_err.false c.is_err.ensures.value c.push_cell.ensures in
    let low = (within c.states.yielded state left c.args.states.items c.states.place inv.place rest).0 in
    let inside : c.states.place < length numbers = let a = begins.many in let b = begins.numbers in omega (arith, low, a, b) in
    record {
      place = ap (λ (n : ℕ). n + 1) inv.place ∙ sym (one_longer c.states.yielded state);
      many = ap length items ∙ one_longer before cell ∙ ap (λ (n : ℕ). n + 1) inv.many ∙ sym (one_longer c.states.yielded state);
      rest = append_assoc c.states.yielded (state ∷ []) left ∙ rest;
      begun = subst (AllBegun numbers c.args.since) (sym items)
          (one_more_begun numbers c.args.since before c.states.place (get_or numbers c.states.place 0) cell (inv.place ∙ sym inv.many) (slice_get-get_or numbers c.states.place 0 inside) c.cell_of-cell.ensures inv.begun);
    }
