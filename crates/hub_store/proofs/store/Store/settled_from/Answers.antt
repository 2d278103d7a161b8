use Rattle.std.proofs.Common.{ℕ, List, take, drop, sym, ap, ◌∙◌}
use Rattle.std.proofs.Math.Seq.{take-length}
use Rattle.std.proofs.lemmas.List.{drop-map, length-drop}
use Rattle.hub_store.specs.declared.trail.Settled as rows
use Rattle.hub_store.specs.Plain.{settled_of, trail_of}
use Rattle.hub_store.proofs.store.Store.settled_from.Goals as goal

pub returns : goal.returns
returns g c =
    let all = c.args.self.now.trail.items in
    let whole = c.deref.result.now in
    ap trail_of (ap (λ (n : ℕ). take n (drop c.args.count whole)) (sym (length-drop c.args.count whole)) ∙ take-length (drop c.args.count whole))
    ∙ ap (λ (l : List rows.Settled). trail_of (drop c.args.count l)) c.deref.ensures.value
    ∙ sym (drop-map settled_of c.args.count all)
