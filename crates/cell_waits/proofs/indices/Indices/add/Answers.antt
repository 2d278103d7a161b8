use Rattle.std.proofs.Common.{◌∙◌, ◌+◌, ◌++◌, ◌∷◌, [], cond, ap}
use Rattle.cell_waits.specs.Keys.{counts_in, places_in, is_number, is_key}
use Rattle.cell_waits.specs.Waits.{wait_of}
use Rattle.cell_waits.proofs.Indexing.{one_added}
use Rattle.cell_waits.proofs.indices.Indices.add.Goals as goal

pub returns : goal.returns
returns c =
    let old = c.args.self.now in
    one_added old (record { packets = c.add.new.self; trims = c.add-2.new.self; requests = c.push.new.self; outcomes = c.push-2.new.self }) (wait_of c.args.wait.now) c.args.place
    (λ q. c.in_ok-add.ensures q ∙ ap (λ k. counts_in old.packets q + cond (is_number k q) 1 0) c.source_of.ensures)
    (λ q. c.in_ok-add-2.ensures q ∙ ap (λ k. counts_in old.trims q + cond (is_number k q) 1 0) c.target_of.ensures)
    (λ id q. c.in_ok-push.ensures id q ∙ ap (λ k. places_in old.requests id q ++ cond (is_key k id q) (c.args.place ∷ []) []) c.asker_of.ensures)
    (λ id q. c.in_ok-push-2.ensures id q ∙ ap (λ k. places_in old.outcomes id q ++ cond (is_key k id q) (c.args.place ∷ []) []) c.task_of.ensures)
