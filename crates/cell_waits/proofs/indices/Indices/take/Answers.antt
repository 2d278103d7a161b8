use Rattle.std.proofs.Common.{◌∙◌, ◌-◌, drop, cond, ap}
use Rattle.cell_waits.specs.Keys.{counts_in, places_in, is_number, is_key}
use Rattle.cell_waits.specs.Waits.{wait_of}
use Rattle.cell_waits.proofs.Indexing.{one_taken}
use Rattle.cell_waits.proofs.indices.Indices.take.Goals as goal

pub returns : goal.returns
returns c =
    let old = c.args.self.now in
    one_taken old (record { packets = c.take.new.self; trims = c.take-2.new.self; requests = c.pop.new.self; outcomes = c.pop-2.new.self }) (wait_of c.args.wait.now)
    (λ q. c.in_ok-take.ensures q ∙ ap (λ k. counts_in old.packets q - cond (is_number k q) 1 0) c.source_of.ensures)
    (λ q. c.in_ok-take-2.ensures q ∙ ap (λ k. counts_in old.trims q - cond (is_number k q) 1 0) c.target_of.ensures)
    (λ id q. c.in_ok-pop.ensures id q ∙ ap (λ k. drop (cond (is_key k id q) 1 0) (places_in old.requests id q)) c.asker_of.ensures)
    (λ id q. c.in_ok-pop-2.ensures id q ∙ ap (λ k. drop (cond (is_key k id q) 1 0) (places_in old.outcomes id q)) c.task_of.ensures)
