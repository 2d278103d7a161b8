use Rattle.std.proofs.Common.{◌∙◌, ℕ, Bool, true, is_some, ap}
use Rattle.dura_value.specs.declared.addresses.Id.{Id as Address}
use Rattle.dura_value.specs.ById.{at_number}
use Rattle.dura_value.specs.Ids.{Id}
use Rattle.dura_value.specs.Views.{id_of}
use Rattle.shared_maps.specs.Maps.{by_task}
use Rattle.cell_tasks.specs.Tasks.{is_out}
use Rattle.cell_tasks.proofs.Changing.{changed, on_err}
use Rattle.cell_tasks.proofs.Looking.{first_given}
use Rattle.cell_tasks.proofs.given_out.GivenOut.give_out.Goals as goal

pub returns-in_err-put-clause-same : goal.returns-in_err-put-clause-same
returns-in_err-put-clause-same c = on_err c.from_residual-in_err-put.result (λ i id task. is_some (c.in_err-put.ensures.same i id task))

pub returns-in_err-put-clause-ahead : goal.returns-in_err-put-clause-ahead
returns-in_err-put-clause-ahead c = λ there ahead first id task here before.
    ap (λ f. is_some (f id task)) c.in_err-put.ensures.same ∙ ahead id task here before

pub returns-clause-out : goal.returns-clause-out
returns-clause-out c =
    let out = is_out c.args.self.now in
    changed (by_task c.args.self.now.tasks) (by_task c.put.new.self) (id_of c.in_ok-kept.kept) c.args.task _ c.in_ok-put.ensures.put
    ∙ ap (λ (id : Address). at_number out (id_of id) c.args.task true) c.in_ok-kept.ensures

pub returns-clause-ahead : goal.returns-clause-ahead
returns-clause-ahead c = λ there ahead first id task here before.
    ap (λ (f : Id → ℕ → Bool). f id task) (returns-clause-out c) ∙ first_given there (is_out c.args.self.now) (id_of c.args.id) c.args.task first id task here before
