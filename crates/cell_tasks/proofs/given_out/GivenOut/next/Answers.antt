use Rattle.std.proofs.Common.{◌∙◌, ℕ, Bool, is_some, option_map, sym}
use Rattle.dura_value.specs.Ids.{Id}
use Rattle.dura_value.specs.Views.{id_of}
use Rattle.shared_maps.specs.Maps.{by_task}
use Rattle.cell_tasks.specs.Tasks.{is_out}
use Rattle.cell_tasks.proofs.Looking.{next_due, next_out}
use Rattle.cell_tasks.proofs.Passing.{passes}
use Rattle.cell_tasks.proofs.given_out.GivenOut.next.Goals as goal

pub returns-then-not-has-clause-next : goal.returns-then-not-has-clause-next
returns-then-not-has-clause-next g c =
    let there : Id → ℕ → Bool = λ id task. is_some (by_task c.args.pending.now id task) in
    let last = option_map (λ task. (id_of task.0.now, task.1)) c.loop-id.last in
    next_due there (is_out c.args.self.now) last c.loop-id.invariant (id_of c.in-Some.id.now) c.in-Some.task c.in-Some.ensures.next (sym c.has.ensures ∙ c.if-not-has.true)

pub loop-id-smaller : goal.loop-id-smaller
loop-id-smaller g c =
    let last = option_map (λ task. (id_of task.0.now, task.1)) c.loop-id.last in
    passes c.args.self.now.tasks last (id_of c.in-Some.id.now) c.in-Some.task c.in-Some.ensures.next.behind (sym c.has.ensures ∙ c.if-not-has.false)

pub loop-id-preserved : goal.loop-id-preserved
loop-id-preserved g c =
    let there : Id → ℕ → Bool = λ id task. is_some (by_task c.args.pending.now id task) in
    let last = option_map (λ task. (id_of task.0.now, task.1)) c.loop-id.last in
    next_out there (is_out c.args.self.now) last c.loop-id.invariant (id_of c.in-Some.id.now) c.in-Some.task c.in-Some.ensures.next (sym c.has.ensures ∙ c.if-not-has.false)
