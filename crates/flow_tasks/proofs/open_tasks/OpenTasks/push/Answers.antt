use Rattle.std.proofs.Common.{◌≡◌, ◌++◌, ◌∷◌, [], ℕ, List, None, length, refl, sym, subst}
use Rattle.flow_syntax.specs.Machine.{Task}
use Rattle.flow_tasks.specs.Numbers.{numbers_in, at_name}
use Rattle.flow_tasks.specs.OpenTasks.{AreThose}
use Rattle.flow_tasks.specs.Views.{kind_of}
use Rattle.flow_tasks.specs.declared.tasks.Kind.{Kind}
use Rattle.flow_tasks.specs.declared.open_tasks.OpenTasks.{OpenTasks}
use Rattle.flow_tasks.proofs.ByName.{on_err}
use Rattle.flow_tasks.proofs.OpenTasks.{call_comes, listener_comes, other_comes, none_comes, call_kind, other_kind}
use Rattle.flow_tasks.proofs.open_tasks.OpenTasks.push.Goals as goal

pub returns-in_err-push-in-Event-clause-err : goal.returns-in_err-push-in-Event-clause-err
returns-in_err-push-in-Event-clause-err c =
    on_err c.from_residual-in_err-push-in-Event.result _ (none_comes c.args.self.now (record { calls = c.args.self.now.calls; listeners = c.push.new.self }) refl c.in_err-push-in-Event.ensures.err)

pub returns-in_ok-push-in-Event-clause-ok : goal.returns-in_ok-push-in-Event-clause-ok
returns-in_ok-push-in-Event-clause-ok c =
    let old = c.args.self.now in
    let new : OpenTasks = record { calls = old.calls; listeners = c.push.new.self } in
    let changed = subst (λ (n : List ℕ). numbers_in new.listeners ≡ at_name (numbers_in old.listeners) n (numbers_in old.listeners n ++ c.args.number ∷ [])) c.in_ok-copy_name-in-Event.ensures c.in_ok-push-in-Event.ensures.ok in
    subst (λ (k : Kind). (tasks : List Task) → AreThose old tasks → c.args.number ≡ length tasks → AreThose new (tasks ++ record { kind = kind_of k; arrival = None } ∷ [])) (sym c.in-Event.is)
    (listener_comes old new c.in-Event.name c.args.number refl changed)

pub returns-in-Activity-clause-ok : goal.returns-in-Activity-clause-ok
returns-in-Activity-clause-ok c = λ tasks are is.
    let kind = other_kind c.args.kind.now c.in-Activity.is in
    other_comes c.args.self.now c.args.self.now (kind_of c.args.kind.now) kind.0 kind.1 refl refl tasks are

pub returns-in-Activity-2-clause-ok : goal.returns-in-Activity-2-clause-ok
returns-in-Activity-2-clause-ok c = λ tasks are is.
    let kind = other_kind c.args.kind.now c.in-Activity.is in
    other_comes c.args.self.now c.args.self.now (kind_of c.args.kind.now) kind.0 kind.1 refl refl tasks are

pub returns-in-Activity-3-clause-ok : goal.returns-in-Activity-3-clause-ok
returns-in-Activity-3-clause-ok c = λ tasks are is.
    let kind = other_kind c.args.kind.now c.in-Activity.is in
    other_comes c.args.self.now c.args.self.now (kind_of c.args.kind.now) kind.0 kind.1 refl refl tasks are

pub returns-in_ok-insert-in-Flow-clause-ok : goal.returns-in_ok-insert-in-Flow-clause-ok
returns-in_ok-insert-in-Flow-clause-ok c =
    let kind = call_kind c.args.kind.now c.in-Flow.is in
    call_comes c.args.self.now (record { calls = c.insert.new.self; listeners = c.args.self.now.listeners }) (kind_of c.args.kind.now) c.args.number kind.0 kind.1 c.in_ok-insert-in-Flow.ensures.keys refl
