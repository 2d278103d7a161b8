use Rattle.std.proofs.Common.{◌∙◌, ◌++◌, ◌∷◌, [], ap, sym, subst}
use Rattle.std.specs.Option.{option_to_list}
use Rattle.flow_syntax.specs.Machine.{leaving, thrown, throws}
use Rattle.flow_machine.specs.Views.{machine_of, rest_of}
use Rattle.flow_machine.specs.Steps.{Leads, with_rest}
use Rattle.flow_machine.proofs.Leading.{leads_on}
use Rattle.flow_machine.proofs.Thrown.{passed, passes, caught_by, catches, unlocked}
use Rattle.flow_machine.proofs.machine.Machine.throw.Goals as goal

pub loop-todo-preserved : goal.loop-todo-preserved
loop-todo-preserved c =
    let m = machine_of c.loop-todo.self in
    let f = c.args.fault.now in
    let is = c.pop.ensures.items ∙ ap (λ o. c.pop.new.self.items ++ option_to_list o) c.in-Some.is in
    subst (λ r. Leads c.args.made.now c.loop-todo.made r (throws (machine_of c.args.self.now) f)) (passed m f c.loop-todo.self.rest.items c.pop.new.self.items c.in-Some.todo is (passes m f c.in-Some.todo c.in_default-todo.not-Unlock c.in_default-todo.not-EndTry)) c.loop-todo.invariant

pub returns-in-EndTry : goal.returns-in-EndTry
returns-in-EndTry c =
    let m = machine_of c.loop-todo.self in
    let f = c.args.fault.now in
    let is = c.pop.ensures.items ∙ ap (λ o. c.pop.new.self.items ++ option_to_list o) c.in-Some.is ∙ ap (λ t. c.pop.new.self.items ++ t ∷ []) c.in-EndTry.is in
    catches c.catch.result c.args.made.now c.loop-todo.made c.catch.new.self _ (thrown m f (rest_of c.loop-todo.self.rest.items)) (throws (machine_of c.args.self.now) f)
    (caught_by m f c.loop-todo.self.rest.items c.pop.new.self.items c.in-EndTry.variable c.in-EndTry.handler is) c.catch.ensures c.loop-todo.invariant

pub loop-todo-preserved-in_ok-leave-in-Unlock : goal.loop-todo-preserved-in_ok-leave-in-Unlock
loop-todo-preserved-in_ok-leave-in-Unlock c =
    let m = machine_of c.loop-todo.self in
    let f = c.args.fault.now in
    let less = c.pop.new.self.items in
    let now = machine_of c.leave.new.self in
    let total = throws (machine_of c.args.self.now) f in
    let is = c.pop.ensures.items ∙ ap (λ o. less ++ option_to_list o) c.in-Some.is ∙ ap (λ t. less ++ t ∷ []) c.in-Unlock.is in
    let makes = c.in_ok-leave-in-Unlock.ensures.makes in
    let leads = leads_on c.args.made.now c.loop-todo.made c.leave.new.made c.leave.new.self (thrown m f (rest_of c.loop-todo.self.rest.items)) (leaving (with_rest m (rest_of less)) m.section) (thrown now f (rest_of less)) total
    (unlocked m now f c.loop-todo.self.rest.items less is makes.machine) makes c.loop-todo.invariant in
    subst (λ ts. Leads c.args.made.now c.leave.new.made (thrown now f (rest_of ts)) total) (sym c.leave.ensures.rest) leads
