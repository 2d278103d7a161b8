use Rattle.std.proofs.Common.{◌∙◌, ◌++◌, ◌∷◌, [], Some, ap, sym, subst}
use Rattle.std.specs.BTreeMap.{UpdatesBy}
use Rattle.std.specs.Cmp.Lexicographic.{slice_cmp}
use Rattle.std.specs.Option.{option_copied_mut}
use Rattle.std.specs.Ordering.{nat_cmp}
use Rattle.flow_tasks.proofs.ByName.{written, stayed, begun, on_err}
use Rattle.flow_tasks.proofs.by_name.NumbersByName.push.Goals as goal

pub returns-in_ok-push_back-in-Some-clause-ok : goal.returns-in_ok-push_back-in-Some-clause-ok
returns-in_ok-push_back-in-Some-clause-ok c =
    let found = sym c.get_mut.ensures.value ∙ ap option_copied_mut c.in-Some.is in
    let now = c.push_back.new.self in
    written c.args.self.now.queues (c.get_mut.follows.lender now) c.args.name c.in-Some.queue.now now (λ places. places ++ c.args.number ∷ []) found ((c.get_mut.follows.holds now).3) c.in_ok-push_back-in-Some.ensures.items

pub returns-in_err-push_back-in-Some-clause-err : goal.returns-in_err-push_back-in-Some-clause-err
returns-in_err-push_back-in-Some-clause-err c =
    let found = sym c.get_mut.ensures.value ∙ ap option_copied_mut c.in-Some.is in
    let now = c.push_back.new.self in
    on_err c.from_residual.result _ (stayed c.args.self.now.queues (c.get_mut.follows.lender now) c.args.name c.in-Some.queue.now now found ((c.get_mut.follows.holds now).3) c.in_err-push_back-in-Some.ensures.items)

pub returns-in_ok-insert-in-None-clause-ok : goal.returns-in_ok-insert-in-None-clause-ok
returns-in_ok-insert-in-None-clause-ok c =
    let now = c.push_back-in-None.new.self in
    let absent = sym c.get_mut.ensures.value ∙ ap option_copied_mut c.in-None.is in
    begun c.args.self.now.queues c.insert.new.self c.args.name now (λ places. places ++ c.args.number ∷ []) absent
    (subst (λ (m : _). UpdatesBy (slice_cmp nat_cmp) (slice_cmp nat_cmp c.args.name) m c.insert.new.self (Some now)) c.get_mut.follows.holds-at-none c.in_ok-insert-in-None.ensures.updates)
    (c.in_ok-push_back-in-None.ensures.items ∙ ap (λ places. places ++ c.args.number ∷ []) c.new-queue.ensures.items)
