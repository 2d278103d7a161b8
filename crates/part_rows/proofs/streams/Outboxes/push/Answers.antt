use Rattle.std.proofs.Common.{◌∙◌, ◌++◌, ◌∷◌, [], Some, ap, sym, subst, refl}
use Rattle.std.specs.Option.{option_copied_mut}
use Rattle.std.specs.BTreeMap.{UpdatesBy}
use Rattle.std.specs.Ordering.{nat_cmp}
use Rattle.part_rows.specs.declared.streams.Outbox.{Outbox}
use Rattle.part_rows.proofs.Boxes.{posted_written, posted_begun}
use Rattle.part_rows.proofs.streams.Outboxes.push.Goals as goal

pub returns-in_ok-push-in-Some : goal.returns-in_ok-push-in-Some
returns-in_ok-push-in-Some c =
    let was = c.in-Some.outbox.now in
    let now = record was { messages = c.push.new.self } in
    let found = sym c.get_mut.ensures.value ∙ ap option_copied_mut c.in-Some.is in
    posted_written c.args.self.now.boxes (c.get_mut.follows.lender now) c.args.target was now c.args.posted found ((c.get_mut.follows.holds now).3) refl c.in_ok-push-in-Some.ensures.pushed

pub returns-in_ok-insert-in-None : goal.returns-in_ok-insert-in-None
returns-in_ok-insert-in-None c =
    let fresh = c.new-messages.result in
    let now : Outbox = record { first = 0; messages = c.push-in-None.new.self } in
    let absent = sym c.get_mut.ensures.value ∙ ap option_copied_mut c.in-None.is in
    posted_begun c.args.self.now.boxes c.insert.new.self c.args.target now c.args.posted absent
    (subst (λ (m : _). UpdatesBy nat_cmp (nat_cmp c.args.target) m c.insert.new.self (Some now)) c.get_mut.follows.holds-at-none c.in_ok-insert-in-None.ensures.updates)
    refl (c.in_ok-push-in-None.ensures.pushed ∙ ap (λ ps. ps ++ c.args.posted ∷ []) c.new-messages.ensures)
