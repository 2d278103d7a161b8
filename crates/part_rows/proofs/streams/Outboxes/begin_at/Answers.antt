use Rattle.std.proofs.Common.{◌≡◌, ◌∙◌, ℕ, ap, sym, subst, IfOk, nat_le}
use Rattle.std.specs.Option.{option_copied_mut}
use Rattle.part_rows.proofs.Boxes.{begun_if_ok, end_found}
use Rattle.part_rows.proofs.streams.Outboxes.begin_at.Goals as goal

pub returns-in-Some-clause-begins : goal.returns-in-Some-clause-begins
returns-in-Some-clause-begins c =
    let found = sym c.get_mut.ensures.value ∙ ap option_copied_mut c.in-Some.is in
    let now = c.begin_at.new.self in
    begun_if_ok c.args.self.now.boxes (c.get_mut.follows.lender now) c.args.target c.args.number c.in-Some.outbox.now now c.begin_at.result found ((c.get_mut.follows.holds now).3) c.begin_at.ensures.begins

pub returns-in-Some-clause-refused : goal.returns-in-Some-clause-refused
returns-in-Some-clause-refused c =
    let found = sym c.get_mut.ensures.value ∙ ap option_copied_mut c.in-Some.is in
    subst (λ (end : ℕ). IfOk c.begin_at.result (λ begins. begins ≡ nat_le c.args.number end)) (sym (end_found c.args.self.now.boxes c.args.target c.in-Some.outbox.now found)) c.begin_at.ensures.refused
