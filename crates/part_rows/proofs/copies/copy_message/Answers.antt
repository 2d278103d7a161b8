use Rattle.part_rows.proofs.copies.copy_message.Goals as goal

pub returns : goal.returns
returns c = λ i. record { from = c.in_ok-copy_id.ensures i; to = c.in_ok-copy_id-2.ensures i; body = c.in_ok-copy_body.ensures i }
