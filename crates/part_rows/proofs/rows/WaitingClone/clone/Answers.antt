use Rattle.part_rows.proofs.rows.WaitingClone.clone.Goals as goal

pub returns : goal.returns
returns c = record { cases = (c.in-Ok.ensures.cases, c.in-Ok-2.ensures.cases) }
