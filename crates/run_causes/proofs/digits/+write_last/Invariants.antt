use Rattle.run_causes.proofs.digits.+write_last.Given as goal

abbrev pub decreases-write_last : goal.decreases-write_last
decreases-write_last l = l.count
