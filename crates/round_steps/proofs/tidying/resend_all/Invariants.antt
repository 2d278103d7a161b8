use Rattle.std.specs.Prelude.{◌≡◌}
use Rattle.round_steps.proofs.tidying.resend_all.Given as goal

-- clients may send what they could, and nothing more was seen
abbrev pub invariant-parts : goal.invariant-parts
invariant-parts g l = (l.course.port ≡ l.fn.course.port) × (l.course.seen ≡ l.fn.course.seen)
