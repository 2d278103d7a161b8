use Rattle.std.proofs.Common.{◌≡◌, ◌++◌}
use Rattle.recover_core.specs.Ended.{AreEndsOf}
use Rattle.recover_core.proofs.ending.ends_of.Given as goal

-- what is kept of the logs so far, and which are left
abbrev pub invariant-courses : goal.invariant-courses
invariant-courses l = record {
  ends : AreEndsOf l.yielded l.lives.items;
  rest : l.yielded ++ l.course-iterator.rest.items ≡ l.fn.courses.items;
}
