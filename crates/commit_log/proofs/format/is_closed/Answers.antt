use Rattle.std.proofs.Common.{◌∙◌, arith}
use Rattle.commit_log.proofs.Causes.{done_later, failed_later}
use Rattle.commit_log.proofs.Formatting.{short_content}
use Rattle.commit_log.proofs.format.is_closed.Goals as goal

pub returns-then-length-le1 : goal.returns-then-length-le1
returns-then-length-le1 g c = record {
  tells = c.length.ensures.tells;
  value = λ tells. short_content _ (omega (arith, c.if-length-le1.true, c.in-Ok.ensures.value tells));
  unchanged = c.length.ensures.unchanged;
  cause = record { later = c.length.ensures.cause.later; same = c.in-Ok.ensures.cause.same; risen = tt };
  say_faults = c.length.ensures.say_faults;
}

pub returns-in-Err : goal.returns-in-Err
returns-in-Err g c = record {
  tells = c.length.ensures.tells;
  value = λ tells. tt;
  unchanged = c.length.ensures.unchanged;
  cause = record { later = c.length.ensures.cause.later; same = tt; risen = c.in-Err.ensures.cause.risen };
  say_faults = c.length.ensures.say_faults;
}

pub returns-in-Err-read : goal.returns-in-Err-read
returns-in-Err-read g c = record {
  tells = λ tells. c.length.ensures.tells (c.read.ensures.tells tells);
  value = λ tells. tt;
  unchanged = c.read.ensures.unchanged ∙ c.length.ensures.unchanged;
  cause = failed_later _ _ _ _ c.in-Ok.ensures.cause.same c.read.ensures.cause.later c.in-Err-read.ensures.cause.risen;
  say_faults = c.read.ensures.say_faults ∙ c.length.ensures.say_faults;
}

pub returns-then-count-eq1-clause-tells : goal.returns-then-count-eq1-clause-tells
returns-then-count-eq1-clause-tells g c tells = c.length.ensures.tells (c.read.ensures.tells tells)

pub returns-then-count-eq1-clause-unchanged : goal.returns-then-count-eq1-clause-unchanged
returns-then-count-eq1-clause-unchanged g c = c.read.ensures.unchanged ∙ c.length.ensures.unchanged

pub returns-then-count-eq1-clause-cause : goal.returns-then-count-eq1-clause-cause
returns-then-count-eq1-clause-cause g c = done_later _ _ _ _ c.in-Ok.ensures.cause.same c.in-Ok-read.ensures.cause.same

pub returns-then-count-eq1-clause-say_faults : goal.returns-then-count-eq1-clause-say_faults
returns-then-count-eq1-clause-say_faults g c = c.read.ensures.say_faults ∙ c.length.ensures.say_faults

pub returns-else-count-eq1-clause-tells : goal.returns-else-count-eq1-clause-tells
returns-else-count-eq1-clause-tells g c tells = c.length.ensures.tells (c.read.ensures.tells tells)

pub returns-else-count-eq1-clause-unchanged : goal.returns-else-count-eq1-clause-unchanged
returns-else-count-eq1-clause-unchanged g c = c.read.ensures.unchanged ∙ c.length.ensures.unchanged

pub returns-else-count-eq1-clause-cause : goal.returns-else-count-eq1-clause-cause
returns-else-count-eq1-clause-cause g c = done_later _ _ _ _ c.in-Ok.ensures.cause.same c.in-Ok-read.ensures.cause.same

pub returns-else-count-eq1-clause-say_faults : goal.returns-else-count-eq1-clause-say_faults
returns-else-count-eq1-clause-say_faults g c = c.read.ensures.say_faults ∙ c.length.ensures.say_faults
