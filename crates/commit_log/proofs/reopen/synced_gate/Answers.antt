use Rattle.std.proofs.Common.{◌∙◌, inl}
use Rattle.commit_log.proofs.Causes.{done_later, failed_later}
use Rattle.commit_log.proofs.reopen.synced_gate.Goals as goal

pub returns-in-Err : goal.returns-in-Err
returns-in-Err g c = record {
  tells = c.sync.ensures.tells;
  either = record { either = c.sync.ensures.done.either; ok = tt };
  opened = λ tells. tt;
  cause = record { later = c.sync.ensures.cause.later; same = tt; risen = c.in-Err.ensures.cause.risen };
  say_faults = c.sync.ensures.say_faults;
}

pub returns-in-Err-read : goal.returns-in-Err-read
returns-in-Err-read g c = record {
  tells = λ tells. c.sync.ensures.tells (c.read.ensures.tells tells);
  either = record { either = inl (c.read.ensures.unchanged ∙ c.in_default.ensures.done.ok); ok = tt };
  opened = λ tells. tt;
  cause = failed_later _ _ _ _ c.in_default.ensures.cause.same c.read.ensures.cause.later c.in-Err-read.ensures.cause.risen;
  say_faults = c.read.ensures.say_faults ∙ c.sync.ensures.say_faults;
}

pub returns-then-count-eq1-clause-tells : goal.returns-then-count-eq1-clause-tells
returns-then-count-eq1-clause-tells g c tells = c.sync.ensures.tells (c.read.ensures.tells tells)

pub returns-then-count-eq1-clause-either : goal.returns-then-count-eq1-clause-either
returns-then-count-eq1-clause-either g c = record { either = inl (c.read.ensures.unchanged ∙ c.in_default.ensures.done.ok); ok = c.read.ensures.unchanged ∙ c.in_default.ensures.done.ok }

pub returns-then-count-eq1-clause-cause : goal.returns-then-count-eq1-clause-cause
returns-then-count-eq1-clause-cause g c = done_later _ _ _ _ c.in_default.ensures.cause.same c.in-Ok.ensures.cause.same

pub returns-then-count-eq1-clause-say_faults : goal.returns-then-count-eq1-clause-say_faults
returns-then-count-eq1-clause-say_faults g c = c.read.ensures.say_faults ∙ c.sync.ensures.say_faults

pub returns-else-count-eq1-clause-tells : goal.returns-else-count-eq1-clause-tells
returns-else-count-eq1-clause-tells g c tells = c.sync.ensures.tells (c.read.ensures.tells tells)

pub returns-else-count-eq1-clause-either : goal.returns-else-count-eq1-clause-either
returns-else-count-eq1-clause-either g c = record { either = inl (c.read.ensures.unchanged ∙ c.in_default.ensures.done.ok); ok = c.read.ensures.unchanged ∙ c.in_default.ensures.done.ok }

pub returns-else-count-eq1-clause-cause : goal.returns-else-count-eq1-clause-cause
returns-else-count-eq1-clause-cause g c = done_later _ _ _ _ c.in_default.ensures.cause.same c.in-Ok.ensures.cause.same

pub returns-else-count-eq1-clause-say_faults : goal.returns-else-count-eq1-clause-say_faults
returns-else-count-eq1-clause-say_faults g c = c.read.ensures.say_faults ∙ c.sync.ensures.say_faults
