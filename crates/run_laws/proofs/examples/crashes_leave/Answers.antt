use Rattle.std.proofs.Common.{inl, [], refl, arith}
use Rattle.commit_log.specs.Segment.{header_at}
use Rattle.dura_value.specs.Dependencies.Founded.{none}
use Rattle.dura_model.specs.Partition.{fresh}
use Rattle.part_items.specs.Kept.{entries_from}
use Rattle.part_items.specs.Examples.{digest}
use Rattle.run_rules.proofs.OneOfMany.{stands_among}
use Rattle.run_laws.specs.Leaves.AllAnswered.{nothing_said}
use Rattle.run_laws.specs.Leaves.AllRan.{nothing_ran}
use Rattle.run_laws.proofs.examples.crashes_leave.Goals as goal

pub returns-clause-empty : goal.returns-clause-empty
unfolding header_at entries_from
returns-clause-empty c = λ flows. record {
  going = [];
  kept = refl;
  stands = stands_among flows digest _ [] (record { entries = []; kept = refl; state = fresh 0; all = refl; legal = refl });
  writing = inl refl;
  given = tt;
  ran = nothing_ran;
  own = λ k d inside. absurd (omega (arith, inside));
  founded = none;
  told = [];
  lines = [];
  part = [];
  answered = nothing_said;
  spoken = refl;
  saying = inl refl;
}

pub returns-clause-damaged : goal.returns-clause-damaged
unfolding header_at
returns-clause-damaged c = λ flows left. cc left.kept

pub returns-clause-unsaid : goal.returns-clause-unsaid
returns-clause-unsaid c = λ flows left. cc left.spoken
