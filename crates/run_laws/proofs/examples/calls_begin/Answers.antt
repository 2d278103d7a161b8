use Rattle.std.proofs.Common.{◌≡◌, inl, Some, codes, refl, ap, arith}
use Rattle.commit_log.specs.declared.header.Header.{Header}
use Rattle.dura_model.specs.Partition.{Partition, fresh}
use Rattle.dura_value.specs.Ids.{client}
use Rattle.dura_value.specs.Messages.{was_started}
use Rattle.part_items.specs.Examples.{digest}
use Rattle.part_items.specs.Kept.{kept_in}
use Rattle.part_items.specs.Logs.{second_log}
use Rattle.run_rules.specs.Examples.{started}
use Rattle.run_laws.proofs.examples.calls_begin.Goals as goal

pub returns-clause-empty : goal.returns-clause-empty
returns-clause-empty c = λ flows. record {
  one = refl;
  header = refl;
  made = refl;
  given = tt;
  other = second_log 0;
  files = inl (refl, refl);
  empty = λ image is. ap (kept_in 0) is;
}

pub returns-clause-other_digest : goal.returns-clause-other_digest
returns-clause-other_digest c = λ flows begins. let same : digest ≡ 0 = ap (λ (h : Header). h.digest) begins.header in omega (arith, same)

pub returns-clause-other_state : goal.returns-clause-other_state
returns-clause-other_state c = λ flows begins.
    let state_is : fresh 0 ≡ started = cc begins.made in
    let has : (fresh 0).answers (client (codes "a")) 1 ≡ Some was_started = ap (λ (p : Partition). p.answers (client (codes "a")) 1) state_is in
    cc has
