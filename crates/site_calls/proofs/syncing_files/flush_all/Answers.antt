use Rattle.std.proofs.Common.{ap, subst, arith}
use Rattle.site_calls.specs.Events.{IsHonest}
use Rattle.site_calls.specs.Failures.{count_of}
use Rattle.site_calls.proofs.SyncsAtOnce.{honest_flushing, kept_flushing, known_flushed, done_flushed}
use Rattle.site_calls.proofs.syncing_files.flush_all.Goals as goal

pub returns-in-Ok-clause-tells : goal.returns-in-Ok-clause-tells
returns-in-Ok-clause-tells g c unseen honest = honest_flushing unseen c.args.files.now _ (subst (IsHonest unseen) c.in-Ok.ensures.noted honest)

pub returns-in-Ok-clause-known : goal.returns-in-Ok-clause-known
returns-in-Ok-clause-known g c unseen knows =
    known_flushed c.args.files.now unseen c.args.known.now _ _ c.requires.named c.requires.unbroken c.in-Ok.ensures.noted c.count_steps.new.self c.count_steps.ensures knows

pub returns-in-Ok-clause-done : goal.returns-in-Ok-clause-done
returns-in-Ok-clause-done g c unseen knows = done_flushed c.args.files.now unseen c.args.known.now _ _ c.requires.named c.requires.unbroken c.in-Ok.ensures.noted knows

pub returns-in-Ok-clause-failure : goal.returns-in-Ok-clause-failure
returns-in-Ok-clause-failure g c = record {
  kept = λ is_such. omega (arith, kept_flushing is_such c.args.files.now (g.C.Calls.events c.args.calls.now), ap (count_of is_such) c.in-Ok.ensures.noted);
  failed = tt;
}
