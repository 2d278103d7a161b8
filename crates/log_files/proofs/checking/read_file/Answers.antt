use Rattle.std.proofs.Common.{refl, arith}
use Rattle.log_files.proofs.LogsChecked.{other_checked}
use Rattle.log_files.proofs.checking.read_file.Goals as goal

pub returns-in_default : goal.returns-in_default
returns-in_default g c = record {
  tells = λ tells. tells;
  reads = λ tells partition opened. other_checked (g.V.Site.history c.args.site.now) partition c.args.file c.args.found c.in_default.not-Log opened;
  unchanged = refl;
  fault = λ is. absurd (cc is);
  later = omega arith;
  say_faults = refl;
}
