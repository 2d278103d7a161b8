use Rattle.std.proofs.Common.{◌∙◌, nat_lt, ap}
use Rattle.cell_waits.specs.Waits.{waits_of, is_trim_of}
use Rattle.cell_waits.proofs.Finding.{some_pass}
use Rattle.cell_waits.proofs.waits.Waits.has_trim.Goals as goal

pub returns : goal.returns
returns c = ap (nat_lt 0) (c.get.ensures ∙ c.requires.trims c.args.target) ∙ some_pass (is_trim_of c.args.target) (waits_of c.args.self.now)
