use Rattle.std.proofs.Common.{ap}
use Rattle.cell_waits.proofs.indices.Indices.new.Goals as goal

pub returns : goal.returns
returns c = λ first. record {
  packets = λ q. ap (λ f. f q) c.new.ensures;
  trims = λ q. ap (λ f. f q) c.new-2.ensures;
  requests = λ id q. ap (λ f. f id q) c.new-3.ensures;
  outcomes = λ id q. ap (λ f. f id q) c.new-4.ensures;
}
