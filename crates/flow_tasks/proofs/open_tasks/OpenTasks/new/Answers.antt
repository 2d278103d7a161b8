use Rattle.std.proofs.Common.{List, ℕ, ap}
use Rattle.flow_tasks.proofs.open_tasks.OpenTasks.new.Goals as goal

pub returns : goal.returns
returns c = record { calls = c.new.ensures.empty; listeners = λ name. ap (λ (f : List ℕ → List ℕ). f name) c.new-2.ensures }
