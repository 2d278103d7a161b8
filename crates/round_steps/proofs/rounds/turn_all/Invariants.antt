use Rattle.std.specs.Prelude.{◌≡◌, length}
use Rattle.cell_frames.specs.Joined.{StoreView}
use Rattle.world_steps.specs.Cells.{AllJoined}
use Rattle.round_steps.proofs.rounds.turn_all.Given as goal

-- cells stay joined
abbrev pub invariant-parts : goal.invariant-parts
invariant-parts g l = record {
  many : length l.cells.items ≡ length l.fn.cells.items;
  joined : (s : StoreView) → AllJoined g.M.Picked.rules s l.fn.cells.items → AllJoined g.M.Picked.rules s l.cells.items;
  port : l.course.port ≡ l.fn.course.port;
  seen : l.course.seen ≡ l.fn.course.seen;
}
