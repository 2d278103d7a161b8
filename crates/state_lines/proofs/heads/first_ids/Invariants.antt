use Rattle.std.proofs.Common.{◌≡◌, ℕ, Bool, None, length}
use Rattle.dura_value.specs.Ids.{Id}
use Rattle.state_lines.specs.Heads.{AreHeads, AreListed, heads_of}
use Rattle.state_lines.proofs.heads.first_ids.Given as goal

abbrev pub invariant-loop-ids : goal.invariant-loop-ids
invariant-loop-ids l = record {
  long : length l.heads.items ≡ l.ids-index;
  heads : (there : ℕ → Id → Bool) → AreListed there l.lists → AreHeads there None (heads_of l.heads.items);
}
