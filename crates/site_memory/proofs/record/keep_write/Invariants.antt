use Rattle.std.proofs.Common.{◌≡◌, ◌+◌, ◌∷◌, length, take, vec_len, vec_capacity}
use Rattle.site_model.specs.History.{on, wrote}
use Rattle.site_memory.specs.Record.{history_of}
use Rattle.site_memory.proofs.record.keep_write.Given as goal

abbrev pub invariant-loop-byte : goal.invariant-loop-byte
invariant-loop-byte l = record {
  history : history_of l.kept.items ≡ on l.file (wrote l.at (length l.bytes) (take l.byte-index l.bytes)) ∷ history_of l.fn.kept.items;
  len : vec_len l.kept ≡ vec_len l.fn.kept + 1 + l.byte-index;
  capacity : vec_capacity l.kept ≡ vec_capacity l.fn.kept;
}
