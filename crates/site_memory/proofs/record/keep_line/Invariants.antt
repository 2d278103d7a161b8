use Rattle.std.proofs.Common.{◌≡◌, ◌+◌, take, vec_len, vec_capacity}
use Rattle.site_model.specs.History.{saying}
use Rattle.site_memory.specs.Record.{history_of}
use Rattle.site_memory.proofs.record.keep_line.Given as goal

abbrev pub invariant-loop-byte : goal.invariant-loop-byte
invariant-loop-byte l = record {
  history : history_of l.kept.items ≡ saying (take l.byte-index l.line) (history_of l.initial.kept.items);
  len : vec_len l.kept ≡ vec_len l.initial.kept + l.byte-index;
  capacity : vec_capacity l.kept ≡ vec_capacity l.initial.kept;
}
