use Rattle.std.proofs.Common.{◌≡◌, ◌<◌, ℕ, true, slice_index_or}
use Rattle.site_host.specs.Flush.{is_safe}
use Rattle.site_host.proofs.host.Host.sync_in_turn.Given as goal

abbrev pub invariant-loop-file : goal.invariant-loop-file
invariant-loop-file g l = (k d : ℕ) → k < l.file-index → is_safe l.round (slice_index_or l.files k d) ≡ true
