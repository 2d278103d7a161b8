-- What is still to come leads on to what all lines come to.
use Rattle.std.proofs.Common.{◌≡◌, ◌≤◌, ◌+◌, length}
use Rattle.request_reader.specs.Requests.{lines_of, after_lines, requests_in}
use Rattle.request_reader.specs.Progress.{seen, RequestsStand}
use Rattle.request_reader.proofs.requests.after_lines.Given as goal

abbrev pub invariant-loop-error : goal.invariant-loop-error
invariant-loop-error l = (after_lines l.number (seen l.progress) (lines_of l.rest) ≡ requests_in l.fn.bytes) × RequestsStand l.progress × (l.number + length l.rest ≤ length l.fn.bytes + 1)

abbrev pub decreases-loop-error : goal.decreases-loop-error
decreases-loop-error l = length l.rest
