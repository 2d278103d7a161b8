use Rattle.std.proofs.Common.{◌≡◌, ◌+◌, ◌++◌, take, drop}
use Rattle.commit_log.specs.Segment.{constant_at}
use Rattle.commit_log.proofs.parse.read_constant.Given as goal

-- what is left of the constant, at the bytes that are left, gives the answer; the bytes before are the constant's
abbrev pub invariant-loop-byte : goal.invariant-loop-byte
invariant-loop-byte l = record {
  place : l.at ≡ l.fn.at + l.byte-index;
  rest : constant_at (drop l.byte-index l.wanted) l.at l.rest ≡ constant_at l.wanted l.fn.at l.bytes;
  spelled : l.bytes ≡ take l.byte-index l.wanted ++ l.rest;
}
