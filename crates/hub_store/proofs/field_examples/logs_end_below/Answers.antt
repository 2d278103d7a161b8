use Rattle.std.proofs.Common.{◌≡◌, [], refl, arith}
use Rattle.commit_log.specs.Segment.{header_at, frames_from, segment, reading_of}
use Rattle.commit_log.specs.declared.header.Header.{Header}
use Rattle.part_items.specs.Examples.{digest, empty_log}
use Rattle.hub_store.proofs.field_examples.logs_end_below.Goals as goal

-- its gate is the first
header : Header
header = record { partition = 0; partitions = 1; digest = digest; base = 0 }

reads : reading_of empty_log ≡ segment header [] 33
unfolding header_at frames_from header
reads = refl

pub returns-clause-below : goal.returns-clause-below
returns-clause-below c = λ h payloads gate is some. let same : 33 ≡ gate = cc (reads, is) in omega (arith, same)

pub returns-clause-at : goal.returns-clause-at
returns-clause-at c = λ short. let below = short header [] 33 reads (λ is. cc is) in omega (arith, below)

pub returns-clause-untouched : goal.returns-clause-untouched
returns-clause-untouched c = λ h payloads gate is some. absurd (some refl)
