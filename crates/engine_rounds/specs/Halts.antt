-- Why a call that serves clients goes on no more.
use Rattle.std.specs.Prelude.{◌≡◌, ◌⊎◌, ◌<◌, ◌≤◌, ℕ, ◌+◌, ◌^◌, List, ◌++◌, length as many, Ok}
use Rattle.std.specs.List.{All}
use Rattle.commit_log.specs.Segment.{segment, reading_of}
use Rattle.dura_model.specs.Entries.{placed}
use Rattle.dura_model.specs.Partition.{Partition}
use Rattle.dura_value.specs.Items.{Entry}
use Rattle.hub_store.specs.Origin.{Origin}
use Rattle.hub_store.specs.Trail.{Settled, Said, of_part}
use Rattle.many_rules.specs.Makes.{Makes}
use Rattle.many_rules.specs.Rules.{Rules, IsOurs, pairs_of}
use Rattle.node_core.specs.declared.halt.Halt.{Halt}
use Rattle.node_core.specs.declared.halt.Halt.TheVariants as halts
use Rattle.part_items.specs.Spelling.{CanSpellFrame, spell_frame}
use Rattle.site_model.specs.History.{Step, content_of}

-- With this frame, which can be spelled and which its partition may commit behind what was settled and said, its log, which ends at this
-- gate, would have this length, which isn't below the limit.
pub record IsFull (rules : Rules) (o : Origin) (limit latest : ℕ) (tells : Type 0) (steps : List Step) (trail : List Settled) (told : List Said) (partition length : ℕ) : Type 0 where
  pub frame : List Entry
  pub some : 0 < many frame
  pub spells : CanSpellFrame frame
  pub makes : Makes rules latest (of_part partition trail) told partition frame
  pub gate : ℕ
  pub length_is : length ≡ gate + 6 + many (spell_frame frame)
  pub past : limit ≤ length
  pub stands : tells → (payloads : List (List ℕ)) × (reading_of (content_of (o.logs partition).file steps) ≡ segment (o.logs partition).header payloads gate)

-- The partition holds these entries, which are this call's, behind what was settled of it, and is at this incarnation. The number is the position
-- of the entry that comes next, or the incarnation, or the one that would begin, and is past the last that the format has.
pub record HasSpent (rules : Rules) (latest : ℕ) (trail : List Settled) (told : List Said) (partition number : ℕ) : Type 0 where
  pub held : List Entry
  pub ours : All (IsOurs rules latest (pairs_of told) partition) held
  pub incarnation : ℕ
  pub of_call : rules.incarnations partition ≤ incarnation
  pub comes : ((ahead : Partition) × (placed rules.flows rules.count (rules.begin partition) (of_part partition trail ++ held) ≡ Ok ahead) × (number ≡ ahead.position)) ⊎ ((number ≡ incarnation) ⊎ (number ≡ incarnation + 1))
  pub past : 2 ^ 62 ≤ number

-- a log is full, or a partition comes to a number past the last that the format has; nothing is said of faults here
abbrev pub HaltsFor : Rules → Origin → (limit latest : ℕ) → (tells : Type 0) → List Step → List Settled → List Said → Halt → Type 0
HaltsFor rules o limit latest tells steps trail told (halts.Full partition length) = IsFull rules o limit latest tells steps trail told partition length
HaltsFor rules o limit latest tells steps trail told (halts.Spent partition number) = HasSpent rules latest trail told partition number
HaltsFor rules o limit latest tells steps trail told other = Unit {0}
