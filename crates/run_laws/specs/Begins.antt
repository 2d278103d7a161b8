-- Where a call of one partition begins, and what it may commit and say.
use Rattle.std.specs.Prelude.{◌≡◌, ◌⊎◌, ℕ, List, map, Ok}
use Rattle.commit_log.specs.declared.header.Header.{Header}
use Rattle.dura_model.specs.Partition.{fresh}
use Rattle.dura_value.specs.Items.{Entry}
use Rattle.hub_store.specs.Origin.{Origin}
use Rattle.hub_store.specs.Trail.{Settled, Said, of_part}
use Rattle.part_items.specs.Kept.{nothing, kept_in}
use Rattle.part_items.specs.Logs.{first_log, second_log}
use Rattle.dura_model.specs.Entries.{placed, AllGiven}
use Rattle.run_rules.specs.Rules.{Rules, Told, Follows, Answers}
use Rattle.site_model.specs.History.{changes_of, Leaves}

-- requests by their clients' names and their numbers
abbrev pub pairs_of : List Said → Told
pairs_of = map (λ one. (one.client, one.number))

-- what a call by these rules may commit of the one partition, where the clock gave no later stamp than this, once this was settled and said
abbrev pub may_follow : Rules → (latest : ℕ) → List Settled → List Said → ℕ → List Entry → Type 0
may_follow rules latest trail told partition going = (partition ≡ 0) × Follows rules latest (of_part 0 trail) (pairs_of told) going

-- the line that it may say of a request
abbrev pub may_say : Rules → List Settled → List Said → Said → List ℕ → Type 0
may_say rules trail told one line = Answers rules (of_part 0 trail) (pairs_of told) one.client one.number line

-- the header of the one partition's log, from its first position on
abbrev pub header_with : (digest : ℕ) → Header
header_with digest = record { partition = 0; partitions = 1; digest = digest; base = 0 }

-- The one partition's log lies in one of its two files, under the flows file's digest, and its entries made the state at which
-- the call begins, each outcome one that its activity may give. The other file keeps nothing.
pub record BeginsAlone (o : Origin) (rules : Rules) (digest : ℕ) : Type 0 where
  pub one : o.count ≡ 1
  pub header : (o.logs 0).header ≡ header_with digest
  pub made : placed rules.flows 1 (fresh 0) (o.logs 0).entries ≡ Ok rules.begin
  pub given : AllGiven rules.flows 1 (fresh 0) (o.logs 0).entries
  pub other : ℕ
  pub files : (((o.logs 0).file ≡ first_log 0) × (other ≡ second_log 0)) ⊎ (((o.logs 0).file ≡ second_log 0) × (other ≡ first_log 0))
  pub empty : (image : List ℕ) → Leaves (changes_of other o.steps) image → kept_in 0 image ≡ nothing
