-- What a call of many partitions may commit.
use Rattle.std.specs.Prelude.{◌≡◌, ◌<◌, ◌≤◌, ℕ, max, Bool, List, ◌++◌, length, map, true, Some, Ok}
use Rattle.std.specs.List.{All}
use Rattle.client_port.specs.Lines.{line_of}
use Rattle.dura_model.specs.Partition.{Partition}
use Rattle.dura_value.specs.Ids.{client, home}
use Rattle.dura_value.specs.Items.{Identity, Item, Entry, took, got, ran, ended, fired, trim}
use Rattle.dura_value.specs.Messages.{Answer}
use Rattle.flow_syntax.specs.Syntax.{Flows}
use Rattle.hub_store.specs.Trail.{Settled, Said, of_part}
use Rattle.dura_model.specs.Entries as alone
use Rattle.many_logs.specs.Placing.{Commit, states_after, commits_at, GoesThrough}
use Rattle.many_logs.specs.Gates.{frame_passes}
use Rattle.many_logs.specs.Names.{identities_in, AreNamed, TrimsNamed}
use Rattle.many_logs.specs.Labels.{AllGiven}
use Rattle.request_reader.specs.Line.{Request}
use Rattle.run_rules.specs.Rules as one
use Rattle.run_rules.specs.Rules.{Told, IsAsked, IsBy, EndPending, count_told, request_at}

-- What is fixed when a call begins: the flows, how many partitions there are, the entries that were recovered, the states that these
-- made, the incarnations of the first entries that come, the moment that the clock gave first, how many items an entry may have, what
-- clients ask, and whether the call serves them: it takes only what they ask, each of their requests once those before it were answered,
-- it says each answer once, and it runs only activities whose tasks are settled. A call that serves nobody may take and say anything, and
-- runs what it likes.
pub record Rules : Type 0 where
  pub flows : Flows
  pub count : ℕ
  pub recovered : List Commit
  pub begin : ℕ → Partition
  pub incarnations : ℕ → ℕ
  pub since : ℕ
  pub most : ℕ
  pub requests : List Request
  pub serves : Bool

-- what is fixed for one of them
abbrev pub rules_at : Rules → (partition : ℕ) → one.Rules
rules_at rules partition = record { flows = rules.flows; begin = rules.begin partition; incarnation = rules.incarnations partition; requests = rules.requests }

-- what was settled, in its order
abbrev pub commits_of : List Settled → List Commit
commits_of = map (λ one. record { partition = one.partition; entry = one.entry })

-- requests by their clients' names and their numbers
abbrev pub pairs_of : List Said → Told
pairs_of = map (λ one. (one.client, one.number))

-- an item that has a stamp has none that is before this
abbrev pub IsFrom : ℕ → Item → Type 0
IsFrom since (took message) = Unit {0}
IsFrom since (got source number message) = Unit {0}
IsFrom since (ran from to stamp) = since ≤ stamp
IsFrom since (ended id task outcome) = Unit {0}
IsFrom since (fired id task stamp) = since ≤ stamp
IsFrom since (trim reader number) = Unit {0}

-- An entry has items, as many as it may, and they are asked for; it is of the incarnation with which the call begins or of one that began
-- in it; and none of its items is of an earlier stamp than the call's beginning, or of a later one than both its log's entries at the
-- beginning and the clock's latest.
pub record IsOurs (rules : Rules) (latest : ℕ) (told : Told) (partition : ℕ) (entry : Entry) : Type 0 where
  pub incarnation : rules.incarnations partition ≤ entry.incarnation
  pub some : 0 < length entry.items
  pub few : length entry.items ≤ rules.most
  pub asked : rules.serves ≡ true → All (IsAsked (rules_at rules partition) told) entry.items
  pub since : All (IsFrom rules.since) entry.items
  pub timely : All (IsBy (max (rules.begin partition).stamp latest)) entry.items

-- the outcomes of these entries are of activities that were pending where all is settled
abbrev pub HaveRun : Rules → Partition → List Entry → Type 0
HaveRun rules p going = rules.serves ≡ true → EndPending p going

-- A frame goes on from the states that were settled: its entries are accepted there one after another, each outcome is one that its
-- activity may give, and one of an activity that is pending already there, and it names only entries that are known.
pub record GoesFrom (rules : Rules) (known : List Identity) (states : ℕ → Partition) (partition : ℕ) (going : List Entry) : Type 0 where
  pub accepted : GoesThrough rules.flows rules.count states partition going
  pub given : AllGiven rules.flows rules.count states (commits_at partition going)
  pub pending : HaveRun rules (states partition) going
  pub named : AreNamed known going

-- who was recovered or settled
abbrev pub known_of : Rules → List Settled → List Identity
known_of rules trail = identities_in rules.recovered ++ identities_in (commits_of trail)

-- Entries of a partition that may be committed behind these, where the clock gave no later stamp than this: they are this call's, and they
-- go on from the states that these make.
pub record Follows (rules : Rules) (latest : ℕ) (trail : List Settled) (told : List Said) (partition : ℕ) (going : List Entry) : Type 0 where
  pub below : partition < rules.count
  pub ours : All (IsOurs rules latest (pairs_of told) partition) going
  pub goes : (states : ℕ → Partition) → states_after rules.flows rules.count rules.begin (commits_of trail) ≡ Some states → GoesFrom rules (known_of rules trail) states partition going

-- It is its client's next request.
pub record IsNext (rules : Rules) (told : List Said) (one : Said) : Type 0 where
  pub request : Request
  pub asked : request_at (rules_at rules 0) one.client (count_told (pairs_of told) one.client) ≡ Some request
  pub number_is : request.number ≡ one.number

-- A line that may be said, once this was settled: the answer to its client's next request, as the state of the client's home has it.
pub record Answers (rules : Rules) (trail : List Settled) (told : List Said) (one : Said) (line : List ℕ) : Type 0 where
  pub states : ℕ → Partition
  pub made : states_after rules.flows rules.count rules.begin (commits_of trail) ≡ Some states
  pub answer : Answer
  pub has : (states (home rules.count (client one.client))).answers (client one.client) one.number ≡ Some answer
  pub next : rules.serves ≡ true → IsNext rules told one
  pub line_is : line ≡ line_of one.client one.number answer

-- What is known of a frame by its own partition and by the test before its gate. Of each partition the settled entries made a state by
-- themselves, and those under way go on from it to the state in memory; the frame's go on from its own, each outcome one that its activity
-- may give, and one of an activity that is pending there; it passes by the states in memory and what is settled; and what it lets go was
-- taken in by an entry that is known.
pub record Passes (rules : Rules) (trail : List Settled) (partition : ℕ) (going : List Entry) : Type 0 where
  pub settled : ℕ → Partition
  pub chains : (other : ℕ) → alone.placed rules.flows rules.count (rules.begin other) (of_part other trail) ≡ Ok (settled other)
  pub ahead : ℕ → Partition
  pub under_way : ℕ → List Entry
  pub memory : (other : ℕ) → alone.placed rules.flows rules.count (settled other) (under_way other) ≡ Ok (ahead other)
  pub after : Partition
  pub made : alone.placed rules.flows rules.count (settled partition) going ≡ Ok after
  pub given : alone.AllGiven rules.flows rules.count (settled partition) going
  pub pending : HaveRun rules (settled partition) going
  pub passes : frame_passes ahead (λ p. (settled p).position) (λ p source. ((settled p).inboxes source).next) partition going ≡ true
  pub trims : TrimsNamed (known_of rules trail) going
