-- Who the entries of an order are.
use Rattle.std.specs.Prelude.{◌≡◌, ℕ, ◌<◌, List, map, Some}
use Rattle.std.specs.List.{All, Contains}
use Rattle.dura_value.specs.Dependencies.{Committed, names_of, named_by}
use Rattle.dura_model.specs.Partition.{Partition}
use Rattle.dura_value.specs.Items.{Identity, Item, trim, Entry, Posted}
use Rattle.many_logs.specs.Placing.{Commit, message_at}

abbrev pub identity_at : (partition : ℕ) → Entry → Identity
identity_at partition entry = record { partition = partition; incarnation = entry.incarnation; position = entry.position }

-- an entry as it is committed: who it is, and its items
abbrev pub committed_in : List Commit → List Committed
committed_in = map (λ one. record { name = identity_at one.partition one.entry; items = one.entry.items })

abbrev pub identities_in : List Commit → List Identity
identities_in run = names_of (committed_in run)

-- Each message in the streams was sent by one of these entries, and each stream that was taken in, by one of these.
pub record AreOf (known : List Identity) (parts : ℕ → Partition) : Type 0 where
  pub senders : (partition target number : ℕ) (posted : Posted) → message_at ((parts partition).outboxes target) number ≡ Some posted → Contains known posted.entry
  pub readers : (partition source : ℕ) → 0 < ((parts partition).inboxes source).next → Contains known ((parts partition).inboxes source).reader

-- each entry that these name is one of those
abbrev pub AreNamed : List Identity → List Entry → Type 0
AreNamed known = All (λ entry. All (Contains known) (named_by entry.items))

-- the same of what they let go alone
abbrev pub TrimNamed : List Identity → Item → Type 0
TrimNamed known (trim reader number) = Contains known reader
TrimNamed known item = Unit {0}

abbrev pub TrimsNamed : List Identity → List Entry → Type 0
TrimsNamed known = All (λ entry. All (TrimNamed known) entry.items)
