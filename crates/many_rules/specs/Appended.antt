-- What was settled and said, and what comes behind it.
use Rattle.std.proofs.Common.{◌≡◌, ◌==◌, ℕ, cond, List, [], ◌∷◌, ◌++◌, refl, ap}
use Rattle.dura_value.specs.Items.{Identity, Entry}
use Rattle.hub_store.specs.Trail.{Settled, Said, of_part, settling}
use Rattle.many_logs.specs.Names.{identity_at, identities_in}
use Rattle.many_logs.specs.Placing.{Commit, of_partition, commits_at}
use Rattle.many_rules.specs.Rules.{commits_of, pairs_of}
use Rattle.run_rules.specs.Rules.{Told}

pub puts_both : (trail more : List Settled) → commits_of (trail ++ more) ≡ commits_of trail ++ commits_of more
puts_both [] more = refl
puts_both (one ∷ trail) more = ap (λ (l : List Commit). record { partition = one.partition; entry = one.entry } ∷ l) (puts_both trail more)

pub puts_part : (partition : ℕ) (trail : List Settled) → of_partition partition (commits_of trail) ≡ of_part partition trail
puts_part partition [] = refl
puts_part partition (one ∷ trail) = ap (λ (l : List Entry). cond (one.partition == partition) (one.entry ∷ l) l) (puts_part partition trail)

pub puts_settling : (partition at : ℕ) (going : List Entry) → commits_of (settling partition at going) ≡ commits_at partition going
puts_settling partition at [] = refl
puts_settling partition at (entry ∷ going) = ap (λ (l : List Commit). record { partition = partition; entry = entry } ∷ l) (puts_settling partition at going)

pub pairs_both : (told also : List Said) → pairs_of (told ++ also) ≡ pairs_of told ++ pairs_of also
pairs_both [] also = refl
pairs_both (one ∷ told) also = ap (λ (l : Told). (one.client, one.number) ∷ l) (pairs_both told also)

pub names_both : (a b : List Commit) → identities_in (a ++ b) ≡ identities_in a ++ identities_in b
names_both [] b = refl
names_both (one ∷ a) b = ap (λ (l : List Identity). identity_at one.partition one.entry ∷ l) (names_both a b)
