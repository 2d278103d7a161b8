-- Entries behind others that are founded.
use Rattle.std.proofs.Common.{◌≡◌, List, [], ◌∷◌, ◌++◌, sym, ◌∙◌, ap, subst, append_assoc, append-nil}
use Rattle.std.proofs.lemmas.List.{map-append}
use Rattle.dura_value.specs.Dependencies.{Committed, names_of, IsFounded, Founded}
use Rattle.dura_value.specs.Dependencies.Founded.{none, one_more}
use Rattle.dura_value.specs.Items.{Identity}
use Rattle.many_logs.specs.Names.{identity_at, committed_in, identities_in}
use Rattle.many_logs.specs.Placing.{Commit}
use Rattle.many_rules.specs.Appended.{names_both}

-- what is founded on these and on entries that are founded themselves comes behind those
founded_then : (known : List Identity) (a : List Committed) {b : List Committed} → Founded known a → Founded (known ++ names_of a) b → Founded known (a ++ b)
founded_then known a first none = subst (Founded known) (sym (append-nil a)) first
founded_then known a first (one_more {entries} e before is) =
    let all : (known ++ names_of a) ++ names_of entries ≡ known ++ names_of (a ++ entries) =
    append_assoc known (names_of a) (names_of entries) ∙ ap (λ (l : List Identity). known ++ l) (sym (map-append (λ (c : Committed). c.name) a entries)) in
    subst (Founded known) (append_assoc a entries (e ∷ [])) (one_more e (founded_then known a first before) (subst (λ (l : List Identity). IsFounded l e) all is))

-- the same of entries of partitions
pub founded_behind : (start a b : List Commit) → Founded (identities_in start) (committed_in a) → Founded (identities_in (start ++ a)) (committed_in b) → Founded (identities_in start) (committed_in (a ++ b))
founded_behind start a b first then =
    subst (Founded (identities_in start)) (sym (map-append (λ (one : Commit). record { name = identity_at one.partition one.entry; items = one.entry.items }) a b))
    (founded_then (identities_in start) (committed_in a) first (subst (λ (l : List Identity). Founded l (committed_in b)) (names_both start a) then))
