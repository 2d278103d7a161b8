-- Who is known by two orders of the same entries.
use Rattle.std.proofs.Common.{◌≡◌, inl, inr, ◌==◌, ℕ, zero, suc, Bool, true, false, cond, List, [], ◌∷◌, ◌++◌, Option, Some, None, refl, sym, ap, subst, ◌∙◌, arith}
use Rattle.std.specs.Prelude.{MatchOption}
use Rattle.std.specs.List.{Contains, slice_get}
use Rattle.std.proofs.lemmas.Bool.{eqb-true}
use Rattle.std.proofs.lemmas.List.Elements.{Contains-append_left, Contains-append_right, Contains-append_cases}
use Rattle.dura_value.specs.Dependencies.{Committed, names_of, or_later, newest_of, IsRightBefore, Founded}
use Rattle.dura_value.specs.Dependencies.Founded.{none, one_more}
use Rattle.dura_value.specs.Items.{Identity, Entry}
use Rattle.many_logs.specs.Names.{identity_at, identities_in}
use Rattle.many_logs.specs.Placing.{Commit, of_partition}
use Rattle.many_rules.proofs.Meeting.{own_among, slice_of}
use Rattle.order_laws.proofs.Orders.{SameOwn}
use Rattle.part_items.specs.Logs.{or_else}

-- ---- who is known

-- an entry of a partition is among all
among_all : (partition : ℕ) (run : List Commit) (i : ℕ) (entry : Entry) → slice_get (of_partition partition run) i ≡ Some entry → Contains (identities_in run) (identity_at partition entry)
among_all partition [] i entry is = absurd (cc is)
among_all partition (one ∷ run) i entry is = by (λ j at. among_all partition run j entry at) (one.partition == partition) refl i is
  where
    Behind : Type 0
    Behind = (j : ℕ) → slice_get (of_partition partition run) j ≡ Some entry → Contains (identities_in run) (identity_at partition entry)

    by : Behind → (test : Bool) → (one.partition == partition) ≡ test → (i : ℕ) → slice_get (cond test (one.entry ∷ of_partition partition run) (of_partition partition run)) i ≡ Some entry → Contains (identities_in (one ∷ run)) (identity_at partition entry)
    by behind true same zero at = let e : one.entry ≡ entry = cc at in (0, omega arith, ap (λ (x : Entry). identity_at one.partition x) e ∙ ap (λ (n : ℕ). identity_at n entry) (eqb-true one.partition partition same))
    by behind true same (suc i) at = Contains-append_right (identity_at one.partition one.entry ∷ []) (identities_in run) (identity_at partition entry) (behind i at)
    by behind false same i at = Contains-append_right (identity_at one.partition one.entry ∷ []) (identities_in run) (identity_at partition entry) (behind i at)

-- who is known by one is known by the other
pub known_alike : (run other : List Commit) → SameOwn run other → (e : Identity) → Contains (identities_in run) e → Contains (identities_in other) e
known_alike run other same e (k, low, at) =
    let (i, entry, there, is_e) = own_among run e k (slice_of (identities_in run) k e low at) in
    subst (Contains (identities_in other)) is_e (among_all e.partition other i entry (ap (λ (l : List Entry). slice_get l i) (same e.partition) ∙ there))

-- the same with more behind both
known_longer : (a b more : List Identity) (e : Identity) → (Contains a e → Contains b e) → Contains (a ++ more) e → Contains (b ++ more) e
known_longer a b more e has known = elim (Contains-append_cases a more e known) [
  | inl first ↦ Contains-append_left b more e (has first)
  | inr later ↦ Contains-append_right b more e later
]

-- ---- the newest of a partition

-- the name of the last of these entries of a partition
abbrev last_at : (partition : ℕ) → List Entry → Option Identity
last_at partition [] = None
last_at partition (entry ∷ entries) = or_later (last_at partition entries) (identity_at partition entry)

-- the newest of a partition is the last of its entries
newest_is : (partition : ℕ) (run : List Commit) → newest_of partition (identities_in run) ≡ last_at partition (of_partition partition run)
newest_is partition [] = refl
newest_is partition (one ∷ run) = by (one.partition == partition) refl (newest_is partition run)
  where
    by : (test : Bool) → (one.partition == partition) ≡ test → newest_of partition (identities_in run) ≡ last_at partition (of_partition partition run)
        → cond test (or_later (newest_of partition (identities_in run)) (identity_at one.partition one.entry)) (newest_of partition (identities_in run)) ≡ last_at partition (cond test (one.entry ∷ of_partition partition run) (of_partition partition run))
    by true same rest = ap (λ (o : Option Identity). or_later o (identity_at one.partition one.entry)) rest ∙ ap (λ (p : ℕ). or_later (last_at partition (of_partition partition run)) (identity_at p one.entry)) (eqb-true one.partition partition same)
    by false apart rest = rest

-- the newest by one is the newest by the other
pub newest_alike : (run other : List Commit) → SameOwn run other → (partition : ℕ) → newest_of partition (identities_in other) ≡ newest_of partition (identities_in run)
newest_alike run other same partition = newest_is partition other ∙ ap (last_at partition) (same partition) ∙ sym (newest_is partition run)

-- the newest of all is that of the later ones, if they have one
newest_both : (partition : ℕ) (a b : List Identity) → newest_of partition (a ++ b) ≡ or_else (newest_of partition b) (newest_of partition a)
newest_both partition [] b = nothing (newest_of partition b)
  where
    nothing : (o : Option Identity) → o ≡ or_else o None
    nothing None = refl
    nothing (Some later) = refl
newest_both partition (one ∷ a) b = by (one.partition == partition) (newest_of partition b) (newest_both partition a b)
  where
    by : (test : Bool) (later : Option Identity) → newest_of partition (a ++ b) ≡ or_else later (newest_of partition a)
        → cond test (or_later (newest_of partition (a ++ b)) one) (newest_of partition (a ++ b)) ≡ or_else later (cond test (or_later (newest_of partition a) one) (newest_of partition a))
    by true None rest = ap (λ (o : Option Identity). or_later o one) rest
    by true (Some later) rest = ap (λ (o : Option Identity). or_later o one) rest
    by false later rest = rest

-- the same with more behind both
newest_longer : (partition : ℕ) (a b more : List Identity) → newest_of partition b ≡ newest_of partition a → newest_of partition (b ++ more) ≡ newest_of partition (a ++ more)
newest_longer partition a b more same = newest_both partition b more ∙ ap (or_else (newest_of partition more)) same ∙ sym (newest_both partition a more)

-- ---- both

module _ (run other : List Commit) (same : SameOwn run other) where
  -- what is founded on one is founded on the other
  pub founded_alike : {entries : List Committed} → Founded (identities_in run) entries → Founded (identities_in other) entries
  founded_alike none = none
  founded_alike (one_more {entries} e before is) = one_more e (founded_alike before) (record {
    follows =
        subst (λ (o : Option Identity). MatchOption o (e.name.position ≡ 0) (λ last. IsRightBefore last e.name))
        (sym (newest_longer e.name.partition (identities_in run) (identities_in other) (names_of entries) (newest_alike run other same e.name.partition))) is.follows;
    named = λ k d inside. known_longer (identities_in run) (identities_in other) (names_of entries) _ (known_alike run other same _) (is.named k d inside);
  })
