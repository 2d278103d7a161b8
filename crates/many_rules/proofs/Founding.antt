-- Entries of many partitions are founded on the ones before them.
use Rattle.std.proofs.Common.{◌≡◌, ◌⊎◌, inl, inr, ◌<◌, ◌==◌, ℕ, zero, suc, Bool, true, false, cond, List, [], ◌∷◌, ◌++◌, Option, Some, None, refl, sym, ap, subst, ◌∙◌, append_assoc, append-nil, arith}
use Rattle.std.specs.List.{All, Contains}
use Rattle.std.specs.Prelude.{MatchOption}
use Rattle.std.proofs.lemmas.Bool.{eqb-true}
use Rattle.std.proofs.lemmas.List.{map-append}
use Rattle.dura_value.specs.Dependencies.{named_by, newest_of, or_later, IsRightBefore, FollowsIn, Founded}
use Rattle.dura_value.specs.Dependencies.Founded.{none, one_more}
use Rattle.dura_model.specs.Partition.{fresh}
use Rattle.dura_value.specs.Items.{Identity, Entry}
use Rattle.part_items.specs.Numbered.{Next, behind, IsNumbered}
use Rattle.many_logs.specs.Placing.{Commit, of_partition, commits_at, frames_in_order}
use Rattle.many_logs.specs.Labels.{AreNumbered, state_next}
use Rattle.many_logs.proofs.Basics.{self_eqb}
use Rattle.many_logs.proofs.Frames.{of_both}
use Rattle.many_logs.specs.Names.{identity_at, committed_in, identities_in, AreNamed}
use Rattle.many_rules.proofs.Rules.{named_more}
use Rattle.many_rules.specs.Appended.{names_both}

-- ---- the entry right before

-- the name of the last of these entries of a partition
abbrev last_at : (partition : ℕ) → List Entry → Option Identity
last_at partition [] = None
last_at partition (entry ∷ entries) = or_later (last_at partition entries) (identity_at partition entry)

newest_is : (partition : ℕ) (run : List Commit) → newest_of partition (identities_in run) ≡ last_at partition (of_partition partition run)
newest_is partition [] = refl
newest_is partition (one ∷ run) = by (one.partition == partition) refl (newest_is partition run)
  where
    by : (test : Bool) → (one.partition == partition) ≡ test → newest_of partition (identities_in run) ≡ last_at partition (of_partition partition run)
        → cond test (or_later (newest_of partition (identities_in run)) (identity_at one.partition one.entry)) (newest_of partition (identities_in run)) ≡ last_at partition (cond test (one.entry ∷ of_partition partition run) (of_partition partition run))
    by true same rest = ap (λ (o : Option Identity). or_later o (identity_at one.partition one.entry)) rest ∙ ap (λ (p : ℕ). or_later (last_at partition (of_partition partition run)) (identity_at p one.entry)) (eqb-true one.partition partition same)
    by false apart rest = rest

last_last : (partition : ℕ) (front : List Entry) (last : Entry) → last_at partition (front ++ last ∷ []) ≡ Some (identity_at partition last)
last_last partition [] last = refl
last_last partition (entry ∷ front) last = ap (λ (o : Option Identity). or_later o (identity_at partition entry)) (last_last partition front last)

ends : (entries : List Entry) → (entries ≡ []) ⊎ ((front : List Entry) × (last : Entry) × (entries ≡ front ++ last ∷ []))
ends [] = inl refl
ends (entry ∷ entries) = elim (ends entries) [
  | inl empty ↦ inr ([], entry, ap (λ (l : List Entry). entry ∷ l) empty)
  | inr more ↦ inr (entry ∷ more.0, more.1, ap (λ (l : List Entry). entry ∷ l) more.2)
]

right_before : (partition : ℕ) (next : Next) (front : List Entry) (last e : Entry) (rest : List Entry) → IsNumbered next (front ++ last ∷ e ∷ rest) → IsRightBefore (identity_at partition last) (identity_at partition e)
right_before partition next [] last e rest numbered = record { partition = refl; position = numbered.2.0; incarnation = numbered.2.1 }
right_before partition next (entry ∷ front) last e rest numbered = right_before partition (behind entry) front last e rest numbered.2

follows_own : (partition : ℕ) (before : List Entry) (e : Entry) (rest : List Entry) → IsNumbered (state_next (fresh partition)) (before ++ e ∷ rest) → MatchOption (last_at partition before) (e.position ≡ 0) (λ b. IsRightBefore b (identity_at partition e))
follows_own partition before e rest numbered = elim (ends before) [
  | inl empty ↦
      subst (λ (l : List Entry). MatchOption (last_at partition l) (e.position ≡ 0) (λ b. IsRightBefore b (identity_at partition e))) (sym empty)
      (subst (λ (l : List Entry). IsNumbered (state_next (fresh partition)) (l ++ e ∷ rest)) empty numbered).0
  | inr more ↦
      let there = subst (λ (l : List Entry). IsNumbered (state_next (fresh partition)) (l ++ e ∷ rest)) more.2 numbered in
      let grouped = subst (IsNumbered (state_next (fresh partition))) (append_assoc more.0 (more.1 ∷ []) (e ∷ rest)) there in
      subst (λ (l : List Entry). MatchOption (last_at partition l) (e.position ≡ 0) (λ b. IsRightBefore b (identity_at partition e))) (sym more.2)
      (subst (λ (o : Option Identity). MatchOption o (e.position ≡ 0) (λ b. IsRightBefore b (identity_at partition e))) (sym (last_last partition more.0 more.1)) (right_before partition (state_next (fresh partition)) more.0 more.1 e rest grouped))
]

-- ---- what entries name

-- each names only what is known where it comes
abbrev pub AllNamed : List Identity → List Commit → Type 0
AllNamed known [] = Unit {0}
AllNamed known (one ∷ run) = All (Contains known) (named_by one.entry.items) × AllNamed (known ++ identity_at one.partition one.entry ∷ []) run

pub named_both : (known : List Identity) (a b : List Commit) → AllNamed known a → AllNamed (known ++ identities_in a) b → AllNamed known (a ++ b)
named_both known [] b first second = subst (λ (l : List Identity). AllNamed l b) (append-nil known) second
named_both known (one ∷ a) b first second = (
  first.0,
  named_both (known ++ identity_at one.partition one.entry ∷ []) a b first.1 (subst (λ (l : List Identity). AllNamed l b) (sym (append_assoc known (identity_at one.partition one.entry ∷ []) (identities_in a))) second),
)

pub named_frame : (known : List Identity) (partition : ℕ) (going : List Entry) → AreNamed known going → AllNamed known (commits_at partition going)
named_frame known partition [] named = tt
named_frame known partition (entry ∷ going) named = (
  named 0 entry (omega arith),
  named_frame (known ++ identity_at partition entry ∷ []) partition going (named_more known (identity_at partition entry ∷ []) going (λ k d inside. named (suc k) d (omega (arith, inside)))),
)

pub named_frames : (known : List Identity) (most : ℕ) (going : ℕ → List Entry) → ((partition : ℕ) → partition < most → AreNamed known (going partition)) → AllNamed known (frames_in_order most going)
named_frames known zero going named = tt
named_frames known (suc most) going named =
    named_both known (frames_in_order most going) (commits_at most (going most)) (named_frames known most going (λ partition low. named partition (omega (arith, low))))
    (named_frame (known ++ identities_in (frames_in_order most going)) most (going most) (named_more known (identities_in (frames_in_order most going)) (going most) (named most (omega arith))))

-- ---- both

module _ (recovered : List Commit) where
  pub founded_on : (acc rest : List Commit) → AreNumbered fresh (recovered ++ (acc ++ rest)) → AllNamed (identities_in recovered ++ identities_in acc) rest → Founded (identities_in recovered) (committed_in acc) → Founded (identities_in recovered) (committed_in (acc ++ rest))
  founded_on acc [] numbered named before = subst (λ (l : List Commit). Founded (identities_in recovered) (committed_in l)) (sym (append-nil acc)) before
  founded_on acc (one ∷ rest) numbered named before =
      let known : identities_in (recovered ++ acc) ≡ identities_in recovered ++ identities_in acc = names_both recovered acc in
      let mine : of_partition one.partition (recovered ++ (acc ++ one ∷ rest)) ≡ of_partition one.partition (recovered ++ acc) ++ one.entry ∷ of_partition one.partition rest =
      ap (of_partition one.partition) (sym (append_assoc recovered acc (one ∷ rest)))
      ∙ of_both one.partition (recovered ++ acc) (one ∷ rest)
      ∙ ap (λ (b : Bool). of_partition one.partition (recovered ++ acc) ++ cond b (one.entry ∷ of_partition one.partition rest) (of_partition one.partition rest)) (self_eqb one.partition) in
      let follows = follows_own one.partition (of_partition one.partition (recovered ++ acc)) one.entry (of_partition one.partition rest) (subst (IsNumbered (state_next (fresh one.partition))) mine (numbered one.partition)) in
      let follows_in : FollowsIn (identities_in (recovered ++ acc)) (identity_at one.partition one.entry) =
      subst (λ (o : Option Identity). MatchOption o (one.entry.position ≡ 0) (λ b. IsRightBefore b (identity_at one.partition one.entry))) (sym (newest_is one.partition (recovered ++ acc))) follows in
      let more = one_more (record { name = identity_at one.partition one.entry; items = one.entry.items }) before (record {
        follows = subst (λ (l : List Identity). FollowsIn l (identity_at one.partition one.entry)) known follows_in;
        named = named.0;
      }) in
      let longer = subst (Founded (identities_in recovered)) (sym (map-append (λ (p : Commit). record { name = identity_at p.partition p.entry; items = p.entry.items }) acc (one ∷ []))) more in
      let grouped : recovered ++ (acc ++ (one ∷ rest)) ≡ recovered ++ ((acc ++ one ∷ []) ++ rest) = ap (λ (l : List Commit). recovered ++ l) (sym (append_assoc acc (one ∷ []) rest)) in
      let names_longer : (identities_in recovered ++ identities_in acc) ++ identity_at one.partition one.entry ∷ [] ≡ identities_in recovered ++ identities_in (acc ++ one ∷ []) =
      append_assoc (identities_in recovered) (identities_in acc) (identity_at one.partition one.entry ∷ []) ∙ ap (λ (l : List Identity). identities_in recovered ++ l) (sym (names_both acc (one ∷ []))) in
      subst (λ (l : List Commit). Founded (identities_in recovered) (committed_in l)) (append_assoc acc (one ∷ []) rest)
      (founded_on (acc ++ one ∷ []) rest (subst (AreNumbered fresh) grouped numbered) (subst (λ (l : List Identity). AllNamed l rest) names_longer named.1) longer)

  pub all_founded : (more : List Commit) → AreNumbered fresh (recovered ++ more) → AllNamed (identities_in recovered) more → Founded (identities_in recovered) (committed_in more)
  all_founded more numbered named = founded_on [] more numbered (subst (λ (l : List Identity). AllNamed l more) (sym (append-nil (identities_in recovered))) named) none
