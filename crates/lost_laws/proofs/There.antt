-- What an entry depends on was recovered or is on the trail, and the ledgers know it.
use Rattle.std.proofs.Common.{◌≡◌, inl, inr, ℕ, zero, suc, ◌+◌, ◌<◌, List, [], ◌∷◌, ◌++◌, map, length, Some, refl, sym, ◌∙◌, ap, subst, arith}
use Rattle.std.specs.List.{All, Contains, slice_get}
use Rattle.std.proofs.Math.ListN.{get_or}
use Rattle.std.proofs.lemmas.Bool.{cases_eq}
use Rattle.std.proofs.lemmas.List.{map-append}
use Rattle.std.proofs.lemmas.List.Concat.{flat_map-cons}
use Rattle.std.proofs.lemmas.List.Elements.{Contains-append_left, Contains-append_right, Contains-append_cases}
use Rattle.commit_gate.specs.Ledgers.{Ledger, log_length, IsKnown}
use Rattle.commit_gate.specs.Local.{GoesOn}
use Rattle.dura_value.specs.Dependencies.{named_by}
use Rattle.dura_value.specs.Items.{Identity, Item, Entry, took, got, ran, ended, fired, trim}
use Rattle.gated_store.specs.Causal.{identity_of, IsThere, Causal}
use Rattle.gated_store.specs.Causal.Causal.{nothing as no_trail, one_more as frame_more}
use Rattle.gated_store.specs.Following.{own_after, others_after}
use Rattle.gated_store.specs.Follows.{ledgers_at, GoesOnThere}
use Rattle.gated_store.specs.Kept.{Grown}
use Rattle.gated_store.specs.Kept.Grown.{nothing, one_more}
use Rattle.hub_store.specs.Trail.{Settled, Said, of_part, settling}
use Rattle.log_items.specs.Entries.{AreInTurn, items_in, incarnations_in}
use Rattle.log_items.specs.Streams.{Sent}
use Rattle.lost_laws.specs.DependsOn.{DependsOn}
use Rattle.lost_laws.specs.DependsOn.DependsOn.{named, before, further}

-- ---- lists

get_front : {X : Type 0} (xs ys : List X) (k : ℕ) (x : X) → slice_get xs k ≡ Some x → slice_get (xs ++ ys) k ≡ Some x
get_front [] ys k x is = absurd (cc is)
get_front (first ∷ xs) ys zero x is = is
get_front (first ∷ xs) ys (suc k) x is = get_front xs ys k x is

get_behind : {X : Type 0} (xs ys : List X) (k : ℕ) (y : X) → slice_get ys k ≡ Some y → slice_get (xs ++ ys) (length xs + k) ≡ Some y
get_behind [] ys k y is = let e : k ≡ 0 + k = omega arith in subst (λ (n : ℕ). slice_get ys n ≡ Some y) e is
get_behind (x ∷ xs) ys k y is = let e : suc (length xs + k) ≡ suc (length xs) + k = omega arith in subst (λ (n : ℕ). slice_get (x ∷ (xs ++ ys)) n ≡ Some y) e (get_behind xs ys k y is)

of_all : {X : Type 0} (P : X → Type 0) (xs : List X) (x : X) → All P xs → Contains xs x → P x
of_all P xs x all (k, low, is) = subst P is (all k x low)

-- ---- names

named_both : (a b : List Item) → named_by (a ++ b) ≡ named_by a ++ named_by b
named_both [] b = refl
named_both (got source number message ∷ a) b = ap (λ (l : List Identity). source ∷ l) (named_both a b)
named_both (trim reader number ∷ a) b = ap (λ (l : List Identity). reader ∷ l) (named_both a b)
named_both (took message ∷ a) b = named_both a b
named_both (ran from to stamp ∷ a) b = named_both a b
named_both (ended id task outcome ∷ a) b = named_both a b
named_both (fired id task stamp ∷ a) b = named_both a b

named_cons : (entry : Entry) (going : List Entry) → named_by (items_in (entry ∷ going)) ≡ named_by entry.items ++ named_by (items_in going)
named_cons entry going = ap named_by (flat_map-cons (λ (e : Entry). e.items) entry going) ∙ named_both entry.items (items_in going)

-- what an entry of a frame names, the frame does
named_in_frame : (p at : ℕ) (going : List Entry) (one : Settled) (d : Identity) (k : ℕ) → k < length (settling p at going) → get_or (settling p at going) k one ≡ one → Contains (named_by one.entry.items) d → Contains (named_by (items_in going)) d
named_in_frame p at [] one d k low is named_here = absurd (omega (arith, low))
named_in_frame p at (entry ∷ going) one d zero low is named_here =
    subst (λ (l : List Identity). Contains l d) (sym (named_cons entry going))
    (Contains-append_left (named_by entry.items) (named_by (items_in going)) d (subst (λ (s : Settled). Contains (named_by s.entry.items) d) (sym is) named_here))
named_in_frame p at (entry ∷ going) one d (suc k) low is named_here =
    subst (λ (l : List Identity). Contains l d) (sym (named_cons entry going))
    (Contains-append_right (named_by entry.items) (named_by (items_in going)) d (named_in_frame p at going one d k (omega (arith, low)) is named_here))

-- Where an entry of a frame stands that begins at this position.
record StandsIn (p place : ℕ) (going : List Entry) (e : Identity) : Type 0 where
  own : e.partition ≡ p
  k : ℕ
  position : e.position ≡ place + k
  there : slice_get (incarnations_in going) k ≡ Some e.incarnation

stands_in : (p at place : ℕ) (going : List Entry) (e : Identity) (k : ℕ) → AreInTurn place going → k < length (map identity_of (settling p at going)) → get_or (map identity_of (settling p at going)) k e ≡ e → StandsIn p place going e
stands_in p at place [] e k on low is = absurd (omega (arith, low))
stands_in p at place (entry ∷ going) e zero on low is = record {
  own = ap (λ (i : Identity). i.partition) (sym is);
  k = 0;
  position = let same = ap (λ (i : Identity). i.position) is in let here = on.0 in omega (arith, same, here);
  there = ap (λ (i : Identity). Some i.incarnation) is;
}
stands_in p at place (entry ∷ going) e (suc k) on low is =
    let rest = stands_in p at (place + 1) going e k on.1 (omega (arith, low)) is in
    record { own = rest.own; k = suc rest.k; position = let further_on = rest.position in omega (arith, further_on); there = rest.there }

module _ (ledgers : ℕ → List Entry → Ledger) where
  abbrev begin : ℕ → Ledger
  begin p = ledgers p []

  there_still : (trail more : List Settled) (e : Identity) → IsThere begin trail e → IsThere begin (trail ++ more) e
  there_still trail more e (inl recovered) = inl recovered
  there_still trail more e (inr there) = inr (subst (λ (l : List Identity). Contains l e) (sym (map-append identity_of trail more)) (Contains-append_left (map identity_of trail) (map identity_of more) e there))

  -- ---- it is there

  named_there : (lengths : List Settled → ℕ → ℕ) {trail : List Settled} → Causal begin lengths trail → (one : Settled) (d : Identity) → Contains trail one → Contains (named_by one.entry.items) d → IsThere begin trail d
  named_there lengths no_trail one d at_one of_it = absurd (let none : at_one.0 < 0 = at_one.1 in omega (arith, none))
  named_there lengths (frame_more {trail} p at going earlier all on) one d at_one of_it = elim (Contains-append_cases trail (settling p at going) one at_one) [
    | inl old ↦ there_still trail (settling p at going) d (named_there lengths earlier one d old of_it)
    | inr new ↦ there_still trail (settling p at going) d (of_all (IsThere begin trail) (named_by (items_in going)) d all (named_in_frame p at going one d new.0 new.1 new.2 of_it))
  ]

  pub depends_there : (lengths : List Settled → ℕ → ℕ) (trail : List Settled) → Causal begin lengths trail → {e d : Identity} → DependsOn begin trail e d → IsThere begin trail d
  depends_there lengths trail causal (named one d at_one of_it) = named_there lengths causal one d at_one of_it
  depends_there lengths trail causal (before one d at_one there is) = there
  depends_there lengths trail causal (further e d f near far) = depends_there lengths trail causal far

  -- ---- it is known

  still_known : (trail : List Settled) (p at : ℕ) (going : List Entry) (sent : List Sent) → GoesOn p (ledgers_at ledgers trail p) going sent (ledgers p (of_part p trail ++ going)) → (e : Identity)
      → IsKnown (ledgers_at ledgers trail e.partition) e → IsKnown (ledgers_at ledgers (trail ++ settling p at going) e.partition) e
  still_known trail p at going sent on e known = elim (cases_eq e.partition p) [
    | inl is ↦
        let old = ledgers_at ledgers trail p in
        let mine : IsKnown old e = subst (λ (q : ℕ). IsKnown (ledgers_at ledgers trail q) e) is known in
        let front : slice_get (old.incarnations ++ incarnations_in going) e.position ≡ Some e.incarnation = get_front old.incarnations (incarnations_in going) e.position e.incarnation mine in
        subst (λ (q : ℕ). IsKnown (ledgers_at ledgers (trail ++ settling p at going) q) e) (sym is) (subst (λ (l : Ledger). IsKnown l e) (sym (ap (ledgers p) (own_after trail p at going) ∙ on.makes)) front)
    | inr apart ↦ subst (λ (l : List Entry). IsKnown (ledgers e.partition l) e) (sym (others_after trail p at going e.partition apart)) known
  ]

  now_known : (trail : List Settled) (p at : ℕ) (going : List Entry) (sent : List Sent) → GoesOn p (ledgers_at ledgers trail p) going sent (ledgers p (of_part p trail ++ going)) → (e : Identity)
      → Contains (map identity_of (settling p at going)) e → IsKnown (ledgers_at ledgers (trail ++ settling p at going) e.partition) e
  now_known trail p at going sent on e new =
      let old = ledgers_at ledgers trail p in
      let stands = stands_in p at (log_length old) going e new.0 on.positions new.1 new.2 in
      let behind : slice_get (old.incarnations ++ incarnations_in going) e.position ≡ Some e.incarnation = subst (λ (n : ℕ). slice_get (old.incarnations ++ incarnations_in going) n ≡ Some e.incarnation) (sym stands.position) (get_behind old.incarnations (incarnations_in going) stands.k e.incarnation stands.there) in
      subst (λ (q : ℕ). IsKnown (ledgers_at ledgers (trail ++ settling p at going) q) e) (sym stands.own) (subst (λ (l : Ledger). IsKnown l e) (sym (ap (ledgers p) (own_after trail p at going) ∙ on.makes)) behind)

  module _ (may_make : ℕ → List Entry → List Said → ℕ → List Entry → Type 0) (goes : (latest : ℕ) (mine : List Entry) (told : List Said) (partition : ℕ) (going : List Entry) → may_make latest mine told partition going → GoesOnThere ledgers mine partition going) where
    pub there_known : {trail : List Settled} → Grown ledgers may_make trail → (e : Identity) → IsThere begin trail e → IsKnown (ledgers_at ledgers trail e.partition) e
    there_known nothing e (inl recovered) = recovered
    there_known nothing e (inr there) = absurd (let none : there.0 < 0 = there.1 in omega (arith, none))
    there_known (one_more {trail} latest told p at going earlier follows) e there =
        let on = goes latest (of_part p trail) told p going follows.makes in
        elim there [
          | inl recovered ↦ still_known trail p at going on.0 on.1 e (there_known earlier e (inl recovered))
          | inr on_it ↦ elim (Contains-append_cases (map identity_of trail) (map identity_of (settling p at going)) e (subst (λ (l : List Identity). Contains l e) (map-append identity_of trail (settling p at going)) on_it)) [
            | inl old ↦ still_known trail p at going on.0 on.1 e (there_known earlier e (inr old))
            | inr new ↦ now_known trail p at going on.0 on.1 e new
          ]
        ]
