-- What was settled frame by frame stands behind all that it depends on.
use Rattle.std.proofs.Common.{◌≡◌, ◌⊎◌, inl, inr, ℕ, zero, suc, ◌+◌, ◌-◌, ◌==◌, Bool, true, false, cond, List, [], ◌∷◌, ◌++◌, map, drop, Some, refl, sym, ◌∙◌, ap, subst, arith, length-drop}
use Rattle.std.specs.List.{All, Contains, slice_get}
use Rattle.std.proofs.Math.Dec.{leb}
use Rattle.std.proofs.lemmas.Bool.{cases_eq}
use Rattle.std.proofs.lemmas.List.{map-append, get_or-drop}
use Rattle.std.proofs.lemmas.List.Elements.{All-nil, All-cons, All-head, All-tail, Contains-append_left, Contains-append_right, Contains-append_cases}
use Rattle.std.proofs.lemmas.Option.{slice_get_within, get_or_from_slice_get}
use Rattle.dura_value.specs.Items.{Identity, Item, Entry, took, got, ran, ended, fired, trim}
use Rattle.dura_value.specs.Dependencies.{named_by}
use Rattle.dura_value.specs.Items.{Posted}
use Rattle.log_items.specs.Streams.{Outbox, with_posted, begins_at, with_first, Sent, with_sent, boxes_after}
use Rattle.commit_gate.proofs.Losing.{get_either}
use Rattle.commit_gate.specs.Local.{GoesOn}
use Rattle.commit_gate.specs.Met.{IsMet}
use Rattle.commit_gate.specs.Ledgers.{Ledger, log_length, IsKnown, after_frame}
use Rattle.hub_store.specs.Trail.{Settled, Said, of_part, settling}
use Rattle.gated_store.specs.Causal.{identity_of, IsThere, Causal}
use Rattle.gated_store.specs.Causal.Causal.{nothing as no_trail, one_more as frame_more}
use Rattle.gated_store.specs.Following.{own_after, others_after}
use Rattle.gated_store.specs.Follows.{ledgers_at, GoesOnThere}
use Rattle.gated_store.specs.Kept.{Grown}
use Rattle.gated_store.specs.Kept.Grown.{nothing, one_more}
use Rattle.log_items.specs.Entries.{AreInTurn, identity_at, identities_at, items_in, incarnations_in}

-- ---- lists

get_contains : {X : Type 0} (xs : List X) (i : ℕ) (x : X) → slice_get xs i ≡ Some x → Contains xs x
get_contains xs i x is = (i, slice_get_within xs i x is, get_or_from_slice_get xs i x x is)

drop_contains : {X : Type 0} (n : ℕ) (xs : List X) (x : X) → Contains (drop n xs) x → Contains xs x
drop_contains n xs x (k, low, is) = (n + k, omega (arith, length-drop n xs), sym (get_or-drop n xs k x) ∙ is)

one_contains : {X : Type 0} (x y : X) → Contains (x ∷ []) y → x ≡ y
one_contains x y (zero, low, is) = is
one_contains x y (suc k, low, is) = absurd (omega (arith, low))

-- ---- streams

in_posted : (box : Outbox) (new x : Posted) (test : Bool) → Contains (cond test (record box { messages = box.messages ++ new ∷ [] }) box).messages x → Contains box.messages x ⊎ (new ≡ x)
in_posted box new x true there = elim (Contains-append_cases box.messages (new ∷ []) x there) [
  | inl old ↦ inl old
  | inr is ↦ inr (one_contains new x is)
]
in_posted box new x false there = inl there

in_sent : (boxes : ℕ → Outbox) (sent : List Sent) (t : ℕ) (x : Posted) → Contains (with_sent boxes sent t).messages x → Contains (boxes t).messages x ⊎ ((one : Sent) × Contains sent one × (one.posted ≡ x))
in_sent boxes [] t x there = inl there
in_sent boxes (one ∷ more) t x there = elim (in_sent (with_posted boxes one.to one.posted) more t x there) [
  | inl old ↦ elim (in_posted (boxes t) one.posted x (one.to == t) old) [
    | inl older ↦ inl older
    | inr is ↦ inr (one, (0, omega arith, refl), is)
  ]
  | inr (other, at, is) ↦ inr (other, Contains-append_right (one ∷ []) more other at, is)
]

in_begun : (box : Outbox) (number : ℕ) (x : Posted) (test : Bool) → Contains (cond test box (record { first = number; messages = drop (number - box.first) box.messages })).messages x → Contains box.messages x
in_begun box number x true there = there
in_begun box number x false there = drop_contains (number - box.first) box.messages x there

in_first : (box : Outbox) (number : ℕ) (x : Posted) (test : Bool) → Contains (cond test (begins_at number box) box).messages x → Contains box.messages x
in_first box number x true there = in_begun box number x (leb number box.first) there
in_first box number x false there = there

in_left : (boxes : ℕ → Outbox) (items : List Item) (t : ℕ) (x : Posted) → Contains (boxes_after boxes items t).messages x → Contains (boxes t).messages x
in_left boxes [] t x there = there
in_left boxes (trim reader number ∷ items) t x there = in_first (boxes t) number x (reader.partition == t) (in_left (with_first boxes reader.partition number) items t x there)
in_left boxes (took message ∷ items) t x there = in_left boxes items t x there
in_left boxes (got source number message ∷ items) t x there = in_left boxes items t x there
in_left boxes (ran from to stamp ∷ items) t x there = in_left boxes items t x there
in_left boxes (ended id task outcome ∷ items) t x there = in_left boxes items t x there
in_left boxes (fired id task stamp ∷ items) t x there = in_left boxes items t x there

-- ---- names

named_settling : (p at : ℕ) (going : List Entry) → map identity_of (settling p at going) ≡ identities_at p going
named_settling p at [] = refl
named_settling p at (entry ∷ going) = ap (λ (l : List Identity). identity_at p entry ∷ l) (named_settling p at going)

abbrev identity : ℕ → ℕ → ℕ → Identity
identity partition incarnation position = record { partition = partition; incarnation = incarnation; position = position }

-- an entry of a frame by its place
entry_at : (p place : ℕ) (going : List Entry) (k incarnation : ℕ) → AreInTurn place going → slice_get (incarnations_in going) k ≡ Some incarnation → Contains (identities_at p going) (record { partition = p; incarnation = incarnation; position = place + k })
entry_at p place [] k incarnation on is = absurd (cc is)
entry_at p place (entry ∷ going) zero incarnation on is =
    let l : entry.incarnation ≡ incarnation = cc in
    let q : entry.position ≡ place + 0 = omega (arith, on.0) in
    (0, omega arith, ap (λ (n : ℕ). record { partition = p; incarnation = n; position = entry.position }) l ∙ ap (λ (n : ℕ). identity_at p (record { position = n; incarnation = incarnation; items = [] })) q)
entry_at p place (entry ∷ going) (suc k) incarnation on is =
    let rest = entry_at p (place + 1) going k incarnation on.1 is in
    let e : (place + 1) + k ≡ place + suc k = omega arith in
    Contains-append_right (identity_at p entry ∷ []) (identities_at p going) (record { partition = p; incarnation = incarnation; position = place + suc k })
    (subst (λ (n : ℕ). Contains (identities_at p going) (record { partition = p; incarnation = incarnation; position = n })) e rest)

module _ (ledgers : ℕ → List Entry → Ledger) (may_make : ℕ → List Entry → List Said → ℕ → List Entry → Type 0) (goes : (latest : ℕ) (mine : List Entry) (told : List Said) (partition : ℕ) (going : List Entry) → may_make latest mine told partition going → GoesOnThere ledgers mine partition going)
    (begins : (partition target : ℕ) (posted : Posted) → Contains ((ledgers partition []).boxes target).messages posted → IsKnown (ledgers posted.entry.partition []) posted.entry) where
  abbrev begin : ℕ → Ledger
  begin p = ledgers p []

  -- what streams hold, and what ledgers know, was recovered or is on the trail
  record Grounded (trail : List Settled) : Type 0 where
    held : (q t : ℕ) (posted : Posted) → Contains ((ledgers_at ledgers trail q).boxes t).messages posted → IsThere begin trail posted.entry
    known : (e : Identity) → IsKnown (ledgers_at ledgers trail e.partition) e → IsThere begin trail e

  there_still : (trail more : List Settled) (e : Identity) → IsThere begin trail e → IsThere begin (trail ++ more) e
  there_still trail more e (inl recovered) = inl recovered
  there_still trail more e (inr there) = inr (subst (λ (l : List Identity). Contains l e) (sym (map-append identity_of trail more)) (Contains-append_left (map identity_of trail) (map identity_of more) e there))

  there_now : (trail : List Settled) (p at : ℕ) (going : List Entry) (e : Identity) → Contains (identities_at p going) e → IsThere begin (trail ++ settling p at going) e
  there_now trail p at going e mine =
      inr (subst (λ (l : List Identity). Contains l e) (sym (map-append identity_of trail (settling p at going)))
      (Contains-append_right (map identity_of trail) (map identity_of (settling p at going)) e (subst (λ (l : List Identity). Contains l e) (sym (named_settling p at going)) mine)))

  grounded_first : Grounded []
  grounded_first = record {
    held = λ q t posted there. inl (begins q t posted there);
    known = λ e is. inl is;
  }

  -- a frame's own names once it is settled
  own_known : (trail : List Settled) (p at : ℕ) (going : List Entry) (sent : List Sent) (e : Identity) → Grounded trail → AreInTurn (log_length (ledgers_at ledgers trail p)) going → e.partition ≡ p → IsKnown (after_frame (ledgers_at ledgers trail p) going sent) e → IsThere begin (trail ++ settling p at going) e
  own_known trail p at going sent e g on is known =
      let ledger = ledgers_at ledgers trail p in
      elim (get_either ledger.incarnations (incarnations_in going) e.position e.incarnation known) [
        | inl before ↦ there_still trail (settling p at going) e (g.known e (subst (λ (k : ℕ). IsKnown (ledgers_at ledgers trail k) e) (sym is) before))
        | inr (k, place, mine) ↦
            let where_is : log_length ledger + k ≡ e.position = omega (arith, place) in
            let named = entry_at p (log_length ledger) going k e.incarnation on mine in
            let same : identity p e.incarnation (log_length ledger + k) ≡ e = ap (λ (n : ℕ). identity n e.incarnation (log_length ledger + k)) (sym is) ∙ ap (identity e.partition e.incarnation) where_is in
            there_now trail p at going e (subst (Contains (identities_at p going)) same named)
      ]

  -- what a frame sends is there
  sent_there : (trail : List Settled) (p at : ℕ) (going : List Entry) (sent : List Sent) (one : Sent) → All (λ one. Contains (identities_at p going) one.posted.entry) sent → Contains sent one → IsThere begin (trail ++ settling p at going) one.posted.entry
  sent_there trail p at going sent one senders (k, low, is) = there_now trail p at going one.posted.entry (subst (λ (s : Sent). Contains (identities_at p going) s.posted.entry) is (senders k one low))

  grounded_more : (trail : List Settled) (p at : ℕ) (going : List Entry) (sent : List Sent) → GoesOn p (ledgers_at ledgers trail p) going sent (ledgers p (of_part p trail ++ going)) → Grounded trail → Grounded (trail ++ settling p at going)
  grounded_more trail p at going sent on g = record {
    held = λ q t posted there. elim (cases_eq q p) [
      | inl is ↦
          let moved : Contains ((after_frame (ledgers_at ledgers trail p) going sent).boxes t).messages posted =
          subst (λ (r : Ledger). Contains (r.boxes t).messages posted) (ap (ledgers p) (own_after trail p at going) ∙ on.makes) (subst (λ (k : ℕ). Contains ((ledgers_at ledgers (trail ++ settling p at going) k).boxes t).messages posted) is there) in
          elim (in_sent (ledgers_at ledgers trail p).boxes sent t posted (in_left (with_sent (ledgers_at ledgers trail p).boxes sent) (items_in going) t posted moved)) [
            | inl old ↦ there_still trail (settling p at going) posted.entry (g.held p t posted old)
            | inr (one, at_one, same) ↦ subst (λ (x : Posted). IsThere begin (trail ++ settling p at going) x.entry) same (sent_there trail p at going sent one on.senders at_one)
          ]
      | inr apart ↦
          there_still trail (settling p at going) posted.entry
          (g.held q t posted (subst (λ (l : List Entry). Contains ((ledgers q l).boxes t).messages posted) (others_after trail p at going q apart) there))
    ];
    known = λ e is. elim (cases_eq e.partition p) [
      | inl same ↦
          own_known trail p at going sent e g on.positions same
          (subst (λ (r : Ledger). IsKnown r e) (ap (ledgers p) (own_after trail p at going) ∙ on.makes) (subst (λ (k : ℕ). IsKnown (ledgers_at ledgers (trail ++ settling p at going) k) e) same is))
      | inr apart ↦
          there_still trail (settling p at going) e (g.known e (subst (λ (l : List Entry). IsKnown (ledgers e.partition l) e) (others_after trail p at going e.partition apart) is))
    ];
  }

  grounded : {trail : List Settled} → Grown ledgers may_make trail → Grounded trail
  grounded nothing = grounded_first
  grounded (one_more {trail} latest told p at going before follows) =
      let on = goes latest (of_part p trail) told p going follows.makes in
      grounded_more trail p at going on.0 on.1 (grounded before)

  -- what its items name is there
  named_there : (trail : List Settled) (p : ℕ) (items : List Item) → Grounded trail → All (IsMet (ledgers_at ledgers trail) p) items → All (IsThere begin trail) (named_by items)
  named_there trail p [] g met = All-nil (IsThere begin trail)
  named_there trail p (got source number message ∷ items) g met =
      let has = All-head (IsMet (ledgers_at ledgers trail) p) (got source number message) items met in
      let box = (ledgers_at ledgers trail source.partition).boxes p in
      let posted : Posted = record { entry = source; message = message } in
      All-cons (IsThere begin trail) source (named_by items) (g.held source.partition p posted (get_contains box.messages (number - box.first) posted has.stands))
      (named_there trail p items g (All-tail (IsMet (ledgers_at ledgers trail) p) (got source number message) items met))
  named_there trail p (trim reader number ∷ items) g met =
      let has = All-head (IsMet (ledgers_at ledgers trail) p) (trim reader number) items met in
      All-cons (IsThere begin trail) reader (named_by items) (g.known reader has.1) (named_there trail p items g (All-tail (IsMet (ledgers_at ledgers trail) p) (trim reader number) items met))
  named_there trail p (took message ∷ items) g met = named_there trail p items g (All-tail (IsMet (ledgers_at ledgers trail) p) (took message) items met)
  named_there trail p (ran from to stamp ∷ items) g met = named_there trail p items g (All-tail (IsMet (ledgers_at ledgers trail) p) (ran from to stamp) items met)
  named_there trail p (ended id task outcome ∷ items) g met = named_there trail p items g (All-tail (IsMet (ledgers_at ledgers trail) p) (ended id task outcome) items met)
  named_there trail p (fired id task stamp ∷ items) g met = named_there trail p items g (All-tail (IsMet (ledgers_at ledgers trail) p) (fired id task stamp) items met)

  -- the trail is causal
  pub trail_causal : {trail : List Settled} → Grown ledgers may_make trail → Causal begin (λ trail p. log_length (ledgers_at ledgers trail p)) trail
  trail_causal nothing = no_trail
  trail_causal (one_more {trail} latest told p at going before follows) =
      let on = goes latest (of_part p trail) told p going follows.makes in
      frame_more p at going (trail_causal before) (named_there trail p (items_in going) (grounded before) follows.met) on.1.positions
