-- A whole commit: what names no entry is refused for none, and why it stops.
use Rattle.std.proofs.Common.{◌≡◌, ℕ, List, [], ◌∷◌, ◌++◌, Result, Err, ap, subst, ◌∙◌, inl, inr}
use Rattle.std.specs.Prelude.{◌⊎◌}
use Rattle.std.specs.Global.{Vec}
use Rattle.std.specs.List.{All}
use Rattle.std.proofs.lemmas.List.Elements.{All-head, All-tail, All-weaker}
use Rattle.commit_gate.specs.Keeping.{IsOfOne, AreOfOne}
use Rattle.commit_gate.specs.Ledgers.{Ledger}
use Rattle.commit_gate.specs.Refused.{RefusesFirst}
use Rattle.commit_gate.specs.Refused.Names.{by_got, by_trim}
use Rattle.commit_gate.specs.declared.ledger.Sending.{Sending}
use Rattle.commit_gate.specs.declared.unmet.Unmet.{Unmet}
use Rattle.dura_value.specs.Items.{Item, Floor, took, got, ran, ended, fired, trim}
use Rattle.gated_store.specs.Commits.{NamesNone, refusal_at}
use Rattle.gated_store.specs.declared.refusal.BodyRefused.{BodyRefused}
use Rattle.gated_store.specs.declared.refusal.BodyRefused.TheVariants as refused
use Rattle.hub_store.specs.declared.refusal.BodyRefusal.{BodyRefusal}
use Rattle.hub_store.specs.declared.refusal.BodyRefusal.TheVariants.{Full, SiteFault, Memory}
use Rattle.log_items.specs.declared.frames.Entry as rows

-- ---- what names no entry

none_of_one : (count : ℕ) (item : Item) → NamesNone item → IsOfOne count item
none_of_one count (took message) none = tt
none_of_one count (got source number message) none = absurd (none source by_got)
none_of_one count (ran from to stamp) none = tt
none_of_one count (ended id task outcome) none = tt
none_of_one count (fired id task stamp) none = tt
none_of_one count (trim reader number) none = absurd (none reader by_trim)

pub none_fit : (count : ℕ) (items : List Item) → All NamesNone items → AreOfOne count items
none_fit count items none = All-weaker NamesNone (IsOfOne count) (none_of_one count) items none

one_among : (before : List Item) (item : Item) (behind : List Item) → All NamesNone (before ++ item ∷ behind) → NamesNone item
one_among [] item behind none = All-head NamesNone item behind none
one_among (first ∷ before) item behind none = one_among before item behind (All-tail NamesNone first (before ++ item ∷ behind) none)

pub unrefused : (ledgers : ℕ → Ledger) (floors : ℕ → List Floor) (partition : ℕ) (items : List Item) (why : Unmet) → All NamesNone items → RefusesFirst ledgers floors partition items why → ⊥
unrefused ledgers floors partition items why none first = one_among first.before first.item first.behind (subst (All NamesNone) first.split none) first.refuses.e first.refuses.names

-- ---- a frame that wasn't written

refused_as : {T : Type 0} (r : Result T BodyRefused) (s : Result T BodyRefusal) (part : ℕ) (one other : BodyRefused) (refusal : BodyRefusal) → r ≡ Err one → s ≡ Err refusal → refusal ≡ refusal_at part one → r ≡ Err other → s ≡ Err (refusal_at part other)
refused_as r s part one other refusal here there is same = let which : one ≡ other = cc (here, same) in there ∙ ap (λ (e : BodyRefusal). Err e) (is ∙ ap (refusal_at part) which)

pub refused_either : {T : Type 0} (r : Result T BodyRefused) (s : Result T BodyRefusal) (part n : ℕ) (one : BodyRefused) (refusal : BodyRefusal) (frame : List rows.Entry) (sending : Vec Sending) → r ≡ Err one → s ≡ Err refusal → refusal ≡ refusal_at part one
    → (r ≡ Err (refused.Memory frame sending)) ⊎ (r ≡ Err (refused.Full n frame sending)) → (s ≡ Err Memory) ⊎ (s ≡ Err (Full part n))
refused_either r s part n one refusal frame sending here there is either = elim either [
  | inl memory ↦ inl (refused_as r s part one (refused.Memory frame sending) refusal here there is memory)
  | inr full ↦ inr (refused_as r s part one (refused.Full n frame sending) refusal here there is full)
]

-- and back
pub record WasFull {T : Type 0} (r : Result T BodyRefused) (part of n : ℕ) : Type 0 where
  pub own : of ≡ part
  pub frame : List rows.Entry
  pub sending : Vec Sending
  pub full : r ≡ Err (refused.Full n frame sending)

pub refused_full : {T : Type 0} (r : Result T BodyRefused) (s : Result T BodyRefusal) (part of n : ℕ) (one : BodyRefused) (refusal : BodyRefusal) → r ≡ Err one → s ≡ Err refusal → refusal ≡ refusal_at part one → s ≡ Err (Full of n) → WasFull r part of n
refused_full r s part of n (refused.Full length frame sending) refusal here there is full = record { own = cc (there, is, full); frame = frame; sending = sending; full = cc (here, there, is, full) }
refused_full r s part of n refused.SiteFault refusal here there is full = absurd (cc (there, is, full))
refused_full r s part of n (refused.Memory frame sending) refusal here there is full = absurd (cc (there, is, full))

pub refused_fault : {T : Type 0} (r : Result T BodyRefused) (s : Result T BodyRefusal) (part : ℕ) (one : BodyRefused) (refusal : BodyRefusal) → r ≡ Err one → s ≡ Err refusal → refusal ≡ refusal_at part one → s ≡ Err SiteFault → r ≡ Err refused.SiteFault
refused_fault r s part (refused.Full length frame sending) refusal here there is fault = absurd (cc (there, is, fault))
refused_fault r s part refused.SiteFault refusal here there is fault = here
refused_fault r s part (refused.Memory frame sending) refusal here there is fault = absurd (cc (there, is, fault))
