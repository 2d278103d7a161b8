-- Nothing that is settled is lost.
use Rattle.std.proofs.Common.{◌≡◌, ◌⊎◌, inl, inr, ℕ, zero, suc, ◌+◌, ◌<◌, ◌≤◌, List, [], ◌∷◌, ◌++◌, length, get_or, Some, refl, sym, ◌∙◌, ap, subst, arith}
use Rattle.std.specs.List.{Contains, slice_get}
use Rattle.std.proofs.lemmas.List.{get_or-map as get_mapped}
use Rattle.commit_gate.proofs.Stay.{get_append}
use Rattle.std.proofs.lemmas.List.Elements.{Contains-append_cases}
use Rattle.std.proofs.lemmas.Option.{slice_get_within, slice_get-get_or}
use Rattle.dura_value.specs.Dependencies.{Lost}
use Rattle.dura_value.specs.Items.{Identity, Entry, Floor}
use Rattle.commit_gate.specs.Past.{spread}
use Rattle.commit_gate.specs.Unlost.{IsUnlost, IsFrameUnlost, AreUnlost}
use Rattle.commit_gate.specs.declared.ledger.Ledger as declared
use Rattle.commit_gate.specs.Refused.{IsReady}
use Rattle.commit_gate.specs.Views.{ledger_of, whole_of, ledgers_of, no_ledger, floors_in, floors_of}
use Rattle.commit_gate.specs.Ledgers.{Ledger, log_length, IsKnown, with_frame}
use Rattle.log_items.specs.Streams.{Sent}
use Rattle.log_items.specs.Entries.{incarnations_in}

-- what is known was given up by no incarnation
pub known_kept : (ledger : Ledger) (floors : List Floor) (e : Identity) → IsUnlost ledger floors → IsKnown ledger e → Lost floors e → ⊥
known_kept ledger floors e unlost known lost = let low = unlost e.position e.incarnation known lost.floor lost.there lost.later in omega (arith, low, lost.below)

-- and is among the first so many
pub known_below : (ledger : Ledger) (e : Identity) → IsKnown ledger e → e.position < log_length ledger
known_below ledger e known = slice_get_within ledger.incarnations e.position e.incarnation known

-- what stands in one of two lists
pub get_either : {X : Type 0} (xs ys : List X) (i : ℕ) (x : X) → slice_get (xs ++ ys) i ≡ Some x → (slice_get xs i ≡ Some x) ⊎ ((k : ℕ) × (i ≡ length xs + k) × (slice_get ys k ≡ Some x))
get_either [] ys i x is = inr (i, omega arith, is)
get_either (y ∷ xs) ys zero x is = inl is
get_either (y ∷ xs) ys (suc i) x is = elim (get_either xs ys i x is) [
  | inl first ↦ inl first
  | inr (k, at, then) ↦ inr (k, omega (arith, at), then)
]

incarnation_at : (entries : List Entry) (k incarnation : ℕ) → slice_get (incarnations_in entries) k ≡ Some incarnation → (entry : Entry) × (slice_get entries k ≡ Some entry) × (entry.incarnation ≡ incarnation)
incarnation_at [] k incarnation is = absurd (cc is)
incarnation_at (entry ∷ entries) zero incarnation is = (entry, refl, cc)
incarnation_at (entry ∷ entries) (suc k) incarnation is = incarnation_at entries k incarnation is

-- a frame that goes on
pub frame_unlost : (ledger : Ledger) (floors : List Floor) (entries : List Entry) (sent : List Sent) → IsUnlost ledger floors → IsFrameUnlost (log_length ledger) floors entries → IsUnlost (with_frame ledger entries sent) floors
frame_unlost ledger floors entries sent unlost frame i incarnation is floor there later = elim (get_either ledger.incarnations (incarnations_in entries) i incarnation is) [
  | inl before ↦ unlost i incarnation before floor there later
  | inr (k, at, mine) ↦
      let e = incarnation_at entries k incarnation mine in
      let low : log_length ledger + k < floor.from = frame k e.0 e.1 floor there (subst (λ (n : ℕ). n < floor.incarnation) (sym e.2) later) in
      omega (arith, low, at)
]

only : (floor f : Floor) → Contains (floor ∷ []) f → floor ≡ f
only floor f (zero, low, is) = is
only floor f (suc k, low, is) = absurd (omega (arith, low))

-- one more floor that is at no less than the end of the frame under way
pub floor_unlost : (ledger : Ledger) (floors : List Floor) (floor : Floor) → log_length ledger ≤ floor.from → IsUnlost ledger floors → IsUnlost ledger (floors ++ floor ∷ [])
floor_unlost ledger floors floor high unlost i incarnation at f there later = elim (Contains-append_cases floors (floor ∷ []) f there) [
  | inl before ↦ unlost i incarnation at f before later
  | inr is ↦ let e = only floor f is in let low : i < length ledger.incarnations = slice_get_within ledger.incarnations i incarnation at in subst (λ (g : Floor). i < g.from) e (omega (arith, high, low))
]

-- what holds with a frame under way holds without
pub settled_unlost : (ledger : declared.Ledger) (floors : List Floor) → IsUnlost (whole_of ledger) floors → IsUnlost (ledger_of ledger) floors
settled_unlost ledger floors unlost i incarnation is = unlost i incarnation (get_append (spread ledger.past.items) ledger.incarnations.items i incarnation is)

-- a partition's ledger among all
pub ledger_here : (ledgers : List declared.Ledger) (partition : ℕ) (ledger : declared.Ledger) → partition < length ledgers → ledger ≡ get_or ledgers partition ledger → ledgers_of ledgers partition ≡ ledger_of ledger
ledger_here ledgers partition ledger low is = get_mapped ledger_of ledgers partition ledger no_ledger low ∙ ap ledger_of (sym is)

pub floors_here : (ledgers : List declared.Ledger) (partition : ℕ) (ledger : declared.Ledger) → partition < length ledgers → ledger ≡ get_or ledgers partition ledger → floors_of ledgers partition ≡ floors_in ledger
floors_here ledgers partition ledger low is = get_mapped floors_in ledgers partition ledger [] low ∙ ap floors_in (sym is)

-- an entry that is known is ready
pub known_ready : (ledgers : List declared.Ledger) (e : Identity) (ledger : declared.Ledger) → AreUnlost ledgers → e.partition < length ledgers → ledger ≡ get_or ledgers e.partition ledger → IsKnown (ledger_of ledger) e → IsReady (ledgers_of ledgers) (floors_of ledgers) e
known_ready ledgers e ledger unlost low is known =
    let there : slice_get ledgers e.partition ≡ Some ledger = slice_get-get_or ledgers e.partition ledger low ∙ ap (λ (l : declared.Ledger). Some l) (sym is) in
    record {
      settled = subst (λ (l : Ledger). e.position < log_length l) (sym (ledger_here ledgers e.partition ledger low is)) (known_below (ledger_of ledger) e known);
      kept = subst (λ (l : List Floor). Lost l e → ⊥) (sym (floors_here ledgers e.partition ledger low is)) (known_kept (ledger_of ledger) (floors_in ledger) e (unlost e.partition ledger there) known);
    }
