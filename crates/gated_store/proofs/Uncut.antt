-- No floor cuts a frame that is under way.
use Rattle.std.proofs.Common.{◌≡◌, inl, inr, ℕ, suc, ◌+◌, ◌<◌, List, [], ◌∷◌, ◌++◌, length, Option, Some, sym, ◌∙◌, ap, subst, arith}
use Rattle.std.specs.List.{slice_get}
use Rattle.std.specs.Option.{option_map}
use Rattle.std.proofs.lemmas.Option.{slice_get_cases, slice_get-map}
use Rattle.dura_value.specs.Items.{Identity, Entry, Floor}
use Rattle.commit_gate.specs.declared.ledger.Ledger as declared
use Rattle.commit_gate.specs.Ledgers.{Ledger, log_length}
use Rattle.commit_gate.specs.Unlost.{IsUnlost, IsFrameUnlost}
use Rattle.commit_gate.specs.Views.{floors_in, floors_of, whole_of}
use Rattle.hub_store.specs.Trail.{Settled, Said, of_part}
use Rattle.hub_store.specs.declared.way.Stage.{Stage}
use Rattle.gated_store.specs.Follows.{ledgers_at, GoesOnThere}
use Rattle.gated_store.specs.Kept.{LedgerFits, IsMade, Fits}
use Rattle.gated_store.proofs.Moving.{floors_are}
use Rattle.log_items.specs.Entries.{incarnations_in}

get_behind : {X : Type 0} (xs ys : List X) (k : ℕ) (y : X) → slice_get ys k ≡ Some y → slice_get (xs ++ ys) (length xs + k) ≡ Some y
get_behind [] ys k y is = let e : k ≡ 0 + k = omega arith in subst (λ (n : ℕ). slice_get ys n ≡ Some y) e is
get_behind (x ∷ xs) ys k y is = let e : suc (length xs + k) ≡ suc (length xs) + k = omega arith in subst (λ (n : ℕ). slice_get (x ∷ (xs ++ ys)) n ≡ Some y) e (get_behind xs ys k y is)

-- where it goes on
frame_uncut : (before whole : Ledger) (going : List Entry) (floors : List Floor) → whole.incarnations ≡ before.incarnations ++ incarnations_in going → IsUnlost whole floors → IsFrameUnlost (log_length before) floors going
frame_uncut before whole going floors list unlost k entry at floor there later =
    let mine : slice_get (incarnations_in going) k ≡ Some entry.incarnation = slice_get-map (λ (e : Entry). e.incarnation) going k ∙ ap (option_map (λ (e : Entry). e.incarnation)) at in
    let i = length before.incarnations + k in
    let here : slice_get whole.incarnations i ≡ Some entry.incarnation = ap (λ (l : List ℕ). slice_get l i) list ∙ get_behind before.incarnations (incarnations_in going) k entry.incarnation mine in
    let low = unlost i entry.incarnation here floor there later in
    omega (arith, low)

module _ (count : ℕ) (ledgers : ℕ → List Entry → Ledger) (readers : ℕ → ℕ → Identity) (may_make : ℕ → List Entry → List Said → ℕ → List Entry → Type 0) (goes : (latest : ℕ) (mine : List Entry) (told : List Said) (partition : ℕ) (going : List Entry) → may_make latest mine told partition going → GoesOnThere ledgers mine partition going)
    (latest : ℕ) (trail : List Settled) (told : List Said) (going : ℕ → Option (List Entry)) (stage : ℕ → Stage) (list : List declared.Ledger) where
  pub uncut : Fits count ledgers readers may_make latest trail told going stage list → (p : ℕ) (entries : List Entry) → p < count → going p ≡ Some entries → IsFrameUnlost (log_length (ledgers_at ledgers trail p)) (floors_of list p) entries
  uncut fits p entries below way = elim (slice_get_cases list p).1 [
    | inl (ledger, low, there, is) ↦
        let mine = of_part p trail in
        let here : LedgerFits ledgers readers count p mine (Some entries) ledger = subst (λ (o : Option (List Entry)). LedgerFits ledgers readers count p mine o ledger) way (fits.each p ledger there) in
        let on = goes latest mine told p entries (subst (IsMade may_make latest mine told p) way (fits.made p below)) in
        let made = here.comes.1 ∙ on.1.makes in
        subst (λ (f : List Floor). IsFrameUnlost (log_length (ledgers p mine)) f entries) (sym (floors_are list p ledger low (sym is)))
        (frame_uncut (ledgers p mine) (whole_of ledger) entries (floors_in ledger) (ap (λ (l : Ledger). l.incarnations) made) here.unlost)
    | inr (past, none) ↦ absurd (omega (arith, past, fits.many, below))
  ]
