-- Rows fit on, where one partition's frame moved.
use Rattle.std.proofs.Common.{◌≡◌, ◌≢◌, inl, inr, true, ℕ, ◌<◌, List, ◌++◌, length, Option, Some, None, sym, ◌∙◌, ap, subst, arith}
use Rattle.std.specs.List.{slice_get}
use Rattle.std.proofs.Math.ListN.{set}
use Rattle.std.proofs.lemmas.Bool.{cases_eq}
use Rattle.std.proofs.lemmas.List.{length-set, get_or-set_same, get_or-set_other}
use Rattle.std.proofs.lemmas.Option.{slice_get_within, slice_get-get_or, get_or_from_slice_get}
use Rattle.dura_value.specs.Items.{Identity, Entry}
use Rattle.commit_gate.specs.declared.ledger.Ledger as declared
use Rattle.commit_gate.specs.Met.{AreMet}
use Rattle.commit_gate.specs.Ledgers.{Ledger}
use Rattle.hub_store.specs.Trail.{Settled, Said, of_part, settling}
use Rattle.hub_store.specs.declared.way.Stage.{Stage}
use Rattle.hub_store.specs.Ways.{is_tried}
use Rattle.gated_store.specs.Following.{own_after, others_after, still_settled}
use Rattle.gated_store.specs.Follows.{ledgers_at, GoesOnThere}
use Rattle.gated_store.specs.Kept.{LedgerFits, IsMade, IsMetAt, Fits}
use Rattle.gated_store.specs.Kept.Grown.{one_more}

-- what stands in a list where one place was written
pub at_same : {X : Type 0} (xs : List X) (i : ℕ) (x y : X) → i < length xs → slice_get (set xs i x) i ≡ Some y → y ≡ x
at_same xs i x y low is = sym (get_or_from_slice_get (set xs i x) i y x is) ∙ get_or-set_same xs i x x low

pub at_other : {X : Type 0} (xs : List X) (i j : ℕ) (x y : X) → j ≢ i → slice_get (set xs i x) j ≡ Some y → slice_get xs j ≡ Some y
at_other xs i j x y apart is =
    let low : j < length xs = omega (arith, slice_get_within (set xs i x) j y is, length-set xs i x) in
    slice_get-get_or xs j y low ∙ ap (λ (z : _). Some z) (sym (get_or-set_other xs i j x y apart) ∙ get_or_from_slice_get (set xs i x) j y y is)

module _ (count : ℕ) (ledgers : ℕ → List Entry → Ledger) (readers : ℕ → ℕ → Identity) (may_make : ℕ → List Entry → List Said → ℕ → List Entry → Type 0) (latest : ℕ) (told : List Said) (p : ℕ) (going new_going : ℕ → Option (List Entry)) (stage new_stage : ℕ → Stage) (list : List declared.Ledger)
    (others : (q : ℕ) → q ≢ p → new_going q ≡ going q) (stages : (q : ℕ) → q ≢ p → new_stage q ≡ stage q) where
  -- nothing was settled
  pub fits_moved : (trail : List Settled) (ledger : declared.Ledger) → p < count → Fits count ledgers readers may_make latest trail told going stage list → LedgerFits ledgers readers count p (of_part p trail) (new_going p) ledger → IsMade may_make latest (of_part p trail) told p (new_going p)
      → (is_tried (new_stage p) ≡ true → IsMetAt ledgers trail p (new_going p)) → Fits count ledgers readers may_make latest trail told new_going new_stage (set list p ledger)
  fits_moved trail ledger below fits here made met = record {
    many = length-set list p ledger ∙ fits.many;
    first = fits.first;
    grown = fits.grown;
    each = λ q r is. elim (cases_eq q p) [
      | inl same ↦
          let at : slice_get (set list p ledger) p ≡ Some r = subst (λ (k : ℕ). slice_get (set list p ledger) k ≡ Some r) same is in
          let row_is : r ≡ ledger = at_same list p ledger r (omega (arith, fits.many)) at in
          subst (λ (k : ℕ). LedgerFits ledgers readers count k (of_part k trail) (new_going k) r) (sym same) (subst (LedgerFits ledgers readers count p (of_part p trail) (new_going p)) (sym row_is) here)
      | inr apart ↦ subst (λ (g : Option (List Entry)). LedgerFits ledgers readers count q (of_part q trail) g r) (sym (others q apart)) (fits.each q r (at_other list p q ledger r apart is))
    ];
    made = λ q inside. elim (cases_eq q p) [
      | inl same ↦ subst (λ (k : ℕ). IsMade may_make latest (of_part k trail) told k (new_going k)) (sym same) made
      | inr apart ↦ subst (IsMade may_make latest (of_part q trail) told q) (sym (others q apart)) (fits.made q inside)
    ];
    met = λ q inside gated. elim (cases_eq q p) [
      | inl same ↦ subst (λ (k : ℕ). IsMetAt ledgers trail k (new_going k)) (sym same) (met (subst (λ (k : ℕ). is_tried (new_stage k) ≡ true) same gated))
      | inr apart ↦ subst (IsMetAt ledgers trail q) (sym (others q apart)) (fits.met q inside (ap is_tried (sym (stages q apart)) ∙ gated))
    ];
  }

  -- another partition's frame that is met stays met
  met_still : ((latest : ℕ) (mine : List Entry) (told : List Said) (partition : ℕ) (going : List Entry) → may_make latest mine told partition going → GoesOnThere ledgers mine partition going) → (trail : List Settled) (at : ℕ) (mine : List Entry)
      → may_make latest (of_part p trail) told p mine → AreMet (ledgers_at ledgers trail) p mine → (q : ℕ) → q ≢ p → (theirs : Option (List Entry)) → IsMade may_make latest (of_part q trail) told q theirs → IsMetAt ledgers trail q theirs → IsMetAt ledgers (trail ++ settling p at mine) q theirs
  met_still goes trail at mine makes met q apart None made has = tt
  met_still goes trail at mine makes met q apart (Some theirs) made has =
      let after = still_settled ledgers may_make goes latest trail told p at mine q theirs apart (record { makes = makes; met = met }) (record { makes = made; met = has }) in after.met

  -- p's frame was settled
  pub fits_settled : ((latest : ℕ) (mine : List Entry) (told : List Said) (partition : ℕ) (going : List Entry) → may_make latest mine told partition going → GoesOnThere ledgers mine partition going) → (trail : List Settled) (at : ℕ) (mine : List Entry) (ledger : declared.Ledger)
      → p < count → going p ≡ Some mine → is_tried (stage p) ≡ true → new_going p ≡ None → (is_tried (new_stage p) ≡ true → ⊥) → Fits count ledgers readers may_make latest trail told going stage list → LedgerFits ledgers readers count p (of_part p trail ++ mine) None ledger
      → Fits count ledgers readers may_make latest (trail ++ settling p at mine) told new_going new_stage (set list p ledger)
  fits_settled goes trail at mine ledger below way gate rests moved fits here =
      let now = trail ++ settling p at mine in
      let makes : may_make latest (of_part p trail) told p mine = subst (IsMade may_make latest (of_part p trail) told p) way (fits.made p below) in
      let met : AreMet (ledgers_at ledgers trail) p mine = subst (IsMetAt ledgers trail p) way (fits.met p below gate) in
      let here_now : LedgerFits ledgers readers count p (of_part p now) (new_going p) ledger =
      subst (λ (g : Option (List Entry)). LedgerFits ledgers readers count p (of_part p now) g ledger) (sym rests) (subst (λ (l : List Entry). LedgerFits ledgers readers count p l None ledger) (sym (own_after trail p at mine)) here) in
      record {
        many = length-set list p ledger ∙ fits.many;
        first = fits.first;
        grown = one_more latest told p at mine fits.grown (record { makes = makes; met = met });
        each = λ q r is. elim (cases_eq q p) [
          | inl same ↦
              let there : slice_get (set list p ledger) p ≡ Some r = subst (λ (k : ℕ). slice_get (set list p ledger) k ≡ Some r) same is in
              let row_is : r ≡ ledger = at_same list p ledger r (omega (arith, fits.many)) there in
              subst (λ (k : ℕ). LedgerFits ledgers readers count k (of_part k now) (new_going k) r) (sym same) (subst (LedgerFits ledgers readers count p (of_part p now) (new_going p)) (sym row_is) here_now)
          | inr apart ↦
              subst (λ (g : Option (List Entry)). LedgerFits ledgers readers count q (of_part q now) g r) (sym (others q apart))
              (subst (λ (l : List Entry). LedgerFits ledgers readers count q l (going q) r) (sym (others_after trail p at mine q apart)) (fits.each q r (at_other list p q ledger r apart is)))
        ];
        made = λ q inside. elim (cases_eq q p) [
          | inl same ↦ subst (λ (k : ℕ). IsMade may_make latest (of_part k now) told k (new_going k)) (sym same) (subst (IsMade may_make latest (of_part p now) told p) (sym rests) tt)
          | inr apart ↦ subst (IsMade may_make latest (of_part q now) told q) (sym (others q apart)) (subst (λ (l : List Entry). IsMade may_make latest l told q (going q)) (sym (others_after trail p at mine q apart)) (fits.made q inside))
        ];
        met = λ q inside gated. elim (cases_eq q p) [
          | inl same ↦ absurd (moved (subst (λ (k : ℕ). is_tried (new_stage k) ≡ true) same gated))
          | inr apart ↦
              subst (IsMetAt ledgers now q) (sym (others q apart)) (met_still goes trail at mine makes met q apart (going q) (fits.made q inside) (fits.met q inside (ap is_tried (sym (stages q apart)) ∙ gated)))
        ];
      }
