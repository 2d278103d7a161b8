-- More was said, and a later moment was heard of.
use Rattle.std.proofs.Common.{◌≡◌, ℕ, ◌≤◌, List, [], ◌++◌, Option, Some, None, Result, Ok, Err, OnOk, OnErr, sym, ◌∙◌}
use Rattle.std.proofs.lemmas.List.{append-nil}
use Rattle.dura_value.specs.Items.{Identity, Entry}
use Rattle.commit_gate.specs.declared.ledger.Ledger as declared
use Rattle.commit_gate.specs.Ledgers.{Ledger}
use Rattle.hub_store.specs.Trail.{Settled, Said, of_part}
use Rattle.hub_store.specs.declared.way.Stage.{Stage}
use Rattle.gated_store.specs.Kept.{IsMade, Fits}

module _ (count : ℕ) (ledgers : ℕ → List Entry → Ledger) (readers : ℕ → ℕ → Identity) (may_make : ℕ → List Entry → List Said → ℕ → List Entry → Type 0) where
  pub fits_says : ((latest : ℕ) (mine : List Entry) (told also : List Said) (partition : ℕ) (going : List Entry) → may_make latest mine told partition going → may_make latest mine (told ++ also) partition going)
      → (latest : ℕ) (trail : List Settled) (told also : List Said) (going : ℕ → Option (List Entry)) (stage : ℕ → Stage) (list : List declared.Ledger) → Fits count ledgers readers may_make latest trail told going stage list → Fits count ledgers readers may_make latest trail (told ++ also) going stage list
  fits_says still latest trail told also going stage list fits = record {
    many = fits.many;
    first = fits.first;
    grown = fits.grown;
    each = fits.each;
    made = λ p inside. said p (going p) (fits.made p inside);
    met = fits.met;
  }
    where
      said : (p : ℕ) (way : Option (List Entry)) → IsMade may_make latest (of_part p trail) told p way → IsMade may_make latest (of_part p trail) (told ++ also) p way
      said p None made = tt
      said p (Some entries) made = still latest (of_part p trail) told also p entries made

  pub fits_rises : ((latest later : ℕ) (mine : List Entry) (told : List Said) (partition : ℕ) (going : List Entry) → latest ≤ later → may_make latest mine told partition going → may_make later mine told partition going)
      → (latest later : ℕ) (trail : List Settled) (told : List Said) (going : ℕ → Option (List Entry)) (stage : ℕ → Stage) (list : List declared.Ledger) → latest ≤ later → Fits count ledgers readers may_make latest trail told going stage list → Fits count ledgers readers may_make later trail told going stage list
  fits_rises still latest later trail told going stage list above fits = record {
    many = fits.many;
    first = fits.first;
    grown = fits.grown;
    each = fits.each;
    made = λ p inside. rose p (going p) (fits.made p inside);
    met = fits.met;
  }
    where
      rose : (p : ℕ) (way : Option (List Entry)) → IsMade may_make latest (of_part p trail) told p way → IsMade may_make later (of_part p trail) told p way
      rose p None made = tt
      rose p (Some entries) made = still latest later (of_part p trail) told p entries above made

-- whatever saying answered, more or nothing was said
pub says_more : {E : Type 0} (r : Result (Unit {0}) E) (told now : List Said) (one : List Said) → OnOk r (now ≡ told ++ one) → OnErr r (now ≡ told) → (also : List Said) × (now ≡ told ++ also)
says_more (Ok x) told now one ok err = (one, ok)
says_more (Err e) told now one ok err = ([], err ∙ sym (append-nil told))
