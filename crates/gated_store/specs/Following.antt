-- What may follow may follow later too.
use Rattle.std.proofs.Common.{◌≡◌, ◌≢◌, ℕ, ◌≤◌, List, ◌++◌, sym, ◌∙◌, ap, subst}
use Rattle.std.proofs.lemmas.List.{append-nil}
use Rattle.dura_value.specs.Items.{Entry}
use Rattle.commit_gate.proofs.Stay.{met_stays}
use Rattle.commit_gate.specs.Ledgers.{Ledger}
use Rattle.hub_store.specs.Trail.{Settled, Said, of_part, settling}
use Rattle.hub_store.proofs.Settling.{of_part-append, own_part, no_part}
use Rattle.gated_store.specs.Follows.{ledgers_at, Follows, GoesOnThere}

-- a partition's own entries once a frame was settled
pub own_after : (trail : List Settled) (p at : ℕ) (going : List Entry) → of_part p (trail ++ settling p at going) ≡ of_part p trail ++ going
own_after trail p at going = of_part-append p trail (settling p at going) ∙ ap (λ (l : List Entry). of_part p trail ++ l) (own_part p at going)

pub others_after : (trail : List Settled) (p at : ℕ) (going : List Entry) (q : ℕ) → q ≢ p → of_part q (trail ++ settling p at going) ≡ of_part q trail
others_after trail p at going q apart =
    of_part-append q trail (settling p at going) ∙ ap (λ (l : List Entry). of_part q trail ++ l) (no_part p q at going (λ e. apart (sym e))) ∙ append-nil (of_part q trail)

module _ (ledgers : ℕ → List Entry → Ledger) (may_make : ℕ → List Entry → List Said → ℕ → List Entry → Type 0) where
  pub still_said : ((latest : ℕ) (mine : List Entry) (told also : List Said) (partition : ℕ) (going : List Entry) → may_make latest mine told partition going → may_make latest mine (told ++ also) partition going)
      → (latest : ℕ) (trail : List Settled) (told also : List Said) (partition : ℕ) (going : List Entry) → Follows ledgers may_make latest trail told partition going → Follows ledgers may_make latest trail (told ++ also) partition going
  still_said still latest trail told also partition going follows = record { makes = still latest (of_part partition trail) told also partition going follows.makes; met = follows.met }

  pub later_follows : ((latest later : ℕ) (mine : List Entry) (told : List Said) (partition : ℕ) (going : List Entry) → latest ≤ later → may_make latest mine told partition going → may_make later mine told partition going)
      → (latest later : ℕ) (trail : List Settled) (told : List Said) (partition : ℕ) (going : List Entry) → latest ≤ later → Follows ledgers may_make latest trail told partition going → Follows ledgers may_make later trail told partition going
  later_follows still latest later trail told partition going above follows = record { makes = still latest later (of_part partition trail) told partition going above follows.makes; met = follows.met }

  pub still_settled : ((latest : ℕ) (mine : List Entry) (told : List Said) (partition : ℕ) (going : List Entry) → may_make latest mine told partition going → GoesOnThere ledgers mine partition going)
      → (latest : ℕ) (trail : List Settled) (told : List Said) (partition at : ℕ) (going : List Entry) (other : ℕ) (theirs : List Entry) → other ≢ partition → Follows ledgers may_make latest trail told partition going
      → Follows ledgers may_make latest trail told other theirs → Follows ledgers may_make latest (trail ++ settling partition at going) told other theirs
  still_settled goes latest trail told partition at going other theirs apart follows too =
      let mine = goes latest (of_part partition trail) told partition going follows.makes in
      let their = goes latest (of_part other trail) told other theirs too.makes in
      let now = trail ++ settling partition at going in
      record {
        makes = subst (λ (l : List Entry). may_make latest l told other theirs) (sym (others_after trail partition at going other apart)) too.makes;
        met = met_stays (ledgers_at ledgers trail) (ledgers_at ledgers now) partition going mine.0
            (λ x away. ap (ledgers x) (others_after trail partition at going x away))
            (ap (ledgers partition) (own_after trail partition at going) ∙ mine.1.makes)
            mine.1.reads follows.met other theirs their.1.reads too.met;
      }
