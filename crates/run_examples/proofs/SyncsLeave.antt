-- What syncs of log files leave.
use Rattle.std.proofs.Common.{◌≡◌, inl, inr, ℕ, List, [], ◌∷◌, ◌++◌, length, length-append, refl, ap, arith}
use Rattle.engine_run.proofs.Shown.{syncs_tape}
use Rattle.log_files.specs.Fronts.{AreSyncs, synced_to}
use Rattle.log_files.proofs.FilesOpened.{stopped_contents}
use Rattle.site_model.specs.History.{Step, said, content_of, tape}

-- each file has the content that it had
pub syncs_leave : (count : ℕ) (mid : List Step) → AreSyncs count [] mid → content_of 16 mid ≡ []
syncs_leave count mid (most, below, inl is) = stopped_contents most [] (synced_to most []) mid refl (inl is) 16
syncs_leave count mid (most, below, inr last) = stopped_contents most [] (synced_to most []) mid refl (inr (inl last.1)) 16

-- nothing is said
pub never_speaks : (count byte : ℕ) (old : List Step) → AreSyncs count old (said byte ∷ old) → ⊥
never_speaks count byte old syncs =
    let same : tape old ++ byte ∷ [] ≡ tape old = syncs_tape count old (said byte ∷ old) syncs in
    let long = ap (λ (l : List ℕ). length l) same in
    let both = length-append (tape old) (byte ∷ []) in
    omega (arith, long, both)
