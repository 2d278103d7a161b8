-- What a log without entries keeps, in the examples.
use Rattle.std.proofs.Common.{◌≡◌, ℕ, inl, inr, List, [], ◌∷◌, slice_set, refl, sym, subst, ◌∙◌, arith}
use Rattle.site_model.specs.History.{Change, wrote, synced, Leaves}
use Rattle.commit_log.specs.Segment.{header_at, frame_at}
use Rattle.part_items.specs.Examples.{empty_log}
use Rattle.part_items.specs.Kept.{entries_from, broken, keeps, kept_in}
use Rattle.hub_store.specs.Moments.SaidSoFar.{silent}
use Rattle.hub_store.specs.Examples.{settled_when, log_written, gate_opened, gate_synced, one_log, LogStands, GateWritten}

pub nothing_kept : kept_in 0 empty_log ≡ keeps (one_log.logs 0).header [] 33
unfolding header_at entries_from
nothing_kept = refl

-- its gate is open, and no frame stands behind it
abbrev opened : List ℕ
opened = slice_set empty_log 33 0xC3

opened_broken : kept_in 0 opened ≡ broken 34
unfolding header_at frame_at entries_from
opened_broken = refl

may_be_left : Leaves (wrote 33 1 (0xC3 ∷ []) ∷ synced ∷ wrote 0 34 empty_log ∷ []) opened
may_be_left = (empty_log, refl, record { before = refl; behind = refl; no_shorter = omega arith; no_longer = omega arith })

pub empty_stands : LogStands log_written []
empty_stands = record {
  lines = [];
  rightly = silent;
  spoken = refl;
  images = λ partition below image left. inl (33, subst (λ (bytes : List ℕ). kept_in 0 bytes ≡ keeps (one_log.logs 0).header [] 33) (sym left) nothing_kept);
  others = λ file none. refl;
}

pub not_settled : LogStands log_written (settled_when 0) → ⊥
not_settled stands = elim (stands.images 0 (omega arith) empty_log refl) [
  | inl kept ↦ let is = sym nothing_kept ∙ kept.1 in cc
  | inr next ↦ let is = sym nothing_kept ∙ next.keeps.1 in cc
]

pub not_without_frame : LogStands gate_opened [] → ⊥
not_without_frame stands = elim (stands.images 0 (omega arith) opened may_be_left) [
  | inl kept ↦ let is = sym opened_broken ∙ kept.1 in cc
  | inr next ↦ let is = sym opened_broken ∙ next.keeps.1 in cc
]

pub opened_last : GateWritten gate_opened
opened_last = record { gate = 33; bytes = 0xC3 ∷ []; before = synced ∷ wrote 0 34 empty_log ∷ []; last = refl; kept = nothing_kept }

pub synced_last : GateWritten gate_synced
synced_last = record { gate = 33; bytes = 0xC3 ∷ []; before = synced ∷ wrote 0 34 empty_log ∷ []; last = refl; kept = nothing_kept }

one_byte : (gate : ℕ) (bytes other : List ℕ) (before : List Change) → wrote 0 34 bytes ∷ [] ≡ wrote gate 1 other ∷ before → ⊥
one_byte gate bytes other before is = cc

pub not_whole : GateWritten log_written → ⊥
not_whole written = one_byte written.gate empty_log written.bytes written.before written.last
