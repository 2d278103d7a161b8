-- A frame is written, or it isn't.
use Rattle.std.proofs.Common.{◌≡◌, ℕ, ◌+◌, ◌<◌, ◌≤◌, ◌^◌, List, ◌++◌, length, map, Option, Some, None, sym, ◌∙◌, ap, subst, arith}
use Rattle.std.specs.List.{All}
use Rattle.std.proofs.lemmas.List.{length-map}
use Rattle.dura_value.specs.Items.{Identity, Entry, Floor}
use Rattle.dura_value.specs.Views.{floor_of}
use Rattle.log_items.specs.Entries.{items_in}
use Rattle.log_items.specs.Plain.{entry_of, entries_of}
use Rattle.log_items.specs.declared.frames.Entry as entry_rows
use Rattle.log_items.specs.Streams.{Sent}
use Rattle.commit_gate.specs.declared.ledger.Ledger as declared
use Rattle.commit_gate.specs.Keeping.{GoesInside, AreOfOne, KeepsPlaces}
use Rattle.commit_gate.specs.Ledgers.{Ledger, log_length, with_frame, after_frame}
use Rattle.commit_gate.specs.Room.{HasRoom}
use Rattle.commit_gate.specs.Unlost.{IsFrameUnlost}
use Rattle.commit_gate.specs.Views.{floors_in, ledger_of, whole_of}
use Rattle.gated_store.specs.Kept.{LedgerFits}
use Rattle.gated_store.proofs.Moving.{rest_fits, frame_fits}

-- the frame that is under way
pub frame_is : (way : Option (List Entry)) (going shown : List Entry) → way ≡ Some going → way ≡ Some shown → going ≡ shown
frame_is way going shown one other = cc (one, other)

-- the same entries, by either list of rows
pub same_length : (a b : List entry_rows.Entry) (going : List Entry) → going ≡ entries_of a → going ≡ entries_of b → length a ≡ length b
same_length a b going one other = sym (length-map a entry_of) ∙ ap length (sym one ∙ other) ∙ length-map b entry_of

module _ (ledgers : ℕ → List Entry → Ledger) (readers : ℕ → ℕ → Identity) (count p : ℕ) (mine : List Entry) (before mid : declared.Ledger) (rested : LedgerFits ledgers readers count p mine None before)
    (places : KeepsPlaces before mid) (read : mid.readers ≡ before.readers) (same : ledger_of mid ≡ ledger_of before) (whole : whole_of mid ≡ whole_of before) where
  -- there is room for it
  pub room_fits : LedgerFits ledgers readers count p mine None mid
  room_fits = rest_fits count ledgers readers p mine before mid rested places read same (whole ∙ rested.comes ∙ sym same)

  module _ (now : declared.Ledger) (is : now ≡ mid) where
    pub now_fits : LedgerFits ledgers readers count p mine None now
    now_fits = subst (LedgerFits ledgers readers count p mine None) (sym is) room_fits

    pub now_short : (entries other : ℕ) → entries ≡ other → log_length (ledgers p mine) + other ≤ 2 ^ 62 → log_length (ledger_of now) + entries < 2 ^ 64
    now_short entries other same_too low = let at : log_length (ledger_of now) ≡ log_length (ledgers p mine) = ap log_length now_fits.settled in omega (arith, at, same_too, low)

    pub now_inside : (sent : List Sent) → All (GoesInside count) sent → All (GoesInside (length now.boxes.items)) sent
    now_inside sent inside = subst (λ (n : ℕ). All (GoesInside n) sent) (sym now_fits.sized.boxes) inside

    pub now_room : (entries other : ℕ) (sent : List Sent) → entries ≡ other → HasRoom mid other sent → HasRoom now entries sent
    now_room entries other sent same_too room = subst (λ (l : declared.Ledger). HasRoom l entries sent) (sym is) (subst (λ (n : ℕ). HasRoom mid n sent) (sym same_too) room)

    -- it is written
    pub written_fits : (last : declared.Ledger) (shown going : List Entry) (sent : List Sent) (floors : List Floor) → shown ≡ going → KeepsPlaces now last → last.readers ≡ now.readers → ledger_of last ≡ ledger_of now → whole_of last ≡ with_frame (ledger_of now) shown sent
        → AreOfOne count (items_in going) → ledgers p (mine ++ going) ≡ after_frame (ledgers p mine) going sent → floors ≡ floors_in before → IsFrameUnlost (log_length (ledgers p mine)) floors going → LedgerFits ledgers readers count p mine (Some going) last
    written_fits last shown going sent floors frame_is places_too read_too same_too whole_too inside makes floors_are unlost =
        let kept : floors ≡ floors_in now = floors_are ∙ ap (λ (f : _). map floor_of f.items) (sym (ap (λ (l : declared.Ledger). l.floors) is ∙ places.floors)) in
        frame_fits count ledgers readers p mine now last going sent now_fits places_too read_too same_too (subst (λ (f : List Entry). whole_of last ≡ with_frame (ledger_of now) f sent) frame_is whole_too) inside makes
        (subst (λ (f : List Floor). IsFrameUnlost (log_length (ledgers p mine)) f going) kept unlost)
