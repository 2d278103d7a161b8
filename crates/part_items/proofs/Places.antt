-- What is read from the front leaves the bytes from a place on.
use Rattle.std.proofs.Common.{◌≡◌, ℕ, zero, suc, ◌+◌, ◌-◌, ◌<◌, ◌≤◌, List, [], ◌∷◌, ◌++◌, length, get_or, take, drop, Ok, sym, ap, ◌∙◌, append_assoc, arith}
use Rattle.std.specs.Int.{w16, to_be_bytes}
use Rattle.std.proofs.lemmas.List.{take-append-drop, length-append}
use Rattle.std.proofs.Math.Seq.{drop-append_seam}
use Rattle.dura_value.specs.Items.{Entry}
use Rattle.dura_codec.specs.Fields.{Read}
use Rattle.part_items.specs.Fits.{AreBytes}
use Rattle.part_items.specs.Grammar.{members_at}
use Rattle.part_items.specs.Numbered.{Next, next_entry_at}
use Rattle.part_items.specs.Spelling.{spell_entry}
use Rattle.part_items.proofs.Steps.{rest_are}
use Rattle.part_items.proofs.OnlyItems.{members_only, entry_only}
use Rattle.part_items.proofs.NumberedFrames.{entry_is}

-- numbers that fit a byte are bytes
pub are_bytes : (bytes : List ℕ) → ((i : ℕ) → get_or bytes i 0 < 256) → AreBytes bytes
are_bytes [] fits i default within = absurd (omega (arith, within))
are_bytes (byte ∷ bytes) fits zero default within = fits 0
are_bytes (byte ∷ bytes) fits (suc i) default within = are_bytes bytes (λ k. fits (suc k)) i default (omega (arith, within))

-- what lies behind a front lies from a place on
from_place : (bytes front rest : List ℕ) → bytes ≡ front ++ rest → (length rest ≤ length bytes) × (rest ≡ drop (length bytes - length rest) bytes)
from_place bytes front rest is =
    let long : length bytes ≡ length front + length rest = ap (λ (l : List ℕ). length l) is ∙ length-append front rest in
    let place : length bytes - length rest ≡ length front = omega (arith, long) in
    (omega (arith, long), sym (ap (λ (n : ℕ). drop n bytes) place ∙ ap (drop (length front)) is ∙ drop-append_seam front rest))

-- what was read of bytes, with the rest as the bytes from a place on
abbrev LeavesPlace : {X : Type 0} → (List ℕ → Read X) → (bytes : List ℕ) → (at : ℕ) → X × List ℕ → Type 0
LeavesPlace grammar bytes at read = (length read.1 ≤ length bytes) × (grammar (drop at bytes) ≡ Ok (read.0, drop (length bytes - length read.1) bytes))

left_from : {X : Type 0} (grammar : List ℕ → Read X) (bytes front : List ℕ) (at : ℕ) (read : X × List ℕ) → drop at bytes ≡ front ++ read.1 → grammar (drop at bytes) ≡ Ok read → LeavesPlace grammar bytes at read
left_from grammar bytes front at read split is =
    let whole : bytes ≡ (take at bytes ++ front) ++ read.1 =
    sym (take-append-drop at bytes) ∙ ap (λ (l : List ℕ). take at bytes ++ l) split ∙ sym (append_assoc (take at bytes) front read.1) in
    let place = from_place bytes (take at bytes ++ front) read.1 whole in
    (place.0, is ∙ ap (λ (l : List ℕ). Ok (read.0, l)) place.1)

pub members_left : (bytes : List ℕ) (read : ℕ × List ℕ) → ((i : ℕ) → get_or bytes i 0 < 256) → members_at bytes ≡ Ok read → LeavesPlace members_at bytes 0 read
members_left bytes read fits is = left_from members_at bytes (to_be_bytes w16 read.0) 0 read (members_only bytes read (are_bytes bytes fits) is) is

pub entry_left : (next : Next) (bytes : List ℕ) (at : ℕ) (read : Entry × List ℕ) → ((i : ℕ) → get_or bytes i 0 < 256) → next_entry_at next (drop at bytes) ≡ Ok read → LeavesPlace (next_entry_at next) bytes at read
entry_left next bytes at read fits is =
    let behind : AreBytes (drop at bytes) = rest_are bytes (take at bytes) (drop at bytes) (sym (take-append-drop at bytes)) (are_bytes bytes fits) in
    left_from (next_entry_at next) bytes (spell_entry read.0) at read (entry_only (drop at bytes) read behind (entry_is next (drop at bytes) read is).reads) is
