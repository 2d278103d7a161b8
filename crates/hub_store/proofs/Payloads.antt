-- What payloads keep.
use Rattle.std.proofs.Common.{◌≡◌, ℕ, ◌+◌, List, [], ◌∷◌, ◌++◌, length, Result, Ok, Err, refl, sym, ◌∙◌, ap, subst, append_assoc}
use Rattle.std.proofs.lemmas.List.{append-nil}
use Rattle.commit_log.specs.declared.header.Header.{Header}
use Rattle.site_model.specs.History.{Change, reads}
use Rattle.commit_log.specs.Segment.{◌>>=◌, segment, reading_of, first_gate, framed, segment_bytes}
use Rattle.commit_log.specs.States.{IsSynced}
use Rattle.commit_log.proofs.Written.{reads_closed}
use Rattle.dura_value.specs.Items.{Entry}
use Rattle.part_items.specs.Numbered.{Next, behind, behind_all, next_frame_in}
use Rattle.part_items.proofs.PayloadsKept.{reading_kept}
use Rattle.part_items.specs.Kept.{in_file, first_of, keeps, kept_in, decoded}

-- an image with these payloads keeps their entries
pub kept_payloads : (h : Header) (payloads : List (List ℕ)) (gate : ℕ) (entries : List Entry) (image : List ℕ) → reading_of image ≡ segment h payloads gate
    → decoded first_gate (first_of h) payloads ≡ Ok entries → kept_in h.partition image ≡ keeps h entries gate
kept_payloads h payloads gate entries image reads kept = reading_kept h.partition image h payloads gate entries reads refl kept

-- before the gate of a safe frame is opened the file reads as the payloads before
pub synced_reads : (h : Header) (payloads : List (List ℕ)) (payload : List ℕ) (gate next : ℕ) (changes : List Change) → IsSynced changes h payloads payload gate next → reading_of (reads changes) ≡ segment h payloads gate
synced_reads h payloads payload gate next changes stands =
    let there : reads changes ≡ segment_bytes h payloads ++ stands.byte ∷ (framed payload ++ 0 ∷ stands.tail) = stands.content ∙ append_assoc (segment_bytes h payloads) (stands.byte ∷ framed payload) (0 ∷ stands.tail) in
    subst (λ (l : List ℕ). reading_of l ≡ segment h payloads gate) (sym there) (reads_closed h payloads gate stands.byte (framed payload ++ 0 ∷ stands.tail) stands.ends stands.closed)

pub behind_more : (next : Next) (entries more : List Entry) → behind_all (behind_all next entries) more ≡ behind_all next (entries ++ more)
behind_more next [] more = refl
behind_more next (entry ∷ entries) more = behind_more (behind entry) entries more

bound : {A B : Type 0} (r : Result A ℕ) (f : A → Result B ℕ) (y : B) → (r >>= f) ≡ Ok y → (x : A) × (r ≡ Ok x) × (f x ≡ Ok y)
bound (Ok x) f y is = (x, refl, is)
bound (Err offset) f y is = cc

-- one payload more, which is the next frame
pub decoded_more : (gate : ℕ) (next : Next) (payloads : List (List ℕ)) (entries going : List Entry) (payload : List ℕ) → decoded gate next payloads ≡ Ok entries
    → next_frame_in (behind_all next entries) payload ≡ Ok going → decoded gate next (payloads ++ payload ∷ []) ≡ Ok (entries ++ going)
decoded_more gate next [] entries going payload kept reads =
    let empty : [] ≡ entries = cc in
    let first : next_frame_in next payload ≡ Ok going = subst (λ (l : List Entry). next_frame_in (behind_all next l) payload ≡ Ok going) (sym empty) reads in
    ap (λ (r : Result (List Entry) ℕ). in_file (gate + 5) r >>= λ e. Ok (e ++ [])) first
    ∙ ap (λ (l : List Entry). Ok l) (append-nil going ∙ ap (λ (l : List Entry). l ++ going) empty)
decoded_more gate next (first ∷ payloads) entries going payload kept reads =
    let rest : List (List ℕ) → List Entry → Result (List Entry) ℕ = λ ps e. decoded (gate + 5 + length first) (behind_all next e) ps >>= λ more. Ok (e ++ more) in
    let one = bound (in_file (gate + 5) (next_frame_in next first)) (rest payloads) entries kept in
    let two = bound (decoded (gate + 5 + length first) (behind_all next one.0) payloads) (λ more. Ok (one.0 ++ more)) entries one.2 in
    let parts = two.2 in
    let whole : one.0 ++ two.0 ≡ entries = cc in
    let behind_is : behind_all next entries ≡ behind_all (behind_all next one.0) two.0 = ap (behind_all next) (sym whole) ∙ sym (behind_more next one.0 two.0) in
    let more = decoded_more (gate + 5 + length first) (behind_all next one.0) payloads two.0 going payload two.1 (subst (λ (n : Next). next_frame_in n payload ≡ Ok going) behind_is reads) in
    ap (λ (r : Result (List Entry) ℕ). r >>= rest (payloads ++ payload ∷ [])) one.1
    ∙ ap (λ (r : Result (List Entry) ℕ). r >>= λ l. Ok (one.0 ++ l)) more
    ∙ ap (λ (l : List Entry). Ok l) (sym (append_assoc one.0 two.0 going) ∙ ap (λ (l : List Entry). l ++ going) whole)
