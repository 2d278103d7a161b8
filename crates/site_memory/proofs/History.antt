-- How the history of a record goes on with one more entry.
use Rattle.std.proofs.Common.{◌≡◌, ℕ, ◌+◌, ◌-◌, ◌<◌, ◌≤◌, List, [], ◌∷◌, ◌++◌, length, take, drop, get_or, refl, sym, ◌∙◌, ap, arith}
use Rattle.std.proofs.lemmas.Bool.{le-leb}
use Rattle.std.proofs.lemmas.List.{take_more, take-append-drop, drop_more, drop-drop}
use Rattle.site_model.specs.History.{Step, on, said, wrote, synced, changes_of, content_of, writes_inside, saying, tape, back_to, AllInside}
use Rattle.site_model.proofs.Paths.{inside_on, and_true}
use Rattle.site_memory.specs.declared.kept.Kept.{Kept}
use Rattle.site_memory.specs.declared.kept.Kept.TheVariants.{Wrote, Byte, Synced, Said}
use Rattle.site_memory.specs.Record.{grown, next, replayed, history_of}

replayed_push : (entries : List Kept) (entry : Kept) (steps : List Step) → replayed (entries ++ entry ∷ []) steps ≡ next entry (replayed entries steps)
replayed_push [] entry steps = refl
replayed_push (first ∷ entries) entry steps = replayed_push entries entry (next first steps)

pub history_empty : history_of [] ≡ []
unfolding history_of
history_empty = refl

pub history_push : (entries : List Kept) (entry : Kept) → history_of (entries ++ entry ∷ []) ≡ next entry (history_of entries)
unfolding history_of
history_push entries entry = replayed_push entries entry []

-- a write with one byte more
pub history_byte : (entries : List Kept) (file at size byte : ℕ) (bytes : List ℕ) (steps : List Step)
    → history_of entries ≡ on file (wrote at size bytes) ∷ steps
    → history_of (entries ++ Byte byte ∷ []) ≡ on file (wrote at size (bytes ++ byte ∷ [])) ∷ steps
history_byte entries file at size byte bytes steps is = history_push entries (Byte byte) ∙ ap (grown byte) is

pub saying_push : (bytes : List ℕ) (byte : ℕ) (steps : List Step) → saying (bytes ++ byte ∷ []) steps ≡ said byte ∷ saying bytes steps
saying_push [] byte steps = refl
saying_push (first ∷ bytes) byte steps = saying_push bytes byte (said first ∷ steps)

pub history_said : (entries : List Kept) (byte : ℕ) (line : List ℕ) (steps : List Step)
    → history_of entries ≡ saying line steps
    → history_of (entries ++ Said byte ∷ []) ≡ saying (line ++ byte ∷ []) steps
history_said entries byte line steps is = history_push entries (Said byte) ∙ ap (λ (l : List Step). said byte ∷ l) is ∙ sym (saying_push line byte steps)

pub changes_saying : (file : ℕ) (line : List ℕ) (steps : List Step) → changes_of file (saying line steps) ≡ changes_of file steps
changes_saying file [] steps = refl
changes_saying file (byte ∷ line) steps = changes_saying file line (said byte ∷ steps)

pub inside_wrote : (entries : List Kept) (file at size : ℕ) (bytes : List ℕ) (steps : List Step)
    → history_of entries ≡ on file (wrote at size bytes) ∷ steps
    → AllInside steps → at ≤ length (content_of file steps) → length bytes ≤ size → AllInside (history_of entries)
inside_wrote entries file at size bytes steps is before within fits other =
    ap (λ (s : List Step). writes_inside (changes_of other s)) is
    ∙ inside_on file (wrote at size bytes) steps before
    (and_true (and_true (le-leb at (length (content_of file steps)) within) (le-leb (length bytes) size fits)) (before file)) other

pub inside_synced : (entries : List Kept) (file : ℕ) (steps : List Step) → history_of entries ≡ on file synced ∷ steps → AllInside steps → AllInside (history_of entries)
inside_synced entries file steps is before other =
    ap (λ (s : List Step). writes_inside (changes_of other s)) is ∙ inside_on file synced steps before (before file) other

pub inside_said : (entries : List Kept) (line : List ℕ) (steps : List Step) → history_of entries ≡ saying line steps → AllInside steps → AllInside (history_of entries)
inside_said entries line steps is before other =
    ap (λ (s : List Step). writes_inside (changes_of other s)) is ∙ ap writes_inside (changes_saying other line steps) ∙ before other

pub inside_empty : (entries : List Kept) → history_of entries ≡ [] → AllInside (history_of entries)
inside_empty entries is other = ap (λ (s : List Step). writes_inside (changes_of other s)) is

-- one entry more of a list
pub history_more : (entries : List Kept) (i : ℕ) (d : Kept) → i < length entries → history_of (take (i + 1) entries) ≡ next (get_or entries i d) (history_of (take i entries))
history_more entries i d below = ap history_of (take_more entries i d below) ∙ history_push (take i entries) (get_or entries i d)

pub length-grown : (byte : ℕ) (steps : List Step) → length (grown byte steps) ≡ length steps
length-grown byte [] = refl
length-grown byte (said other ∷ steps) = refl
length-grown byte (on file synced ∷ steps) = refl
length-grown byte (on file (wrote at size bytes) ∷ steps) = refl

pub tape-grown : (byte : ℕ) (steps : List Step) → tape (grown byte steps) ≡ tape steps
tape-grown byte [] = refl
tape-grown byte (said other ∷ steps) = refl
tape-grown byte (on file synced ∷ steps) = refl
tape-grown byte (on file (wrote at size bytes) ∷ steps) = refl

-- an entry that is a step of its own
pub next_step : (entry : Kept) (steps : List Step) → length (next entry steps) ≡ length steps + 1 → (step : Step) × (next entry steps ≡ step ∷ steps)
next_step (Wrote file at size) steps is = (on file (wrote at size []), refl)
next_step (Synced file) steps is = (on file synced, refl)
next_step (Said byte) steps is = (said byte, refl)
next_step (Byte byte) steps is = absurd (omega (arith, length-grown byte steps))

replayed-append : (front back : List Kept) (steps : List Step) → replayed (front ++ back) steps ≡ replayed back (replayed front steps)
replayed-append [] back steps = refl
replayed-append (entry ∷ front) back steps = replayed-append front back (next entry steps)

no_shorter : (entries : List Kept) (steps : List Step) → length steps ≤ length (replayed entries steps)
no_shorter [] steps = omega arith
no_shorter (Wrote file at size ∷ entries) steps = omega (arith, no_shorter entries (on file (wrote at size []) ∷ steps))
no_shorter (Synced file ∷ entries) steps = omega (arith, no_shorter entries (on file synced ∷ steps))
no_shorter (Said byte ∷ entries) steps = omega (arith, no_shorter entries (said byte ∷ steps))
no_shorter (Byte byte ∷ entries) steps = omega (arith, no_shorter entries (grown byte steps), length-grown byte steps)

stays_deeper : (entries : List Kept) (newer step : Step) (steps : List Step)
    → drop (length (replayed entries (newer ∷ step ∷ steps)) - length (step ∷ steps)) (replayed entries (newer ∷ step ∷ steps)) ≡ step ∷ steps
    → drop (length (replayed entries (newer ∷ step ∷ steps)) - length steps) (replayed entries (newer ∷ step ∷ steps)) ≡ steps
stays_deeper entries newer step steps is =
    ap (λ (n : ℕ). drop n (replayed entries (newer ∷ step ∷ steps))) one_more
    ∙ sym (drop-drop 1 (length (replayed entries (newer ∷ step ∷ steps)) - length (step ∷ steps)) (replayed entries (newer ∷ step ∷ steps)))
    ∙ ap (λ (s : List Step). drop 1 s) is
  where
    one_more : length (replayed entries (newer ∷ step ∷ steps)) - length steps ≡ length (replayed entries (newer ∷ step ∷ steps)) - length (step ∷ steps) + 1
    one_more = omega (arith, no_shorter entries (newer ∷ step ∷ steps))

-- what is below the newest step stays
stays_below : (entries : List Kept) (step : Step) (steps : List Step)
    → drop (length (replayed entries (step ∷ steps)) - length steps) (replayed entries (step ∷ steps)) ≡ steps
stays_below [] step steps = ap (λ (n : ℕ). drop n (step ∷ steps)) one
  where
    one : length (step ∷ steps) - length steps ≡ 1
    one = omega arith
stays_below (Wrote file at size ∷ entries) step steps = stays_deeper entries (on file (wrote at size [])) step steps (stays_below entries (on file (wrote at size [])) (step ∷ steps))
stays_below (Synced file ∷ entries) step steps = stays_deeper entries (on file synced) step steps (stays_below entries (on file synced) (step ∷ steps))
stays_below (Said byte ∷ entries) step steps = stays_deeper entries (said byte) step steps (stays_below entries (said byte) (step ∷ steps))
stays_below (Byte byte ∷ entries) (said other) steps = stays_below entries (said other) steps
stays_below (Byte byte ∷ entries) (on file synced) steps = stays_below entries (on file synced) steps
stays_below (Byte byte ∷ entries) (on file (wrote at size bytes)) steps = stays_below entries (on file (wrote at size (bytes ++ byte ∷ []))) steps

-- the history at the moment that ends before this entry
pub history_cut : (entries : List Kept) (i : ℕ) (d : Kept) → i < length entries
    → length (next (get_or entries i d) (history_of (take i entries))) ≡ length (history_of (take i entries)) + 1
    → history_of (take i entries) ≡ back_to (length (history_of (take i entries))) (history_of entries)
unfolding history_of
history_cut entries i d below one =
    let here : (step : Step) × (next (get_or entries i d) (replayed (take i entries) []) ≡ step ∷ replayed (take i entries) []) = next_step (get_or entries i d) (replayed (take i entries) []) one in
    let whole : replayed entries [] ≡ replayed (drop (i + 1) entries) (here.0 ∷ replayed (take i entries) []) =
    ap (λ (l : List Kept). replayed l []) (sym (take-append-drop i entries))
    ∙ replayed-append (take i entries) (drop i entries) []
    ∙ ap (λ (l : List Kept). replayed l (replayed (take i entries) [])) (drop_more entries i d below)
    ∙ ap (λ (s : List Step). replayed (drop (i + 1) entries) s) here.1 in
    sym (stays_below (drop (i + 1) entries) here.0 (replayed (take i entries) []))
    ∙ ap (λ (s : List Step). drop (length s - length (replayed (take i entries) [])) s) (sym whole)
