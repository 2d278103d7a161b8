-- What files keep, where lives begin, and what they are.
use Rattle.std.proofs.Common.{◌≡◌, ◌≤◌, ◌<◌, ◌==◌, ◌++◌, ◌∷◌, ℕ, zero, suc, Bool, true, false, if◌then◌else◌, List, [], Some, refl, sym, ap, subst, ◌∙◌, arith, length, length-append, inl, inr}
use Rattle.std.specs.List.{All, Contains}
use Rattle.commit_log.specs.Segment.{header_at, frame_at as framed_at}
use Rattle.dura_codec.specs.Fields.{several_at, run_at, count_at}
use Rattle.dura_value.specs.Dependencies.{Committed, Founded, named_by}
use Rattle.dura_value.specs.Dependencies.Founded.{none, one_more}
use Rattle.dura_value.specs.Items.{Entry}
use Rattle.flow_syntax.specs.Syntax.{Flows}
use Rattle.join_laws.proofs.Starting.{just_kept, none_kept, nothing_kept}
use Rattle.join_laws.specs.Joined.{KeepsOn, BeginsOn, IsOneLife, IsSettledIn}
use Rattle.many_logs.specs.Names.{committed_in, identities_in}
use Rattle.many_logs.specs.Placing.{Commit, AllBelow, of_partition}
use Rattle.many_logs.specs.Stands.{asked_at, AreKept}
use Rattle.open_logs.specs.Moments.{OpensOnly}
use Rattle.part_items.specs.Examples.{digest as given_digest}
use Rattle.part_items.specs.Grammar.{trim_at, item_at, members_at, entry_items_at}
use Rattle.part_items.specs.Kept.{entries_from}
use Rattle.part_items.specs.Logs.{logs_in, entries_in}
use Rattle.part_items.specs.Numbered.{position_at, incarnation_at, next_entry_at, next_entries_at, next_frame_at}
use Rattle.site_model.specs.History.{Step, wrote, reads, Leaves, IsImage, content_of}
use Rattle.site_model.specs.Moments.{Always}
use Rattle.site_model.specs.Moments.Always.{begins}
use Rattle.world_examples.specs.Histories.{byte_written, byte_open, byte_beyond, first_of, never_was, letting, letting_go, letting_files, quiet, behind_byte, settles_first, never_lived, WasOrOpened}

-- ---- what files keep

pub nothing_is_kept : (flows : Flows) (count digest : ℕ) → KeepsOn flows count digest [] (λ file. [])
nothing_is_kept flows count digest = nothing_kept flows count digest (λ file. []) (record { each = λ file. refl })

pub not_kept : (flows : Flows) (digest : ℕ) → Founded (identities_in (first_of 0 ∷ [])) (committed_in []) × (KeepsOn flows 1 digest (first_of 0 ∷ []) (λ file. []) → ⊥)
not_kept flows digest = (none, λ keeps. let there : Some [] ≡ Some ((first_of 0).entry ∷ of_partition 0 keeps.more) = keeps.kept.kept 0 (omega arith) in cc there)

of_two : (P : ℕ → Type 0) → P 0 → P 1 → (partition : ℕ) → partition < 2 → P partition
of_two P first second zero below = first
of_two P first second (suc zero) below = second
of_two P first second (suc (suc more)) below = absurd (omega (arith, below))

first_kept : entries_in (logs_in (asked_at 2 given_digest 0) letting_files) ≡ Some []
unfolding header_at entries_from
first_kept = refl

second_kept : entries_in (logs_in (asked_at 2 given_digest 1) letting_files) ≡ Some (letting ∷ [])
unfolding several_at run_at count_at trim_at item_at members_at entry_items_at position_at incarnation_at next_entry_at next_entries_at next_frame_at header_at framed_at entries_from
second_kept = refl

letting_kept : (flows : Flows) → AreKept flows 2 given_digest letting_files (letting_go ∷ [])
letting_kept flows = record {
  below = (omega arith, tt);
  kept = of_two (λ p. entries_in (logs_in (asked_at 2 given_digest p) letting_files) ≡ Some (of_partition p (letting_go ∷ []))) first_kept second_kept;
  states = _;
  made = refl;
  given = ((tt, λ next is. tt), λ next is. tt);
}

pub kept_on : (flows : Flows) → KeepsOn flows 2 given_digest (letting_go ∷ []) letting_files
kept_on flows = just_kept flows 2 given_digest (letting_go ∷ []) letting_files (letting_kept flows)

-- where neither of two partitions has an entry there is none
none_left : (run : List Commit) → AllBelow 2 run → of_partition 0 run ≡ [] → of_partition 1 run ≡ [] → run ≡ []
none_left [] below first second = refl
none_left (one ∷ run) below first second = absurd (by one.partition below.0 first second)
  where
    by : (p : ℕ) → p < 2 → (if p == 0 then one.entry ∷ of_partition 0 run else of_partition 0 run) ≡ [] → (if p == 1 then one.entry ∷ of_partition 1 run else of_partition 1 run) ≡ [] → ⊥
    by zero low first second = cc first
    by (suc zero) low first second = cc second
    by (suc (suc p)) low first second = omega (arith, low)

-- where only the second has one there is just that
one_left : (run : List Commit) (entry : Entry) → AllBelow 2 run → of_partition 0 run ≡ [] → of_partition 1 run ≡ entry ∷ [] → run ≡ record { partition = 1; entry = entry } ∷ []
one_left [] entry below first second = absurd (cc second)
one_left (one ∷ run) entry below first second = by one.partition refl below.0 first second
  where
    by : (p : ℕ) → one.partition ≡ p → p < 2 → (if p == 0 then one.entry ∷ of_partition 0 run else of_partition 0 run) ≡ [] → (if p == 1 then one.entry ∷ of_partition 1 run else of_partition 1 run) ≡ entry ∷ [] → one ∷ run ≡ record { partition = 1; entry = entry } ∷ []
    by zero same low first second = absurd (cc first)
    by (suc zero) same low first second =
        let here : one.entry ≡ entry = cc second in
        let rest : run ≡ [] = none_left run below.1 first (cc second) in
        λ i. record { partition = same i; entry = here i } ∷ rest i
    by (suc (suc p)) same low first second = absurd (omega (arith, low))

-- the only entry that came names entries that were recovered, of which there are none
not_one : (first last e : Committed) (more : List Committed) → first ∷ (more ++ last ∷ []) ≡ e ∷ [] → ⊥
not_one first last e [] is = cc is
not_one first last e (next ∷ more) is = cc is

one_founded : {entries : List Committed} → Founded [] entries → (e : Committed) → entries ≡ e ∷ [] → All (Contains []) (named_by e.items)
one_founded none e is = absurd (cc is)
one_founded (one_more {entries = []} last before it) e is = let same : last ≡ e = cc is in subst (λ (x : Committed). All (Contains []) (named_by x.items)) same it.named
one_founded (one_more {entries = first ∷ more} last before it) e is = absurd (not_one first last e more is)

not_founded : (flows : Flows) → KeepsOn flows 2 given_digest [] letting_files → ⊥
not_founded flows keeps =
    let first : of_partition 0 keeps.more ≡ [] = let both : Some [] ≡ Some (of_partition 0 keeps.more) = sym first_kept ∙ keeps.kept.kept 0 (omega arith) in cc both in
    let second : of_partition 1 keeps.more ≡ letting ∷ [] = let both : Some (letting ∷ []) ≡ Some (of_partition 1 keeps.more) = sym second_kept ∙ keeps.kept.kept 1 (omega arith) in sym (cc both) in
    let is : keeps.more ≡ letting_go ∷ [] = one_left keeps.more letting keeps.kept.below first second in
    let there : Contains [] never_was = one_founded keeps.founded (record { name = _; items = letting.items }) (ap committed_in is) 0 never_was (omega arith) in
    omega (arith, there.1)

pub unfounded : (flows : Flows) → AreKept flows 2 given_digest letting_files (letting_go ∷ []) × (KeepsOn flows 2 given_digest [] letting_files → ⊥)
unfounded flows = (letting_kept flows, not_founded flows)

-- ---- where lives begin

pub begins_behind : BeginsOn byte_written []
begins_behind = record {
  reads = record { each = λ file. gone (file == 0) };
  leaves = λ image is. record { each = λ file. subst (Leaves (if file == 0 then wrote 0 1 (7 ∷ []) ∷ [] else [])) (sym (is.each file)) (gone (file == 0)) };
}
  where
    gone : (test : Bool) → Leaves (if test then wrote 0 1 (7 ∷ []) ∷ [] else []) []
    gone true = ([], refl, record { before = refl; behind = refl; no_shorter = omega arith; no_longer = omega arith })
    gone false = refl

-- a list of no length is empty
no_length : (bytes : List ℕ) → length bytes ≤ 0 → bytes ≡ []
no_length [] low = refl
no_length (byte ∷ bytes) low = absurd (omega (arith, low))

pub not_read : ((image : ℕ → List ℕ) → IsImage byte_beyond image → IsImage [] image) × (BeginsOn [] byte_beyond → ⊥)
not_read = (
  λ image is. record { each = λ file. empty_left (file == 0) (image file) (is.each file) },
  λ on. let there : 7 ∷ [] ≡ [] = on.reads.each 0 in cc there,
)
  where
    empty_left : (test : Bool) (bytes : List ℕ) → Leaves (if test then wrote 0 0 (7 ∷ []) ∷ [] else []) bytes → bytes ≡ []
    empty_left true bytes left = no_length bytes (let before = ap length left.1 in let long = left.2.no_longer in omega (arith, before, long))
    empty_left false bytes left = left

pub not_left : IsImage [] (λ file. content_of file byte_open) × (BeginsOn [] byte_open → ⊥)
not_left = (
  record { each = λ file. reads_none (file == 0) },
  λ on. let there : 7 ∷ [] ≡ [] = (on.leaves (λ file. if file == 0 then 7 ∷ [] else []) (record { each = λ file. torn (file == 0) })).each 0 in cc there,
)
  where
    reads_none : (test : Bool) → reads (if test then wrote 0 1 [] ∷ [] else []) ≡ []
    reads_none true = refl
    reads_none false = refl

    torn : (test : Bool) → Leaves (if test then wrote 0 1 [] ∷ [] else []) (if test then 7 ∷ [] else [])
    torn true = ([], refl, record { before = refl; behind = refl; no_shorter = omega arith; no_longer = omega arith })
    torn false = refl

-- ---- lives

opens : (flows : Flows) (count digest : ℕ) (steps : List Step) → OpensOnly flows count digest steps steps
opens flows count digest steps run kept = begins (record { silent = refl; images = λ image is. inl is; others = λ file is. refl })

pub is_one : (flows : Flows) (count digest : ℕ) → IsOneLife flows count digest (quiet 0)
is_one flows count digest = record { lived = inr (opens flows count digest [], refl); begun = omega arith; within = omega arith }

-- where nothing happened, logs were opened before nothing happened
none_before : {P : List Step → Type 0} (steps : List Step) → Always P steps [] → steps ≡ []
none_before steps (begins here) = refl

-- files without bytes keep no entry
keeps_none : (flows : Flows) (count digest : ℕ) (more : List Commit) → AreKept flows count digest (λ file. []) (first_of 0 ∷ more) → ⊥
keeps_none flows count digest more kept = let there : Some [] ≡ Some ((first_of 0).entry ∷ of_partition 0 more) = kept.kept 0 kept.below.0 in cc there

-- an entry that was settled is kept
not_lived : (flows : Flows) (count digest : ℕ) → WasOrOpened flows count digest never_lived → ⊥
not_lived flows count digest (inl went) =
    let none : went.origin.steps ≡ [] = none_before went.origin.steps went.further in
    let long = ap length none in
    let on = (went.crash [] (none_kept flows count digest (λ file. []) (record { each = λ file. refl })) 0 (omega (arith, long)) (omega arith) (λ file. []) (record { each = λ file. refl })).1 in
    keeps_none flows count digest _ on.kept
not_lived flows count digest (inr opened) = let nothing = opened.1 in cc nothing

pub lacks_lived : (flows : Flows) (count digest : ℕ) → (0 ≤ 0) × (0 ≤ 0) × (IsOneLife flows count digest never_lived → ⊥)
lacks_lived flows count digest = (omega arith, omega arith, λ one. not_lived flows count digest one.lived)

pub lacks_begun : (flows : Flows) (count digest : ℕ) → WasOrOpened flows count digest (behind_byte 0) × (0 ≤ 1) × (IsOneLife flows count digest (behind_byte 0) → ⊥)
lacks_begun flows count digest = (inr (opens flows count digest (behind_byte 0).old, refl), omega arith, λ one. let late : 1 ≤ 0 = one.begun in omega (arith, late))

pub lacks_within : (flows : Flows) (count digest : ℕ) → WasOrOpened flows count digest (quiet 1) × (0 ≤ 1) × (IsOneLife flows count digest (quiet 1) → ⊥)
lacks_within flows count digest = (inr (opens flows count digest [], refl), omega arith, λ one. let late : 1 ≤ 0 = one.within in omega (arith, late))

-- ---- what is settled in a run

pub settled_there : IsSettledIn (first_of 1 ∷ first_of 0 ∷ first_of 2 ∷ []) (settles_first 1)
settled_there = record { front = first_of 1 ∷ []; rest = first_of 2 ∷ []; split = refl }

pub settled_later : IsSettledIn [] (settles_first 0)
settled_later = record { front = []; rest = []; split = refl }

pub settled_nowhere : IsSettledIn [] (settles_first 1) → ⊥
settled_nowhere is =
    let e = ap length is.split in
    let f = length-append (is.front ++ first_of 0 ∷ []) is.rest in
    let g = length-append is.front (first_of 0 ∷ []) in
    omega (arith, e, f, g)

-- where the run is of another entry
not_other : (front rest : List Commit) → first_of 1 ∷ [] ≡ (front ++ first_of 0 ∷ []) ++ rest → ⊥
not_other [] rest is = let here : first_of 1 ≡ first_of 0 = cc is in let e : 1 ≡ 0 = ap (λ (one : Commit). one.partition) here in omega (arith, e)
not_other (one ∷ front) rest is =
    let e = ap length is in
    let f = length-append (front ++ first_of 0 ∷ []) rest in
    let g = length-append front (first_of 0 ∷ []) in
    omega (arith, e, f, g)

pub settled_elsewhere : IsSettledIn (first_of 1 ∷ []) (settles_first 1) → ⊥
settled_elsewhere is = not_other is.front is.rest is.split
