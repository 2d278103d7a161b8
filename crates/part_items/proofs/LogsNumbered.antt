-- The entries of a partition's log are numbered from position 0 on.
use Rattle.std.proofs.Common.{◌≡◌, ◌==◌, ℕ, Bool, true, false, cond, List, [], Option, Some, None, refl, subst, eqb-true}
use Rattle.commit_log.specs.declared.header.Header.{Header}
use Rattle.dura_value.specs.Items.{Entry}
use Rattle.part_items.specs.Numbered.{IsNumbered}
use Rattle.part_items.specs.Kept.{Kept, nothing, broken, keeps, first_of, kept_in}
use Rattle.part_items.specs.Logs.{Asked, first_next, Refusal, first_log, second_log, base_place, damaged_at, fault_of, same_base, late_base, or_else, the_log, unless, logs_of, logs_in, entries_in}
use Rattle.part_items.proofs.PayloadsKept.{kept_only}
use Rattle.part_items.proofs.PayloadsDecoded.{decoded_numbered}

-- what a file keeps is numbered from its base position on
abbrev IsKept : Kept → Type 0
IsKept nothing = Unit {0}
IsKept (broken offset) = Unit {0}
IsKept (keeps header entries gate) = IsNumbered (first_of header) entries

file_numbered : (partition : ℕ) (bytes : List ℕ) (kept : Kept) → kept_in partition bytes ≡ kept → IsKept kept
file_numbered partition bytes nothing is = tt
file_numbered partition bytes (broken offset) is = tt
file_numbered partition bytes (keeps header entries gate) is = let only = kept_only partition bytes header entries gate is in decoded_numbered 33 (first_of header) only.0 entries only.3

pub no_more : {X : Type 0} (one other : Option X) → or_else one other ≡ None → (one ≡ None) × (other ≡ None)
no_more None other is = (refl, is)
no_more (Some x) other is = absurd (cc is)

-- what isn't refused begins at position 0
begins_first : (file : ℕ) (header : Header) (entries : List Entry) (gate : ℕ) → late_base file (keeps header entries gate) ≡ None → IsNumbered (first_of header) entries → IsNumbered first_next entries
begins_first file header entries gate is numbered = by (header.base == 0) refl is
  where
    by : (test : Bool) → (header.base == 0) ≡ test → cond test None (Some (damaged_at file base_place)) ≡ None → IsNumbered first_next entries
    by true same is = subst (λ (base : ℕ). IsNumbered (record { position = base; incarnation = 0 }) entries) (eqb-true header.base 0 same) numbered
    by false other is = absurd (cc is)

same_entries : (entries found : List Entry) → Some entries ≡ Some found → entries ≡ found
same_entries entries found is = cc is

log_numbered : (partition file other : ℕ) (one two : Kept) (entries : List Entry) → IsKept one → IsKept two → late_base file one ≡ None → late_base other two ≡ None → entries_in (the_log partition one two) ≡ Some entries → IsNumbered first_next entries
log_numbered partition file other (keeps header found gate) two entries kept kept_too early early_too is = subst (IsNumbered first_next) (same_entries found entries is) (begins_first file header found gate early kept)
log_numbered partition file other nothing (keeps header found gate) entries kept kept_too early early_too is = subst (IsNumbered first_next) (same_entries found entries is) (begins_first other header found gate early_too kept_too)
log_numbered partition file other (broken offset) (keeps header found gate) entries kept kept_too early early_too is = subst (IsNumbered first_next) (same_entries found entries is) (begins_first other header found gate early_too kept_too)
log_numbered partition file other nothing nothing entries kept kept_too early early_too is = subst (IsNumbered first_next) (same_entries [] entries is) tt
log_numbered partition file other nothing (broken offset) entries kept kept_too early early_too is = subst (IsNumbered first_next) (same_entries [] entries is) tt
log_numbered partition file other (broken offset) nothing entries kept kept_too early early_too is = subst (IsNumbered first_next) (same_entries [] entries is) tt
log_numbered partition file other (broken offset) (broken place) entries kept kept_too early early_too is = subst (IsNumbered first_next) (same_entries [] entries is) tt

logs_numbered : (asked : Asked) (one two : Kept) (entries : List Entry) → IsKept one → IsKept two → entries_in (logs_of asked one two) ≡ Some entries → IsNumbered first_next entries
logs_numbered asked one two entries kept kept_too is = by (or_else (fault_of asked file one) more) refl is
  where
    file : ℕ
    file = first_log asked.partition

    other : ℕ
    other = second_log asked.partition

    late : Option Refusal
    late = or_else (late_base file one) (late_base other two)

    more : Option Refusal
    more = or_else (fault_of asked other two) (or_else (same_base other one two) late)

    by : (fault : Option Refusal) → or_else (fault_of asked file one) more ≡ fault → entries_in (unless fault (the_log asked.partition one two)) ≡ Some entries → IsNumbered first_next entries
    by (Some refusal) faults is = absurd (cc is)
    by None faults is =
        let others = no_more (fault_of asked other two) (or_else (same_base other one two) late) (no_more (fault_of asked file one) more faults).1 in
        let early = no_more (late_base file one) (late_base other two) (no_more (same_base other one two) late others.1).1 in
        log_numbered asked.partition file other one two entries kept kept_too early.0 early.1 is

pub entries_numbered : (asked : Asked) (files : ℕ → List ℕ) (entries : List Entry) → entries_in (logs_in asked files) ≡ Some entries → IsNumbered first_next entries
entries_numbered asked files entries is =
    let one = files (first_log asked.partition) in
    let two = files (second_log asked.partition) in
    logs_numbered asked (kept_in asked.partition one) (kept_in asked.partition two) entries (file_numbered asked.partition one (kept_in asked.partition one) refl) (file_numbered asked.partition two (kept_in asked.partition two) refl) is
