-- What the words ask for is within its limits.
use Rattle.std.proofs.Common.{◌≡◌, ◌≤◌, ◌<◌, ◌==◌, ℕ, Bool, true, false, cond, List, length, Option, Some, None, nat_le, codes, refl, sym, ap, ◌∙◌, subst, arith, leb-true}
use Rattle.std.specs.Str.{bytes_eq}
use Rattle.clap.specs.Faults.{fault_of}
use Rattle.clap.specs.Simple.{subcommand_of}
use Rattle.clap.specs.Walk.{Row, Text, first_of}
use Rattle.command_words.specs.Command.{netherite, number_of, partitions_of, chosen_mode, run_of, call_of, call_in}
use Rattle.command_words.specs.Numbers.{is_decimal, decimal, number_in}
use Rattle.dura_value.specs.Optional.{guard, where_it, ◌>>=◌}
use Rattle.command_words.specs.declared.words.Call.{Call}
use Rattle.command_words.specs.declared.words.Call.TheVariants.{Run, Show}
use Rattle.command_words.specs.declared.words.RunOptions.{RunOptions}
use Rattle.dura_value.proofs.Basics.{some_same}
use Rattle.dura_value.proofs.Optional.{both_there}

guarded : {X : Type 0} (test : Bool) (wanted : Option X) (x : X) → guard test wanted ≡ Some x → wanted ≡ Some x
guarded true wanted x is = is
guarded false wanted x is = absurd (cc is)

where_is : {X : Type 0} (test : X → Bool) (x y : X) → where_it test x ≡ Some y → (x ≡ y) × (test x ≡ true)
where_is test x y is = by (test x) refl is
  where
    by : (b : Bool) → test x ≡ b → guard b (Some x) ≡ Some y → (x ≡ y) × (test x ≡ true)
    by true same is = (cc is, same)
    by false other is = absurd (cc is)

within : (least most : ℕ) (text : List ℕ) (n : ℕ) → number_in least most text ≡ Some n → (least ≤ n) × (n ≤ most)
within least most text n is =
    let step = both_there (where_it (λ n. nat_le n most) (decimal text)) (where_it (λ n. nat_le least n)) n (guarded (is_decimal text) _ n is) in
    let upper = where_is (λ n. nat_le n most) (decimal text) step.0 step.1 in
    let lower = where_is (λ n. nat_le least n) step.0 n step.2 in
    let above = leb-true least step.0 lower.1 in
    let below = leb-true (decimal text) most upper.1 in
    (omega (arith, above, lower.0), omega (arith, below, upper.0, lower.0))

within_rows : (name : Text) (least most : ℕ) (rows : List Row) (n : ℕ) → number_of name least most rows ≡ Some n → (least ≤ n) × (n ≤ most)
within_rows name least most rows n is = let step = both_there (first_of name rows) (number_in least most) n is in within least most step.0 n step.2

one_at_least : (n : ℕ) → 1 ≤ n → 0 < n
one_at_least n least = omega arith

-- how a run may go
pub record IsWithin (options : RunOptions) : Type 0 where
  pub there : 0 < options.partitions
  pub most : options.partitions ≤ 32
  pub some : 0 < options.batch
  pub few : options.batch ≤ 64
  pub long : 4096 ≤ options.segment
  pub short : options.segment ≤ 2147483648

run_within : (rows : List Row) (options : RunOptions) → run_of rows ≡ Some options → IsWithin options
run_within rows options is =
    let one = both_there (partitions_of rows) _ options is in
    let nodes = both_there (number_of (codes "nodes") 1 8 rows) _ options one.2 in
    let mode = both_there (chosen_mode rows) _ options nodes.2 in
    let two = both_there (number_of (codes "batch") 1 64 rows) _ options mode.2 in
    let three = both_there (number_of (codes "steps") 1 1048576 rows) _ options two.2 in
    let seed = both_there (number_of (codes "seed") 0 4294967295 rows) _ options three.2 in
    let twice = both_there (number_of (codes "twice") 0 100 rows) _ options seed.2 in
    let drop = both_there (number_of (codes "drop") 0 100 rows) _ options twice.2 in
    let hold = both_there (number_of (codes "hold") 0 100 rows) _ options drop.2 in
    let four = both_there (number_of (codes "segment") 4096 2147483648 rows) _ options hold.2 in
    let made : record { partitions = one.0; nodes = nodes.0; mode = mode.0; batch = two.0; steps = three.0; seed = seed.0; twice = twice.0; drop = drop.0; hold = hold.0; segment = four.0 } ≡ options = some_same four.2 in
    let there = within_rows (codes "partitions") 1 32 rows one.0 one.1 in
    let batch = within_rows (codes "batch") 1 64 rows two.0 two.1 in
    let segment = within_rows (codes "segment") 4096 2147483648 rows four.0 four.1 in
    subst IsWithin made (record { there = one_at_least one.0 there.0; most = there.1; some = one_at_least two.0 batch.0; few = batch.1; long = segment.0; short = segment.1 })

call_within : (name : Text) (rows : List Row) (options : RunOptions) → call_of name rows ≡ Some (Run options) → IsWithin options
call_within name rows options is = by (bytes_eq name (codes "run")) is
  where
    by : (test : Bool) → cond test (run_of rows >>= λ o. Some (Run o)) (partitions_of rows >>= λ p. Some (Show p)) ≡ Some (Run options) → IsWithin options
    by true is = let step = both_there (run_of rows) (λ o. Some (Run o)) (Run options) is in let same : step.0 ≡ options = cc step.2 in subst IsWithin same (run_within rows step.0 step.1)
    by false is = let step = both_there (partitions_of rows) (λ p. Some (Show p)) (Run options) is in absurd (cc step.2)

pub run_is_within : (words : List (List ℕ)) (options : RunOptions) → call_in words ≡ Some (Run options) → IsWithin options
run_is_within words options is =
    let step = both_there (subcommand_of netherite words) (λ sub. call_of sub.0 sub.1) (Run options) (guarded (length (fault_of netherite words) == 0) _ (Run options) is) in
    call_within step.0.0 step.0.1 options step.2

-- of the partitions that are shown there is one at least, and no more than 32
pub record AreShownWithin (partitions : ℕ) : Type 0 where
  pub some : 0 < partitions
  pub few : partitions ≤ 32

shown_within : (rows : List Row) (partitions : ℕ) → partitions_of rows ≡ Some partitions → AreShownWithin partitions
shown_within rows partitions is = let within = within_rows (codes "partitions") 1 32 rows partitions is in record { some = let some = within.0 in omega (arith, some); few = within.1 }

show_within : (name : Text) (rows : List Row) (partitions : ℕ) → call_of name rows ≡ Some (Show partitions) → AreShownWithin partitions
show_within name rows partitions is = by (bytes_eq name (codes "run")) is
  where
    by : (test : Bool) → cond test (run_of rows >>= λ o. Some (Run o)) (partitions_of rows >>= λ p. Some (Show p)) ≡ Some (Show partitions) → AreShownWithin partitions
    by true is = let step = both_there (run_of rows) (λ o. Some (Run o)) (Show partitions) is in absurd (cc step.2)
    by false is = let step = both_there (partitions_of rows) (λ p. Some (Show p)) (Show partitions) is in let same : step.0 ≡ partitions = cc step.2 in subst AreShownWithin same (shown_within rows step.0 step.1)

pub show_is_within : (words : List (List ℕ)) (partitions : ℕ) → call_in words ≡ Some (Show partitions) → AreShownWithin partitions
show_is_within words partitions is =
    let step = both_there (subcommand_of netherite words) (λ sub. call_of sub.0 sub.1) (Show partitions) (guarded (length (fault_of netherite words) == 0) _ (Show partitions) is) in
    show_within step.0.0 step.0.1 partitions step.2

-- words call for one thing
pub run_same : (call : Option Call) (one other : RunOptions) → call ≡ Some (Run one) → call ≡ Some (Run other) → one ≡ other
run_same call one other is also = cc (is, also)

pub show_same : (call : Option Call) (one other : ℕ) → call ≡ Some (Show one) → call ≡ Some (Show other) → one ≡ other
show_same call one other is also = cc (is, also)

pub run_no_show : (call : Option Call) (options : RunOptions) (partitions : ℕ) → call ≡ Some (Run options) → call ≡ Some (Show partitions) → ⊥
run_no_show call options partitions is also = absurd (cc (is, also))

pub none_no_call : (call : Option Call) (some : Call) → call ≡ None → call ≡ Some some → ⊥
none_no_call call some is also = absurd (cc (is, also))
