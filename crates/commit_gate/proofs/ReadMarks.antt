-- How far streams were read, partition by partition.
use Rattle.std.proofs.Common.{◌≡◌, ℕ, suc, ◌+◌, ◌<◌, List, [], ◌∷◌, ◌++◌, length, take, get_or, sym, ◌∙◌, ap, arith, add-one, append_assoc}
use Rattle.std.proofs.Math.Seq.{take-suc}
use Rattle.std.proofs.lemmas.List.{append-nil, length-take-le}
use Rattle.spec_tracker.specs.declared.marks.Read.{Read}
use Rattle.commit_gate.specs.declared.ledger.Ledger.{Ledger}
use Rattle.commit_gate.specs.Marking.{reads_to, all_reads}

more_reads : (count k : ℕ) (ledgers : List Ledger) (ledger : Ledger) → all_reads count k (ledgers ++ ledger ∷ []) ≡ all_reads count k ledgers ++ reads_to (k + length ledgers) ledger count
more_reads count k [] ledger = let e : k ≡ k + 0 = omega arith in append-nil (reads_to k ledger count) ∙ ap (λ (n : ℕ). reads_to n ledger count) e
more_reads count k (first ∷ ledgers) ledger =
    let e : (k + 1) + length ledgers ≡ k + suc (length ledgers) = omega arith in
    ap (λ (l : List Read). reads_to k first count ++ l) (more_reads count (k + 1) ledgers ledger ∙ ap (λ (n : ℕ). all_reads count (k + 1) ledgers ++ reads_to n ledger count) e) ∙ simp append_assoc

pub one_more : (count i : ℕ) (ledgers : List Ledger) (ledger : Ledger) → i < length ledgers → ledger ≡ get_or ledgers i ledger → all_reads count 0 (take i ledgers) ++ reads_to i ledger count ≡ all_reads count 0 (take (i + 1) ledgers)
one_more count i ledgers ledger low is =
    let long : length (take i ledgers) ≡ i = length-take-le i ledgers (omega (arith, low)) in
    let e : i ≡ 0 + length (take i ledgers) = omega (arith, long) in
    ap (λ (n : ℕ). all_reads count 0 (take i ledgers) ++ reads_to n ledger count) e ∙ sym (more_reads count 0 (take i ledgers) ledger)
    ∙ ap (all_reads count 0) (sym (ap (λ (n : ℕ). take n ledgers) (add-one i) ∙ take-suc ledgers i ledger low ∙ ap (λ (y : Ledger). take i ledgers ++ y ∷ []) (sym is)))
