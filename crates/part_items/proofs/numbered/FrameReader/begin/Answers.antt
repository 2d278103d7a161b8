use Rattle.std.proofs.Common.{◌≤◌, ℕ, List, length, drop, Ok, Err, refl, subst}
use Rattle.part_items.specs.Grammar.{members_at}
use Rattle.part_items.specs.Coming.{TakesFrom}
use Rattle.part_items.specs.Numbered.{next_of}
use Rattle.part_items.proofs.NextEntries.{begun, place_not_begun, few}
use Rattle.part_items.proofs.numbered.FrameReader.begin.Goals as goal

pub returns-in-Ok : goal.returns-in-Ok
returns-in-Ok c =
    let took : TakesFrom (λ (n : ℕ). n) members_at c.args.payload 0 (Ok (c.in-Ok.left, c.in-Ok.at)) = rw c.as_bytes.ensures at c.in-Ok.ensures in (
      refl,
      few c.args.payload (c.in-Ok.left, drop c.in-Ok.at c.args.payload) took.0,
      begun (next_of c.args.next) c.args.payload c.in-Ok.left (drop c.in-Ok.at c.args.payload) took.0,
    )

pub returns-in-Err : goal.returns-in-Err
returns-in-Err c =
    let stops : TakesFrom (λ (n : ℕ). n) members_at c.args.payload 0 (Err c.in-Err.error) =
    subst (λ (l : List ℕ). TakesFrom (λ (n : ℕ). n) members_at l 0 (Err c.in-Err.error)) c.as_bytes.ensures c.in-Err.ensures in
    place_not_begun (next_of c.args.next) c.args.payload c.in-Err.error stops

pub invariant_of-result : goal.invariant_of-result
invariant_of-result c = subst (λ (l : List ℕ). c.in-Ok.at ≤ length l) c.as_bytes.ensures c.in-Ok.ensures.1
