use Rattle.std.proofs.Common.{◌≡◌, ◌+◌, ◌-◌, ◌<◌, ℕ, List, drop, Ok, Err, refl, subst, arith}
use Rattle.log_items.specs.Plain.{entry_of}
use Rattle.part_items.specs.Coming.{TakesFrom}
use Rattle.part_items.specs.Numbered.{next_of, next_entry_at}
use Rattle.part_items.proofs.NextEntries.{taken, place_stops, at_end_there, is_next}
use Rattle.part_items.proofs.numbered.FrameReader.next.Goals as goal

pub next_behind-self-inside-requires : goal.next_behind-self-inside-requires
next_behind-self-inside-requires c = (is_next (next_of c.self.inside.next) _ (entry_of c.in-Ok.entry) _ c.in-Ok.ensures.0).2

pub returns-in-Ok : goal.returns-in-Ok
returns-in-Ok c =
    let one : c.self.inside.left ≡ c.self.inside.left - 1 + 1 = omega (arith, c.if-self-eq0.false) in
    let took : TakesFrom entry_of (next_entry_at (next_of c.self.inside.next)) c.self.inside.payload c.self.inside.at (Ok (c.in-Ok.entry, c.in-Ok.behind)) = rw c.as_bytes-bytes.ensures at c.in-Ok.ensures in
    rw (← c.self.view_is, c.next_behind-self-inside.ensures)
    (taken (next_of c.self.inside.next) c.self.inside.left (c.self.inside.left - 1) c.self.inside.payload (drop c.self.inside.at c.self.inside.payload) (drop c.in-Ok.behind c.self.inside.payload) (entry_of c.in-Ok.entry) one took.0)

pub returns-in-Err : goal.returns-in-Err
returns-in-Err c =
    let some : 0 < c.self.inside.left = omega (arith, c.if-self-eq0.false) in
    let stops : TakesFrom entry_of (next_entry_at (next_of c.self.inside.next)) c.self.inside.payload c.self.inside.at (Err c.in-Err.error) =
    subst (λ (l : List ℕ). TakesFrom entry_of (next_entry_at (next_of c.self.inside.next)) l c.self.inside.at (Err c.in-Err.error)) c.as_bytes-bytes.ensures c.in-Err.ensures in
    (rw (← c.self.view_is) (place_stops (next_of c.self.inside.next) c.self.inside.left c.self.inside.payload c.self.inside.at c.in-Err.error some stops), refl)

pub returns-then-self-eq0 : goal.returns-then-self-eq0
returns-then-self-eq0 c =
    rw (← c.self.view_is)
    (at_end_there (next_of c.self.inside.next) c.self.inside.left c.self.inside.payload c.as_bytes-bytes.result.now c.self.inside.at c.nothing_left.result c.as_bytes-bytes.ensures c.if-self-eq0.true c.nothing_left.ensures.none c.nothing_left.ensures.fault)
