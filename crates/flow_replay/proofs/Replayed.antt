-- One event after the other.
use Rattle.std.proofs.Common.{◌≡◌, ◌<◌, ◌+◌, ◌∙◌, ℕ, List, ◌∷◌, length, get_or, drop, map, ap, sym}
use Rattle.std.proofs.lemmas.List.{drop_more}
use Rattle.flow_syntax.specs.Machine.{Machine, resume, replayed}
use Rattle.std.specs.Borrow.{Bor}
use Rattle.flow_messages.specs.declared.events.Past.{Past}
use Rattle.flow_messages.specs.Views.{event_of, past_of}

abbrev lent : List (Bor Past) → List Past
lent = map (λ past. past.now)

pub one_more : (m now total : Machine) (history : List (Bor Past)) (i : ℕ) (past : Bor Past) → i < length history → past ≡ get_or history i past
    → now ≡ (resume m (event_of past.now.event) past.now.stamp).machine → replayed m (map past_of (lent (drop i history))) ≡ total → replayed now (map past_of (lent (drop (i + 1) history))) ≡ total
one_more m now total history i past here is then so_far =
    let rest = map past_of (lent (drop (i + 1) history)) in
    ap (λ (n : Machine). replayed n rest) then
    ∙ ap (λ (p : Bor Past). replayed m (past_of p.now ∷ rest)) is
    ∙ ap (λ (ps : List (Bor Past)). replayed m (map past_of (lent ps))) (sym (drop_more history i past here)) ∙ so_far
