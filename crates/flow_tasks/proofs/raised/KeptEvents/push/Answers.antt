use Rattle.std.proofs.Common.{◌≡◌, ◌∙◌, ◌++◌, ◌∷◌, [], ◌-◌, ℕ, List, Some, length, map, take, ap, sym, rules, arith}
use Rattle.std.proofs.lemmas.List.{map-append, take_at}
use Rattle.flow_tasks.specs.declared.raised.Raised.{Raised}
use Rattle.flow_tasks.specs.Kept.{events_in, places_from}
use Rattle.flow_tasks.specs.Numbers.{numbers_in, at_name}
use Rattle.flow_tasks.specs.Views.{raised_of}
use Rattle.flow_tasks.proofs.Kept.{events_behind, pushed}
use Rattle.flow_tasks.proofs.raised.KeptEvents.push.Goals as goal

pub invariant_of-self-in_default : goal.invariant_of-self-in_default
invariant_of-self-in_default c = λ name.
    let one : Raised = record { name = c.args.name; value = c.args.value } in
    let old = numbers_in c.self.inside.places in
    let key : c.in_ok-key.key ≡ c.args.name = c.in_ok-key.ensures in
    let place : c.len-place.result ≡ length c.self.inside.slots.items = search rules in
    let is = c.in_default.ensures.ok ∙ ap (λ (k : List ℕ). at_name old k (old k ++ c.len-place.result ∷ [])) key ∙ ap (λ (n : ℕ). at_name old c.args.name (old c.args.name ++ n ∷ [])) place in
    pushed c.self.inside.slots.items one old (numbers_in c.push-2.new.self) c.self.invariant is name ∙ sym (ap (places_from name 0) c.in_ok-push.ensures.items)

pub invariant_of-self-in-Err : goal.invariant_of-self-in-Err
invariant_of-self-in-Err c = λ name.
    let one : Raised = record { name = c.args.name; value = c.args.value } in
    let before : length c.self.inside.slots.items ≡ c.push.new.self.len - 1 = omega (arith, c.in_ok-push.ensures.len, c.self.inside.slots.ok) in
    let same = c.pop.ensures.rest ∙ ap (take (c.push.new.self.len - 1)) c.in_ok-push.ensures.items ∙ take_at c.self.inside.slots.items (Some one ∷ []) (c.push.new.self.len - 1) before in
    ap (λ (f : List ℕ → List ℕ). f name) c.in-Err.ensures.err ∙ c.self.invariant name ∙ sym (ap (places_from name 0) same)

pub returns-clause-ok : goal.returns-clause-ok
returns-clause-ok c =
    let one : Raised = record { name = c.args.name; value = c.args.value } in
    ap (λ slots. map raised_of (events_in slots)) c.in_ok-push.ensures.items
    ∙ ap (map raised_of) (events_behind c.self.inside.slots.items one)
    ∙ map-append raised_of (events_in c.self.inside.slots.items) (one ∷ [])
    ∙ ap (λ (events : List Raised). map raised_of events ++ raised_of one ∷ []) c.self.view_is
