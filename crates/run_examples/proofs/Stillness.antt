-- What is quiet.
use Rattle.std.proofs.Common.{◌≡◌, ◌&&◌, ◌∙◌, Bool, true, false, cond, Some, None, refl, ap}
use Rattle.dura_value.specs.Ids.{Id, id_eq}
use Rattle.dura_value.specs.Messages.{Body, query}
use Rattle.dura_value.proofs.Ids.{id_same}
use Rattle.part_rows.specs.Open.{lets_in}
use Rattle.part_steps.specs.Quiet.{IsQuiet}
use Rattle.run_examples.specs.States.{asker, sum, account, begun, asked, held, orphaned, ticking}
use Rattle.std.proofs.lemmas.Bool.{and_parts}

pub quiet_at_first : IsQuiet begun
quiet_at_first = record { deliveries = λ from to body is. absurd (cc is); activities = λ id task. refl; timers = λ id task. refl }

-- the one message is the asker's to the entity
of_asker : (from to : Id) (b : Bool) (body : Body) → (id_eq from asker && id_eq to account) ≡ b → cond b (Some (query 1)) None ≡ Some body → lets_in held.entities from to ≡ false
of_asker from to true body same is =
    let parts = and_parts (id_eq from asker) (id_eq to account) same in
    ap (λ (i : Id). lets_in held.entities i to) (id_same from asker parts.0) ∙ ap (lets_in held.entities asker) (id_same to account parts.1)
of_asker from to false body same is = absurd (cc is)

pub quiet_held : IsQuiet held
quiet_held = record { deliveries = λ from to body is. of_asker from to (id_eq from asker && id_eq to account) body refl is; activities = λ id task. refl; timers = λ id task. refl }

pub stirs : IsQuiet asked → ⊥
stirs q = let wrong : true ≡ false = q.deliveries asker sum (query 1) refl in cc wrong

pub has_activity : IsQuiet orphaned → ⊥
has_activity q = let wrong : Some _ ≡ None = q.activities sum 0 in cc wrong

pub has_timer : IsQuiet ticking → ⊥
has_timer q = let wrong : Some 5 ≡ None = q.timers sum 0 in cc wrong
