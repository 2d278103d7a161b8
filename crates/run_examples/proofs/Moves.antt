-- What is enabled in a state.
use Rattle.std.proofs.Common.{◌≡◌, ℕ, true, false, List, [], ◌∷◌, Some, None, refl, subst}
use Rattle.dura_value.specs.Items.{Item, took, got, ran, ended, fired, trim}
use Rattle.dura_model.specs.Partition.{Partition, accepted}
use Rattle.part_steps.specs.Enabled.{stamp_at, is_at, IsEnabled, NoneEnabled, Makes}
use Rattle.part_steps.specs.Enabled.Makes.{nothing, one_more}
use Rattle.part_steps.specs.Outputs.{Outputs}
use Rattle.run_examples.specs.States.{asker, sum, account, question, begun, asked, held, no_flows}

pub delivers : IsEnabled no_flows 1 asked 0 (ran asker sum 0)
delivers = record { at = refl; next = _; taken = refl }

pub at_another : IsEnabled no_flows 1 asked 1 (ran asker sum 0) → ⊥
at_another e = let wrong : false ≡ true = e.at in cc wrong

pub not_there : IsEnabled no_flows 1 begun 0 (ran asker sum 0) → ⊥
not_there e = let wrong : None ≡ Some e.next = e.taken in cc wrong

pub not_taken : IsEnabled no_flows 1 held 0 (ran asker account 0) → ⊥
not_taken e = let wrong : None ≡ Some e.next = e.taken in cc wrong

pub no_request : IsEnabled no_flows 1 begun 0 (took (question sum)) → ⊥
no_request e = let wrong : false ≡ true = e.at in cc wrong

pub none_at_first : NoneEnabled no_flows 1 begun 0
none_at_first = record { deliveries = λ from to. refl; timers = λ id task. refl }

pub some_then : NoneEnabled no_flows 1 asked 0 → ⊥
some_then n = let wrong : Some _ ≡ None = n.deliveries asker sum in cc wrong

pub no_items : Makes no_flows 1 0 begun [] [] begun
no_items = nothing

pub one_item : (made : List Outputs) × (q : Partition) × Makes no_flows 1 0 asked (ran asker sum 0 ∷ []) made q
one_item = (_, _, one_more nothing (ran asker sum 0) refl refl)

-- nothing is accepted where nothing happened, but requests
idle : (item : Item) (now : ℕ) (q : Partition) → is_at item now ≡ true → accepted no_flows 1 begun item ≡ Some q → ⊥
idle (ran from to stamp) now q at is = let wrong : None ≡ Some q = is in cc wrong
idle (fired id task stamp) now q at is = let wrong : None ≡ Some q = is in cc wrong
idle (took message) now q at is = let wrong : false ≡ true = at in cc wrong
idle (got source number message) now q at is = let wrong : false ≡ true = at in cc wrong
idle (ended id task outcome) now q at is = let wrong : false ≡ true = at in cc wrong
idle (trim reader number) now q at is = let wrong : false ≡ true = at in cc wrong

only_these : {items : List Item} {made : List Outputs} {q : Partition} → Makes no_flows 1 0 begun items made q → (items ≡ []) × (q ≡ begun)
only_these nothing = (refl, refl)
only_these (one_more {p = p} {q = q} before item at is) =
    let rest = only_these before in
    absurd (idle item (stamp_at p 0) q at (subst (λ (s : Partition). accepted no_flows 1 s item ≡ Some q) rest.1 is))

pub only_none : (items : List Item) (made : List Outputs) (q : Partition) → Makes no_flows 1 0 begun items made q → items ≡ []
only_none items made q makes = (only_these makes).0
