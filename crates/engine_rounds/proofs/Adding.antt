-- How many labels pushing and pumping add.
use Rattle.std.proofs.Common.{◌≡◌, ◌≤◌, ◌∙◌, ℕ, zero, suc, ◌+◌, List, [], ◌∷◌, ◌++◌, drop, length, Option, Some, None, Result, Ok, Err, IfOk, sym, ap, refl, arith}
use Rattle.std.specs.Prelude.{IfSome}
use Rattle.engine_rounds.specs.Adding.{Adds, MayAdd}
use Rattle.engine_rounds.specs.declared.pumping.Pumped.{Pumped}
use Rattle.engine_rounds.specs.declared.pumping.Pumped.TheVariants as pumped
use Rattle.hub_store.specs.Trail.{Settled}
use Rattle.many_rules.specs.Rules.{Rules}
use Rattle.node_core.specs.Growing.{Grows}
use Rattle.node_core.specs.declared.halt.Halt.{Halt}
use Rattle.round_steps.proofs.Counts.{grown}
use Rattle.round_steps.specs.declared.course.Seen.{Seen}
use Rattle.round_steps.specs.Labels.{IsCounted, settled_labels}

-- All that was settled since is counted.
pub adds_since : (begin end : List Settled) (before now : Seen) (more : ℕ) → IsCounted before begin → IsCounted now end → now.labels ≡ before.labels + more → settled_labels end ≡ settled_labels begin + more
adds_since begin end before now more counted still adds =
    let one = counted.labels in
    let two = still.labels in
    omega (arith, one, two, adds)

-- what was counted doesn't get less
pub counts_more : (rules : Rules) (first last : ℕ) (begin end : List Settled) (before now : Seen) → IsCounted before begin → IsCounted now end → Grows rules first last begin end → before.labels ≤ now.labels
counts_more rules first last begin end before now counted still grows =
    let one = counted.labels in
    let two = still.labels in
    let all = grown rules first last begin end grows in
    omega (arith, one, two, all)

-- where nothing was added before
pub adds_then : (begin mid end : List Settled) (come : Pumped) → settled_labels mid ≡ settled_labels begin → Adds mid end come → Adds begin end come
adds_then begin mid end (pumped.Labels more) same adds = (adds.0, let is = adds.1 in omega (arith, same, is))
adds_then begin mid end pumped.Rest same adds = adds ∙ same
adds_then begin mid end pumped.Stopped same adds = adds ∙ same

-- where nothing was added, and nothing may be said to be but rest
pub rest_adds : (begin end : List Settled) (come : Result (Option Pumped) Halt) → settled_labels end ≡ settled_labels begin → IfOk come (λ o. IfSome o (λ one. one ≡ pumped.Rest)) → IfOk come (MayAdd begin end)
rest_adds begin end (Ok None) same kind = same
rest_adds begin end (Ok (Some (pumped.Labels more))) same kind = absurd (cc kind)
rest_adds begin end (Ok (Some pumped.Rest)) same kind = same
rest_adds begin end (Ok (Some pumped.Stopped)) same kind = absurd (cc kind)
rest_adds begin end (Err halt) same kind = tt
