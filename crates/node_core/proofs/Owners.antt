-- The partitions have their nodes one after another.
use Rattle.std.proofs.Common.{◌≡◌, ◌∙◌, ◌+◌, ℕ, List, [], ◌∷◌, ◌++◌, sym, ap, arith}
use Rattle.std.proofs.lemmas.List.FromFn.{map-range_with_len_more}
use Rattle.node_core.specs.Crews.{first_owner, first_owners}

pub one_more_owner : (nodes n : ℕ) (now before : List ℕ) (owner : ℕ) → now ≡ before ++ owner ∷ [] → before ≡ first_owners n nodes → owner ≡ first_owner nodes n → now ≡ first_owners (n + 1) nodes
one_more_owner nodes n now before owner pushed are is =
    pushed ∙ ap (λ (l : List ℕ). l ++ owner ∷ []) are ∙ ap (λ (y : ℕ). first_owners n nodes ++ y ∷ []) is ∙ sym (let same : 0 + n ≡ n = omega arith in map-range_with_len_more (first_owner nodes) 0 n n same)
