-- Ids one after another.
use Rattle.std.proofs.Common.{◌≡◌, ◌∙◌, true, false, Some, None, refl, ap, subst}
use Rattle.dura_value.specs.Ids.{Id, id_eq}
use Rattle.dura_value.proofs.Ids.{id_same}
use Rattle.shared_maps.specs.IdOrder.{is_before, is_no_later, IsNextBehind, NoneBehind}
use Rattle.run_examples.specs.States.{sum, account}

pub first_of_all : IsNextBehind (id_eq account) None account
first_of_all = record { found = refl; behind = refl; first = λ other is behind. subst (λ (i : Id). is_no_later account i ≡ true) (id_same account other is) refl }

pub one_next : IsNextBehind (id_eq sum) (Some account) sum
one_next = record { found = refl; behind = refl; first = λ other is behind. subst (λ (i : Id). is_no_later sum i ≡ true) (id_same sum other is) refl }

pub not_itself : IsNextBehind (id_eq account) (Some account) account → ⊥
not_itself n = let wrong : false ≡ true = n.behind in cc wrong

pub none_behind : NoneBehind (id_eq account) (Some account)
none_behind other is behind = let wrong : false ≡ true = ap (is_before account) (id_same account other is) ∙ behind in cc wrong

pub one_behind : NoneBehind (id_eq sum) (Some account) → ⊥
one_behind none = none sum refl refl
