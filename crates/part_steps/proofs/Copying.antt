-- Messages are copied one behind the other.
use Rattle.std.proofs.Common.{◌≡◌, ◌<◌, ◌+◌, ◌∙◌, ℕ, List, [], ◌∷◌, ◌++◌, length, get_or, drop, ap, sym, append_assoc}
use Rattle.std.proofs.lemmas.List.{drop_more}
use Rattle.dura_value.specs.declared.messages.Message.{Message}

pub one_copied : (copies ms all : List Message) (i : ℕ) (one copy : Message) → i < length ms → one ≡ get_or ms i one → copy ≡ one → copies ++ drop i ms ≡ all → (copies ++ copy ∷ []) ++ drop (i + 1) ms ≡ all
one_copied copies ms all i one copy here is same so_far =
    append_assoc copies (copy ∷ []) (drop (i + 1) ms)
    ∙ ap (λ (c : Message). copies ++ c ∷ drop (i + 1) ms) same
    ∙ ap (λ (l : List Message). copies ++ l) (sym (drop_more ms i one here ∙ ap (λ (m : Message). m ∷ drop (i + 1) ms) (sym is)))
    ∙ so_far
