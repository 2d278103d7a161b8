-- Parts that are appended one behind the other.
use Rattle.std.proofs.Common.{◌≡◌, ◌∙◌, ◌++◌, ℕ, List, ap, append_assoc}

pub three : (out word a b now then : List ℕ) → now ≡ out ++ word → then ≡ now ++ a ++ b → then ≡ out ++ (word ++ a ++ b)
three out word a b now then first second =
    second ∙ ap (λ (xs : List ℕ). xs ++ a ++ b) first ∙ ap (λ (xs : List ℕ). xs ++ b) (append_assoc out word a) ∙ append_assoc out (word ++ a) b

pub four : (out word a b c one two three_ four_ : List ℕ) → one ≡ out ++ word → two ≡ one ++ a → three_ ≡ two ++ b → four_ ≡ three_ ++ c → four_ ≡ out ++ (word ++ a ++ b ++ c)
four out word a b c one two three_ four_ e f g h =
    h ∙ ap (λ (xs : List ℕ). xs ++ c) (g ∙ ap (λ (xs : List ℕ). xs ++ b) (f ∙ ap (λ (xs : List ℕ). xs ++ a) e ∙ append_assoc out word a) ∙ append_assoc out (word ++ a) b) ∙ append_assoc out (word ++ a ++ b) c
