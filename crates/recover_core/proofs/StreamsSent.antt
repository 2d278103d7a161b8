-- What a stream has under a number.
use Rattle.std.proofs.Common.{◌≡◌, ◌∙◌, ◌≤◌, ◌-◌, ◌||◌, ℕ, zero, suc, List, [], ◌∷◌, drop, slice_get, Option, None, Bool, false, nat_lt, if◌then◌else◌, refl, sym, ap, subst}
use Rattle.std.proofs.lemmas.Bool.{le-ltb}
use Rattle.dura_value.specs.Items.{Identity, Posted}
use Rattle.dura_value.specs.Messages.{Message}
use Rattle.log_items.specs.Streams.{Outbox}
use Rattle.many_logs.specs.Placing.{first_of, is_of, has_sent}

first_left : (messages : List Posted) (n : ℕ) → first_of (drop n messages) ≡ slice_get messages n
first_left [] zero = refl
first_left [] (suc n) = refl
first_left (x ∷ messages) zero = refl
first_left (x ∷ messages) (suc n) = first_left messages n

-- a stream that has begun at a number has what stands at the number's place
pub has_there : (box : Outbox) (source : Identity) (number : ℕ) (message : Message) (first : ℕ) (posted : Option Posted) → first ≡ box.first → first ≤ number
    → posted ≡ slice_get box.messages (number - first) → is_of source message posted ≡ has_sent box source number message
has_there box source number message first posted same begun is =
    let begins : nat_lt number box.first ≡ false = le-ltb number box.first (subst (λ (n : ℕ). n ≤ number) same begun) in
    let place : posted ≡ first_of (drop (number - box.first) box.messages) = is ∙ ap (λ (n : ℕ). slice_get box.messages (number - n)) same ∙ sym (first_left box.messages (number - box.first)) in
    ap (is_of source message) place
    ∙ ap (λ (b : Bool). b || is_of source message (if b then None else first_of (drop (number - box.first) box.messages))) (sym begins)
