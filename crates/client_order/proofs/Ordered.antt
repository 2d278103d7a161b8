-- The order of requests.
use Rattle.std.proofs.Common.{◌≡◌, ◌∙◌, ℕ, Bool, true, false, List, get_or, Option, Some, None, refl, sym, ap}
use Rattle.std.specs.List.{All}
use Rattle.std.specs.Prelude.{IfSome}
use Rattle.std.specs.Cmp.{IsTotalOrder}
use Rattle.std.specs.Cmp.Lexicographic.{nat_list_cmp_total}
use Rattle.std.specs.Ordering.{ordering_reverse, is_le}
use Rattle.std.specs.declared.cmp.Ordering.{Ordering}
use Rattle.std.specs.declared.cmp.Ordering.TheVariants.{Less, Equal, Greater}
use Rattle.std.proofs.lemmas.Cmp.{nat_cmp_total, on_total, then_total}
use Rattle.client_port.specs.Ports.{Queue, due_of}
use Rattle.client_order.specs.Order.{request_cmp, no_later}
use Rattle.request_reader.specs.Line.{Request}

total : IsTotalOrder request_cmp
total = then_total (on_total (λ (r : List ℕ × ℕ). r.0) nat_list_cmp_total) (on_total (λ (r : List ℕ × ℕ). r.1) nat_cmp_total)

turned : (a b : List ℕ × ℕ) (r : Ordering) → request_cmp a b ≡ r → request_cmp b a ≡ ordering_reverse r
turned a b r is = total.antisymm b a ∙ ap ordering_reverse is

pub no_later_itself : (a : List ℕ × ℕ) → no_later a a ≡ true
no_later_itself a = by (request_cmp a a) refl
  where
    by : (r : Ordering) → request_cmp a a ≡ r → is_le (request_cmp a a) ≡ true
    by Less is = ap is_le is
    by Equal is = ap is_le is
    by Greater is = absurd (let wrong : Greater ≡ Less = sym is ∙ turned a a Greater is in cc wrong)

-- of two one comes no later
pub no_later_turned : (a b : List ℕ × ℕ) → no_later a b ≡ false → no_later b a ≡ true
no_later_turned a b late = by (request_cmp a b) refl
  where
    by : (r : Ordering) → request_cmp a b ≡ r → no_later b a ≡ true
    by Less is = absurd (let wrong : true ≡ false = sym (ap is_le is) ∙ late in cc wrong)
    by Equal is = ap is_le (turned a b Equal is)
    by Greater is = ap is_le (turned a b Greater is)

pub no_later_trans : (a b c : List ℕ × ℕ) → no_later a b ≡ true → no_later b c ≡ true → no_later a c ≡ true
no_later_trans a b c first then = by (request_cmp a b) (request_cmp b c) refl refl
  where
    by : (r s : Ordering) → request_cmp a b ≡ r → request_cmp b c ≡ s → no_later a c ≡ true
    by Less Less one other = ap is_le (total.trans a b c one other)
    by Less Equal one other = ap is_le (turned c a Greater (sym (total.congr b c a other) ∙ turned a b Less one))
    by Equal s one other = ap is_le (total.congr a b c one) ∙ then
    by Greater s one other = absurd (let wrong : false ≡ true = sym (ap is_le one) ∙ first in cc wrong)
    by Less Greater one other = absurd (let wrong : false ≡ true = sym (ap is_le other) ∙ then in cc wrong)

-- ---- what a walk has found first

-- what is due of a client comes no earlier than this
abbrev pub DueLater : List Queue → (List ℕ × ℕ) → List ℕ → Type 0
DueLater queues one name = (r : Request) → due_of name queues ≡ Some r → no_later one (name, r.number) ≡ true

module _ {X : Type 0} (key : X → List ℕ × ℕ) (new : List ℕ × ℕ) where
  -- what comes no later than what was found first comes before all so far
  pub due_still : (queues : List Queue) (names : List (List ℕ)) (o : Option X) → (o ≡ None → All (λ name. due_of name queues ≡ None) names) → IfSome o (λ one. no_later new (key one) ≡ true) → IfSome o (λ one. All (DueLater queues (key one)) names)
      → All (DueLater queues new) names
  due_still queues names None none low all = λ k d inside r due. let wrong : None ≡ Some r = sym (none refl k d inside) ∙ due in absurd (cc wrong)
  due_still queues names (Some one) none low all = λ k d inside r due. no_later_trans new (key one) (get_or names k d, r.number) low (all k d inside r due)

  pub clash_still : (P : Request → Bool) (requests : List Request) (o : Option X) → (o ≡ None → All (λ r. P r ≡ false) requests) → IfSome o (λ one. no_later new (key one) ≡ true) → IfSome o (λ one. All (λ r. P r ≡ true → no_later (key one) (r.client, r.number) ≡ true) requests)
      → All (λ r. P r ≡ true → no_later new (r.client, r.number) ≡ true) requests
  clash_still P requests None none low all = λ k d inside is. let wrong : false ≡ true = sym (none refl k d inside) ∙ is in absurd (cc wrong)
  clash_still P requests (Some one) none low all = λ k d inside is. no_later_trans new (key one) ((get_or requests k d).client, (get_or requests k d).number) low (all k d inside is)
