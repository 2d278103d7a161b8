-- What becomes of requests.
use Rattle.std.specs.Prelude.{◌≡◌, ℕ, true, is_some}
use Rattle.dura_model.specs.Partition.{Partition}
use Rattle.dura_value.specs.Ids.{Id}

-- A request that was taken stays so, and so does one that was answered.
pub record KeepsRequests (p q : Partition) : Type 0 where
  pub taken : (who : Id) (number : ℕ) → is_some (p.taken who number) ≡ true → is_some (q.taken who number) ≡ true
  pub answered : (who : Id) (number : ℕ) → is_some (p.answers who number) ≡ true → is_some (q.answers who number) ≡ true

-- only what was taken is answered
abbrev pub AnswersTaken : Partition → Type 0
AnswersTaken p = (who : Id) (number : ℕ) → is_some (p.answers who number) ≡ true → is_some (p.taken who number) ≡ true
