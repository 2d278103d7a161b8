-- When the first message of a link is delivered, and what it makes then.
use Rattle.std.proofs.Common.{◌≡◌, ◌∙◌, ◌&&◌, ℕ, Bool, true, false, List, cond, Option, Some, None, refl, ap, sym, arith}
use Rattle.std.specs.Prelude.{nat_le}
use Rattle.std.proofs.lemmas.Bool.{le-leb}
use Rattle.dura_value.specs.Ids.{Id, orchestration, entity, client}
use Rattle.dura_value.specs.Items.{ran}
use Rattle.dura_value.specs.Messages.{Reply, to_nobody, to_task, to_request, Answer, Body, start, raise, query, wait, result, operate, lock, granted, release, Message}
use Rattle.flow_syntax.specs.Syntax.{Flows}
use Rattle.flow_syntax.specs.Entity.{Entity, takes}
use Rattle.dura_model.specs.Steps.{entity_of}
use Rattle.dura_model.specs.Partition.{Partition, raised_to, first_in, without_first, last_in, received_in, delivered_in, accepted}
use Rattle.part_rows.specs.Open.{takes_from, last_of_entity}
use Rattle.part_steps.specs.Outputs.{Answered, Outputs, sent_to, sent_at, answered_to, outputs_by}
use Rattle.part_steps.specs.Reached.{takes_at, entity_reached, reached}

zero_low : (n : ℕ) → nat_le 0 n ≡ true
zero_low n = le-leb 0 n (omega (arith))

-- an entity takes as its row does
same_test : (flows : Flows) (class : List ℕ) (kept : Option Entity) (from : Id) (stamp : ℕ)
    → (takes (entity_of flows class kept).holder from && nat_le (entity_of flows class kept).last stamp) ≡ (takes_from kept from && nat_le (last_of_entity kept) stamp)
same_test flows class None from stamp = refl
same_test flows class (Some e) from stamp = refl

module _ (flows : Flows) (count : ℕ) (p : Partition) (from : Id) (stamp : ℕ) (body : Body) where
  -- what is received is what reaches it, where it is taken
  received : (to : Id) → received_in flows count p from to stamp body ≡ cond (takes_at p from to stamp) (Some (reached flows count p from to stamp body)) None
  received (orchestration flow key) = refl
  received (entity class key) = ap (λ (b : Bool). cond b (Some (entity_reached flows count p class from (entity class key) stamp body)) None) (same_test flows class (p.entities (entity class key)) from stamp)
  received (client name) = sym (ap (λ (b : Bool). cond b (Some (reached flows count p from (client name) stamp body)) None) (zero_low stamp))

module _ (flows : Flows) (count : ℕ) (p : Partition) (from to : Id) (stamp : ℕ) where
  -- the partition without the message, at this stamp
  abbrev left : Partition
  left = raised_to stamp (record p { queue = without_first p.queue from to })

  same_takes : (to : Id) (q : Partition) → q.entities ≡ p.entities → q.instances ≡ p.instances → takes_at q from to stamp ≡ takes_at p from to stamp
  same_takes (orchestration flow key) q entities instances = ap (λ (f : Id → Option _). nat_le (last_in (f (orchestration flow key))) stamp) instances
  same_takes (entity class key) q entities instances = ap (λ (f : Id → Option Entity). takes_from (f (entity class key)) from && nat_le (last_of_entity (f (entity class key))) stamp) entities
  same_takes (client name) q entities instances = refl

  delivered_by : (found : Option Body) → takes_at p from to stamp ≡ false → delivered_in flows count p from to stamp found ≡ None
  delivered_by None is = refl
  delivered_by (Some body) is =
      received flows count left from stamp body to ∙ ap (λ (b : Bool). cond b (Some (reached flows count left from to stamp body)) None) (same_takes to left refl refl ∙ is)

  -- its receiver doesn't take it
  pub not_taken : takes_at p from to stamp ≡ false → accepted flows count p (ran from to stamp) ≡ None
  not_taken is = delivered_by (first_in p.queue from to) is

  -- there is no message of this link
  pub nothing_there : first_in p.queue from to ≡ None → accepted flows count p (ran from to stamp) ≡ None
  nothing_there is = ap (delivered_in flows count p from to stamp) is

  -- its receiver takes it
  pub delivered : (body : Body) → first_in p.queue from to ≡ Some body → takes_at p from to stamp ≡ true → accepted flows count p (ran from to stamp) ≡ Some (reached flows count left from to stamp body)
  delivered body found is =
      ap (delivered_in flows count p from to stamp) found ∙ received flows count left from stamp body to
      ∙ ap (λ (b : Bool). cond b (Some (reached flows count left from to stamp body)) None) (same_takes to left refl refl ∙ is)

  -- the message that left is of this link
  pub run_accepts : (mid new : Partition) (sender receiver : Id) (body : Body) → takes_at p from to stamp ≡ true → Some body ≡ first_in p.queue from to → mid ≡ record p { queue = without_first p.queue from to } → sender ≡ from → receiver ≡ to
      → new ≡ reached flows count (raised_to stamp mid) sender receiver stamp body → accepted flows count p (ran from to stamp) ≡ Some new
  run_accepts mid new sender receiver body takes found mid_is sender_is receiver_is is =
      delivered body (sym found) takes
      ∙ sym (ap Some (is
      ∙ ap (λ (q : Partition). reached flows count (raised_to stamp q) sender receiver stamp body) mid_is
      ∙ ap (λ (f : Id). reached flows count left f receiver stamp body) sender_is
      ∙ ap (λ (t : Id). reached flows count left from t stamp body) receiver_is))

  -- what it makes then
  same_sent : (to : Id) (body : Body) → sent_to flows left from to stamp body ≡ sent_to flows p from to stamp body
  same_sent (orchestration flow key) body = refl
  same_sent (entity class key) body = refl
  same_sent (client name) body = refl

  same_result : (name : List ℕ) (reply : Reply) (answer : Answer) → answered_to left (client name) (Some (result reply answer)) ≡ answered_to p (client name) (Some (result reply answer))
  same_result name to_nobody answer = refl
  same_result name (to_task number) answer = refl
  same_result name (to_request number) answer = refl

  same_answers : (to : Id) (body : Body) → answered_to left to (Some body) ≡ answered_to p to (Some body)
  same_answers (orchestration flow key) body = refl
  same_answers (entity class key) body = refl
  same_answers (client name) (result reply answer) = same_result name reply answer
  same_answers (client name) (start argument reply) = refl
  same_answers (client name) (raise event value number) = refl
  same_answers (client name) (query number) = refl
  same_answers (client name) (wait number) = refl
  same_answers (client name) (operate operation argument reply) = refl
  same_answers (client name) (lock id task set index) = refl
  same_answers (client name) (granted task) = refl
  same_answers (client name) release = refl

  abbrev outputs : List Message → List Answered → Outputs
  outputs sent answers = record { sent = sent; answers = answers }

  pub run_outputs : (mid : Partition) (sender receiver : Id) (body : Body) (made : Outputs) → Some body ≡ first_in p.queue from to → mid ≡ record p { queue = without_first p.queue from to } → sender ≡ from → receiver ≡ to
      → made ≡ record { sent = sent_to flows (raised_to stamp mid) sender receiver stamp body; answers = answered_to (raised_to stamp mid) receiver (Some body) } → made ≡ outputs_by flows p (ran from to stamp)
  run_outputs mid sender receiver body made found mid_is sender_is receiver_is is =
      is
      ∙ ap (λ (q : Partition). outputs (sent_to flows (raised_to stamp q) sender receiver stamp body) (answered_to (raised_to stamp q) receiver (Some body))) mid_is
      ∙ ap (λ (f : Id). outputs (sent_to flows left f receiver stamp body) (answered_to left receiver (Some body))) sender_is
      ∙ ap (λ (t : Id). outputs (sent_to flows left from t stamp body) (answered_to left t (Some body))) receiver_is
      ∙ ap (λ (s : List Message). outputs s (answered_to left to (Some body))) (same_sent to body)
      ∙ ap (outputs (sent_to flows p from to stamp body)) (same_answers to body)
      ∙ ap (λ (x : Option Body). outputs (sent_at flows p from to stamp x) (answered_to p to x)) found
