-- A message is the same as itself, and as no other.
use Rattle.std.proofs.Common.{◌≡◌, ◌&&◌, ◌==◌, ℕ, ℤ, pos, negsuc, Bool, true, List, [], ◌∷◌, refl, sym, ◌∙◌, subst, arith}
use Rattle.std.specs.Bool.{Decides}
use Rattle.std.proofs.lemmas.Bool.{and_parts}
use Rattle.dura_value.specs.declared.data.Scalar.{Scalar}
use Rattle.dura_value.specs.declared.data.Scalar.TheVariants as scalars
use Rattle.dura_value.specs.declared.data.Value.{Value}
use Rattle.dura_value.specs.declared.data.Value.TheVariants as values
use Rattle.dura_value.specs.contracts.messages.MessagePartialEq.TheImpl as same_messages
use Rattle.dura_value.specs.declared.messages.Message as rows
use Rattle.dura_value.specs.Items.{Identity, Posted}
use Rattle.dura_value.specs.Messages.{Reply, to_nobody, to_task, to_request, Answer, is_done, has_failed, was_started, was_there, is_unknown, was_raised, has_ended, is_missing, is_running, is_value, Spot, Body, start, raise, query, wait, result, operate, lock, granted, release, Message}
use Rattle.dura_value.specs.Same.{identity_eq, reply_eq, answer_eq, spots_eq, body_eq, message_eq}
use Rattle.dura_value.specs.Values.{int_eq, scalar_eq, scalars_eq, value_eq}
use Rattle.dura_value.specs.Views.{message_of}
use Rattle.dura_value.proofs.Ids.{bytes_self, id_self, and_true}
use Rattle.dura_value.proofs.Same.{message_same, identity_same}
use Rattle.dura_value.proofs.SameViews.{derived_message_eq}

number_self : (n : ℕ) → (n == n) ≡ true
number_self n = grind arith

int_self : (n : ℤ) → int_eq n n ≡ true
int_self (pos n) = number_self n
int_self (negsuc n) = number_self n

scalar_self : (s : Scalar) → scalar_eq s s ≡ true
scalar_self scalars.Null = refl
scalar_self scalars.False = refl
scalar_self scalars.True = refl
scalar_self (scalars.Int n) = int_self n
scalar_self (scalars.Text text) = bytes_self text

scalars_self : (list : List Scalar) → scalars_eq list list ≡ true
scalars_self [] = refl
scalars_self (s ∷ list) = and_true _ _ (scalar_self s) (scalars_self list)

value_self : (v : Value) → value_eq v v ≡ true
value_self values.Null = refl
value_self values.False = refl
value_self values.True = refl
value_self (values.Int n) = int_self n
value_self (values.Text text) = bytes_self text
value_self (values.List parts) = scalars_self parts

reply_self : (r : Reply) → reply_eq r r ≡ true
reply_self to_nobody = refl
reply_self (to_task n) = number_self n
reply_self (to_request n) = number_self n

answer_self : (a : Answer) → answer_eq a a ≡ true
answer_self (is_done v) = value_self v
answer_self (has_failed text) = bytes_self text
answer_self was_started = refl
answer_self was_there = refl
answer_self is_unknown = refl
answer_self was_raised = refl
answer_self has_ended = refl
answer_self is_missing = refl
answer_self is_running = refl
answer_self (is_value v) = value_self v

spots_self : (list : List Spot) → spots_eq list list ≡ true
spots_self [] = refl
spots_self (s ∷ list) = and_true _ _ (and_true _ _ (bytes_self s.class) (bytes_self s.key)) (spots_self list)

body_self : (b : Body) → body_eq b b ≡ true
body_self (start argument reply) = and_true _ _ (value_self argument) (reply_self reply)
body_self (raise event value number) = and_true _ _ (bytes_self event) (and_true _ _ (value_self value) (number_self number))
body_self (query number) = number_self number
body_self (wait number) = number_self number
body_self (result reply answer) = and_true _ _ (reply_self reply) (answer_self answer)
body_self (operate operation argument reply) = and_true _ _ (bytes_self operation) (and_true _ _ (value_self argument) (reply_self reply))
body_self (lock id task set index) = and_true _ _ (id_self id) (and_true _ _ (number_self task) (and_true _ _ (spots_self set) (number_self index)))
body_self (granted task) = number_self task
body_self release = refl

message_self : (m : Message) → message_eq m m ≡ true
message_self m = and_true _ _ (id_self m.from) (and_true _ _ (id_self m.to) (body_self m.body))

identity_self : (e : Identity) → identity_eq e e ≡ true
identity_self e = and_true _ _ (number_self e.partition) (and_true _ _ (number_self e.incarnation) (number_self e.position))

posted_same : (a b : Posted) → a.entry ≡ b.entry → a.message ≡ b.message → a ≡ b
posted_same a b entry message = λ i. record { entry = entry i; message = message i }

-- what the test of a message in a stream comes to
pub posted_decides : (a b : Posted) (r : Bool) → r ≡ (identity_eq a.entry b.entry && message_eq a.message b.message) → Decides r (a ≡ b)
posted_decides a b r is = (
  (λ yes_it. let both = and_parts (identity_eq a.entry b.entry) (message_eq a.message b.message) (sym is ∙ yes_it) in posted_same a b (identity_same a.entry b.entry both.0) (message_same a.message b.message both.1)),
  (λ same. is ∙ subst (λ (x : Posted). (identity_eq a.entry x.entry && message_eq a.message x.message) ≡ true) same (and_true _ _ (identity_self a.entry) (message_self a.message))),
)

pub messages_told : (a b : rows.Message) (r : Bool) → r ≡ same_messages.ghosts.eq a b → r ≡ message_eq (message_of a) (message_of b)
messages_told a b r is = is ∙ derived_message_eq a b
