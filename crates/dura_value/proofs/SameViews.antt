-- Values and messages are compared as their plain data.
use Rattle.std.proofs.Common.{◌≡◌, ◌&&◌, ◌==◌, ◌∙◌, List, [], ◌∷◌, ℤ, pos, negsuc, refl, ap, arith}
use Rattle.std.proofs.lemmas.Bool.Decides.{nat_tests}
use Rattle.std.specs.Ordering.{int_eq}
use Rattle.std.specs.Cmp.Lexicographic.{pointwise}
use Rattle.std.specs.Str.{bytes_eq}
use Rattle.dura_value.specs.declared.data.Scalar.{Scalar}
use Rattle.dura_value.specs.declared.data.Scalar.TheVariants as scalars
use Rattle.dura_value.specs.declared.data.Value.{Value}
use Rattle.dura_value.specs.declared.data.Value.TheVariants as values
use Rattle.dura_value.specs.declared.messages.Reply.{Reply}
use Rattle.dura_value.specs.declared.messages.Reply.TheVariants as replies
use Rattle.dura_value.specs.declared.messages.Answer.{Answer}
use Rattle.dura_value.specs.declared.messages.Answer.TheVariants as answers
use Rattle.dura_value.specs.declared.messages.Body.{Body}
use Rattle.dura_value.specs.declared.messages.Body.TheVariants as bodies
use Rattle.dura_value.specs.declared.messages.Message.{Message}
use Rattle.dura_value.specs.declared.spots.Spot.{Spot}
use Rattle.dura_value.specs.contracts.addresses.IdPartialEq.TheImpl as same_ids
use Rattle.dura_value.specs.contracts.data.ScalarPartialEq.TheImpl as same_scalars
use Rattle.dura_value.specs.contracts.data.ValuePartialEq.TheImpl as same_values
use Rattle.dura_value.specs.contracts.messages.ReplyPartialEq.TheImpl as same_replies
use Rattle.dura_value.specs.contracts.messages.AnswerPartialEq.TheImpl as same_answers
use Rattle.dura_value.specs.contracts.messages.BodyPartialEq.TheImpl as same_bodies
use Rattle.dura_value.specs.contracts.messages.MessagePartialEq.TheImpl as same_messages
use Rattle.dura_value.specs.contracts.spots.SpotPartialEq.TheImpl as same_spots
use Rattle.dura_value.specs.Ids.{id_eq}
use Rattle.dura_value.specs.Messages.{spot_eq}
use Rattle.dura_value.specs.Same.{reply_eq, answer_eq, spots_eq, body_eq, message_eq}
use Rattle.dura_value.specs.Values as table
use Rattle.dura_value.specs.Values.{value_eq}
use Rattle.dura_value.specs.Views.{id_of, reply_of, answer_of, spot_of, spots_of, body_of, message_of}
use Rattle.dura_value.proofs.Ids.{derived_id_eq}

int_eq_is : (a b : ℤ) → int_eq a b ≡ table.int_eq a b
int_eq_is (pos a) (pos b) = grind (arith, nat_tests)
int_eq_is (negsuc a) (negsuc b) = grind (arith, nat_tests)
int_eq_is (pos a) (negsuc b) = refl
int_eq_is (negsuc a) (pos b) = refl

scalar_eq_is : (a b : Scalar) → same_scalars.ghosts.eq a b ≡ table.scalar_eq a b
scalar_eq_is (scalars.Int a) (scalars.Int b) = int_eq_is a b
scalar_eq_is (scalars.Text a) (scalars.Text b) = refl
scalar_eq_is scalars.Null scalars.Null = refl
scalar_eq_is scalars.False scalars.False = refl
scalar_eq_is scalars.True scalars.True = refl
scalar_eq_is a b = refl

scalars_eq_is : (a b : List Scalar) → pointwise same_scalars.ghosts.eq a b ≡ table.scalars_eq a b
scalars_eq_is [] [] = refl
scalars_eq_is [] (y ∷ ys) = refl
scalars_eq_is (x ∷ xs) [] = refl
scalars_eq_is (x ∷ xs) (y ∷ ys) = ap (λ b. b && pointwise same_scalars.ghosts.eq xs ys) (scalar_eq_is x y) ∙ ap (λ b. table.scalar_eq x y && b) (scalars_eq_is xs ys)

pub value_eq_is : (a b : Value) → same_values.ghosts.eq a b ≡ table.value_eq a b
value_eq_is (values.Int a) (values.Int b) = int_eq_is a b
value_eq_is (values.Text a) (values.Text b) = refl
value_eq_is (values.List a) (values.List b) = scalars_eq_is a b
value_eq_is values.Null values.Null = refl
value_eq_is values.False values.False = refl
value_eq_is values.True values.True = refl
value_eq_is a b = refl

reply_eq_is : (a b : Reply) → same_replies.ghosts.eq a b ≡ reply_eq (reply_of a) (reply_of b)
reply_eq_is replies.None replies.None = refl
reply_eq_is (replies.Task n) (replies.Task m) = refl
reply_eq_is (replies.Request n) (replies.Request m) = refl
reply_eq_is a b = refl

answer_eq_is : (a b : Answer) → same_answers.ghosts.eq a b ≡ answer_eq (answer_of a) (answer_of b)
answer_eq_is (answers.Done a) (answers.Done b) = value_eq_is a b
answer_eq_is (answers.Failed a) (answers.Failed b) = refl
answer_eq_is (answers.Value a) (answers.Value b) = value_eq_is a b
answer_eq_is answers.Started answers.Started = refl
answer_eq_is answers.Exists answers.Exists = refl
answer_eq_is answers.Unknown answers.Unknown = refl
answer_eq_is answers.Raised answers.Raised = refl
answer_eq_is answers.Ended answers.Ended = refl
answer_eq_is answers.None answers.None = refl
answer_eq_is answers.Running answers.Running = refl
answer_eq_is a b = refl

spots_eq_is : (a b : List Spot) → pointwise same_spots.ghosts.eq a b ≡ spots_eq (spots_of a) (spots_of b)
spots_eq_is [] [] = refl
spots_eq_is [] (y ∷ ys) = refl
spots_eq_is (x ∷ xs) [] = refl
spots_eq_is (x ∷ xs) (y ∷ ys) = ap (λ b. spot_eq (spot_of x) (spot_of y) && b) (spots_eq_is xs ys)

body_eq_is : (a b : Body) → same_bodies.ghosts.eq a b ≡ body_eq (body_of a) (body_of b)
body_eq_is (bodies.Start a r) (bodies.Start b s) = ap (λ t. t && same_replies.ghosts.eq r s) (value_eq_is a b) ∙ ap (λ t. value_eq a b && t) (reply_eq_is r s)
body_eq_is (bodies.Raise e a n) (bodies.Raise f b m) = ap (λ t. bytes_eq e f && (t && n == m)) (value_eq_is a b)
body_eq_is (bodies.Query n) (bodies.Query m) = refl
body_eq_is (bodies.Wait n) (bodies.Wait m) = refl
body_eq_is (bodies.Result r a) (bodies.Result s b) = ap (λ t. t && same_answers.ghosts.eq a b) (reply_eq_is r s) ∙ ap (λ t. reply_eq (reply_of r) (reply_of s) && t) (answer_eq_is a b)
body_eq_is (bodies.Op o a r) (bodies.Op p b s) =
    ap (λ t. bytes_eq o p && (t && same_replies.ghosts.eq r s)) (value_eq_is a b) ∙ ap (λ t. bytes_eq o p && (value_eq a b && t)) (reply_eq_is r s)
body_eq_is (bodies.Lock i t s n) (bodies.Lock j u r m) =
    ap (λ b. b && (t == u && (pointwise same_spots.ghosts.eq s r && n == m))) (derived_id_eq i j) ∙ ap (λ b. id_eq (id_of i) (id_of j) && (t == u && (b && n == m))) (spots_eq_is s r)
body_eq_is (bodies.Granted n) (bodies.Granted m) = refl
body_eq_is bodies.Release bodies.Release = refl
body_eq_is a b = refl

pub derived_message_eq : (a b : Message) → same_messages.ghosts.eq a b ≡ message_eq (message_of a) (message_of b)
derived_message_eq a b =
    ap (λ t. t && (same_ids.ghosts.eq a.to b.to && same_bodies.ghosts.eq a.body b.body)) (derived_id_eq a.from b.from)
    ∙ ap (λ t. id_eq (id_of a.from) (id_of b.from) && (t && same_bodies.ghosts.eq a.body b.body)) (derived_id_eq a.to b.to)
    ∙ ap (λ t. id_eq (id_of a.from) (id_of b.from) && (id_eq (id_of a.to) (id_of b.to) && t)) (body_eq_is a.body b.body)
