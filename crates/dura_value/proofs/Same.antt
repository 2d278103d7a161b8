-- Messages that are said to be the same are.
use Rattle.std.proofs.Common.{◌≡◌, ◌==◌, ◌&&◌, ℤ, pos, negsuc, true, List, [], ◌∷◌, refl, ap, eqb-true}
use Rattle.std.specs.Str.{bytes_eq}
use Rattle.dura_value.specs.declared.data.Scalar.{Scalar}
use Rattle.dura_value.specs.declared.data.Scalar.TheVariants as scalars
use Rattle.dura_value.specs.declared.data.Value.{Value}
use Rattle.dura_value.specs.declared.data.Value.TheVariants as values
use Rattle.dura_value.specs.Ids.{id_eq}
use Rattle.dura_value.specs.Items.{Identity}
use Rattle.dura_value.specs.Messages.{Reply, to_nobody, to_task, to_request, Answer, is_done, has_failed, was_started, was_there, is_unknown, was_raised, has_ended, is_missing, is_running, is_value, Spot, spot_eq, Body, start, raise, query, wait, result, operate, lock, granted, release, Message}
use Rattle.dura_value.specs.Values.{int_eq, scalar_eq, scalars_eq, value_eq}
use Rattle.std.proofs.lemmas.Bool.{and_parts}
use Rattle.dura_value.proofs.Ids.{same_bytes, id_same}
use Rattle.dura_value.specs.Same.{identity_eq, reply_eq, answer_eq, spots_eq, body_eq, message_eq}

int_same : (a b : ℤ) → int_eq a b ≡ true → a ≡ b
int_same (pos a) (pos b) is = ap pos (eqb-true a b is)
int_same (negsuc a) (negsuc b) is = ap negsuc (eqb-true a b is)
int_same (pos a) (negsuc b) is = absurd (cc is)
int_same (negsuc a) (pos b) is = absurd (cc is)

scalar_same : (a b : Scalar) → scalar_eq a b ≡ true → a ≡ b
scalar_same scalars.Null scalars.Null is = refl
scalar_same scalars.False scalars.False is = refl
scalar_same scalars.True scalars.True is = refl
scalar_same (scalars.Int a) (scalars.Int b) is = ap scalars.Int (int_same a b is)
scalar_same (scalars.Text a) (scalars.Text b) is = ap scalars.Text (same_bytes a b is)
scalar_same a b is = absurd (cc is)

scalars_same : (a b : List Scalar) → scalars_eq a b ≡ true → a ≡ b
scalars_same [] [] is = refl
scalars_same (a ∷ more) (b ∷ others) is = let both = and_parts (scalar_eq a b) (scalars_eq more others) is in let one = scalar_same a b both.0 in let rest = scalars_same more others both.1 in cc
scalars_same a b is = absurd (cc is)

value_same : (a b : Value) → value_eq a b ≡ true → a ≡ b
value_same values.Null values.Null is = refl
value_same values.False values.False is = refl
value_same values.True values.True is = refl
value_same (values.Int a) (values.Int b) is = ap values.Int (int_same a b is)
value_same (values.Text a) (values.Text b) is = ap values.Text (same_bytes a b is)
value_same (values.List a) (values.List b) is = ap values.List (scalars_same a b is)
value_same a b is = absurd (cc is)

reply_same : (a b : Reply) → reply_eq a b ≡ true → a ≡ b
reply_same to_nobody to_nobody is = refl
reply_same (to_task a) (to_task b) is = ap to_task (eqb-true a b is)
reply_same (to_request a) (to_request b) is = ap to_request (eqb-true a b is)
reply_same a b is = absurd (cc is)

answer_same : (a b : Answer) → answer_eq a b ≡ true → a ≡ b
answer_same (is_done a) (is_done b) is = ap is_done (value_same a b is)
answer_same (has_failed a) (has_failed b) is = ap has_failed (same_bytes a b is)
answer_same was_started was_started is = refl
answer_same was_there was_there is = refl
answer_same is_unknown is_unknown is = refl
answer_same was_raised was_raised is = refl
answer_same has_ended has_ended is = refl
answer_same is_missing is_missing is = refl
answer_same is_running is_running is = refl
answer_same (is_value a) (is_value b) is = ap is_value (value_same a b is)
answer_same a b is = absurd (cc is)

spot_same : (a b : Spot) → spot_eq a b ≡ true → a ≡ b
spot_same a b is =
    let both = and_parts (bytes_eq a.class b.class) (bytes_eq a.key b.key) is in
    let class = same_bytes a.class b.class both.0 in
    let key = same_bytes a.key b.key both.1 in
    λ i. record { class = class i; key = key i }

spots_same : (a b : List Spot) → spots_eq a b ≡ true → a ≡ b
spots_same [] [] is = refl
spots_same (a ∷ more) (b ∷ others) is = let both = and_parts (spot_eq a b) (spots_eq more others) is in let one = spot_same a b both.0 in let rest = spots_same more others both.1 in cc
spots_same a b is = absurd (cc is)

body_same : (a b : Body) → body_eq a b ≡ true → a ≡ b
body_same (start a r) (start b s) is = let p = and_parts (value_eq a b) (reply_eq r s) is in let x = value_same a b p.0 in let y = reply_same r s p.1 in cc
body_same (raise e a n) (raise f b m) is =
    let p = and_parts (bytes_eq e f) (value_eq a b && n == m) is in
    let q = and_parts (value_eq a b) (n == m) p.1 in
    let x = same_bytes e f p.0 in let y = value_same a b q.0 in let z = eqb-true n m q.1 in cc
body_same (query n) (query m) is = ap query (eqb-true n m is)
body_same (wait n) (wait m) is = ap wait (eqb-true n m is)
body_same (result r a) (result s b) is = let p = and_parts (reply_eq r s) (answer_eq a b) is in let x = reply_same r s p.0 in let y = answer_same a b p.1 in cc
body_same (operate o a r) (operate p b s) is =
    let u = and_parts (bytes_eq o p) (value_eq a b && reply_eq r s) is in
    let v = and_parts (value_eq a b) (reply_eq r s) u.1 in
    let x = same_bytes o p u.0 in let y = value_same a b v.0 in let z = reply_same r s v.1 in cc
body_same (lock i t s n) (lock j u r m) is =
    let p = and_parts (id_eq i j) (t == u && (spots_eq s r && n == m)) is in
    let q = and_parts (t == u) (spots_eq s r && n == m) p.1 in
    let v = and_parts (spots_eq s r) (n == m) q.1 in
    let x = id_same i j p.0 in let y = eqb-true t u q.0 in let z = spots_same s r v.0 in let w = eqb-true n m v.1 in cc
body_same (granted t) (granted u) is = ap granted (eqb-true t u is)
body_same release release is = refl
body_same a b is = absurd (cc is)

pub message_same : (a b : Message) → message_eq a b ≡ true → a ≡ b
message_same a b is =
    let p = and_parts (id_eq a.from b.from) (id_eq a.to b.to && body_eq a.body b.body) is in
    let q = and_parts (id_eq a.to b.to) (body_eq a.body b.body) p.1 in
    let from = id_same a.from b.from p.0 in
    let to = id_same a.to b.to q.0 in
    let body = body_same a.body b.body q.1 in
    λ i. record { from = from i; to = to i; body = body i }

pub identity_same : (a b : Identity) → identity_eq a b ≡ true → a ≡ b
identity_same a b is =
    let p = and_parts (a.partition == b.partition) (a.incarnation == b.incarnation && a.position == b.position) is in
    let q = and_parts (a.incarnation == b.incarnation) (a.position == b.position) p.1 in
    let partition = eqb-true a.partition b.partition p.0 in
    let incarnation = eqb-true a.incarnation b.incarnation q.0 in
    let position = eqb-true a.position b.position q.1 in
    λ i. record { partition = partition i; incarnation = incarnation i; position = position i }
