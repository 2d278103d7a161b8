-- The request of a line is one of the failure-free machine.
use Rattle.std.proofs.Common.{◌≡◌, ◌⊎◌, inl, inr, ℕ, List, Bool, true, false, ◌&&◌, ◌+◌, Option, Some, codes, cond, refl, sym, ◌∙◌, ap, subst}
use Rattle.std.specs.Prelude.{is_some}
use Rattle.std.proofs.lemmas.Bool.{eq-eqb}
use Rattle.dura_model.specs.Steps.{number_in, is_asking}
use Rattle.dura_model.specs.Steps as steps
use Rattle.dura_value.specs.Ids.{Id, orchestration, entity, client}
use Rattle.dura_value.specs.Messages.{start, raise, query, wait, to_request}
use Rattle.dura_value.proofs.Ids.{bytes_self}
use Rattle.request_reader.specs.Json.{data_of, has_members, one_if, name_at, id_at}
use Rattle.request_reader.specs.Line.{Request, Sent, is_number, number_in as number_read, is_instance, has_state, start_in, wait_in, raise_in, query_in, sent_in, request_in, request_on}
use Rattle.dura_value.specs.Optional.{◌>>=◌, guard, where_it}
use Rattle.request_reader.specs.Values.{value_at}
use Rattle.rest_laws.specs.Requests.{IsRequest}
use Rattle.serde_json.specs.Data.{Data}
use Rattle.serde_json.specs.Find.{get, as_number, as_u64}
use Rattle.dura_value.proofs.Optional.{both_there}

guarded : {X : Type 0} (b : Bool) (o : Option X) (x : X) → guard b o ≡ Some x → (b ≡ true) × (o ≡ Some x)
guarded true o x is = (refl, is)
guarded false o x is = absurd (cc is)

passes : {X : Type 0} (test : X → Bool) (a x : X) → where_it test a ≡ Some x → test x ≡ true
passes test a x is =
    let past = guarded (test a) (Some a) x is in
    let same : a ≡ x = cc past.1 in
    ap test (sym same) ∙ past.0

pub one_of : {X : Type 0} (b : Bool) (x y z : X) → cond b x y ≡ z → (x ≡ z) ⊎ (y ≡ z)
one_of true x y z is = inl is
one_of false x y z is = inr is

both : (a b : Bool) → a ≡ true → b ≡ true → (a && b) ≡ true
both a b first second = ap (λ (x : Bool). x && b) first ∙ second

-- what is asked is asked of one whom it may be asked of, under this number
abbrev IsSent : ℕ → Sent → Type 0
IsSent n sent = (is_asking sent.1 sent.0 ≡ true) × (number_in sent.1 ≡ n)

instance_still : (id : Id) → is_instance id ≡ true → steps.is_instance id ≡ true
instance_still (orchestration flow key) is = refl
instance_still (entity class key) is = absurd (cc is)
instance_still (client name) is = absurd (cc is)

queried : (n : ℕ) (id : Id) → has_state id ≡ true → is_asking (query n) id ≡ true
queried n (orchestration flow key) is = refl
queried n (entity class key) is = refl
queried n (client name) is = absurd (cc is)

started : (n : ℕ) (d : Data) (sent : Sent) → start_in n d ≡ Some sent → IsSent n sent
started n d sent is =
    let past = guarded (has_members (3 + one_if (get (codes "arg") d)) d) _ sent is in
    let whom = both_there (id_at (codes "start") d >>= where_it is_instance) _ sent past.1 in
    let read = both_there (id_at (codes "start") d) (where_it is_instance) whom.0 whom.1 in
    let argument = both_there (value_at (codes "arg") d) _ sent whom.2 in
    let same : (whom.0, start argument.0 (to_request n)) ≡ sent = cc argument.2 in
    subst (IsSent n) same (instance_still whom.0 (passes is_instance read.0 whom.0 read.2), refl)

waited : (n : ℕ) (d : Data) (sent : Sent) → wait_in n d ≡ Some sent → IsSent n sent
waited n d sent is =
    let past = guarded (has_members 3 d) _ sent is in
    let whom = both_there (id_at (codes "wait") d >>= where_it is_instance) _ sent past.1 in
    let read = both_there (id_at (codes "wait") d) (where_it is_instance) whom.0 whom.1 in
    let same : (whom.0, wait n) ≡ sent = cc whom.2 in
    subst (IsSent n) same (instance_still whom.0 (passes is_instance read.0 whom.0 read.2), refl)

raised : (n : ℕ) (d : Data) (sent : Sent) → raise_in n d ≡ Some sent → IsSent n sent
raised n d sent is =
    let past = guarded (has_members (4 + one_if (get (codes "value") d)) d) _ sent is in
    let whom = both_there (id_at (codes "raise") d >>= where_it is_instance) _ sent past.1 in
    let read = both_there (id_at (codes "raise") d) (where_it is_instance) whom.0 whom.1 in
    let event = both_there (name_at (codes "event") d) _ sent whom.2 in
    let value = both_there (value_at (codes "value") d) _ sent event.2 in
    let same : (whom.0, raise event.0 value.0 n) ≡ sent = cc value.2 in
    subst (IsSent n) same (instance_still whom.0 (passes is_instance read.0 whom.0 read.2), refl)

asked : (n : ℕ) (d : Data) (sent : Sent) → query_in n d ≡ Some sent → IsSent n sent
asked n d sent is =
    let past = guarded (has_members 3 d) _ sent is in
    let whom = both_there (id_at (codes "query") d >>= where_it has_state) _ sent past.1 in
    let read = both_there (id_at (codes "query") d) (where_it has_state) whom.0 whom.1 in
    let same : (whom.0, query n) ≡ sent = cc whom.2 in
    subst (IsSent n) same (queried n whom.0 (passes has_state read.0 whom.0 read.2), refl)

is_sent : (n : ℕ) (d : Data) (sent : Sent) → sent_in n d ≡ Some sent → IsSent n sent
is_sent n d sent is = elim (one_of (is_some (get (codes "start") d)) _ _ (Some sent) is) [
  | inl first ↦ started n d sent first
  | inr rest ↦ elim (one_of (is_some (get (codes "wait") d)) _ _ (Some sent) rest) [
    | inl second ↦ waited n d sent second
    | inr last ↦ elim (one_of (is_some (get (codes "raise") d)) (raise_in n d) (query_in n d) (Some sent) last) [
      | inl third ↦ raised n d sent third
      | inr fourth ↦ asked n d sent fourth
    ]
  ]
]

numbered : (d : Data) (n : ℕ) → number_read d ≡ Some n → is_number n ≡ true
numbered d n is = let read = both_there (get (codes "n") d >>= as_number >>= as_u64) (where_it is_number) n is in passes is_number read.0 n read.2

one_asked : (d : Data) (r : Request) → request_in d ≡ Some r → IsRequest r
one_asked d r is =
    let name = both_there (name_at (codes "client") d) _ r is in
    let number = both_there (number_read d) _ r name.2 in
    let sent = both_there (sent_in number.0 d) _ r number.2 in
    let right = is_sent number.0 d sent.0 sent.1 in
    let whole : Request = record { client = name.0; number = number.0; message = record { from = client name.0; to = sent.0.0; body = sent.0.1 } } in
    let same : whole ≡ r = cc sent.2 in
    subst IsRequest same (both _ _ (bytes_self name.0) (both _ _ right.0 (both _ _ (eq-eqb (number_in sent.0.1) number.0 right.1) (numbered d number.0 number.1))))

pub line_asked : (line : List ℕ) (r : Request) → request_on line ≡ Some r → IsRequest r
line_asked line r is = let read = both_there (data_of line) request_in r is in one_asked read.0 r read.2
