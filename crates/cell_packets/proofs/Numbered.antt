-- The messages of a stream by their numbers.
use Rattle.std.proofs.Common.{◌≡◌, ◌∙◌, inl, inr, ℕ, ◌+◌, ◌-◌, ◌<◌, ◌≤◌, List, [], ◌∷◌, ◌++◌, drop, Some, None, option_map, ap, sym, subst, arith, append_assoc, append-nil}
use Rattle.std.specs.List.{slice_get, enumerate_from}
use Rattle.std.proofs.Math.ListN.{drop_of_length-le}
use Rattle.std.proofs.lemmas.List.{drop_more}
use Rattle.std.proofs.lemmas.List.FromFn.{get_or-enumerate_from, length-enumerate_from}
use Rattle.std.proofs.lemmas.Option.{slice_get_within, slice_get_cases, slice_get_past, slice_get-get_or, get_or_from_slice_get, slice_get-map}
use Rattle.dura_value.specs.Items.{Posted}
use Rattle.log_items.specs.Streams.{Outbox, Sent}
use Rattle.cell_packets.specs.Packets.{Packet, packet_with, packets_in, packets_from, sent_to, sent_in, sent_from}

-- ---- lists whose first element has a number

-- the element under a number comes first of what lies from there on
one_behind : {X : Type 0} (xs : List X) (first number : ℕ) (x : X) → first ≤ number → slice_get xs (number - first) ≡ Some x → drop (number - first) xs ≡ x ∷ drop (number + 1 - first) xs
one_behind {X} xs first number x begun is =
    let place = number - first in
    let next : place + 1 ≡ number + 1 - first = omega (arith, begun) in
    drop_more xs place x (slice_get_within xs place x is) ∙ ap (λ (one : X). one ∷ drop (place + 1) xs) (get_or_from_slice_get xs place x x is) ∙ ap (λ (n : ℕ). x ∷ drop n xs) next

none_behind : {X : Type 0} (xs : List X) (place : ℕ) → slice_get xs place ≡ None → drop place xs ≡ []
none_behind xs place is = elim (slice_get_cases xs place).1 [
  | inl inside ↦ absurd (let wrong : None ≡ Some inside.0 = sym is ∙ inside.2 in cc wrong)
  | inr past ↦ drop_of_length-le xs past.0
]

numbered_at : {X : Type 0} (first : ℕ) (xs : List X) (place : ℕ) → slice_get (enumerate_from first xs) place ≡ option_map (λ x. (first + place, x)) (slice_get xs place)
numbered_at {X} first xs place = elim (slice_get_cases xs place).1 [
  | inl inside ↦
      slice_get-get_or (enumerate_from first xs) place (0, inside.0) (subst (λ (n : ℕ). place < n) (sym (length-enumerate_from first xs)) inside.1)
      ∙ ap (λ (x : ℕ × X). Some x) (get_or-enumerate_from first xs place (0, inside.0) inside.1)
      ∙ ap (λ (x : X). Some (first + place, x)) inside.3
      ∙ sym (ap (option_map (λ (x : X). (first + place, x))) inside.2)
  | inr past ↦
      slice_get_past (enumerate_from first xs) place (subst (λ (n : ℕ). n ≤ place) (sym (length-enumerate_from first xs)) past.0)
      ∙ sym (ap (option_map (λ (x : X). (first + place, x))) past.1)
]

-- what is left from a number on, once the first of it has joined
one_joined : {X : Type 0} (old new left rest all : List X) (x made : X) → left ≡ x ∷ rest → made ≡ x → new ≡ old ++ made ∷ [] → old ++ left ≡ all → new ++ rest ≡ all
one_joined {X} old new left rest all x made is same joins so_far =
    ap (λ (l : List X). l ++ rest) joins ∙ append_assoc old (made ∷ []) rest ∙ ap (λ (one : X). old ++ one ∷ rest) same ∙ ap (λ (l : List X). old ++ l) (sym is) ∙ so_far

none_joined : {X : Type 0} (old left all : List X) → left ≡ [] → old ++ left ≡ all → old ≡ all
none_joined {X} old left all is so_far = sym (append-nil old) ∙ ap (λ (l : List X). old ++ l) (sym is) ∙ so_far

-- ---- packets

packet_at : (source target number : ℕ) (box : Outbox) (posted : Posted) → box.first ≤ number → slice_get box.messages (number - box.first) ≡ Some posted
    → slice_get (packets_in source target box) (number - box.first) ≡ Some (packet_with source target (number, posted))
packet_at source target number box posted begun is =
    let place = number - box.first in
    let same : box.first + place ≡ number = omega (arith, begun) in
    slice_get-map (packet_with source target) (enumerate_from box.first box.messages) place
    ∙ ap (option_map (packet_with source target)) (numbered_at box.first box.messages place ∙ ap (option_map (λ (x : Posted). (box.first + place, x))) is)
    ∙ ap (λ (n : ℕ). Some (packet_with source target (n, posted))) same

packet_nowhere : (source target : ℕ) (place : ℕ) (box : Outbox) → slice_get box.messages place ≡ None → slice_get (packets_in source target box) place ≡ None
packet_nowhere source target place box is =
    slice_get-map (packet_with source target) (enumerate_from box.first box.messages) place
    ∙ ap (option_map (packet_with source target)) (numbered_at box.first box.messages place ∙ ap (option_map (λ (x : Posted). (box.first + place, x))) is)

-- one more message has joined as a packet
pub packet_joined : (source target number : ℕ) (box : Outbox) (posted : Posted) (made : Packet) (old new all : List Packet) → box.first ≤ number → slice_get box.messages (number - box.first) ≡ Some posted
    → made ≡ packet_with source target (number, posted) → new ≡ old ++ made ∷ [] → old ++ packets_from source target number box ≡ all → new ++ packets_from source target (number + 1) box ≡ all
packet_joined source target number box posted made old new all begun is same joins so_far =
    one_joined old new (packets_from source target number box) (packets_from source target (number + 1) box) all (packet_with source target (number, posted)) made
    (one_behind (packets_in source target box) box.first number (packet_with source target (number, posted)) begun (packet_at source target number box posted begun is)) same joins so_far

-- no message is left
pub packets_joined : (source target number : ℕ) (box : Outbox) (old all : List Packet) → slice_get box.messages (number - box.first) ≡ None → old ++ packets_from source target number box ≡ all → old ≡ all
packets_joined source target number box old all is so_far =
    none_joined old (packets_from source target number box) all (none_behind (packets_in source target box) (number - box.first) (packet_nowhere source target (number - box.first) box is)) so_far

-- ---- what a frame sends

-- one more message has joined
pub sending_joined : (target number : ℕ) (box : Outbox) (posted : Posted) (made : Sent) (old new all : List Sent) → box.first ≤ number → slice_get box.messages (number - box.first) ≡ Some posted
    → made ≡ sent_to target posted → new ≡ old ++ made ∷ [] → old ++ sent_from target number box ≡ all → new ++ sent_from target (number + 1) box ≡ all
sending_joined target number box posted made old new all begun is same joins so_far =
    let place = number - box.first in
    one_joined old new (sent_from target number box) (sent_from target (number + 1) box) all (sent_to target posted) made
    (one_behind (sent_in target box) box.first number (sent_to target posted) begun (slice_get-map (sent_to target) box.messages place ∙ ap (option_map (sent_to target)) is)) same joins so_far

-- no message is left
pub sendings_joined : (target number : ℕ) (box : Outbox) (old all : List Sent) → slice_get box.messages (number - box.first) ≡ None → old ++ sent_from target number box ≡ all → old ≡ all
sendings_joined target number box old all is so_far =
    let place = number - box.first in
    none_joined old (sent_from target number box) all (none_behind (sent_in target box) place (slice_get-map (sent_to target) box.messages place ∙ ap (option_map (sent_to target)) is)) so_far
