-- A packet of a stream has what lies in it under its number.
use Rattle.std.proofs.Common.{◌≡◌, ◌<◌, ◌≤◌, ◌∙◌, inl, inr, ℕ, zero, suc, ◌+◌, ◌-◌, List, [], ◌∷◌, Option, Some, None, refl, sym, ap, subst, arith, slice_get}
use Rattle.std.specs.List.{Contains, flat_map, enumerate_from, range_with_len}
use Rattle.std.specs.Option.{option_map}
use Rattle.std.proofs.lemmas.List.Concat.{flat_map-cons}
use Rattle.std.proofs.lemmas.List.Elements.{Contains-append_cases}
use Rattle.std.proofs.lemmas.Option.{slice_get-map}
use Rattle.cell_packets.specs.Packets.{Packet, packet_with, packets_in, packets_from, all_packets}
use Rattle.commit_gate.specs.Met.{HasPosted}
use Rattle.dura_value.specs.Items.{Posted}
use Rattle.log_items.specs.Streams.{Outbox}
use Rattle.many_rules.proofs.Meeting.{slice_of}
use Rattle.world_laws.proofs.Streams.{drop_get}

-- It is of the stream from this partition, at its number there, and not before this one.
pub record IsPacketOf (source : ℕ) (from : ℕ → ℕ) (boxes : ℕ → Outbox) (packet : Packet) : Type 0 where
  pub source_is : packet.source ≡ source
  pub posted : HasPosted (boxes packet.target) packet.number packet.posted
  pub past : from packet.target ≤ packet.number

pub in_flat : {X Y : Type 0} (f : X → List Y) (xs : List X) (y : Y) → Contains (flat_map f xs) y → (x : X) × Contains (f x) y
in_flat f [] y inside = absurd (let none : inside.0 < 0 = inside.1 in omega arith)
in_flat f (x ∷ xs) y inside = elim (Contains-append_cases (f x) (flat_map f xs) y (subst (λ (l : List _). Contains l y) (flat_map-cons f x xs) inside)) [
  | inl here ↦ (x, here)
  | inr there ↦ in_flat f xs y there
]

mapped_some : {X Y : Type 0} (f : X → Y) (o : Option X) (y : Y) → option_map f o ≡ Some y → (x : X) × (o ≡ Some x) × (f x ≡ y)
mapped_some f None y is = absurd (cc is)
mapped_some f (Some x) y is = (x, refl, cc is)

enumerated : (n : ℕ) (xs : List Posted) (i : ℕ) (z : ℕ × Posted) → slice_get (enumerate_from n xs) i ≡ Some z → (z.0 ≡ n + i) × (slice_get xs i ≡ Some z.1)
enumerated n [] i z is = absurd (cc is)
enumerated n (x ∷ xs) zero z is =
    let same : (n, x) ≡ z = cc is in
    let e : n ≡ n + 0 = omega arith in
    (ap (λ (y : ℕ × Posted). y.0) (sym same) ∙ e, ap (λ (y : ℕ × Posted). Some y.1) same)
enumerated n (x ∷ xs) (suc i) z is = let rest = enumerated (n + 1) xs i z is in (omega (arith, rest.0), rest.1)

packets_are : (source target from : ℕ) (box : Outbox) (packet : Packet) → Contains (packets_from source target from box) packet
    → (packet.source ≡ source) × (packet.target ≡ target) × HasPosted box packet.number packet.posted × (from ≤ packet.number)
packets_are source target from box packet inside =
    let m = from - box.first in
    let k = inside.0 in
    let at : slice_get (packets_in source target box) (m + k) ≡ Some packet = drop_get m (packets_in source target box) k packet (slice_of (packets_from source target from box) k packet inside.1 inside.2) in
    let one = mapped_some (packet_with source target) (slice_get (enumerate_from box.first box.messages) (m + k)) packet (sym (slice_get-map (packet_with source target) (enumerate_from box.first box.messages) (m + k)) ∙ at) in
    let z = enumerated box.first box.messages (m + k) one.0 one.1 in
    let number : packet.number ≡ box.first + (m + k) = ap (λ (p : Packet). p.number) (sym one.2) ∙ z.0 in
    let e : m + k ≡ packet.number - box.first = omega (arith, number) in
    let posted : packet.posted ≡ one.0.1 = ap (λ (p : Packet). p.posted) (sym one.2) in (
      ap (λ (p : Packet). p.source) (sym one.2),
      ap (λ (p : Packet). p.target) (sym one.2),
      record { begun = omega (arith, number); stands = subst (λ (n : ℕ). slice_get box.messages n ≡ Some packet.posted) e (z.1 ∙ ap (λ (x : Posted). Some x) (sym posted)) },
      omega (arith, number),
    )

pub packet_of_streams : (count source : ℕ) (from : ℕ → ℕ) (boxes : ℕ → Outbox) (packet : Packet) → Contains (all_packets count source from boxes) packet → IsPacketOf source from boxes packet
packet_of_streams count source from boxes packet inside =
    let one = in_flat (λ (target : ℕ). packets_from source target (from target) (boxes target)) (range_with_len 0 count) packet inside in
    let are = packets_are source one.0 (from one.0) (boxes one.0) packet one.1 in
    record {
      source_is = are.0;
      posted = subst (λ (t : ℕ). HasPosted (boxes t) packet.number packet.posted) (sym are.1) are.2;
      past = subst (λ (t : ℕ). from t ≤ packet.number) (sym are.1) are.3;
    }
