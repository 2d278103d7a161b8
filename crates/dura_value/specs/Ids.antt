-- Who sends and receives messages, and where each of them lives.
use Rattle.std.specs.Prelude.{ℕ, ◌%◌, ◌&&◌, List, ◌∷◌, ◌++◌, Bool, false}
use Rattle.std.specs.Str.{bytes_eq}
use Rattle.dura_value.specs.Digest.{fnv1a_64}

-- an instance of a flow, an entity of a class, or a client
pub data Id : Type 0 where
  orchestration : (flow key : List ℕ) → Id
  entity : (class key : List ℕ) → Id
  client : (name : List ℕ) → Id

-- Flow/key, @Class/key, #name
abbrev pub written : Id → List ℕ
written (orchestration flow key) = flow ++ 47 ∷ key
written (entity class key) = 64 ∷ class ++ 47 ∷ key
written (client name) = 35 ∷ name

-- the partition that an id lives in, of so many
abbrev pub home : ℕ → Id → ℕ
home partitions id = fnv1a_64 (written id) % partitions

-- whether two ids are the same
abbrev pub id_eq : Id → Id → Bool
id_eq (orchestration flow key) (orchestration other_flow other_key) = bytes_eq flow other_flow && bytes_eq key other_key
id_eq (entity class key) (entity other_class other_key) = bytes_eq class other_class && bytes_eq key other_key
id_eq (client name) (client other_name) = bytes_eq name other_name
id_eq a b = false
