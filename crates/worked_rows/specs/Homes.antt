-- Digests, ids with their homes, and texts that are no ids.
use Rattle.std.specs.Prelude.{◌≡◌, ℕ, List, [], ◌∷◌, map, codes, Ok, Err}
use Rattle.std.specs.declared.cmp.Ordering.{Ordering}
use Rattle.std.specs.declared.cmp.Ordering.TheVariants.{Less}
use Rattle.dura_value.specs.declared.addresses.Id.{Id as Given}
use Rattle.dura_value.specs.declared.addresses.Id.TheVariants.{Client, Entity, Flow}
use Rattle.dura_value.specs.Digest.{fnv1a_64}
use Rattle.dura_value.specs.Ids.{written, home}
use Rattle.dura_value.specs.Reading.{name_at, key_at, id_in}
use Rattle.dura_value.specs.Views.{id_of}

-- texts with their digests
abbrev pub digest_rows : List (List ℕ × ℕ)
digest_rows =
    ([], 0xcbf29ce484222325)
    ∷ (codes "a", 0xaf63dc4c8601ec8c)
    ∷ (codes "foobar", 0x85944171f73967e8)
    ∷ (codes "{}", 0x08f44b07b5901a25)
    ∷ []

-- an id, how it is written, and the partition of 32 that it lives in
pub record Housed : Type 0 where
  pub id : Given
  pub text : List ℕ
  pub partition : ℕ

abbrev housed : Given → List ℕ → ℕ → Housed
housed id text partition = record { id = id; text = text; partition = partition }

-- in their order
abbrev pub home_rows : List Housed
home_rows =
    housed (Client (codes "a")) (codes "#a") 9
    ∷ housed (Client (codes "b")) (codes "#b") 16
    ∷ housed (Entity (codes "Account") (codes "A")) (codes "@Account/A") 26
    ∷ housed (Entity (codes "Account") (codes "B")) (codes "@Account/B") 7
    ∷ housed (Flow (codes "Draw") (codes "x")) (codes "Draw/x") 4
    ∷ housed (Flow (codes "Sum") (codes "x")) (codes "Sum/x") 7
    ∷ []

-- texts that are no ids, with how many of their first bytes begin one
abbrev pub fault_rows : List (List ℕ × ℕ)
fault_rows =
    ([], 0)
    ∷ (codes "#", 1)
    ∷ (codes "#a/x", 2)
    ∷ (codes "@Account", 8)
    ∷ (codes "Sum/", 4)
    ∷ (codes "Sum/x/y", 5)
    ∷ (codes "1/x", 0)
    ∷ (codes "Sum-1/x", 3)
    ∷ []

abbrev pub Digests : Type 0
Digests = map (λ row. fnv1a_64 row.0) digest_rows ≡ map (λ row. row.1) digest_rows

abbrev pub AreWritten : Type 0
AreWritten = map (λ (row : Housed). written (id_of row.id)) home_rows ≡ map (λ (row : Housed). row.text) home_rows

abbrev pub AreRead : Type 0
AreRead = map (λ (row : Housed). id_in row.text) home_rows ≡ map (λ (row : Housed). Ok (id_of row.id)) home_rows

abbrev pub LiveThere : Type 0
LiveThere = map (λ (row : Housed). home 32 (id_of row.id)) home_rows ≡ map (λ (row : Housed). row.partition) home_rows

-- how each id is compared with the next one
abbrev pub with_next : (Given → Given → Ordering) → List Housed → List Ordering
with_next cmp [] = []
with_next cmp (first ∷ []) = []
with_next cmp (first ∷ second ∷ more) = cmp first.id second.id ∷ with_next cmp (second ∷ more)

abbrev pub InOrder : (Given → Given → Ordering) → Type 0
InOrder cmp = with_next cmp home_rows ≡ Less ∷ Less ∷ Less ∷ Less ∷ Less ∷ []

abbrev pub NoIds : Type 0
NoIds = map (λ row. id_in row.0) fault_rows ≡ map (λ row. Err row.1) fault_rows

-- words with each kind of byte
abbrev pub AreWords : Type 0
AreWords = (name_at 0 (codes "Sum_1") ≡ Ok (codes "Sum_1")) × (key_at 0 (codes "1.x-y_z") ≡ Ok (codes "1.x-y_z"))
