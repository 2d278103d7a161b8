-- Bytes begin with one spelling at most.
use Rattle.std.proofs.Common.{◌≡◌, ℕ, List, ◌++◌, Ok, Err, sym, ap, ◌∙◌}
use Rattle.dura_value.specs.declared.data.Value.{Value}
use Rattle.dura_value.specs.Ids.{Id}
use Rattle.dura_value.specs.Messages.{Message}
use Rattle.dura_codec.specs.Fields.{Read}
use Rattle.dura_codec.specs.Grammar.{value_at, id_at, message_at}
use Rattle.dura_codec.specs.Spelling.{spell_value, spell_id, spell_message}
use Rattle.part_items.specs.Fits.{FitsValue, FitsId, FitsMessage}
use Rattle.part_items.proofs.Values.{value_again}
use Rattle.part_items.proofs.Ids.{id_again}
use Rattle.part_items.proofs.Messages.{message_again}

-- what was read, or another pair
pair_of : {X : Type 0} → X × List ℕ → Read X → X × List ℕ
pair_of other (Ok pair) = pair
pair_of other (Err left) = other

-- what is read again is spelled apart
pub apart : {X : Type 0} (read : List ℕ → Read X) (spell : X → List ℕ) (P : X → Type 0) → ((x : X) (rest : List ℕ) → P x → read (spell x ++ rest) ≡ Ok (x, rest))
    → (a b : X) (more other : List ℕ) → P a → P b → spell a ++ more ≡ spell b ++ other → (a ≡ b) × (more ≡ other)
unfolding pair_of
apart {X} read spell P again a b more other fits_a fits_b same =
    let one : Path (Read X) (Ok (a, more)) (Ok (b, other)) = sym (again a more fits_a) ∙ (ap read same ∙ again b other fits_b) in
    let pairs : Path (X × List ℕ) (a, more) (b, other) = ap (pair_of (a, more)) one in
    (ap (λ (p : X × List ℕ). p.0) pairs, ap (λ (p : X × List ℕ). p.1) pairs)

pub value_apart : (a b : Value) (more other : List ℕ) → FitsValue a → FitsValue b → spell_value a ++ more ≡ spell_value b ++ other → (a ≡ b) × (more ≡ other)
value_apart a b more other fits_a fits_b same = apart value_at spell_value FitsValue value_again a b more other fits_a fits_b same

pub id_apart : (a b : Id) (more other : List ℕ) → FitsId a → FitsId b → spell_id a ++ more ≡ spell_id b ++ other → (a ≡ b) × (more ≡ other)
id_apart a b more other fits_a fits_b same = apart id_at spell_id FitsId id_again a b more other fits_a fits_b same

pub message_apart : (a b : Message) (more other : List ℕ) → FitsMessage a → FitsMessage b → spell_message a ++ more ≡ spell_message b ++ other → (a ≡ b) × (more ≡ other)
message_apart a b more other fits_a fits_b same = apart message_at spell_message FitsMessage message_again a b more other fits_a fits_b same
