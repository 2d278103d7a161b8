-- Objects of too few or too many members.
use Rattle.std.proofs.Common.{◌≡◌, ◌≤◌, ◌<◌, List, [], ◌∷◌, length, refl, arith}
use Rattle.serde_json.specs.Data.{object}
use Rattle.json_tree.specs.View.{members_view}
use Rattle.json_tree.proofs.Members.{Entry}
use Rattle.flow_values.specs.Faults.{misshapen}
use Rattle.flow_reader.specs.Classes.{class_in}
use Rattle.flow_reader.specs.Files.{file_in}

pub no_file : (ms : List Entry) → 3 ≤ length ms → file_in (object (members_view ms)) ≡ misshapen
no_file [] many = absurd (omega (arith, many))
no_file (a ∷ []) many = absurd (omega (arith, many))
no_file (a ∷ b ∷ []) many = absurd (omega (arith, many))
no_file (a ∷ b ∷ c ∷ ms) many = refl

pub no_class : (ms : List Entry) → 3 ≤ length ms → class_in (object (members_view ms)) ≡ misshapen
no_class [] many = absurd (omega (arith, many))
no_class (a ∷ []) many = absurd (omega (arith, many))
no_class (a ∷ b ∷ []) many = absurd (omega (arith, many))
no_class (a ∷ b ∷ c ∷ ms) many = refl

pub one_member : (ms : List Entry) → 1 ≤ length ms → length ms < 2 → class_in (object (members_view ms)) ≡ misshapen
one_member [] some few = absurd (omega (arith, some))
one_member (a ∷ []) some few = refl
one_member (a ∷ b ∷ ms) some few = absurd (omega (arith, few))
