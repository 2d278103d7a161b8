-- How far a walk over the statements of a file comes that asks each of them for one rule.
use Rattle.std.specs.Prelude.{ℕ, ◌+◌, ◌-◌, ◌^◌, List, [], ◌∷◌, ◌++◌, min, Bool, true, Result, Ok, Err, if◌then◌else◌}
use Rattle.std.specs.declared.vec.Vec.{Vec}
use Rattle.std.specs.declared.alloc.Global.{Global}
use Rattle.flow_syntax.specs.declared.check.CheckError.{CheckError}
use Rattle.flow_syntax.specs.declared.check.CheckError.TheVariants.{BadShape, UnknownName}
use Rattle.flow_syntax.specs.declared.check.Rule.{Rule}
use Rattle.flow_syntax.specs.declared.check.Rule.TheVariants.{Shape, Names}
use Rattle.flow_syntax.specs.declared.syntax.Stmt.{Stmt}
use Rattle.flow_syntax.specs.declared.flows.Class.{Class}
use Rattle.flow_syntax.specs.Syntax as plain
use Rattle.flow_syntax.specs.Check.{Placed, Verdict, well_formed, bad_shape, unknown_name, has_shape, has_names, statements, in_blocks}
use Rattle.flow_syntax.specs.Views.{block_of, bodies_of}

-- the greatest number of 64 bits
abbrev pub greatest : ℕ
greatest = 2 ^ 64 - 1

-- the next number, or the greatest again
abbrev pub next_of : ℕ → ℕ
next_of n = min (n + 1) greatest

-- the number of the first one that breaks the rule, or the number behind all; the first one has the number n
abbrev pub walked : {X : Type 0} → (X → Bool) → ℕ → List X → Result ℕ ℕ
walked good n [] = Ok n
walked good n (x ∷ xs) = if good x then walked good (next_of n) xs else Err n

abbrev pub keeps : plain.Flows → Rule → Placed → Bool
keeps file Shape placed = has_shape placed
keeps file Names placed = has_names file placed

-- how far a walk comes over the statements of a file
abbrev pub walk : plain.Flows → Rule → ℕ → List Placed → Result ℕ ℕ
walk file rule number placed = walked (keeps file rule) number placed

abbrev pub placed_in : Bool → plain.Statement → Placed
placed_in inside statement = record { statement = statement; in_operation = inside }

-- the statements of several bodies
abbrev pub in_bodies : Bool → List (Vec Stmt Global) → List Placed
in_bodies inside [] = []
in_bodies inside (body ∷ bodies) = statements inside (block_of body.items) ++ in_bodies inside bodies

-- the statements of all operations of several classes
abbrev pub in_operations : List Class → List Placed
in_operations [] = []
in_operations (class ∷ classes) = in_blocks true (bodies_of class.operations) ++ in_operations classes

-- what was answered, as a verdict
abbrev pub verdict_of : Result (Unit {0}) CheckError → Verdict
verdict_of (Ok done) = well_formed
verdict_of (Err (BadShape place)) = bad_shape place
verdict_of (Err (UnknownName place)) = unknown_name place

-- a verdict whose place goes no further than the greatest number of 64 bits
abbrev pub in_64_bits : Verdict → Verdict
in_64_bits well_formed = well_formed
in_64_bits (bad_shape place) = bad_shape (min place greatest)
in_64_bits (unknown_name place) = unknown_name (min place greatest)
