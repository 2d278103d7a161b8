-- Which files are well formed, and the place of the first statement that breaks a rule.
use Rattle.std.specs.Prelude.{◌≡◌, List, [], ℕ, codes, replicate, true, false, is_some, pos}
use Rattle.dura_value.specs.declared.data.Scalar.TheVariants as scalars
use Rattle.dura_value.specs.declared.data.Value.TheVariants as values
use Rattle.flow_syntax.specs.Check.{check, well_formed, bad_shape, unknown_name, has_operation}
use Rattle.flow_syntax.specs.Syntax.{Expression, scalar, Statement, call, lock_in, return, fail, Block, nothing, first_then, Class, Flows, with_operation, with_flow, with_class, body_of, class_of}
use Rattle.worked_rows.specs.Made.{locked}

abbrev null : Expression
null = scalar scalars.Null

abbrev calling : Statement
calling = call (codes "x") (codes "echo") null

-- a lock of so many entities of a class
abbrev locking : List ℕ → ℕ → Statement
locking class count = lock_in (replicate count (locked class null)) nothing

abbrev pair : Statement → Statement → Block
pair first second = first_then first (first_then second nothing)

abbrev class : Statement → Class
class second = with_operation (record { init = values.Int (pos 0); operations = [] }) (codes "op") (pair (return null) second)

-- a file of the class C with the operation `op`, which has this second statement, and the flow F
abbrev pub file : Statement → Block → Flows
file second flow = with_flow (with_class (record { flows = []; classes = [] }) (codes "C") (class second)) (codes "F") flow

abbrev pub good : Flows
good = file (fail null) (pair calling (locking (codes "C") 16))

-- A flow's statements have the numbers before an operation's, and each shape is looked at before any name.
abbrev pub ChecksAgree : Type 0
ChecksAgree =
    (check good ≡ well_formed)
    × (is_some (body_of good (codes "F")) ≡ true)
    × (is_some (body_of good (codes "G")) ≡ false)
    × (has_operation (class_of good (codes "C")) (codes "op") ≡ true)
    × (check (file (fail null) (pair calling (locking (codes "D") 1))) ≡ unknown_name 1)
    × (check (file calling (pair calling (locking (codes "D") 1))) ≡ bad_shape 3)
    × (check (file calling (pair (locking (codes "C") 17) calling)) ≡ bad_shape 0)
