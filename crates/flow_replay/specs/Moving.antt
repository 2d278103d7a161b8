-- Step after step.
use Rattle.std.specs.Prelude.{◌≡◌, ℕ, List, [], ◌++◌, length, codes, Bool, true, false, Option, Some, None}
use Rattle.flow_syntax.specs.declared.syntax.Stmt.{Stmt}
use Rattle.flow_syntax.specs.Views.{block_of}
use Rattle.flow_syntax.specs.Syntax.{Expression, await, await_all, await_any}
use Rattle.flow_syntax.specs.Machine as plain
use Rattle.flow_machine.specs.declared.machine.Todo.{Todo}
use Rattle.flow_machine.specs.Views.{todos_of}
use Rattle.flow_machine.specs.Steps.{with_rest}

-- What came last was taken out.
pub record Popped (old now : plain.Machine) (todo : Todo) : Type 0 where
  pub rest : old.rest ≡ todos_of todo ++ now.rest
  pub other : now ≡ with_rest old now.rest

abbrev pub Pops : plain.Machine → plain.Machine → Option Todo → Type 0
Pops old now (Some todo) = Popped old now todo
Pops old now None = (old.rest ≡ []) × (now ≡ old)

-- The first statement of a body was split off, and the others are before the rest.
pub record Splits (old now : plain.Machine) (body first : List Stmt) : Type 0 where
  pub rest : plain.todo (block_of first) ++ now.rest ≡ plain.todo (block_of body) ++ old.rest
  pub one : length (plain.todo (block_of first)) ≡ 1
  pub other : now ≡ with_rest old now.rest

-- The first thing that was to run, of which there is just one, and the machine without it.
pub record Taken (old now : plain.Machine) (todo : Todo) : Type 0 where
  pub rest : old.rest ≡ todos_of todo ++ now.rest
  pub one : length (todos_of todo) ≡ 1
  pub other : now ≡ with_rest old now.rest

-- What is next was taken out, or nothing is to run.
abbrev pub Takes : plain.Machine → plain.Machine → Option Todo → Type 0
Takes old now (Some todo) = Taken old now todo
Takes old now None = (old.rest ≡ []) × (now ≡ old)

-- It stays just where it is, or it would go on.
abbrev pub IsGoing : plain.Next → Type 0
IsGoing (plain.goes r) = Unit {0}
IsGoing (plain.stays r) = ⊥

abbrev pub Blocks : Bool → (plain.Machine → plain.Next) → Type 0
Blocks true next = (was : plain.Machine) → next was ≡ plain.stays (plain.only was)
Blocks false next = (was : plain.Machine) → IsGoing (next was)

-- whether these wait, whatever variable they set
abbrev pub AwaitBlocks : Bool → plain.Machine → Expression → Type 0
AwaitBlocks blocks m handle = (variable : List ℕ) → Blocks blocks (λ was. plain.statement_step was m (await variable handle))

abbrev pub AllBlocks : Bool → plain.Machine → Expression → Type 0
AllBlocks blocks m handles = (variable : List ℕ) → Blocks blocks (λ was. plain.statement_step was m (await_all variable handles))

abbrev pub AnyBlocks : Bool → plain.Machine → Expression → Type 0
AnyBlocks blocks m handles = (variable : List ℕ) → Blocks blocks (λ was. plain.statement_step was m (await_any variable handles))

-- A machine that has taken all its steps stays where it would stay anyway, and else ends as failed.
abbrev pub stopped : plain.Machine → plain.Next → plain.Resumed
stopped m (plain.stays r) = r
stopped m (plain.goes r) = plain.ended m (plain.failed (codes "budget"))
