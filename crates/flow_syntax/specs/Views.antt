-- The plain data that expressions, statements, flows and classes stand for.
use Rattle.std.specs.Prelude.{ℕ, List, [], ◌∷◌, map}
use Rattle.std.specs.declared.vec.Vec.{Vec}
use Rattle.std.specs.declared.alloc.Global.{Global}
use Rattle.std.specs.BTreeMap.{BTreeMap}
use Rattle.flow_syntax.specs.declared.syntax.UnaryOp.{UnaryOp}
use Rattle.flow_syntax.specs.declared.syntax.UnaryOp.TheVariants.{Not, Len, Str}
use Rattle.flow_syntax.specs.declared.syntax.BinaryOp.{BinaryOp}
use Rattle.flow_syntax.specs.declared.syntax.BinaryOp.TheVariants as operations
use Rattle.flow_syntax.specs.declared.syntax.Expr.{Expr, Row_of-Expr, end_of-Expr, more_of-Expr}
use Rattle.flow_syntax.specs.declared.syntax.Expr.TheVariants as expressions
use Rattle.flow_syntax.specs.declared.syntax.Locked.{Locked}
use Rattle.flow_syntax.specs.declared.syntax.Stmt.{Stmt, Row_of-Stmt, end_of-Stmt, more_of-Stmt}
use Rattle.flow_syntax.specs.declared.syntax.Stmt.TheVariants as statements
use Rattle.flow_syntax.specs.declared.flows.Class.{Class}
use Rattle.flow_syntax.specs.declared.flows.Flows.{Flows}
use Rattle.flow_syntax.specs.Syntax as plain

-- bodies by their names
abbrev pub Bodies : Type 0
Bodies = BTreeMap (List ℕ) (Vec Stmt Global)

abbrev pub unary_of : UnaryOp → plain.Unary
unary_of Not = plain.not_of
unary_of Len = plain.length_of
unary_of Str = plain.text_of

abbrev pub binary_of : BinaryOp → plain.Binary
binary_of operations.Add = plain.add
binary_of operations.Sub = plain.sub
binary_of operations.Mul = plain.mul
binary_of operations.Div = plain.div
binary_of operations.Rem = plain.rem
binary_of operations.Eq = plain.equal
binary_of operations.Lt = plain.less
binary_of operations.And = plain.both
binary_of operations.Or = plain.either
binary_of operations.Cat = plain.join
binary_of operations.At = plain.at
binary_of operations.Push = plain.push

abbrev mutual
  pub expression_of : Expr → plain.Expression
  expression_of (expressions.Scalar s) = plain.scalar s
  expression_of (expressions.Variable name) = plain.variable name
  expression_of (expressions.List' shape parts) = plain.list (parts_in parts)
  expression_of (expressions.Unary' operation p only) = plain.unary (unary_of operation) (expression_of only)
  expression_of (expressions.Binary' operation p first q second) = plain.binary (binary_of operation) (expression_of first) (expression_of second)

  pub parts_in : {n : _} → Row_of-Expr n → plain.Expressions
  parts_in end_of-Expr = plain.no_parts
  parts_in (more_of-Expr first rest) = plain.part (expression_of first) (parts_in rest)

abbrev pub parts_of : List Expr → plain.Expressions
parts_of [] = plain.no_parts
parts_of (first ∷ rest) = plain.part (expression_of first) (parts_of rest)

abbrev pub locked_of : Locked → plain.Locked
locked_of one = record { class = one.class; key = expression_of one.key }

abbrev mutual
  pub statement_of : Stmt → plain.Statement
  statement_of (statements.Let variable value) = plain.let_be variable (expression_of value)
  statement_of (statements.Spawn variable activity argument) = plain.spawn variable activity (expression_of argument)
  statement_of (statements.Call variable activity argument) = plain.call variable activity (expression_of argument)
  statement_of (statements.Sub variable flow key argument) = plain.subflow variable flow (expression_of key) (expression_of argument)
  statement_of (statements.Ask variable class key operation argument) = plain.ask variable class (expression_of key) operation (expression_of argument)
  statement_of (statements.Timer variable delay) = plain.timer variable (expression_of delay)
  statement_of (statements.Event variable name) = plain.event variable name
  statement_of (statements.Await variable handle) = plain.await variable (expression_of handle)
  statement_of (statements.All variable handles) = plain.await_all variable (expression_of handles)
  statement_of (statements.Any variable handles) = plain.await_any variable (expression_of handles)
  statement_of (statements.Signal class key operation argument) = plain.signal class (expression_of key) operation (expression_of argument)
  statement_of (statements.Lock' entities shape body) = plain.lock_in (map locked_of entities.items) (block_in body)
  statement_of (statements.If' test shape yes_body other_shape no_body) = plain.if_then (expression_of test) (block_in yes_body) (block_in no_body)
  statement_of (statements.While' test shape body) = plain.while (expression_of test) (block_in body)
  statement_of (statements.Try' shape body variable other_shape handler) = plain.try (block_in body) variable (block_in handler)
  statement_of (statements.Return value) = plain.return (expression_of value)
  statement_of (statements.Fail text) = plain.fail (expression_of text)

  pub block_in : {n : _} → Row_of-Stmt n → plain.Block
  block_in end_of-Stmt = plain.nothing
  block_in (more_of-Stmt statement rest) = plain.first_then (statement_of statement) (block_in rest)

abbrev pub block_of : List Stmt → plain.Block
block_of [] = plain.nothing
block_of (statement ∷ rest) = plain.first_then (statement_of statement) (block_of rest)

-- the entries of a map, each seen by a view, under their names
abbrev pub named_by : {X Y : Type 0} → (X → Y) → List (List ℕ × X) → List (plain.Named Y)
named_by view [] = []
named_by view (entry ∷ entries) = record { name = entry.0; it = view entry.1 } ∷ named_by view entries

abbrev pub body_in : Vec Stmt Global → plain.Block
body_in body = block_of body.items

abbrev pub bodies_of : Bodies → List (plain.Named plain.Block)
bodies_of bodies = named_by body_in bodies.entries

abbrev pub class_of : Class → plain.Class
class_of class = record { init = class.init; operations = bodies_of class.operations }

abbrev pub flows_of : Flows → plain.Flows
flows_of file = record { flows = bodies_of file.flows; classes = named_by class_of file.classes.entries }
