-- Statements: an array of a word and its parts. In an operation only some of them may stand.
use Rattle.std.specs.Prelude.{ℕ, ◌+◌, ◌&&◌, List, [], ◌∷◌, codes, Bool, true, false, nat_le, if◌then◌else◌, Option, Some, None, Result, Ok}
use Rattle.serde_json.specs.Data.{Data, array, Items, no_items, item}
use Rattle.dura_value.specs.Limits.{most_spots}
use Rattle.flow_syntax.specs.Syntax.{Statement, let_be, spawn, call, subflow, ask, timer, event, await, await_all, await_any, signal, lock_in, if_then, while, try, return, fail, Block, nothing, first_then, Locked, Expression}
use Rattle.flow_reader.specs.declared.words.Word.{Word}
use Rattle.flow_reader.specs.declared.words.Word.TheVariants as words
use Rattle.flow_values.specs.Expressions.{expression_in, is_word, given}
use Rattle.flow_values.specs.Faults.{Path, to_part, at, misshapen, where_fits, ◌>>=◌}
use Rattle.flow_values.specs.Values.{name_in, count}

-- the words that may stand in an operation
abbrev pub inner_word : Data → Option Word
inner_word d =
    if is_word (codes "let") d then Some words.Let
    else (if is_word (codes "if") d then Some words.If
    else (if is_word (codes "while") d then Some words.While
    else (if is_word (codes "try") d then Some words.Try
    else (if is_word (codes "return") d then Some words.Return
    else (if is_word (codes "fail") d then Some words.Fail
    else None)))))

-- those that may stand in a flow alone
abbrev pub flow_word : Data → Option Word
flow_word d =
    if is_word (codes "spawn") d then Some words.Spawn
    else (if is_word (codes "call") d then Some words.Call
    else (if is_word (codes "sub") d then Some words.Sub
    else (if is_word (codes "ask") d then Some words.Ask
    else (if is_word (codes "timer") d then Some words.Timer
    else (if is_word (codes "event") d then Some words.Event
    else (if is_word (codes "await") d then Some words.Await
    else (if is_word (codes "all") d then Some words.All
    else (if is_word (codes "any") d then Some words.Any
    else (if is_word (codes "signal") d then Some words.Signal
    else (if is_word (codes "lock") d then Some words.Lock
    else None))))))))))

abbrev pub either_word : Option Word → Option Word → Option Word
either_word (Some word) other = Some word
either_word None other = other

abbrev pub word_in : Bool → Data → Option Word
word_in true d = inner_word d
word_in false d = either_word (inner_word d) (flow_word d)

-- a class and what gives a key
abbrev pub locked_in : Data → Result Locked Path
locked_in (array (item c (item k no_items))) = at (to_part 0) (name_in c) >>= λ class. at (to_part 1) (expression_in k) >>= λ key. Ok (record { class = class; key = key })
locked_in _ = misshapen

-- the pairs from this place on
abbrev pub pairs_from : ℕ → Items → Result (List Locked) Path
pairs_from i no_items = Ok []
pairs_from i (item d ds) = at (to_part i) (locked_in d) >>= λ one. pairs_from (i + 1) ds >>= λ more. Ok (one ∷ more)

-- 1 to 16 pairs
abbrev pub pairs_in : Data → Result (List Locked) Path
pairs_in (array ds) = where_fits (nat_le 1 (count ds) && nat_le (count ds) most_spots) (pairs_from 0 ds)
pairs_in _ = misshapen

-- the parts, where they are just so many
abbrev pub one_part : Items → Option Data
one_part (item a no_items) = Some a
one_part _ = None

abbrev pub two_parts : Items → Option (Data × Data)
two_parts (item a (item b no_items)) = Some (a, b)
two_parts _ = None

abbrev pub three_parts : Items → Option (Data × Data × Data)
three_parts (item a (item b (item c no_items))) = Some (a, b, c)
three_parts _ = None

abbrev pub four_parts : Items → Option (Data × Data × Data × Data)
four_parts (item a (item b (item c (item d no_items)))) = Some (a, b, c, d)
four_parts _ = None

abbrev pub five_parts : Items → Option (Data × Data × Data × Data × Data)
five_parts (item a (item b (item c (item d (item e no_items))))) = Some (a, b, c, d, e)
five_parts _ = None

-- the only part, an expression
abbrev pub only_value : Items → Result Expression Path
only_value parts = given (one_part parts) (λ e. at (to_part 1) (expression_in e))

-- a variable and an expression
abbrev pub variable_and_value : Items → Result (List ℕ × Expression) Path
variable_and_value parts = given (two_parts parts) (λ p. at (to_part 1) (name_in p.0) >>= λ x. at (to_part 2) (expression_in p.1) >>= λ e. Ok (x, e))

-- a variable, an activity and its argument
abbrev pub activity_in : Items → Result (List ℕ × List ℕ × Expression) Path
activity_in parts = given (three_parts parts) (λ p. at (to_part 1) (name_in p.0) >>= λ x. at (to_part 2) (name_in p.1) >>= λ a. at (to_part 3) (expression_in p.2) >>= λ e. Ok (x, a, e))

abbrev pub event_in : Items → Result Statement Path
event_in parts = given (two_parts parts) (λ p. at (to_part 1) (name_in p.0) >>= λ x. at (to_part 2) (name_in p.1) >>= λ name. Ok (event x name))

abbrev pub sub_in : Items → Result Statement Path
sub_in parts = given (four_parts parts) (λ p. at (to_part 1) (name_in p.0) >>= λ x. at (to_part 2) (name_in p.1) >>= λ flow. at (to_part 3) (expression_in p.2) >>= λ key. at (to_part 4) (expression_in p.3) >>= λ argument. Ok (subflow x flow key argument))

abbrev pub ask_in : Items → Result Statement Path
ask_in parts = given (five_parts parts) (λ p. at (to_part 1) (name_in p.0) >>= λ x. at (to_part 2) (name_in p.1) >>= λ class. at (to_part 3) (expression_in p.2) >>= λ key. at (to_part 4) (name_in p.3) >>= λ operation. at (to_part 5) (expression_in p.4) >>= λ argument. Ok (ask x class key operation argument))

abbrev pub signal_in : Items → Result Statement Path
signal_in parts = given (four_parts parts) (λ p. at (to_part 1) (name_in p.0) >>= λ class. at (to_part 2) (expression_in p.1) >>= λ key. at (to_part 3) (name_in p.2) >>= λ operation. at (to_part 4) (expression_in p.3) >>= λ argument. Ok (signal class key operation argument))

-- a statement with none in it, of a word and its parts
abbrev pub simple_in : Word → Items → Result Statement Path
simple_in words.Let parts = variable_and_value parts >>= λ p. Ok (let_be p.0 p.1)
simple_in words.Spawn parts = activity_in parts >>= λ p. Ok (spawn p.0 p.1 p.2)
simple_in words.Call parts = activity_in parts >>= λ p. Ok (call p.0 p.1 p.2)
simple_in words.Sub parts = sub_in parts
simple_in words.Ask parts = ask_in parts
simple_in words.Timer parts = variable_and_value parts >>= λ p. Ok (timer p.0 p.1)
simple_in words.Event parts = event_in parts
simple_in words.Await parts = variable_and_value parts >>= λ p. Ok (await p.0 p.1)
simple_in words.All parts = variable_and_value parts >>= λ p. Ok (await_all p.0 p.1)
simple_in words.Any parts = variable_and_value parts >>= λ p. Ok (await_any p.0 p.1)
simple_in words.Signal parts = signal_in parts
simple_in words.Return parts = only_value parts >>= λ e. Ok (return e)
simple_in words.Fail parts = only_value parts >>= λ e. Ok (fail e)
simple_in _ parts = misshapen

abbrev mutual
  -- a statement, in an operation or a flow
  pub statement_in : Bool → Data → Result Statement Path
  statement_in inside (array (item word parts)) = given (word_in inside word) (λ word. of_word inside word parts)
  statement_in inside _ = misshapen

  -- the statement of a word and its parts
  pub of_word : Bool → Word → Items → Result Statement Path
  of_word inside words.Lock (item ps (item s no_items)) = at (to_part 1) (pairs_in ps) >>= λ entities. at (to_part 2) (body_in inside s) >>= λ body. Ok (lock_in entities body)
  of_word inside words.If (item e (item s (item t no_items))) = at (to_part 1) (expression_in e) >>= λ test. at (to_part 2) (body_in inside s) >>= λ yes_body. at (to_part 3) (body_in inside t) >>= λ no_body. Ok (if_then test yes_body no_body)
  of_word inside words.While (item e (item s no_items)) = at (to_part 1) (expression_in e) >>= λ test. at (to_part 2) (body_in inside s) >>= λ body. Ok (while test body)
  of_word inside words.Try (item s (item x (item t no_items))) = at (to_part 1) (body_in inside s) >>= λ body. at (to_part 2) (name_in x) >>= λ variable. at (to_part 3) (body_in inside t) >>= λ handler. Ok (try body variable handler)
  of_word inside word parts = simple_in word parts

  -- an array of statements
  pub body_in : Bool → Data → Result Block Path
  body_in inside (array ds) = statements_from inside 0 ds
  body_in inside _ = misshapen

  -- the statements from this place on
  pub statements_from : Bool → ℕ → Items → Result Block Path
  statements_from inside i no_items = Ok nothing
  statements_from inside i (item d ds) = at (to_part i) (statement_in inside d) >>= λ first. statements_from inside (i + 1) ds >>= λ rest. Ok (first_then first rest)
