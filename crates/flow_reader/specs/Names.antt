-- The first name of a flow that stands for nothing.
use Rattle.std.specs.Prelude.{ℕ, ◌+◌, List, [], ◌∷◌, Bool, is_some, Result, Ok, ⊤}
use Rattle.flow_syntax.specs.Check.{has_operation}
use Rattle.flow_syntax.specs.Syntax.{Statement, subflow, ask, signal, lock_in, if_then, while, try, Block, nothing, first_then, Named, Flows, Locked, body_of, class_of}
use Rattle.flow_values.specs.Faults.{Path, to_key, to_part, at, where_fits, ◌>>=◌}

-- that it stands for something
abbrev pub Known : Type 0
Known = Result ⊤ Path

abbrev pub known_if : Bool → Known
known_if test = where_fits test (Ok tt)

-- the classes of pairs, from this place on
abbrev pub known_pairs : Flows → ℕ → List Locked → Known
known_pairs file i [] = Ok tt
known_pairs file i (one ∷ more) = at (to_part i) (at (to_part 0) (known_if (is_some (class_of file one.class)))) >>= λ known. known_pairs file (i + 1) more

abbrev mutual
  -- the names that a statement looks up, and those of the statements in it
  pub known_in : Flows → Statement → Known
  known_in file (subflow variable flow key argument) = at (to_part 2) (known_if (is_some (body_of file flow)))
  known_in file (ask variable class key operation argument) = at (to_part 2) (known_if (is_some (class_of file class))) >>= λ known. at (to_part 4) (known_if (has_operation (class_of file class) operation))
  known_in file (signal class key operation argument) = at (to_part 1) (known_if (is_some (class_of file class))) >>= λ known. at (to_part 3) (known_if (has_operation (class_of file class) operation))
  known_in file (lock_in entities body) = at (to_part 1) (known_pairs file 0 entities) >>= λ known. at (to_part 2) (known_block file 0 body)
  known_in file (if_then test yes_body no_body) = at (to_part 2) (known_block file 0 yes_body) >>= λ known. at (to_part 3) (known_block file 0 no_body)
  known_in file (while test body) = at (to_part 2) (known_block file 0 body)
  known_in file (try body variable handler) = at (to_part 1) (known_block file 0 body) >>= λ known. at (to_part 3) (known_block file 0 handler)
  known_in file other = Ok tt

  -- those of the statements from this place on
  pub known_block : Flows → ℕ → Block → Known
  known_block file i nothing = Ok tt
  known_block file i (first_then first rest) = at (to_part i) (known_in file first) >>= λ known. known_block file (i + 1) rest

-- those of all flows; an operation looks up no name
abbrev pub known_flows : Flows → List (Named Block) → Known
known_flows file [] = Ok tt
known_flows file (one ∷ more) = at (to_key one.name) (known_block file 0 one.it) >>= λ known. known_flows file more
