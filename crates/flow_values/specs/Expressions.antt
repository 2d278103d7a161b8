-- Expressions: a scalar is itself, and an object with one member is a variable, a list or an operation.
use Rattle.std.specs.Prelude.{ℕ, ◌+◌, List, codes, Bool, false, if◌then◌else◌, Option, Some, None, Result, Ok}
use Rattle.std.specs.Str.{bytes_eq}
use Rattle.serde_json.specs.Data.{Data, string, array, object, Items, no_items, item, no_members, member}
use Rattle.flow_syntax.specs.Syntax.{Expression, scalar, variable, list, unary, binary, Expressions, no_parts, part, Unary, not_of, length_of, text_of, Binary, add, sub, mul, div, rem, equal, less, both, either, join, at as place_of, push}
use Rattle.flow_values.specs.Faults.{Path, to_key, to_part, at, misshapen, ◌>>=◌}
use Rattle.flow_values.specs.Values.{scalar_in, name_in}

-- whether it is this text
abbrev pub is_word : List ℕ → Data → Bool
is_word word (string text) = bytes_eq text word
is_word word _ = false

abbrev pub unary_in : Data → Option Unary
unary_in d =
    if is_word (codes "not") d then Some not_of
    else (if is_word (codes "len") d then Some length_of
    else (if is_word (codes "str") d then Some text_of
    else None))

abbrev pub binary_in : Data → Option Binary
binary_in d =
    if is_word (codes "add") d then Some add
    else (if is_word (codes "sub") d then Some sub
    else (if is_word (codes "mul") d then Some mul
    else (if is_word (codes "div") d then Some div
    else (if is_word (codes "rem") d then Some rem
    else (if is_word (codes "eq") d then Some equal
    else (if is_word (codes "lt") d then Some less
    else (if is_word (codes "and") d then Some both
    else (if is_word (codes "or") d then Some either
    else (if is_word (codes "cat") d then Some join
    else (if is_word (codes "at") d then Some place_of
    else (if is_word (codes "push") d then Some push
    else None)))))))))))

-- then f of it, where it is there
abbrev pub given : {X Y : Type 0} → Option X → (X → Result Y Path) → Result Y Path
given None f = misshapen
given (Some x) f = f x

abbrev mutual
  pub expression_in : Data → Result Expression Path
  expression_in (object (member key d no_members)) =
      if bytes_eq key (codes "v") then (at (to_key (codes "v")) (name_in d) >>= λ name. Ok (variable name))
      else (if bytes_eq key (codes "list") then (at (to_key (codes "list")) (list_in d) >>= λ parts. Ok (list parts))
      else (if bytes_eq key (codes "do") then at (to_key (codes "do")) (operation_in d)
      else misshapen))
  expression_in (object _) = misshapen
  expression_in (array _) = misshapen
  expression_in d = scalar_in d >>= λ s. Ok (scalar s)

  pub list_in : Data → Result Expressions Path
  list_in (array ds) = expressions_from 0 ds
  list_in _ = misshapen

  -- the expressions from this place on
  pub expressions_from : ℕ → Items → Result Expressions Path
  expressions_from i no_items = Ok no_parts
  expressions_from i (item d ds) = at (to_part i) (expression_in d) >>= λ first. expressions_from (i + 1) ds >>= λ rest. Ok (part first rest)

  -- an operation and its parts
  pub operation_in : Data → Result Expression Path
  operation_in (array (item word (item a no_items))) = given (unary_in word) (λ operation. at (to_part 1) (expression_in a) >>= λ first. Ok (unary operation first))
  operation_in (array (item word (item a (item b no_items)))) = given (binary_in word) (λ operation.
      at (to_part 1) (expression_in a) >>= λ first. at (to_part 2) (expression_in b) >>= λ second. Ok (binary operation first second))
  operation_in _ = misshapen
