-- The lines of answers: CLIENT NUMBER ANSWER.
use Rattle.std.specs.Prelude.{ℕ, List, [], ◌∷◌, ◌++◌, codes, true, false}
use Rattle.std.specs.Fmt.{decimal}
use Rattle.serde_json.specs.Data.{Data, Items, null, boolean, number, string, array, no_items, item}
use Rattle.serde_json.specs.Find.{of_integer}
use Rattle.serde_json.specs.Written.{compact_text}
use Rattle.dura_value.specs.declared.data.Scalar.{Scalar}
use Rattle.dura_value.specs.declared.data.Scalar.TheVariants as scalars
use Rattle.dura_value.specs.declared.data.Value.{Value}
use Rattle.dura_value.specs.declared.data.Value.TheVariants as values
use Rattle.dura_value.specs.Messages.{Answer, is_done, has_failed, was_started, was_there, is_unknown, was_raised, has_ended, is_missing, is_running, is_value}

abbrev pub scalar_data : Scalar → Data
scalar_data scalars.Null = null
scalar_data scalars.False = boolean false
scalar_data scalars.True = boolean true
scalar_data (scalars.Int n) = number (of_integer n)
scalar_data (scalars.Text text) = string text

abbrev pub items_data : List Scalar → Items
items_data [] = no_items
items_data (s ∷ scalars) = item (scalar_data s) (items_data scalars)

-- a value as JSON
abbrev pub value_data : Value → Data
value_data values.Null = null
value_data values.False = boolean false
value_data values.True = boolean true
value_data (values.Int n) = number (of_integer n)
value_data (values.Text text) = string text
value_data (values.List parts) = array (items_data parts)

-- an answer: values and texts as compact JSON
abbrev pub answer_text : Answer → List ℕ
answer_text (is_done value) = codes "done " ++ compact_text (value_data value)
answer_text (has_failed text) = codes "failed " ++ compact_text (string text)
answer_text was_started = codes "started"
answer_text was_there = codes "exists"
answer_text is_unknown = codes "unknown"
answer_text was_raised = codes "raised"
answer_text has_ended = codes "ended"
answer_text is_missing = codes "none"
answer_text is_running = codes "running"
answer_text (is_value value) = codes "value " ++ compact_text (value_data value)

-- CLIENT NUMBER ANSWER, and a line feed
abbrev pub line_of : List ℕ → ℕ → Answer → List ℕ
line_of client n answer = client ++ 32 ∷ [] ++ decimal n ++ 32 ∷ [] ++ answer_text answer ++ 10 ∷ []
