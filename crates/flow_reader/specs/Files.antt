-- The flows and classes of a file, or why it is refused.
use Rattle.std.specs.Prelude.{ℕ, List, [], ◌&&◌, codes, false, Option, Some, None, Result, Ok, Err, if◌then◌else◌}
use Rattle.std.specs.Str.{is_utf8, bytes_eq}
use Rattle.serde_json.specs.Data.{Data, object, no_members, member}
use Rattle.serde_json.specs.Read.{read}
use Rattle.flow_syntax.specs.Syntax.{Block, Named, Class, Flows}
use Rattle.flow_reader.specs.Classes.{class_in, named_in}
use Rattle.flow_values.specs.Faults.{Path, to_key, at, misshapen, where_fits, ◌>>=◌}
use Rattle.flow_reader.specs.Faults.{Fault, not_json, bad_shape, unknown_name}
use Rattle.flow_reader.specs.Names.{Known, known_flows}
use Rattle.flow_reader.specs.Statements.{body_in}

abbrev pub classes_in : Data → Result (List (Named Class)) Path
classes_in d = at (to_key (codes "classes")) (named_in class_in d)

abbrev pub bodies_in : Data → Result (List (Named Block)) Path
bodies_in d = at (to_key (codes "flows")) (named_in (body_in false) d)

abbrev pub file_of : List (Named Class) → List (Named Block) → Flows
file_of classes flows = record { flows = flows; classes = classes }

-- an object with no members but `classes` and `flows`, in this order
abbrev pub file_in : Data → Result Flows Path
file_in (object no_members) = Ok (file_of [] [])
file_in (object (member key d no_members)) =
    if bytes_eq key (codes "classes") then (classes_in d >>= λ classes. Ok (file_of classes []))
    else where_fits (bytes_eq key (codes "flows")) (bodies_in d >>= λ flows. Ok (file_of [] flows))
file_in (object (member first d (member second e no_members))) = where_fits (bytes_eq first (codes "classes") && bytes_eq second (codes "flows"))
    (classes_in d >>= λ classes. bodies_in e >>= λ flows. Ok (file_of classes flows))
file_in _ = misshapen

-- the names are looked up once every shape is right
abbrev pub names_checked : Flows → Result Flows Fault
names_checked file = after (at (to_key (codes "flows")) (known_flows file file.flows))
  where
    after : Known → Result Flows Fault
    after (Ok known) = Ok file
    after (Err path) = Err (unknown_name path)

abbrev pub shape_checked : Result Flows Path → Result Flows Fault
shape_checked (Ok file) = names_checked file
shape_checked (Err path) = Err (bad_shape path)

abbrev pub json_checked : Option Data → Result Flows Fault
json_checked (Some d) = shape_checked (file_in d)
json_checked None = Err not_json

-- the flows of a file
abbrev pub flows_in : List ℕ → Result Flows Fault
flows_in bytes = json_checked (if is_utf8 bytes then read bytes else None)
