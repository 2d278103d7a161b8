-- Bodies by names, and classes.
use Rattle.std.specs.Prelude.{List, [], ◌&&◌, codes, Bool, true, Result, Ok}
use Rattle.std.specs.Str.{bytes_eq}
use Rattle.serde_json.specs.Data.{Data, object, Members, no_members, member}
use Rattle.dura_value.specs.Names.{is_name}
use Rattle.flow_syntax.specs.Syntax.{Named, Class, put_in}
use Rattle.flow_values.specs.Faults.{Path, to_key, at, misshapen, where_fits, ◌>>=◌}
use Rattle.flow_reader.specs.Statements.{body_in}
use Rattle.flow_values.specs.Values.{value_in}

-- whether all keys are names
abbrev pub have_names : Members → Bool
have_names no_members = true
have_names (member key d rest) = is_name key && have_names rest

-- what each member stands for goes under its key, beside what is there
abbrev pub named_after : {X : Type 0} → (Data → Result X Path) → List (Named X) → Members → Result (List (Named X)) Path
named_after read done no_members = Ok done
named_after read done (member key d rest) = at (to_key key) (read d) >>= λ it. named_after read (put_in done key it) rest

-- an object whose keys are names
abbrev pub named_in : {X : Type 0} → (Data → Result X Path) → Data → Result (List (Named X)) Path
named_in read (object members) = where_fits (have_names members) (named_after read [] members)
named_in read _ = misshapen

-- a class: its members are `init` and `ops`, no more and no less
abbrev pub class_in : Data → Result Class Path
class_in (object (member init d (member ops e no_members))) = where_fits (bytes_eq init (codes "init") && bytes_eq ops (codes "ops"))
    (at (to_key (codes "init")) (value_in d) >>= λ value. at (to_key (codes "ops")) (named_in (body_in true) e) >>= λ operations. Ok (record { init = value; operations = operations }))
class_in _ = misshapen
