-- Ids whose parts are words.
use Rattle.std.specs.Prelude.{◌&&◌, Bool}
use Rattle.dura_value.specs.Ids.{Id, orchestration, entity, client}
use Rattle.dura_value.specs.Names.{is_name, is_key}

-- flows, classes and clients are names, and keys are keys
abbrev pub has_form : Id → Bool
has_form (orchestration flow key) = is_name flow && is_key key
has_form (entity class key) = is_name class && is_key key
has_form (client name) = is_name name
