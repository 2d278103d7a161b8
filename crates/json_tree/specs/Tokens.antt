-- The data that tokens begin with, in the words of the kit's grammar.
use Rattle.std.specs.Prelude.{ℕ, List, length, Option, Some, None, option_map}
use Rattle.json.specs.Token.{Token}
use Rattle.json.specs.Json as json
use Rattle.serde_json.specs.Data.{Data, null, boolean, number, string, Items, Members, no_members}
use Rattle.serde_json.specs.Read.{converted, number_of, of_items, of_json, of_members}

-- what a token alone stands for
abbrev pub leaf : Token → Option Data
leaf Token.begin_object = None
leaf Token.end_object = None
leaf Token.begin_array = None
leaf Token.end_array = None
leaf (Token.key s) = None
leaf (Token.string s) = Some (string s)
leaf (Token.number s) = option_map number (number_of s)
leaf (Token.boolean b) = Some (boolean b)
leaf Token.null = Some null
leaf Token.bad = None

-- a value, nested no deeper than the number, and what is left
abbrev pub data_in : ℕ → List Token → Option (Data × List Token)
data_in levels ts = converted of_json (json.value levels ts)

-- the items of an array that began, up to its end
abbrev pub items_in : ℕ → List Token → Option (Items × List Token)
items_in levels ts = converted of_items (json.items (json.value levels) (length ts) ts)

-- the members of an object that began, up to its end
abbrev pub members_in : ℕ → List Token → Option (Members × List Token)
members_in levels ts = converted (λ ms. of_members ms no_members) (json.members (json.value levels) (length ts) ts)
