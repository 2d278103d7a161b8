-- Ids as parts of keys.
use Rattle.std.specs.declared.cmp.Ordering.{Ordering}
use Rattle.dura_value.specs.declared.addresses.Id.{Id}
use Rattle.dura_value.specs.declared.addresses.Id.TheVariants.{Client, Entity, Flow}
use Rattle.dura_value.specs.contracts.addresses.IdOrd.TheImpl as ord
use Rattle.dura_value.specs.Ids as plain

-- the order of ids
abbrev pub id_cmp : Id → Id → Ordering
id_cmp = ord.cmp-value.it

-- the id as keys have it
abbrev pub key_of : plain.Id → Id
key_of (plain.client name) = Client name
key_of (plain.entity class key) = Entity class key
key_of (plain.orchestration flow key) = Flow flow key
