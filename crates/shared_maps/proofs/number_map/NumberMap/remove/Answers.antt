use Rattle.std.proofs.Common.{None}
use Rattle.dura_value.specs.Views.{id_of}
use Rattle.shared_trees.specs.Entries.{find}
use Rattle.shared_trees.specs.Places.{place_sought}
use Rattle.shared_maps.proofs.Seen.{number_changes}
use Rattle.shared_maps.proofs.number_map.NumberMap.remove.Goals as goal

pub returns-in-Ok : goal.returns-in-Ok
returns-in-Ok g c =
    number_changes (find c.args.self.now.entries) (find c.take.new.self) (place_sought c.hashed_sought.result) None (id_of c.args.id.now) c.args.number c.hashed_sought.ensures c.in-Ok.ensures.taken
