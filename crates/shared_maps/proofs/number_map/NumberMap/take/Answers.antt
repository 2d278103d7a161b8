use Rattle.std.proofs.Common.{None}
use Rattle.std.proofs.lemmas.Result.{on_ok_weaker, on_err_weaker}
use Rattle.dura_value.specs.Views.{id_of}
use Rattle.shared_trees.specs.Entries.{find}
use Rattle.shared_maps.specs.Digests.{hashed_place}
use Rattle.shared_trees.specs.Places.{place_sought}
use Rattle.shared_maps.proofs.Seen.{number_changes}
use Rattle.shared_maps.proofs.number_map.NumberMap.take.Goals as goal

pub returns-clause-taken : goal.returns-clause-taken
returns-clause-taken g c =
    on_ok_weaker c.take.result (number_changes (find c.args.self.now.entries) (find c.take.new.self) (place_sought c.hashed_sought.result) None (id_of c.args.id.now) c.args.number c.hashed_sought.ensures) c.take.ensures.taken

pub returns-clause-same : goal.returns-clause-same
returns-clause-same g c = on_err_weaker c.take.result (λ same. λ i id number. same i (hashed_place id number)) c.take.ensures.same
