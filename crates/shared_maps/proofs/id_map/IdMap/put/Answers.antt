use Rattle.std.proofs.Common.{Some}
use Rattle.std.proofs.lemmas.Result.{on_ok_weaker, on_err_weaker}
use Rattle.dura_value.specs.Views.{id_of}
use Rattle.shared_trees.specs.Entries.{find}
use Rattle.shared_maps.specs.Digests.{hashed_place}
use Rattle.shared_trees.specs.Places.{place_of}
use Rattle.shared_maps.proofs.Seen.{id_changes}
use Rattle.shared_maps.proofs.id_map.IdMap.put.Goals as goal

pub returns-clause-put : goal.returns-clause-put
returns-clause-put g c =
    on_ok_weaker c.put.result (id_changes (find c.args.self.now.entries) (find c.put.new.self) (place_of c.in_ok-key.key) (Some c.args.value) (id_of c.args.id) c.in_ok-key.ensures) c.put.ensures.put

pub returns-clause-same : goal.returns-clause-same
returns-clause-same g c = on_err_weaker c.put.result (λ same. λ i id. same i (hashed_place id 0)) c.put.ensures.same
