use Rattle.std.proofs.Common.{is_some}
use Rattle.std.proofs.lemmas.Option.{IfSome_then}
use Rattle.dura_value.specs.Views.{id_of}
use Rattle.shared_maps.specs.Maps.{by_task}
use Rattle.shared_maps.proofs.Tasks.{first_task, no_first, none_then}
use Rattle.shared_maps.proofs.task_map.TaskMap.first.Goals as goal

pub returns-clause-there : goal.returns-clause-there
returns-clause-there g c = IfSome_then c.next.result c.next.ensures.next (λ one f. f.found)

pub returns-clause-first : goal.returns-clause-first
returns-clause-first g c =
    IfSome_then c.next.result c.next.ensures.next (λ one f. first_task (λ id number. is_some (by_task c.args.self.now id number)) (id_of one.0.now) one.1 f)

pub returns-clause-none : goal.returns-clause-none
returns-clause-none g c = none_then c.next.result (no_first (by_task c.args.self.now)) c.next.ensures.none
