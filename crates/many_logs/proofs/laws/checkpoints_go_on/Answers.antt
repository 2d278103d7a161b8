use Rattle.std.proofs.Common.{sym}
use Rattle.dura_model.specs.Partition.{fresh}
use Rattle.many_logs.proofs.Checkpoints.{back_goes}
use Rattle.many_logs.proofs.Orders.{all_from}
use Rattle.many_logs.proofs.laws.checkpoints_go_on.Goals as goal

pub returns : goal.returns
returns c flows count run final ahead front back low all splits made =
    let goes = back_goes flows count run fresh final ahead front back all (record { all_of = splits; made = made }) in
    all_from flows count goes.rest ahead back final (goes.below low) goes.all (λ partition below. sym (goes.theirs partition))
