use Rattle.end_laws.proofs.Labels.{was_possible}
use Rattle.end_laws.proofs.laws.labels_come_where_something_is_left.Goals as goal

pub returns : goal.returns
returns c rules latest serves asks trail made accepted told lines said before more split w world some quiet = was_possible rules latest serves asks trail made accepted told lines said before more split w world some quiet
