use Rattle.open_laws.proofs.Opens.{kept_stand}
use Rattle.open_laws.proofs.laws.kept_files_stand.Goals as goal

pub returns : goal.returns
returns c flows count digest files requests commits kept none = kept_stand flows count digest files requests commits kept none
