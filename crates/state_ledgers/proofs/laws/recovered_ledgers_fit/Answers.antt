use Rattle.state_ledgers.proofs.LedgerFitsStore.{fits_first}
use Rattle.state_ledgers.proofs.laws.recovered_ledgers_fit.Goals as goal

pub returns : goal.returns
returns c = fits_first
