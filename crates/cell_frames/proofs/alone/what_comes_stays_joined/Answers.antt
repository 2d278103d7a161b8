use Rattle.cell_frames.proofs.ByItself.{arrives_joined, offers_joined, records_joined, trims_joined}
use Rattle.cell_frames.proofs.alone.what_comes_stays_joined.Goals as goal

pub returns-clause-arrives : goal.returns-clause-arrives
returns-clause-arrives c rules s partition old new ahead source number message arrived joined is = arrives_joined rules s partition old joined ahead source number message arrived new is

pub returns-clause-offers : goal.returns-clause-offers
returns-clause-offers c rules s partition old new base ahead message offered asked joined is = offers_joined rules s partition old joined base ahead message offered new asked is

pub returns-clause-records : goal.returns-clause-records
returns-clause-records c rules s partition old new ahead id task activity outcome recorded was joined is = records_joined rules s partition old joined ahead id task activity outcome recorded new was is

pub returns-clause-trims : goal.returns-clause-trims
returns-clause-trims c rules s partition old new marks ahead count told joined trims = trims_joined rules s partition old joined marks ahead count new told trims
