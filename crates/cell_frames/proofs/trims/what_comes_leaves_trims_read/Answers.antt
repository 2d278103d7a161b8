use Rattle.cell_frames.proofs.Reading.{arrives_read, offers_read, records_read}
use Rattle.cell_frames.proofs.trims.what_comes_leaves_trims_read.Goals as goal

pub returns-clause-arrives : goal.returns-clause-arrives
returns-clause-arrives c nexts old new ahead source number message arrived its is = arrives_read nexts old its ahead source number message arrived new is

pub returns-clause-offers : goal.returns-clause-offers
returns-clause-offers c nexts old new base ahead message offered its is = offers_read nexts old its base ahead message offered new is

pub returns-clause-records : goal.returns-clause-records
returns-clause-records c nexts old new ahead id task activity outcome recorded its is = records_read nexts old its ahead id task activity outcome recorded new is
