use Rattle.cell_frames.proofs.Coming.{arrives_ours, offers_ours, records_ours}
use Rattle.cell_frames.proofs.arriving.what_comes_is_ours.Goals as goal

pub returns-clause-arrives : goal.returns-clause-arrives
returns-clause-arrives c rules latest told old new ahead source number message arrived ours waits is = arrives_ours rules latest told old ours waits ahead source number message arrived new is

pub returns-clause-offers : goal.returns-clause-offers
returns-clause-offers c rules latest told old new base ahead message offered ours waits asked is = offers_ours rules latest told old ours waits base ahead message offered new asked is

pub returns-clause-records : goal.returns-clause-records
returns-clause-records c rules latest told old new ahead id task activity outcome recorded ours waits run is = records_ours rules latest told old ours waits ahead id task activity outcome recorded new run is
