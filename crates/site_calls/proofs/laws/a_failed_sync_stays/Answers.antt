use Rattle.std.proofs.Common.{false, ◌∷◌, refl}
use Rattle.site_calls.specs.Events.{flushed, named}
use Rattle.site_calls.proofs.Histories.{broken_later}
use Rattle.site_calls.proofs.laws.a_failed_sync_stays.Goals as goal

pub returns : goal.returns
returns c = record {
  file = λ unseen later events file. broken_later unseen later (flushed file false ∷ events) refl;
  names = λ unseen later events. broken_later unseen later (named false ∷ events) refl;
}
