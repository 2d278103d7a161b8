use Rattle.std.proofs.Common.{◌∙◌, ap}
use Rattle.std.proofs.lemmas.List.{get_or_read}
use Rattle.std.specs.Prelude.{slice_set}
use Rattle.hub_store.specs.declared.way.Way.{Way}
use Rattle.hub_store.specs.declared.way.Way.TheVariants.{Away}
use Rattle.hub_store.proofs.way.take_way.Goals as goal

pub returns-clause-way : goal.returns-clause-way
returns-clause-way c = c.replace.ensures.value ∙ get_or_read c.args.ways.now.items c.args.place c.index_mut.result.now c.requires c.index_mut.ensures.value Away

pub returns-clause-rest : goal.returns-clause-rest
returns-clause-rest c = ap (λ (w : Way). slice_set c.args.ways.now.items c.args.place w) c.replace.ensures.after
