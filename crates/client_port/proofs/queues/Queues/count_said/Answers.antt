-- One more was said, and each queue stands where it stood.
use Rattle.std.proofs.Common.{sym, ap, ◌∙◌}
use Rattle.std.specs.List.{position_from}
use Rattle.client_port.specs.Places.{all_of}
use Rattle.client_port.specs.Ports.{is_of, with_said}
use Rattle.client_port.proofs.Changes.{changed}
use Rattle.client_port.proofs.Stays.{kept_said}
use Rattle.client_port.proofs.queues.Queues.count_said.Goals as goal

pub returns-clause-counted : goal.returns-clause-counted
returns-clause-counted c =
    changed with_said c.args.client.now c.args.place c.args.self.now.all.items c.index_mut.result.now c.count_said.new.queue c.requires.there c.index_mut.ensures.value c.count_said.ensures

pub returns-clause-stands : goal.returns-clause-stands
returns-clause-stands c =
    let counted = changed with_said c.args.client.now c.args.place c.args.self.now.all.items c.index_mut.result.now c.count_said.new.queue c.requires.there c.index_mut.ensures.value c.count_said.ensures in
    record { places = λ name. c.requires.stands.places name ∙ sym (ap (position_from (is_of name) 0) counted ∙ kept_said c.args.client.now name (all_of c.args.self.now)) }
