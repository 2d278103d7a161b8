-- The request came behind its client's others, and each queue stands where it stood.
use Rattle.std.proofs.Common.{sym, ap, ◌∙◌}
use Rattle.std.specs.List.{position_from}
use Rattle.request_reader.specs.Line.{request_of}
use Rattle.client_port.specs.Places.{all_of}
use Rattle.client_port.specs.Ports.{is_of}
use Rattle.client_port.proofs.Changes.{joined_at}
use Rattle.client_port.proofs.Stays.{kept_joined}
use Rattle.client_port.proofs.queues.Queues.join.Goals as goal

pub returns-clause-joined : goal.returns-clause-joined
returns-clause-joined c =
    joined_at c.args.request c.args.place c.args.self.now.all.items c.index_mut-queue.result.now c.push.new.self c.requires.there c.index_mut-queue.ensures.value c.in_ok-push.ensures.items

pub returns-clause-stands : goal.returns-clause-stands
returns-clause-stands c =
    let joined = joined_at c.args.request c.args.place c.args.self.now.all.items c.index_mut-queue.result.now c.push.new.self c.requires.there c.index_mut-queue.ensures.value c.in_ok-push.ensures.items in
    record { places = λ name. c.requires.stands.places name ∙ sym (ap (position_from (is_of name) 0) joined ∙ kept_joined (request_of c.args.request) c.args.place (all_of c.args.self.now) name c.requires.there) }
