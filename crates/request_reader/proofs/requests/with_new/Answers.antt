-- A new request comes behind the others where its number is above the client's.
use Rattle.request_reader.specs.Line.{request_of}
use Rattle.request_reader.specs.Progress.{seen}
use Rattle.request_reader.proofs.Used.{new_read, new_refused}
use Rattle.request_reader.proofs.requests.with_new.Goals as goal

pub latest_of-requires : goal.latest_of-requires
latest_of-requires c = c.requires.stands

pub push-requires-clause-stands : goal.push-requires-clause-stands
push-requires-clause-stands c = c.requires.stands

pub push-requires-clause-unused : goal.push-requires-clause-unused
push-requires-clause-unused c = c.requires.unused

pub returns-in-Ok-clause-read : goal.returns-in-Ok-clause-read
returns-in-Ok-clause-read c = new_read c.args.line (seen c.args.progress.now) _ (request_of c.args.request) c.latest_of.result c.latest_of.ensures c.if-latest_of-request.true c.in-Ok.ensures.pushed

pub returns-else-latest_of-request-clause-read : goal.returns-else-latest_of-request-clause-read
returns-else-latest_of-request-clause-read c = new_refused c.args.line (seen c.args.progress.now) (request_of c.args.request) c.latest_of.result c.latest_of.ensures c.if-latest_of-request.false
