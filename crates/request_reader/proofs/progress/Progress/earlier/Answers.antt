-- The request stands at the place that is kept.
use Rattle.std.proofs.Common.{◌≡◌, sym, ◌∙◌, Some, None}
use Rattle.std.specs.Prelude.{map}
use Rattle.std.specs.List.{position_from}
use Rattle.request_reader.specs.Line.{request_of}
use Rattle.request_reader.specs.Progress.{seen}
use Rattle.request_reader.specs.Requests.{is_by}
use Rattle.request_reader.proofs.Places.{found, got, missing}
use Rattle.request_reader.proofs.progress.Progress.earlier.Goals as goal

pub returns-in-Some : goal.returns-in-Some
returns-in-Some c =
    let p = is_by c.args.pair.now.0 c.args.pair.now.1 in
    let items = c.args.self.now.requests.items in
    let place = c.in-Some.place.now in
    let at : position_from p 0 (map request_of items) ≡ Some place = sym (c.requires.places c.args.pair.now.0 c.args.pair.now.1) ∙ sym c.in-Some.ensures.value in
    let within = rw c.deref.ensures.value at c.get-in-Some.ensures.lookup.0 in
    let item = rw c.deref.ensures.value at c.get-in-Some.ensures.lookup.1 in
    got c.get-in-Some.result items place within item ∙ found p items place at

pub returns-in-None : goal.returns-in-None
returns-in-None c =
    let p = is_by c.args.pair.now.0 c.args.pair.now.1 in
    let at : position_from p 0 (seen c.args.self.now) ≡ None = sym (c.requires.places c.args.pair.now.0 c.args.pair.now.1) ∙ sym c.in-None.ensures.value in
    sym (missing p 0 (seen c.args.self.now) at)
