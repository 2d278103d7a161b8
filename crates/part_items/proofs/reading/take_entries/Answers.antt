use Rattle.std.proofs.Common.{◌≡◌, ◌++◌, ◌∷◌, []}
use Rattle.std.proofs.lemmas.Result.{err_from_is_err_and}
use Rattle.std.proofs.lemmas.List.{map_push}
use Rattle.log_items.specs.Plain.{entry_of, entries_of}
use Rattle.dura_codec.specs.Fields.{several_at}
use Rattle.part_items.specs.Grammar.{entry_at}
use Rattle.dura_codec.proofs.Several.{goes_on, ends, is_done}
use Rattle.part_items.proofs.reading.take_entries.Goals as goal

pub returns-in_err-entry : goal.returns-in_err-entry
returns-in_err-entry c =
    let p = err_from_is_err_and c.from_residual.result c.from_residual.ensures.1 in
    rw (p.1, p.2) (ends entry_at c.in_err-entry.field-0.0 (entries_of c.loop.entries.items) c.args.count c.loop.counter c.loop.rest.now (several_at entry_at c.args.count c.args.bytes.now) c.loop-test.true c.in_err-entry.ensures c.loop.invariant)

pub loop-preserved : goal.loop-preserved
loop-preserved c =
    let e : entries_of c.push.new.self.items ≡ entries_of c.loop.entries.items ++ entry_of c.in_ok-entry.entry ∷ [] = rw c.in_ok-push.ensures.items (map_push _ c.loop.entries.items c.in_ok-entry.entry) in
    rw e (goes_on entry_at (entries_of c.loop.entries.items) c.args.count c.loop.counter c.loop.rest.now (entry_of c.in_ok-entry.entry) c.in_ok-entry.after.now (several_at entry_at c.args.count c.args.bytes.now) c.loop-test.true c.in_ok-entry.ensures c.loop.invariant)

pub returns : goal.returns
returns c = is_done entry_at (entries_of c.loop.entries.items) c.args.count c.loop.counter c.loop.rest.now (several_at entry_at c.args.count c.args.bytes.now) c.loop-test.false c.loop.invariant
