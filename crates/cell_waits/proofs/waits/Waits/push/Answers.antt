use Rattle.std.proofs.Common.{◌∙◌, ◌∷◌, [], map, ap, sym, subst, arith}
use Rattle.std.proofs.lemmas.List.{map-append, length-map}
use Rattle.std.proofs.lemmas.Result.{on_ok_weaker}
use Rattle.cell_waits.specs.Indices.{Agrees}
use Rattle.cell_waits.specs.Waits.{wait_of, waits_of}
use Rattle.cell_waits.proofs.waits.Waits.push.Goals as goal

pub returns-in-Ok-clause-pushed : goal.returns-in-Ok-clause-pushed
returns-in-Ok-clause-pushed c = on_ok_weaker c.put_back.result (λ items. ap (map wait_of) items ∙ map-append wait_of c.args.self.now.queue.items (c.args.wait ∷ [])) c.put_back.ensures

pub returns-in-Ok-clause-indexed : goal.returns-in-Ok-clause-indexed
returns-in-Ok-clause-indexed c =
    let old = c.args.self.now in
    let many = length-map old.queue.items wait_of in
    let count = c.len.ensures in
    let len = old.queue.ok.0 in
    on_ok_weaker c.put_back.result
    (λ items.
    subst (Agrees c.add_behind.new.self old.first) (sym (ap (map wait_of) items ∙ map-append wait_of old.queue.items (c.args.wait ∷ [])))
    (c.in-Ok.ensures (waits_of old) c.requires (omega (arith, many, count, len))))
    c.put_back.ensures
