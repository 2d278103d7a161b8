use Rattle.std.proofs.Common.{◌≡◌, ◌-◌, length, take, drop, arith}
use Rattle.std.proofs.lemmas.List.{take_all, length-drop}
use Rattle.log_items.specs.Plain.{entry_of}
use Rattle.part_items.specs.Numbered.{next_of}
use Rattle.part_items.proofs.Places.{entry_left}
use Rattle.part_items.proofs.numbered.next_entry_in.Goals as goal

pub overflow_sub-result : goal.overflow_sub-result
overflow_sub-result c =
    let rest : take (length c.args.bytes.now - c.args.at) (drop c.args.at c.args.bytes.now) ≡ drop c.args.at c.args.bytes.now =
    take_all _ (drop c.args.at c.args.bytes.now) (omega (arith, length-drop c.args.at c.args.bytes.now)) in
    (entry_left (next_of c.args.next) c.args.bytes.now c.args.at (entry_of c.in-Ok.entry, c.in-Ok.behind.now) (λ i. (c.type_inv.bytes i).fits) (rw rest at c.in-Ok.ensures)).0

pub returns-in-Ok : goal.returns-in-Ok
returns-in-Ok c =
    let rest : take (length c.args.bytes.now - c.args.at) (drop c.args.at c.args.bytes.now) ≡ drop c.args.at c.args.bytes.now =
    take_all _ (drop c.args.at c.args.bytes.now) (omega (arith, length-drop c.args.at c.args.bytes.now)) in
    ((entry_left (next_of c.args.next) c.args.bytes.now c.args.at (entry_of c.in-Ok.entry, c.in-Ok.behind.now) (λ i. (c.type_inv.bytes i).fits) (rw rest at c.in-Ok.ensures)).1, omega arith)
