use Rattle.std.proofs.Common.{◌∙◌, true, [], refl, sym, subst, ap}
use Rattle.cell_frames.specs.Joined.{StoreView, view_of}
use Rattle.world_core.proofs.Settling.{done_becomes, spent_becomes, fault_takes_nothing, MaySettle, may_settle_done, may_settle_spent, owned_settled, owned_dropped, reopened_packets}
use Rattle.world_core.proofs.Worlds.{alive_by, over_by, still_heard, heard_noted, heard_same, same_world}
use Rattle.world_core.specs.Happens.{HasOwned}
use Rattle.world_core.specs.World.{WorldView, Stands, world}
use Rattle.world_core.specs.declared.answer.Answer.TheVariants as answers
use Rattle.world_core.proofs.working.own.Goals as goal

pub take_over_at-requires-clause-joined : goal.take_over_at-requires-clause-joined
take_over_at-requires-clause-joined g c = c.requires.stands.joined c.requires.going

pub returns-in-SiteFault-clause-stands : goal.returns-in-SiteFault-clause-stands
returns-in-SiteFault-clause-stands g c =
    subst (λ l. Stands g.M.Picked.rules (world c.take_over_at.new.store l.cells.items l.packets.items l.marks.items l.ended)) (sym c.failed.ensures.over) (over_by g.M.Picked.rules _ c.requires.stands (world c.take_over_at.new.store _ _ _ _) refl c.take_over_at.ensures.many (still_heard g.M.Picked.rules (view_of c.args.store.now) (view_of c.take_over_at.new.store) c.args.life.now.marks.items c.take_over_at.ensures.reads c.requires.stands.heard))

pub returns-in-Memory-clause-stands : goal.returns-in-Memory-clause-stands
returns-in-Memory-clause-stands g c =
    subst (λ l. Stands g.M.Picked.rules (world c.take_over_at.new.store l.cells.items l.packets.items l.marks.items l.ended)) (sym c.out_of_memory-in-Memory.ensures.over) (over_by g.M.Picked.rules _ c.requires.stands (world c.take_over_at.new.store _ _ _ _) refl c.take_over_at.ensures.many (still_heard g.M.Picked.rules (view_of c.args.store.now) (view_of c.take_over_at.new.store) c.args.life.now.marks.items c.take_over_at.ensures.reads c.requires.stands.heard))

pub returns-in-SiteFault-clause-makes : goal.returns-in-SiteFault-clause-makes
returns-in-SiteFault-clause-makes g c =
    let none = fault_takes_nothing g.M.Picked.rules c.args.life.now.mode c.args.part c.args.node (view_of c.args.store.now) (view_of c.take_over_at.new.store) c.args.life.now.cells.items c.take_over_at.new.cells.items c.take_over_at.result c.in-SiteFault.is c.take_over_at.ensures.taken in
    subst (λ r. HasOwned g.M.Picked.rules c.args.life.now.mode c.args.part c.args.node (world c.args.store.now c.args.life.now.cells.items c.args.life.now.packets.items c.args.life.now.marks.items c.args.life.now.ended) (world c.take_over_at.new.store c.failed.new.life.cells.items c.failed.new.life.packets.items c.failed.new.life.marks.items c.failed.new.life.ended) r) (sym c.failed.ensures.fault) (record { ended = ap (λ l. l.ended) c.failed.ensures.over; trail = none.0; told = none.1 })

pub returns-in-Ok-true-clause-stands : goal.returns-in-Ok-true-clause-stands
returns-in-Ok-true-clause-stands g c =
    subst (Stands g.M.Picked.rules) (same_world c.take_over_at.new.store c.note_taken.new.store c.note_taken.ensures.logs c.note_taken.ensures.ledgers c.take_over_at.new.cells.items c.note_taken.new.sent.items c.note_taken.new.marks.items c.args.life.now.ended) (alive_by g.M.Picked.rules _ c.requires.stands (world c.take_over_at.new.store _ _ _ _) c.take_over_at.ensures.many (heard_noted g.M.Picked.rules (view_of c.take_over_at.new.store) c.args.life.now.marks.items _ c.in-Ok-true.ensures.noted (still_heard g.M.Picked.rules (view_of c.args.store.now) (view_of c.take_over_at.new.store) c.args.life.now.marks.items c.take_over_at.ensures.reads c.requires.stands.heard)) (c.in-Done.ensures.halts tt) (c.take_over_at.ensures.keeps.whole ∙ c.requires.stands.whole c.requires.going) (c.in-Done.ensures.joined tt))

pub returns-in-Ok-true-clause-makes : goal.returns-in-Ok-true-clause-makes
returns-in-Ok-true-clause-makes g c =
    let own = owned_settled g.M.Picked.rules c.args.life.now.mode c.args.part c.args.node (view_of c.args.store.now) (view_of c.take_over_at.new.store) c.args.life.now.cells.items c.take_over_at.new.cells.items c.args.life.now.packets.items c.note_taken.new.sent.items c.in-Done.reopened c.in-Ok-true.field-0 c.in-Ok-true.field-0-test c.in-Ok-true.ensures.reopened (done_becomes g.M.Picked.rules c.args.life.now.mode c.args.part c.args.node (view_of c.args.store.now) (view_of c.take_over_at.new.store) c.args.life.now.cells.items c.take_over_at.new.cells.items c.take_over_at.result c.in-Done.reopened c.in-Done.is c.take_over_at.ensures.taken) in
    subst (λ (w : WorldView). HasOwned g.M.Picked.rules c.args.life.now.mode c.args.part c.args.node (world c.args.store.now c.args.life.now.cells.items c.args.life.now.packets.items c.args.life.now.marks.items c.args.life.now.ended) w answers.OwnedSettled) (same_world c.take_over_at.new.store c.note_taken.new.store c.note_taken.ensures.logs c.note_taken.ensures.ledgers c.take_over_at.new.cells.items c.note_taken.new.sent.items c.note_taken.new.marks.items c.args.life.now.ended) (own.0, own.1, own.2, c.in-Ok-true.ensures.noted)

pub returns-in-Ok-false-clause-stands : goal.returns-in-Ok-false-clause-stands
returns-in-Ok-false-clause-stands g c =
    subst (Stands g.M.Picked.rules) (same_world c.take_over_at.new.store c.note_taken.new.store c.note_taken.ensures.logs c.note_taken.ensures.ledgers c.take_over_at.new.cells.items c.note_taken.new.sent.items c.note_taken.new.marks.items c.args.life.now.ended) (alive_by g.M.Picked.rules _ c.requires.stands (world c.take_over_at.new.store _ _ _ _) c.take_over_at.ensures.many (heard_noted g.M.Picked.rules (view_of c.take_over_at.new.store) c.args.life.now.marks.items _ c.in-Ok-false.ensures.noted (still_heard g.M.Picked.rules (view_of c.args.store.now) (view_of c.take_over_at.new.store) c.args.life.now.marks.items c.take_over_at.ensures.reads c.requires.stands.heard)) (c.in-Done.ensures.halts tt) (c.take_over_at.ensures.keeps.whole ∙ c.requires.stands.whole c.requires.going) (c.in-Done.ensures.joined tt))

pub returns-in-Ok-false-clause-makes : goal.returns-in-Ok-false-clause-makes
returns-in-Ok-false-clause-makes g c =
    let own = owned_dropped g.M.Picked.rules c.args.life.now.mode c.args.part c.args.node (view_of c.args.store.now) (view_of c.take_over_at.new.store) c.args.life.now.cells.items c.take_over_at.new.cells.items c.args.life.now.packets.items c.note_taken.new.sent.items c.in-Done.reopened c.in-Ok-false.field-0 c.in-Ok-false.field-0-test c.in-Ok-false.ensures.reopened (done_becomes g.M.Picked.rules c.args.life.now.mode c.args.part c.args.node (view_of c.args.store.now) (view_of c.take_over_at.new.store) c.args.life.now.cells.items c.take_over_at.new.cells.items c.take_over_at.result c.in-Done.reopened c.in-Done.is c.take_over_at.ensures.taken) in
    subst (λ (w : WorldView). HasOwned g.M.Picked.rules c.args.life.now.mode c.args.part c.args.node (world c.args.store.now c.args.life.now.cells.items c.args.life.now.packets.items c.args.life.now.marks.items c.args.life.now.ended) w answers.OwnedDropped) (same_world c.take_over_at.new.store c.note_taken.new.store c.note_taken.ensures.logs c.note_taken.ensures.ledgers c.take_over_at.new.cells.items c.note_taken.new.sent.items c.note_taken.new.marks.items c.args.life.now.ended) (own.0, own.1, c.in-Ok-false.ensures.noted)

pub returns-in-Ok-clause-stands : goal.returns-in-Ok-clause-stands
returns-in-Ok-clause-stands g c =
    subst (Stands g.M.Picked.rules) (same_world c.take_over_at.new.store c.note_taken-in-Spent.new.store c.note_taken-in-Spent.ensures.logs c.note_taken-in-Spent.ensures.ledgers c.take_over_at.new.cells.items c.note_taken-in-Spent.new.sent.items c.note_taken-in-Spent.new.marks.items c.args.life.now.ended) (alive_by g.M.Picked.rules _ c.requires.stands (world c.take_over_at.new.store _ _ _ _) c.take_over_at.ensures.many (heard_noted g.M.Picked.rules (view_of c.take_over_at.new.store) c.args.life.now.marks.items _ c.in-Ok.ensures.noted (still_heard g.M.Picked.rules (view_of c.args.store.now) (view_of c.take_over_at.new.store) c.args.life.now.marks.items c.take_over_at.ensures.reads c.requires.stands.heard)) (c.in-Spent.ensures.halts tt) (c.take_over_at.ensures.keeps.whole ∙ c.requires.stands.whole c.requires.going) (c.in-Spent.ensures.joined tt))

pub returns-in-Ok-clause-makes : goal.returns-in-Ok-clause-makes
returns-in-Ok-clause-makes g c =
    let says = spent_becomes g.M.Picked.rules c.args.life.now.mode c.args.part c.args.node (view_of c.args.store.now) (view_of c.take_over_at.new.store) c.args.life.now.cells.items c.take_over_at.new.cells.items c.take_over_at.result c.in-Spent.reopened c.in-Spent.number c.in-Spent.is c.take_over_at.ensures.taken in
    subst (λ (w : WorldView). HasOwned g.M.Picked.rules c.args.life.now.mode c.args.part c.args.node (world c.args.store.now c.args.life.now.cells.items c.args.life.now.packets.items c.args.life.now.marks.items c.args.life.now.ended) w (answers.Spent c.in-Spent.number)) (same_world c.take_over_at.new.store c.note_taken-in-Spent.new.store c.note_taken-in-Spent.ensures.logs c.note_taken-in-Spent.ensures.ledgers c.take_over_at.new.cells.items c.note_taken-in-Spent.new.sent.items c.note_taken-in-Spent.new.marks.items c.args.life.now.ended) (c.in-Spent.reopened, reopened_packets c.args.life.now.packets.items c.note_taken-in-Spent.new.sent.items c.in-Spent.reopened _ c.in-Ok.ensures.reopened, says, c.in-Ok.ensures.noted)

pub returns-in-Err-clause-stands : goal.returns-in-Err-clause-stands
returns-in-Err-clause-stands g c =
    subst (λ l. Stands g.M.Picked.rules (world c.note_taken.new.store l.cells.items l.packets.items l.marks.items l.ended)) (sym c.out_of_memory.ensures.over) (subst (Stands g.M.Picked.rules) (same_world c.take_over_at.new.store c.note_taken.new.store c.note_taken.ensures.logs c.note_taken.ensures.ledgers _ _ _ _) (over_by g.M.Picked.rules _ c.requires.stands (world c.take_over_at.new.store _ _ _ _) refl c.take_over_at.ensures.many (heard_same g.M.Picked.rules (view_of c.take_over_at.new.store) c.args.life.now.marks.items _ c.in-Err.ensures.same (still_heard g.M.Picked.rules (view_of c.args.store.now) (view_of c.take_over_at.new.store) c.args.life.now.marks.items c.take_over_at.ensures.reads c.requires.stands.heard))))

pub returns-in-Err-clause-makes : goal.returns-in-Err-clause-makes
returns-in-Err-clause-makes g c =
    let view = ap (λ (w : WorldView). w.store) (same_world c.take_over_at.new.store c.note_taken.new.store c.note_taken.ensures.logs c.note_taken.ensures.ledgers [] [] [] true) in
    subst (λ r. HasOwned g.M.Picked.rules c.args.life.now.mode c.args.part c.args.node (world c.args.store.now c.args.life.now.cells.items c.args.life.now.packets.items c.args.life.now.marks.items c.args.life.now.ended) (world c.note_taken.new.store c.out_of_memory.new.life.cells.items c.out_of_memory.new.life.packets.items c.out_of_memory.new.life.marks.items c.out_of_memory.new.life.ended) r) (sym c.out_of_memory.ensures.memory) (ap (λ l. l.ended) c.out_of_memory.ensures.over, subst (λ (s : StoreView). MaySettle g.M.Picked.rules c.args.life.now.mode c.args.part c.args.node (view_of c.args.store.now) s c.args.life.now.cells.items c.take_over_at.new.cells.items) view (may_settle_done g.M.Picked.rules c.args.life.now.mode c.args.part c.args.node (view_of c.args.store.now) (view_of c.take_over_at.new.store) c.args.life.now.cells.items c.take_over_at.new.cells.items c.take_over_at.result c.in-Done.reopened c.in-Done.is c.take_over_at.ensures.taken))

pub returns-in-Err-note_taken-clause-stands : goal.returns-in-Err-note_taken-clause-stands
returns-in-Err-note_taken-clause-stands g c =
    subst (λ l. Stands g.M.Picked.rules (world c.note_taken-in-Spent.new.store l.cells.items l.packets.items l.marks.items l.ended)) (sym c.out_of_memory-in-Err-note_taken.ensures.over) (subst (Stands g.M.Picked.rules) (same_world c.take_over_at.new.store c.note_taken-in-Spent.new.store c.note_taken-in-Spent.ensures.logs c.note_taken-in-Spent.ensures.ledgers _ _ _ _) (over_by g.M.Picked.rules _ c.requires.stands (world c.take_over_at.new.store _ _ _ _) refl c.take_over_at.ensures.many (heard_same g.M.Picked.rules (view_of c.take_over_at.new.store) c.args.life.now.marks.items _ c.in-Err-note_taken.ensures.same (still_heard g.M.Picked.rules (view_of c.args.store.now) (view_of c.take_over_at.new.store) c.args.life.now.marks.items c.take_over_at.ensures.reads c.requires.stands.heard))))

pub returns-in-Err-note_taken-clause-makes : goal.returns-in-Err-note_taken-clause-makes
returns-in-Err-note_taken-clause-makes g c =
    let view = ap (λ (w : WorldView). w.store) (same_world c.take_over_at.new.store c.note_taken-in-Spent.new.store c.note_taken-in-Spent.ensures.logs c.note_taken-in-Spent.ensures.ledgers [] [] [] true) in
    subst (λ r. HasOwned g.M.Picked.rules c.args.life.now.mode c.args.part c.args.node (world c.args.store.now c.args.life.now.cells.items c.args.life.now.packets.items c.args.life.now.marks.items c.args.life.now.ended) (world c.note_taken-in-Spent.new.store c.out_of_memory-in-Err-note_taken.new.life.cells.items c.out_of_memory-in-Err-note_taken.new.life.packets.items c.out_of_memory-in-Err-note_taken.new.life.marks.items c.out_of_memory-in-Err-note_taken.new.life.ended) r) (sym c.out_of_memory-in-Err-note_taken.ensures.memory) (ap (λ l. l.ended) c.out_of_memory-in-Err-note_taken.ensures.over, subst (λ (s : StoreView). MaySettle g.M.Picked.rules c.args.life.now.mode c.args.part c.args.node (view_of c.args.store.now) s c.args.life.now.cells.items c.take_over_at.new.cells.items) view (may_settle_spent g.M.Picked.rules c.args.life.now.mode c.args.part c.args.node (view_of c.args.store.now) (view_of c.take_over_at.new.store) c.args.life.now.cells.items c.take_over_at.new.cells.items c.take_over_at.result c.in-Spent.reopened c.in-Spent.number c.in-Spent.is c.take_over_at.ensures.taken))
