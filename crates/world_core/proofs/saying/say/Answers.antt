use Rattle.std.proofs.Common.{◌∙◌, refl, sym, subst, ap}
use Rattle.cell_frames.proofs.Stays.{same_reads}
use Rattle.cell_frames.specs.Joined.{StoreView, view_of}
use Rattle.gated_store.specs.declared.refusal.SayRefusal.TheVariants as refusals
use Rattle.world_core.proofs.Said.{said_world, says_trail, says_by, not_fault}
use Rattle.world_core.proofs.Worlds.{alive_by, over_by, no_both, still_heard}
use Rattle.world_steps.specs.Says.{SaysAs}
use Rattle.world_core.proofs.saying.say.Goals as goal

pub say_answer-said-requires-clause-joined : goal.say_answer-said-requires-clause-joined
say_answer-said-requires-clause-joined g c = c.requires.stands.joined c.requires.going

pub say_answer-said-requires-clause-next : goal.say_answer-said-requires-clause-next
say_answer-said-requires-clause-next g c = λ serves. no_both g.M.Picked.rules.serves serves c.requires.silent

pub returns-in-Ok-clause-stands : goal.returns-in-Ok-clause-stands
returns-in-Ok-clause-stands g c =
    let rules = g.M.Picked.rules in
    let old = c.args.store.now in
    let new = c.say_answer-said.new.store in
    let e = c.say_answer-said.ensures in
    alive_by rules _ c.requires.stands _ refl (still_heard rules (view_of old) (view_of new) c.args.life.now.marks.items (λ source reader. same_reads rules source (view_of old) (view_of new) (says_trail rules c.args.client c.args.number (view_of old) (view_of new) c.say_answer-said.result e.says) reader) c.requires.stands.heard)
    (e.still (λ same. cc (same, c.in-Ok.is))) (e.whole (λ same. cc (same, c.in-Ok.is)) ∙ c.requires.stands.whole c.requires.going) (e.joined (λ same. cc (same, c.in-Ok.is)))

pub returns-in-NotAnswered-clause-stands : goal.returns-in-NotAnswered-clause-stands
returns-in-NotAnswered-clause-stands g c =
    let rules = g.M.Picked.rules in
    let old = c.args.store.now in
    let new = c.say_answer-said.new.store in
    let e = c.say_answer-said.ensures in
    alive_by rules _ c.requires.stands _ refl (still_heard rules (view_of old) (view_of new) c.args.life.now.marks.items (λ source reader. same_reads rules source (view_of old) (view_of new) (says_trail rules c.args.client c.args.number (view_of old) (view_of new) c.say_answer-said.result e.says) reader) c.requires.stands.heard)
    (e.still (not_fault c.say_answer-said.result c.in-Err.refusal c.in-Err.is c.in-NotAnswered.is)) (e.whole (not_fault c.say_answer-said.result c.in-Err.refusal c.in-Err.is c.in-NotAnswered.is) ∙ c.requires.stands.whole c.requires.going) (e.joined (not_fault c.say_answer-said.result c.in-Err.refusal c.in-Err.is c.in-NotAnswered.is))

pub returns-in-Memory-clause-stands : goal.returns-in-Memory-clause-stands
returns-in-Memory-clause-stands g c =
    let rules = g.M.Picked.rules in
    let old = c.args.store.now in
    let new = c.say_answer-said.new.store in
    let e = c.say_answer-said.ensures in
    over_by rules _ c.requires.stands _ refl refl (still_heard rules (view_of old) (view_of new) c.args.life.now.marks.items (λ source reader. same_reads rules source (view_of old) (view_of new) (says_trail rules c.args.client c.args.number (view_of old) (view_of new) c.say_answer-said.result e.says) reader) c.requires.stands.heard)

pub returns-in-SayFault-clause-stands : goal.returns-in-SayFault-clause-stands
returns-in-SayFault-clause-stands g c =
    let rules = g.M.Picked.rules in
    let old = c.args.store.now in
    let new = c.say_answer-said.new.store in
    let e = c.say_answer-said.ensures in
    over_by rules _ c.requires.stands _ refl refl (still_heard rules (view_of old) (view_of new) c.args.life.now.marks.items (λ source reader. same_reads rules source (view_of old) (view_of new) (says_trail rules c.args.client c.args.number (view_of old) (view_of new) c.say_answer-said.result e.says) reader) c.requires.stands.heard)

pub returns-in-Ok-clause-makes : goal.returns-in-Ok-clause-makes
returns-in-Ok-clause-makes g c =
    let rules = g.M.Picked.rules in
    let old = c.args.store.now in
    let new = c.say_answer-said.new.store in
    let e = c.say_answer-said.ensures in
    let says = subst (SaysAs rules c.args.client c.args.number (view_of old) (view_of new)) c.in-Ok.is e.says in
    (says.0, said_world old new e.keeps c.args.life.now.cells.items c.args.life.now.packets.items c.args.life.now.marks.items c.args.life.now.ended _ says.1 (e.still (λ same. cc (same, c.in-Ok.is)) ∙ sym (c.requires.stands.going c.requires.going)) (e.whole (λ same. cc (same, c.in-Ok.is))))

pub returns-in-NotAnswered-clause-makes : goal.returns-in-NotAnswered-clause-makes
returns-in-NotAnswered-clause-makes g c =
    let rules = g.M.Picked.rules in
    let old = c.args.store.now in
    let new = c.say_answer-said.new.store in
    let e = c.say_answer-said.ensures in
    let says = says_by rules c.args.client c.args.number (view_of old) (view_of new) c.say_answer-said.result c.in-Err.refusal refusals.NotAnswered c.in-Err.is c.in-NotAnswered.is e.says in
    (says.0, said_world old new e.keeps c.args.life.now.cells.items c.args.life.now.packets.items c.args.life.now.marks.items c.args.life.now.ended _ says.1 (e.still (not_fault c.say_answer-said.result c.in-Err.refusal c.in-Err.is c.in-NotAnswered.is) ∙ sym (c.requires.stands.going c.requires.going)) (e.whole (not_fault c.say_answer-said.result c.in-Err.refusal c.in-Err.is c.in-NotAnswered.is)))

pub returns-in-Memory-clause-makes : goal.returns-in-Memory-clause-makes
returns-in-Memory-clause-makes g c =
    let rules = g.M.Picked.rules in
    let old = c.args.store.now in
    let new = c.say_answer-said.new.store in
    let e = c.say_answer-said.ensures in
    let says = says_by rules c.args.client c.args.number (view_of old) (view_of new) c.say_answer-said.result c.in-Err.refusal refusals.Memory c.in-Err.is c.in-Memory.is e.says in
    record { ended = refl; trail = ap (λ (s : StoreView). s.trail) says; told = ap (λ (s : StoreView). s.told) says }

pub returns-in-SayFault-clause-makes : goal.returns-in-SayFault-clause-makes
returns-in-SayFault-clause-makes g c =
    let rules = g.M.Picked.rules in
    let old = c.args.store.now in
    let new = c.say_answer-said.new.store in
    let e = c.say_answer-said.ensures in
    let says = says_by rules c.args.client c.args.number (view_of old) (view_of new) c.say_answer-said.result c.in-Err.refusal refusals.SayFault c.in-Err.is c.in-SayFault.is e.says in
    record { ended = refl; trail = says.0; told = says.1 }
