use Rattle.std.proofs.Common.{◌≡◌, ◌∙◌, ℕ, Err, refl, ap, subst, arith}
use Rattle.std.specs.List.{All}
use Rattle.std.proofs.lemmas.List.{length-map}
use Rattle.cell_frames.proofs.Calls.{made_of, stays, others_keep, rests_none}
use Rattle.cell_frames.proofs.Cells.{picked_joined, unpicked_joined}
use Rattle.cell_frames.proofs.Filling.{fills_so}
use Rattle.cell_frames.proofs.Written.{may_be_written_by}
use Rattle.cell_frames.specs.Fills.{WouldFill}
use Rattle.cell_frames.specs.Joined.{view_of}
use Rattle.commit_gate.specs.Keeping.{GoesInside, AreOfOne}
use Rattle.commit_gate.specs.Views.{all_sent}
use Rattle.hub_store.specs.Ways.{way_of}
use Rattle.log_items.specs.Entries.{items_in}
use Rattle.log_items.specs.Plain.{entries_of, entry_of}
use Rattle.spec_cell.specs.Picks.{Picks, HasPicked}
use Rattle.cell_frames.proofs.writing.write_frame.Goals as goal

pub body-requires-clause-behind : goal.body-requires-clause-behind
body-requires-clause-behind g c =
    let rules = g.M.Picked.rules in
    let cell = c.args.cell.now in
    let picked = subst (λ o. Picks rules.flows rules.count (rules.begin cell.number) c.args.marks.now cell o c.pick.new.self) c.in-Some.is c.in-Ok.ensures.picks in
    let store = c.args.store.now in
    let m = may_be_written_by g.M.Picked.origin rules c.requires.begun (view_of store) (made_of g.M.Picked.origin rules g.M.Picked.origin.count store c.requires.begun c.requires.kept) c.args.part c.requires.place
    cell c.pick.new.self c.requires.joined (c.if-not-is_going.ensures.facts refl) c.args.marks.now (entries_of c.in-Some.frame) c.in-Some.sending.items picked in
    m.behind

pub body-requires-clause-numbers : goal.body-requires-clause-numbers
body-requires-clause-numbers g c =
    let rules = g.M.Picked.rules in
    let cell = c.args.cell.now in
    let picked = subst (λ o. Picks rules.flows rules.count (rules.begin cell.number) c.args.marks.now cell o c.pick.new.self) c.in-Some.is c.in-Ok.ensures.picks in
    let store = c.args.store.now in
    let m = may_be_written_by g.M.Picked.origin rules c.requires.begun (view_of store) (made_of g.M.Picked.origin rules g.M.Picked.origin.count store c.requires.begun c.requires.kept) c.args.part c.requires.place
    cell c.pick.new.self c.requires.joined (c.if-not-is_going.ensures.facts refl) c.args.marks.now (entries_of c.in-Some.frame) c.in-Some.sending.items picked in
    let room = m.numbers in let long = length-map c.in-Some.frame entry_of in omega (arith, room, long)

pub body-requires-clause-inside : goal.body-requires-clause-inside
body-requires-clause-inside g c =
    let rules = g.M.Picked.rules in
    let cell = c.args.cell.now in
    let picked = subst (λ o. Picks rules.flows rules.count (rules.begin cell.number) c.args.marks.now cell o c.pick.new.self) c.in-Some.is c.in-Ok.ensures.picks in
    let store = c.args.store.now in
    let m = may_be_written_by g.M.Picked.origin rules c.requires.begun (view_of store) (made_of g.M.Picked.origin rules g.M.Picked.origin.count store c.requires.begun c.requires.kept) c.args.part c.requires.place
    cell c.pick.new.self c.requires.joined (c.if-not-is_going.ensures.facts refl) c.args.marks.now (entries_of c.in-Some.frame) c.in-Some.sending.items picked in
    subst (λ (n : ℕ). All (GoesInside n) (all_sent c.in-Some.sending.items)) g.M.Picked.counts m.inside

pub body-requires-clause-fits : goal.body-requires-clause-fits
body-requires-clause-fits g c =
    let rules = g.M.Picked.rules in
    let cell = c.args.cell.now in
    let picked = subst (λ o. Picks rules.flows rules.count (rules.begin cell.number) c.args.marks.now cell o c.pick.new.self) c.in-Some.is c.in-Ok.ensures.picks in
    let store = c.args.store.now in
    let m = may_be_written_by g.M.Picked.origin rules c.requires.begun (view_of store) (made_of g.M.Picked.origin rules g.M.Picked.origin.count store c.requires.begun c.requires.kept) c.args.part c.requires.place
    cell c.pick.new.self c.requires.joined (c.if-not-is_going.ensures.facts refl) c.args.marks.now (entries_of c.in-Some.frame) c.in-Some.sending.items picked in
    subst (λ (n : ℕ). AreOfOne n (items_in (entries_of c.in-Some.frame))) g.M.Picked.counts m.fits

pub body-requires-clause-may : goal.body-requires-clause-may
body-requires-clause-may g c =
    let rules = g.M.Picked.rules in
    let cell = c.args.cell.now in
    let picked = subst (λ o. Picks rules.flows rules.count (rules.begin cell.number) c.args.marks.now cell o c.pick.new.self) c.in-Some.is c.in-Ok.ensures.picks in
    let store = c.args.store.now in
    let m = may_be_written_by g.M.Picked.origin rules c.requires.begun (view_of store) (made_of g.M.Picked.origin rules g.M.Picked.origin.count store c.requires.begun c.requires.kept) c.args.part c.requires.place
    cell c.pick.new.self c.requires.joined (c.if-not-is_going.ensures.facts refl) c.args.marks.now (entries_of c.in-Some.frame) c.in-Some.sending.items picked in
    m.may

pub body-requires-clause-makes : goal.body-requires-clause-makes
body-requires-clause-makes g c =
    let rules = g.M.Picked.rules in
    let cell = c.args.cell.now in
    let picked = subst (λ o. Picks rules.flows rules.count (rules.begin cell.number) c.args.marks.now cell o c.pick.new.self) c.in-Some.is c.in-Ok.ensures.picks in
    let store = c.args.store.now in
    let m = may_be_written_by g.M.Picked.origin rules c.requires.begun (view_of store) (made_of g.M.Picked.origin rules g.M.Picked.origin.count store c.requires.begun c.requires.kept) c.args.part c.requires.place
    cell c.pick.new.self c.requires.joined (c.if-not-is_going.ensures.facts refl) c.args.marks.now (entries_of c.in-Some.frame) c.in-Some.sending.items picked in
    m.makes

pub body-requires-clause-unlost : goal.body-requires-clause-unlost
body-requires-clause-unlost g c =
    let rules = g.M.Picked.rules in
    let cell = c.args.cell.now in
    let picked = subst (λ o. Picks rules.flows rules.count (rules.begin cell.number) c.args.marks.now cell o c.pick.new.self) c.in-Some.is c.in-Ok.ensures.picks in
    let store = c.args.store.now in
    let m = may_be_written_by g.M.Picked.origin rules c.requires.begun (view_of store) (made_of g.M.Picked.origin rules g.M.Picked.origin.count store c.requires.begun c.requires.kept) c.args.part c.requires.place
    cell c.pick.new.self c.requires.joined (c.if-not-is_going.ensures.facts refl) c.args.marks.now (entries_of c.in-Some.frame) c.in-Some.sending.items picked in
    m.unlost

pub returns-in-Ok-body-clause-joined : goal.returns-in-Ok-body-clause-joined
returns-in-Ok-body-clause-joined g c =
    let rules = g.M.Picked.rules in
    let cell = c.args.cell.now in
    let picked = subst (λ o. Picks rules.flows rules.count (rules.begin cell.number) c.args.marks.now cell o c.pick.new.self) c.in-Some.is c.in-Ok.ensures.picks in
    picked_joined rules c.args.part (view_of c.args.store.now) (view_of c.body.new.self) cell c.pick.new.self c.args.marks.now (entries_of c.in-Some.frame) c.in-Some.sending.items
    (stays rules c.args.part c.args.store.now c.body.new.self c.in-Ok-body.ensures.keeps c.in-Ok-body.ensures.trail c.args.part)
    (subst (λ (n : ℕ). HasPicked rules.flows rules.count (rules.begin n) c.args.marks.now cell (entries_of c.in-Some.frame) c.in-Some.sending.items c.pick.new.self) c.requires.joined.goes.number picked)
    c.in-Ok-body.ensures.ok.1 c.requires.joined

pub returns-in-Ok-body-clause-others : goal.returns-in-Ok-body-clause-others
returns-in-Ok-body-clause-others g c = others_keep g.M.Picked.rules c.args.part c.args.store.now c.body.new.self c.body.ensures.keeps c.body.ensures.trail

pub returns-in-Err-SiteFault-clause-others : goal.returns-in-Err-SiteFault-clause-others
returns-in-Err-SiteFault-clause-others g c = others_keep g.M.Picked.rules c.args.part c.args.store.now c.body.new.self c.body.ensures.keeps c.body.ensures.trail

pub returns-in-Err-Full-clause-others : goal.returns-in-Err-Full-clause-others
returns-in-Err-Full-clause-others g c = others_keep g.M.Picked.rules c.args.part c.args.store.now c.body.new.self c.body.ensures.keeps c.body.ensures.trail

pub returns-in-Err-Memory-clause-others : goal.returns-in-Err-Memory-clause-others
returns-in-Err-Memory-clause-others g c = others_keep g.M.Picked.rules c.args.part c.args.store.now c.body.new.self c.body.ensures.keeps c.body.ensures.trail

pub returns-in-Err-SiteFault-clause-joined : goal.returns-in-Err-SiteFault-clause-joined
returns-in-Err-SiteFault-clause-joined g c =
    let rules = g.M.Picked.rules in
    let cell = c.args.cell.now in
    let picked = subst (λ o. Picks rules.flows rules.count (rules.begin cell.number) c.args.marks.now cell o c.pick.new.self) c.in-Some.is c.in-Ok.ensures.picks in
    let broken = c.body.ensures.broken (c.in-Err-SiteFault.is ∙ ap Err c.in-Err-SiteFault.field-0-is) in
    picked_joined rules c.args.part (view_of c.args.store.now) (view_of c.body.new.self) cell c.pick.new.self c.args.marks.now (entries_of c.in-Some.frame) c.in-Some.sending.items
    (stays rules c.args.part c.args.store.now c.body.new.self c.body.ensures.keeps c.body.ensures.trail c.args.part)
    (subst (λ (n : ℕ). HasPicked rules.flows rules.count (rules.begin n) c.args.marks.now cell (entries_of c.in-Some.frame) c.in-Some.sending.items c.pick.new.self) c.requires.joined.goes.number picked)
    broken.1 c.requires.joined

pub returns-in-Err-Full-clause-fills : goal.returns-in-Err-Full-clause-fills
returns-in-Err-Full-clause-fills g c = λ at length same.
    let rules = g.M.Picked.rules in
    let cell = c.args.cell.now in
    let part = c.args.part in
    let picked = subst (λ o. Picks rules.flows rules.count (rules.begin cell.number) c.args.marks.now cell o c.pick.new.self) c.in-Some.is c.in-Ok.ensures.picks in
    let store = c.args.store.now in
    let new = c.body.new.self in
    let frame = entries_of c.in-Some.frame in
    let m = may_be_written_by g.M.Picked.origin rules c.requires.begun (view_of store) (made_of g.M.Picked.origin rules g.M.Picked.origin.count store c.requires.begun c.requires.kept) part c.requires.place
    cell c.pick.new.self c.requires.joined (c.if-not-is_going.ensures.facts refl) c.args.marks.now frame c.in-Some.sending.items picked in
    let is = c.in-Err-Full.is ∙ ap Err c.in-Err-Full.field-0-is in
    let back = c.body.ensures.room c.in-Err-Full.length c.in-Err-Full.frame c.in-Err-Full.sending is in
    let way = c.body.ensures.way c.in-Err-Full.length c.in-Err-Full.frame c.in-Err-Full.sending is in
    let keeps = c.body.ensures.keeps.logs in
    let filled = fills_so rules part c.in-Err-Full.length store new frame picked.some m.behind.spells m.may back.3 back.2 keeps.latest c.body.ensures.trail keeps.said way keeps.segment back.5 in
    let there : part ≡ at = cc same in
    let long : c.in-Err-Full.length ≡ length = cc same in
    subst (λ (p : ℕ). WouldFill rules new p length) there (subst (λ (n : ℕ). WouldFill rules new part n) long filled)

pub returns-in-Err-Full-clause-joined : goal.returns-in-Err-Full-clause-joined
returns-in-Err-Full-clause-joined g c =
    let rules = g.M.Picked.rules in
    let cell = c.args.cell.now in
    let picked = subst (λ o. Picks rules.flows rules.count (rules.begin cell.number) c.args.marks.now cell o c.pick.new.self) c.in-Some.is c.in-Ok.ensures.picks in
    let back = c.body.ensures.room c.in-Err-Full.length c.in-Err-Full.frame c.in-Err-Full.sending (c.in-Err-Full.is ∙ ap Err c.in-Err-Full.field-0-is) in
    let stage = back.5 in
    unpicked_joined rules c.args.part (view_of c.args.store.now) (view_of c.body.new.self) cell c.pick.new.self c.unpick.new.self _
    (stays rules c.args.part c.args.store.now c.body.new.self c.body.ensures.keeps c.body.ensures.trail c.args.part) picked.becomes c.unpick.ensures stage
    (rests_none (way_of c.body.new.self.logs.ways.items c.args.part) stage) c.requires.joined.goes

pub returns-in-Err-Memory-clause-joined : goal.returns-in-Err-Memory-clause-joined
returns-in-Err-Memory-clause-joined g c =
    let rules = g.M.Picked.rules in
    let cell = c.args.cell.now in
    let picked = subst (λ o. Picks rules.flows rules.count (rules.begin cell.number) c.args.marks.now cell o c.pick.new.self) c.in-Some.is c.in-Ok.ensures.picks in
    let back = c.body.ensures.memory c.in-Err-Memory.frame c.in-Err-Memory.sending (c.in-Err-Memory.is ∙ ap Err c.in-Err-Memory.field-0-is) in
    let stage = back.3 in
    unpicked_joined rules c.args.part (view_of c.args.store.now) (view_of c.body.new.self) cell c.pick.new.self c.unpick-in-Err-Memory.new.self _
    (stays rules c.args.part c.args.store.now c.body.new.self c.body.ensures.keeps c.body.ensures.trail c.args.part) picked.becomes c.unpick-in-Err-Memory.ensures stage
    (rests_none (way_of c.body.new.self.logs.ways.items c.args.part) stage) c.requires.joined.goes
