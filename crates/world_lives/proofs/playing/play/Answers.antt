use Rattle.std.proofs.Common.{◌≡◌, ◌∙◌, ◌++◌, ◌∷◌, ◌+◌, [], ℕ, List, refl, sym, ap, subst, length, arith, append_assoc}
use Rattle.cell_steps.specs.declared.mode.Mode.{Mode}
use Rattle.open_logs.proofs.Pushed.{one_longer}
use Rattle.recover_core.proofs.Pushed.{pushed_items}
use Rattle.world_steps.specs.Cells.{AllKnown}
use Rattle.world_core.specs.World.{world}
use Rattle.world_core.specs.declared.answer.Answer.{Answer}
use Rattle.world_laws.proofs.Grounds.{well_known}
use Rattle.world_lives.specs.Lives.{Does, Lives, nothing, one_more}
use Rattle.world_lives.specs.declared.deed.Deed.{Deed}
use Rattle.world_lives.proofs.playing.play.Goals as goal

pub deeds-init : goal.deeds-init
deeds-init g c =
    let none = c.requires.none in
    let life = c.args.life.now in
    let first = world c.args.store.now life.cells.items life.packets.items life.marks.items life.ended in
    record {
      tells = λ told. told;
      kept = c.requires.kept;
      stands = c.requires.stands;
      mode = refl;
      nodes = refl;
      lives = subst (λ (l : List Answer). Lives g.M.Picked.rules life.mode life.nodes first [] l first) (sym none) nothing;
      many = sym (ap length none);
      rest = c.into_iter-deed-iterator.ensures.into_iter_gives.0;
      room = c.requires.room;
    }

pub deeds-preserved : goal.deeds-preserved
deeds-preserved g c =
    let inv = c.deeds.invariant in
    let rules = g.M.Picked.rules in
    let deed = c.in-Some.deed in
    let left = c.next.new.self.rest.items in
    let step = c.in-Some.ensures.steps in
    let before = c.deeds.answers.items in
    let answer = c.do_deed-answer.result in
    let h = c.do_deed-answer.ensures in
    let life = c.args.life.now in
    let later = c.do_deed-answer.new.life in
    let first = world c.args.store.now life.cells.items life.packets.items life.marks.items life.ended in
    let new = world c.do_deed-answer.new.store later.cells.items later.packets.items later.marks.items later.ended in
    let old = world c.deeds.store c.deeds.life.cells.items c.deeds.life.packets.items c.deeds.life.marks.items c.deeds.life.ended in
    let rest : (c.deeds.yielded ++ (deed ∷ left)) ≡ c.args.deeds.items = ap (λ (l : List Deed). c.deeds.yielded ++ l) (sym step.0) ∙ inv.rest in
    let items = pushed_items c.push.result (before ++ answer ∷ []) before c.push.new.self.items c.if-is_err.false c.is_err.ensures.value c.push.ensures.items in
    let does : Does rules life.mode life.nodes old deed answer new = subst (λ (m : Mode). Does rules m life.nodes old deed answer new) inv.mode (subst (λ (n : ℕ). Does rules c.deeds.life.mode n old deed answer new) inv.nodes h.does) in
    let known : AllKnown rules later.cells.items = subst (AllKnown rules) c.deref.ensures.value c.look_at.ensures in
    let well = well_known g.M.Picked.origin rules g.M.Picked.origin.count c.do_deed-answer.new.store later.cells.items later.packets.items later.marks.items later.ended c.requires.begun h.kept g.M.Picked.counts h.stands known in
    record {
      tells = λ told. inv.tells (h.tells told);
      kept = h.kept;
      stands = h.stands;
      mode = h.fixed.0 ∙ inv.mode;
      nodes = h.fixed.1 ∙ inv.nodes;
      lives = subst (λ (l : List Answer). Lives rules life.mode life.nodes first (c.deeds.yielded ++ deed ∷ []) l new) (sym items) (one_more inv.lives deed answer new does well);
      many = one_longer c.deeds.yielded deed ∙ ap (λ (n : ℕ). n + 1) inv.many ∙ sym (ap length items ∙ one_longer before answer);
      rest = append_assoc c.deeds.yielded (deed ∷ []) left ∙ rest;
      room = let room = inv.room in let more = c.push.ensures.capacity in omega (arith, room, more);
    }
