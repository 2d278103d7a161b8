use Rattle.std.proofs.Common.{◌≡◌, ◌∙◌, ℕ, List, Option, Some, get_or, length, take, sym, ap, subst, arith}
use Rattle.std.specs.Prelude.{MatchOption}
use Rattle.std.specs.List.{All}
use Rattle.dura_value.specs.Dependencies.{named_by, Ready}
use Rattle.dura_value.specs.Items.{Identity, Entry}
use Rattle.log_items.specs.Plain.{entries_of}
use Rattle.log_items.specs.declared.frames.Entry.{Entry as OwnEntry}
use Rattle.spec_tracker.specs.Marks.{floors_of, length_in}
use Rattle.cell_steps.specs.Steps.{entries_in}
use Rattle.spec_cell.specs.Picks.{HasPicked}
use Rattle.spec_cell.specs.Views.{Stands, StandsIn}
use Rattle.cell_steps.specs.declared.live.Live.{Live}
use Rattle.cell_steps.specs.declared.step.Step.{Step}
use Rattle.spec_cell.proofs.CellFacts.{view}
use Rattle.cell_packets.specs.Packets.{all_sent_from, ends_of}
use Rattle.commit_gate.specs.Views.{all_sent}
use Rattle.part_steps.specs.States.{IsSound, state_of, count_of}
use Rattle.part_steps.specs.declared.state.PartState.{PartState}
use Rattle.spec_cell.proofs.SentByEntries.{front_sound, frame_sends}
use Rattle.spec_cell.proofs.Frames.{cant_while, cant_before, cant_first, has_picked}
use Rattle.spec_cell.proofs.cell.Cell.pick.Goals as goal

pub returns-then-self-gt0-clause-picks : goal.returns-then-self-gt0-clause-picks
returns-then-self-gt0-clause-picks g c =
    let flows = g.S.Mine.flows in
    let count = g.S.Mine.count in
    let inside = c.self.inside in
    let number = g.S.Mine.number inside.seat in
    let slot = g.S.Mine.slot inside.seat in
    let live = c.in-Some.live in
    let live_is : inside.live ≡ Some live = c.in-Some.is in
    let stands : Stands flows count (g.S.Mine.begin number) slot.mine inside.now inside.out live = subst (λ (o : Option Live). StandsIn flows count (g.S.Mine.begin number) slot.mine inside.now inside.out o) live_is c.self.invariant in
    let view_is : view number slot (Some live) inside.now inside.out inside.owner inside.round ≡ c.args.self.now =
    ap (λ (o : Option Live). view number slot o inside.now inside.out inside.owner inside.round) (sym live_is) ∙ c.self.view_is in
    cant_while flows count g.S.Mine.begin number slot inside.now inside.out inside.owner inside.round live stands c.args.self.now view_is c.args.marks.now c.if-self-gt0.true

pub returns-then-not-is_ready-clause-picks : goal.returns-then-not-is_ready-clause-picks
returns-then-not-is_ready-clause-picks g c =
    let flows = g.S.Mine.flows in
    let count = g.S.Mine.count in
    let inside = c.self.inside in
    let number = g.S.Mine.number inside.seat in
    let slot = g.S.Mine.slot inside.seat in
    let live = c.in-Some.live in
    let live_is : inside.live ≡ Some live = c.in-Some.is in
    let stands : Stands flows count (g.S.Mine.begin number) slot.mine inside.now inside.out live = subst (λ (o : Option Live). StandsIn flows count (g.S.Mine.begin number) slot.mine inside.now inside.out o) live_is c.self.invariant in
    let view_is : view number slot (Some live) inside.now inside.out inside.owner inside.round ≡ c.args.self.now =
    ap (λ (o : Option Live). view number slot o inside.now inside.out inside.owner inside.round) (sym live_is) ∙ c.self.view_is in
    cant_before flows count g.S.Mine.begin number slot inside.now inside.out inside.owner inside.round live stands c.args.self.now view_is c.args.marks.now (λ ready. c.is_ready.ensures.not c.if-not-is_ready.true (subst (λ (o : Option Identity). MatchOption o (Unit {0}) (Ready (length_in c.args.marks.now) (floors_of c.args.marks.now))) (sym c.last_made.ensures) ready))

pub returns-then-count-eq0-clause-picks : goal.returns-then-count-eq0-clause-picks
returns-then-count-eq0-clause-picks g c =
    let flows = g.S.Mine.flows in
    let count = g.S.Mine.count in
    let inside = c.self.inside in
    let number = g.S.Mine.number inside.seat in
    let slot = g.S.Mine.slot inside.seat in
    let live = c.in-Some.live in
    let live_is : inside.live ≡ Some live = c.in-Some.is in
    let stands : Stands flows count (g.S.Mine.begin number) slot.mine inside.now inside.out live = subst (λ (o : Option Live). StandsIn flows count (g.S.Mine.begin number) slot.mine inside.now inside.out o) live_is c.self.invariant in
    let view_is : view number slot (Some live) inside.now inside.out inside.owner inside.round ≡ c.args.self.now =
    ap (λ (o : Option Live). view number slot o inside.now inside.out inside.owner inside.round) (sym live_is) ∙ c.self.view_is in
    let same = c.deref.ensures.value in
    let zero_is = c.if-count-eq0.true in
    cant_first flows count g.S.Mine.begin number slot inside.now inside.out inside.owner inside.round live stands c.args.self.now view_is c.args.marks.now (λ some d all.
    let long = ap (λ (l : List Step). length l) same in
    c.count_ready-count.ensures.stop (omega (arith, zero_is, some, long)) (omega (arith, zero_is)) d
    (subst (λ (n : ℕ). All (Ready (length_in c.args.marks.now) (floors_of c.args.marks.now)) (named_by (get_or (entries_in c.deref.result.now) n d).items)) (sym zero_is)
    (subst (λ (l : List Step). All (Ready (length_in c.args.marks.now) (floors_of c.args.marks.now)) (named_by (get_or (entries_in l) 0 d).items)) (sym same) all)))

pub returns-clause-picks : goal.returns-clause-picks
returns-clause-picks g c =
    let flows = g.S.Mine.flows in
    let count = g.S.Mine.count in
    let inside = c.self.inside in
    let number = g.S.Mine.number inside.seat in
    let slot = g.S.Mine.slot inside.seat in
    let live = c.in-Some.live in
    let live_is : inside.live ≡ Some live = c.in-Some.is in
    let stands : Stands flows count (g.S.Mine.begin number) slot.mine inside.now inside.out live = subst (λ (o : Option Live). StandsIn flows count (g.S.Mine.begin number) slot.mine inside.now inside.out o) live_is c.self.invariant in
    let view_is : view number slot (Some live) inside.now inside.out inside.owner inside.round ≡ c.args.self.now =
    ap (λ (o : Option Live). view number slot o inside.now inside.out inside.owner inside.round) (sym live_is) ∙ c.self.view_is in
    let same = c.deref.ensures.value in
    let n = c.count_ready-count.result in
    let long = ap (λ (l : List Step). length l) same in
    let few = c.count_ready-count.ensures.few in
    let most = c.count_ready-count.ensures.most in
    let some = c.if-count-eq0.false in
    let rests = c.if-self-gt0.false in
    let ready = subst (λ (o : Option Identity). MatchOption o (Unit {0}) (Ready (length_in c.args.marks.now) (floors_of c.args.marks.now))) c.last_made.ensures (c.is_ready.ensures.ready c.if-not-is_ready.false) in
    let frame_is : entries_of c.of.result ≡ take n (entries_in live.steps.items) = ap (λ (l : List OwnEntry). entries_of l) c.of.ensures ∙ c.in_ok-entries.ensures ∙ ap (λ (l : List Step). take n (entries_in l)) c.deref-2.ensures.value in
    let front_is = c.state_at.ensures in
    let sends =
    frame_sends flows count g.S.Mine.begin number slot inside.now inside.out inside.owner inside.round live stands c.args.self.now view_is n c.in_ok-sending.sending.items
    (subst (λ (s : PartState). all_sent c.in_ok-sending.sending.items ≡ all_sent_from (count_of s) (ends_of (Some (state_of live.base).outboxes)) (state_of s).outboxes) front_is c.in_ok-sending.ensures) in
    subst (λ (o : Option Live). HasPicked flows count (g.S.Mine.begin c.args.self.now.number) c.args.marks.now c.args.self.now (entries_of c.of.result) c.in_ok-sending.sending.items (view number slot o inside.now n inside.owner inside.round)) (sym live_is)
    (has_picked flows count g.S.Mine.begin number slot inside.now inside.out inside.owner inside.round live stands c.args.self.now view_is c.args.marks.now n (entries_of c.of.result) c.in_ok-sending.sending.items sends frame_is (λ out. omega (arith, out, rests)) (omega (arith, some)) (omega (arith, most)) (omega (arith, few, long)) ready
    (subst (λ (l : List Step). All (λ (e : Entry). All (Ready (length_in c.args.marks.now) (floors_of c.args.marks.now)) (named_by e.items)) (take n (entries_in l))) same c.count_ready-count.ensures.ready)
    (λ inside_steps below d all. c.count_ready-count.ensures.stop (omega (arith, inside_steps, long)) (omega (arith, below)) d
    (subst (λ (l : List Step). All (Ready (length_in c.args.marks.now) (floors_of c.args.marks.now)) (named_by (get_or (entries_in l) n d).items)) (sym same) all)))

pub sending_between-requires-clause-after : goal.sending_between-requires-clause-after
sending_between-requires-clause-after g c =
    let flows = g.S.Mine.flows in
    let count = g.S.Mine.count in
    let inside = c.self.inside in
    let number = g.S.Mine.number inside.seat in
    let slot = g.S.Mine.slot inside.seat in
    let live = c.in-Some.live in
    let live_is : inside.live ≡ Some live = c.in-Some.is in
    let stands : Stands flows count (g.S.Mine.begin number) slot.mine inside.now inside.out live = subst (λ (o : Option Live). StandsIn flows count (g.S.Mine.begin number) slot.mine inside.now inside.out o) live_is c.self.invariant in
    let view_is : view number slot (Some live) inside.now inside.out inside.owner inside.round ≡ c.args.self.now =
    ap (λ (o : Option Live). view number slot o inside.now inside.out inside.owner inside.round) (sym live_is) ∙ c.self.view_is in
    subst IsSound (sym c.state_at.ensures) (front_sound flows count g.S.Mine.begin number slot inside.now inside.out inside.owner inside.round live stands c.args.self.now view_is c.count_ready-count.result)
