use Rattle.std.proofs.Common.{◌≡◌, ◌<◌, ◌∙◌, ℕ, length, List, [], Some, IfErr, IfOk, OnOk, sym, ap, subst, arith}
use Rattle.call_begins.proofs.Further.{run_further, nothing_before}
use Rattle.call_begins.proofs.Says.{all_said}
use Rattle.call_begins.specs.Says.{SaysAll}
use Rattle.commit_gate.specs.Ledgers.{log_length}
use Rattle.engine_rounds.proofs.Filled.{halts_for}
use Rattle.engine_rounds.proofs.Opens.{ended_so, halted_so, stands_orderly, went_on}
use Rattle.engine_rounds.specs.Ends.{EndsAs}
use Rattle.engine_rounds.specs.Halts.{HaltsFor}
use Rattle.engine_rounds.specs.Heard.{GoesByClock}
use Rattle.engine_rounds.specs.Served.{LeavesRuns, came_of, refusal_in}
use Rattle.gated_store.specs.Causal.{Causal}
use Rattle.gated_store.specs.Follows.{ledgers_at}
use Rattle.hub_store.proofs.EveryMoment.{all_settled}
use Rattle.hub_store.specs.Changes.{trail_in, told_in}
use Rattle.hub_store.specs.Short.{IsShort}
use Rattle.hub_store.specs.Trail.{Settled, of_part, settled_at}
use Rattle.hub_store.specs.Ways.{LogFits, way_of}
use Rattle.many_rules.specs.Ledgers.{ledgers}
use Rattle.node_core.specs.Halts.{IsPast, RisesFor}
use Rattle.node_core.specs.declared.halt.Halt.TheVariants as halts
use Rattle.round_steps.proofs.Counts.{first_few}
use Rattle.round_steps.specs.Labels.{AreFew}
use Rattle.round_steps.specs.Serving.{IsServing}
use Rattle.site_model.specs.History.{back_to, changes_of, content_of}
use Rattle.site_model.specs.Moments.{Always}
use Rattle.engine_rounds.proofs.serving.serve_over.Goals as goal

pub returns-clause-went : goal.returns-clause-went
returns-clause-went g c = ap refusal_in c.came_of.ensures ∙ went_on c.drive_since-rounds.result

pub returns-clause-crash : goal.returns-clause-crash
returns-clause-crash g c = λ tells digest begins.
    let rules = g.N.Named.rules in
    let o = g.N.Named.origin in
    let logs = c.drive_since-rounds.new.store.logs in
    let e = c.end_call-site.ensures in
    let heard = c.drive_since-rounds.ensures.heard c.requires.latest in
    subst (λ site. LeavesRuns rules (g.C.Clock.latest c.drive_since-rounds.new.clock) digest o (g.V.Site.history site) c.end_call-site.result.trail) (sym e.site)
    (subst (λ (t : List Settled). LeavesRuns rules (g.C.Clock.latest c.drive_since-rounds.new.clock) digest o (g.V.Site.history logs.site) t) (sym e.trail)
    (λ moment low high files image.
    let on = e.crash digest (subst g.V.Site.tells e.site tells) begins c.requires.begun.numbered moment low high files image in
    let ordered = stands_orderly rules logs.latest digest o (back_to moment (g.V.Site.history logs.site)) (settled_at moment (trail_in logs)) files on in
    (logs.latest, heard, ordered.0, ordered.1)))

pub returns-clause-further : goal.returns-clause-further
returns-clause-further g c = λ tells.
    let e = c.end_call-site.ensures in
    subst (λ site. Always (λ moment. Unit {0}) g.N.Named.origin.steps (g.V.Site.history site)) (sym e.site) (run_further (c.drive_since-rounds.ensures.kept.sound.told (subst g.V.Site.tells e.site tells)).runs)

pub returns-clause-unsettled : goal.returns-clause-unsettled
returns-clause-unsettled g c = λ tells moment low.
    let e = c.end_call-site.ensures in
    ap (settled_at moment) e.trail ∙ nothing_before (c.drive_since-rounds.ensures.kept.sound.told (subst g.V.Site.tells e.site tells)).runs moment low

pub returns-clause-settled : goal.returns-clause-settled
returns-clause-settled g c = λ tells.
    let e = c.end_call-site.ensures in
    let logs = c.drive_since-rounds.new.store.logs in
    let told = c.drive_since-rounds.ensures.kept.sound.told (subst g.V.Site.tells e.site tells) in
    subst (λ (t : List Settled). settled_at (length (g.V.Site.history c.end_call-site.result.site)) t ≡ t) (sym e.trail)
    (subst (λ site. settled_at (length (g.V.Site.history site)) (trail_in logs) ≡ trail_in logs) (sym e.site) (all_settled told.runs (length (g.V.Site.history logs.site)) (omega arith)))

pub returns-clause-on : goal.returns-clause-on
returns-clause-on g c =
    let rules = g.N.Named.rules in
    let o = g.N.Named.origin in
    let logs = c.drive_since-rounds.new.store.logs in
    let e = c.end_call-site.ensures in
    let h = c.drive_since-rounds.ensures in
    record {
      told = told_in logs;
      queues = c.drive_since-rounds.new.course.port;
      port_is = ap Some c.into_port.ensures;
      few =
          let some = c.requires.serving.running.some in
          let most : 0 < rules.most = let low = c.requires.batch in let high = c.requires.bound in omega (arith, low, high) in
          let none = subst (λ (t : List Settled). AreFew rules c.args.pace.steps t) (sym c.requires.nothing) (first_few rules c.args.pace.steps some most) in
          subst (λ (t : List Settled). AreFew rules c.args.pace.steps t) (sym e.trail) (h.fewer none);
      says = λ tells apart.
          let whole = h.whole (λ is. apart (c.came_of.ensures ∙ ap came_of is)) in
          let said = all_said rules o (g.V.Site.history logs.site) (trail_in logs) (told_in logs) ((h.kept.sound.told (subst g.V.Site.tells e.site tells)).rests whole) in
          subst (λ site. SaysAll rules o.steps (g.V.Site.history site) c.end_call-site.result.trail (told_in logs)) (sym e.site)
          (subst (λ (t : List Settled). SaysAll rules o.steps (g.V.Site.history logs.site) t (told_in logs)) (sym e.trail) said);
      halts = λ halt came.
          let is = halted_so c.drive_since-rounds.result halt (sym c.came_of.ensures ∙ came) in
          let store = c.drive_since-rounds.new.store in
          let cells = c.drive_since-rounds.new.cells.items in
          let past = subst (λ r. IfErr r (IsPast rules store cells)) is h.past in
          let fits : g.V.Site.tells logs.site → (p : ℕ) → p < rules.count → LogFits (o.logs p) (of_part p (trail_in logs)) (changes_of (o.logs p).file (g.V.Site.history logs.site)) (way_of logs.ways.items p) =
          λ told p below. (h.kept.sound.told told).logs p (subst (λ (n : ℕ). p < n) g.N.Named.counts below) in
          let why = halts_for o rules store (g.C.Clock.latest c.drive_since-rounds.new.clock) (h.heard c.requires.latest) fits cells halt past in
          subst (λ (n : ℕ). HaltsFor rules o n (g.C.Clock.latest c.drive_since-rounds.new.clock) (g.V.Site.tells c.end_call-site.result.site) (g.V.Site.history c.end_call-site.result.site) c.end_call-site.result.trail (told_in logs) halt) h.goes.segment
          (subst (λ (t : List Settled). HaltsFor rules o logs.segment (g.C.Clock.latest c.drive_since-rounds.new.clock) (g.V.Site.tells c.end_call-site.result.site) (g.V.Site.history c.end_call-site.result.site) t (told_in logs) halt) (sym e.trail)
          (subst (λ site. HaltsFor rules o logs.segment (g.C.Clock.latest c.drive_since-rounds.new.clock) (g.V.Site.tells site) (g.V.Site.history site) (trail_in logs) (told_in logs) halt) (sym e.site) why));
      ends = λ end came.
          let is = ended_so c.drive_since-rounds.result end (sym c.came_of.ensures ∙ came) in
          let serving = subst (λ r. OnOk r (IsServing o rules c.drive_since-rounds.new.store c.drive_since-rounds.new.cells.items c.drive_since-rounds.new.course.port)) is h.serving in
          let ends = subst (λ r. IfOk r (EndsAs rules c.args.pace.steps (trail_in logs) c.drive_since-rounds.new.course.port)) is h.ends in
          (serving.said, subst (λ (t : List Settled). EndsAs rules c.args.pace.steps t c.drive_since-rounds.new.course.port end) (sym e.trail) ends);
    }

pub returns-clause-halts : goal.returns-clause-halts
returns-clause-halts g c = λ halt came.
    let is = halted_so c.drive_since-rounds.result halt (sym c.came_of.ensures ∙ came) in
    let old = c.args.call.store.logs.site in
    let new = c.drive_since-rounds.new.store.logs.site in
    let rises = subst (λ r. IfErr r (RisesFor (g.V.Site.disk_faults old) (g.V.Site.say_faults old) (g.V.Site.disk_faults new) (g.V.Site.say_faults new))) is c.drive_since-rounds.ensures.rises in
    subst (λ site. RisesFor (g.V.Site.disk_faults old) (g.V.Site.say_faults old) (g.V.Site.disk_faults site) (g.V.Site.say_faults site) halt) (sym c.end_call-site.ensures.site) rises

pub returns-clause-clock_fault : goal.returns-clause-clock_fault
returns-clause-clock_fault g c = λ was came. c.drive_since-rounds.ensures.clock was (halted_so c.drive_since-rounds.result halts.ClockFault (sym c.came_of.ensures ∙ came))

pub returns-clause-unheard : goal.returns-clause-unheard
returns-clause-unheard g c = λ not.
    let u = c.drive_since-rounds.ensures.unheard not in
    (c.came_of.ensures ∙ ap came_of u.0, u.1, c.end_call-site.ensures.trail ∙ u.2 ∙ c.requires.nothing)

pub returns-clause-causal : goal.returns-clause-causal
returns-clause-causal g c =
    let rules = g.N.Named.rules in
    subst (λ (t : List Settled). Causal (λ partition. ledgers rules partition []) (λ settled partition. log_length (ledgers_at (ledgers rules) settled partition)) t) (sym c.end_call-site.ensures.trail) c.end_call-site.ensures.causal

pub returns-clause-short : goal.returns-clause-short
returns-clause-short g c = λ tells p below.
    let e = c.end_call-site.ensures in
    let logs = c.drive_since-rounds.new.store.logs in
    let o = g.N.Named.origin in
    subst (λ site. IsShort c.args.call.store.logs.segment (of_part p c.end_call-site.result.trail) (content_of (o.logs p).file (g.V.Site.history site))) (sym e.site)
    (subst (λ (t : List Settled). IsShort c.args.call.store.logs.segment (of_part p t) (content_of (o.logs p).file (g.V.Site.history logs.site))) (sym e.trail)
    (subst (λ (n : ℕ). IsShort n (of_part p (trail_in logs)) (content_of (o.logs p).file (g.V.Site.history logs.site))) c.drive_since-rounds.ensures.goes.segment (e.short (subst g.V.Site.tells e.site tells) p below)))

pub returns-clause-later : goal.returns-clause-later
returns-clause-later g c =
    let goes = c.drive_since-rounds.ensures.goes in
    let disk = ap g.V.Site.disk_faults c.end_call-site.ensures.site in
    let say = ap g.V.Site.say_faults c.end_call-site.ensures.site in
    let disk_later = goes.disk_faults in
    let say_later = goes.say_faults in
    (omega (arith, disk, disk_later), omega (arith, say, say_later))

pub returns-clause-by_clock : goal.returns-clause-by_clock
returns-clause-by_clock g c =
    let rules = g.N.Named.rules in
    let h = c.drive_since-rounds.ensures in
    let logs = c.drive_since-rounds.new.store.logs in
    let clock = c.drive_since-rounds.new.clock in
    let course = subst (λ (t : List Settled). GoesByClock rules c.args.pace.steps (g.C.Clock.given c.args.clock) c.args.call.store.logs.latest t (g.C.Clock.given clock) logs.latest (trail_in logs)) c.requires.nothing h.by_clock in
    (logs.latest, h.heard c.requires.latest, subst (λ (t : List Settled). GoesByClock rules c.args.pace.steps (g.C.Clock.given c.args.clock) c.args.call.store.logs.latest [] (g.C.Clock.given clock) logs.latest t) (sym c.end_call-site.ensures.trail) course)
