use Rattle.std.proofs.Common.{◌≤◌, ◌≡◌, ◌∙◌, ℕ, [], sym, ap, subst, arith}
use Rattle.client_port.specs.Ports.{queues_of}
use Rattle.engine_rounds.proofs.Opens.{first_serves}
use Rattle.engine_rounds.specs.Heard.{GoesByClock}
use Rattle.engine_rounds.specs.Served.{SaysOn}
use Rattle.hub_store.specs.Short.{IsShort}
use Rattle.hub_store.specs.Trail.{of_part}
use Rattle.many_rules.specs.Rules.{Rules}
use Rattle.round_steps.specs.declared.course.Pace.{Pace}
use Rattle.site_model.specs.History.{content_of}
use Rattle.engine_rounds.proofs.serving.serve_named.Goals as goal

pub serve_over-requires-clause-serving : goal.serve_over-requires-clause-serving
serve_over-requires-clause-serving g c =
    let rules = g.N.Named.rules in
    let count : rules.count ≡ c.args.shape.count = ap (λ (r : Rules). r.count) c.requires.rules in
    let e = c.in-Ok-begin_call.ensures in
    let call = c.in-Ok-begin_call.call in
    let some = c.requires.some in
    let few = c.requires.few in
    first_serves g.N.Named.origin rules call.store call.cells.items c.in-Ok.course.port c.requires.goes (ap (λ (r : Rules). r.serves) c.requires.rules) (omega (arith, count, some)) (omega (arith, count, few)) (e.many ∙ sym count) e.kept e.untouched e.joined
    (c.in-Ok.ensures.port ∙ ap queues_of (sym (ap (λ (r : Rules). r.requests) c.requires.rules)))

pub serve_over-requires-clause-clients : goal.serve_over-requires-clause-clients
serve_over-requires-clause-clients g c =
    c.deref.ensures.value ∙ c.in-Ok.ensures.clients ∙ (serve_over-requires-clause-serving g c).said.clients

pub serve_over-requires-clause-bound : goal.serve_over-requires-clause-bound
serve_over-requires-clause-bound g c =
    let most : g.N.Named.rules.most ≡ c.args.shape.pace.batch = ap (λ (r : Rules). r.most) c.requires.rules in
    let batch : c.in-Ok.pace.batch ≡ c.args.shape.pace.batch = ap (λ (p : Pace). p.batch) c.in-Ok.ensures.pace in
    omega (arith, most, batch)

pub serve_over-requires-clause-nothing : goal.serve_over-requires-clause-nothing
serve_over-requires-clause-nothing g c = let untouched = c.in-Ok-begin_call.ensures.untouched in untouched.trail

pub serve_over-requires-clause-latest : goal.serve_over-requires-clause-latest
serve_over-requires-clause-latest g c = let is = c.in-Ok-begin_call.ensures.latest in let low = c.requires.since in omega (arith, is, low)

pub returns-in-Ok-begin_call-clause-short : goal.returns-in-Ok-begin_call-clause-short
returns-in-Ok-begin_call-clause-short g c = λ tells none p below.
    let rules = g.N.Named.rules in
    let count : rules.count ≡ c.args.shape.count = ap (λ (r : Rules). r.count) c.requires.rules in
    let same : rules.count ≡ g.N.Named.origin.count = g.N.Named.counts in
    let site = g.V.Site.history c.serve_over.result.site in
    subst (λ (n : ℕ). IsShort n (of_part p c.serve_over.result.trail) (content_of (g.N.Named.origin.logs p).file site)) c.in-Ok-begin_call.ensures.segment (c.serve_over.ensures.short tells p (omega (arith, below, count, same)))

pub returns-in-Ok-begin_call-clause-on : goal.returns-in-Ok-begin_call-clause-on
returns-in-Ok-begin_call-clause-on g c = λ none.
    let served = c.serve_over.result in
    let pace : c.in-Ok.pace ≡ c.args.shape.pace = c.in-Ok.ensures.pace in
    subst (λ (n : ℕ). SaysOn g.N.Named.rules g.N.Named.origin n c.args.shape.pace.steps (g.C.Clock.latest served.clock) (g.V.Site.tells served.site) (g.V.Site.history served.site) served.trail served.came served.port) c.in-Ok-begin_call.ensures.segment
    (subst (λ (p : Pace). SaysOn g.N.Named.rules g.N.Named.origin c.in-Ok-begin_call.call.store.logs.segment p.steps (g.C.Clock.latest served.clock) (g.V.Site.tells served.site) (g.V.Site.history served.site) served.trail served.came served.port) pace c.serve_over.ensures.on)

pub returns-in-Ok-begin_call-clause-by_clock : goal.returns-in-Ok-begin_call-clause-by_clock
returns-in-Ok-begin_call-clause-by_clock g c = λ none.
    let course = c.serve_over.ensures.by_clock in
    let served = c.serve_over.result in
    let pace : c.in-Ok.pace ≡ c.args.shape.pace = c.in-Ok.ensures.pace in
    let from = subst (λ (n : ℕ). GoesByClock g.N.Named.rules c.in-Ok.pace.steps (g.C.Clock.given c.args.clock) n [] (g.C.Clock.given served.clock) course.0 served.trail) c.in-Ok-begin_call.ensures.latest course.2 in
    (course.0, course.1, subst (λ (p : Pace). GoesByClock g.N.Named.rules p.steps (g.C.Clock.given c.args.clock) c.args.since [] (g.C.Clock.given served.clock) course.0 served.trail) pace from)
