use Rattle.std.proofs.Common.{◌≡◌, Err, OnOk, OnErr, refl, sym, ◌∙◌, ap, subst, le_refl}
use Rattle.std.proofs.Math.Nat.{le_of_eq}
use Rattle.site_model.specs.History.{changes_of}
use Rattle.hub_store.specs.declared.refusal.Refusal.TheVariants.{SiteFault}
use Rattle.hub_store.specs.declared.way.Way.{Way}
use Rattle.hub_store.specs.declared.way.Way.TheVariants as ways
use Rattle.hub_store.specs.declared.way.Stage.TheVariants as stages
use Rattle.hub_store.specs.Plain.{trail_of, told_of}
use Rattle.hub_store.specs.Trail.{of_part}
use Rattle.hub_store.specs.Short.{KeepsShort}
use Rattle.hub_store.specs.Ways.{LogFits, stage_of, due_in, going_in}
use Rattle.hub_store.proofs.Bodies.{way_put, fault_no_frame, true_apart, within}
use Rattle.hub_store.proofs.Calls.{synced_there, gate_goes}
use Rattle.hub_store.proofs.Shortness.{still_short}
use Rattle.hub_store.proofs.Standing.{told_on}
use Rattle.hub_store.proofs.Stores.{put_for, others_stay, keeps_still, sound_on, with_frame}
use Rattle.hub_store.proofs.store.Store.gate.Goals as goal

pub gate_log-way-requires : goal.gate_log-way-requires
gate_log-way-requires g c tells =
    let o = g.N.Start.origin in
    let p = c.args.part in
    let old = c.args.self.now in
    let stood = c.requires.sound.told tells in
    synced_there o p c.in-Synced.log c.in-Synced.frame (trail_of old.trail.items) (g.V.Site.history old.site)
    (subst (λ (w : Way). LogFits (o.logs p) (of_part p (trail_of old.trail.items)) (changes_of (o.logs p).file (g.V.Site.history old.site)) w) (sym c.in-Synced.ensures.way) (stood.logs p c.requires.place))

pub returns-clause-sound : goal.returns-clause-sound
returns-clause-sound g c =
    let o = g.N.Start.origin in
    let p = c.args.part in
    let old = c.args.self.now in
    let trail = trail_of old.trail.items in
    let told = told_of old.told.items in
    let before = g.V.Site.history old.site in
    let now = g.V.Site.history c.gate_log-way.new.site in
    let way = c.gate_log-way.result.0 in
    sound_on old _ p way c.requires.sound c.requires.place (with_frame way _ c.gate_log-way.ensures.going) (put_for _ _ _ p way c.take_way.ensures.rest c.put_way.ensures) (c.gate_log-way.ensures.due ∙ ap due_in c.in-Synced.ensures.way) refl refl (c.requires.sound.uncut c.requires.going) refl
    (λ tells.
    let stood = c.requires.sound.told (c.gate_log-way.ensures.tells tells) in
    let fits = subst (λ (w : Way). LogFits (o.logs p) (of_part p trail) (changes_of (o.logs p).file before) w) (sym c.in-Synced.ensures.way) (stood.logs p c.requires.place) in
    let follows = c.requires.follows _ (ap going_in (sym c.in-Synced.ensures.way)) in
    let goes = gate_goes (g.N.Start.may_follow old.latest) g.N.Start.may_say o p c.in-Synced.log c.in-Synced.frame trail told before now way c.gate_log-way.ensures.step.0 c.gate_log-way.ensures.step.1 c.gate_log-way.ensures.during c.gate_log-way.ensures.fits c.gate_log-way.ensures.going follows fits in
    told_on (g.N.Start.may_follow old.latest) g.N.Start.may_say o p before now old.ways.items way trail told old.cut _ c.requires.sound.apart c.requires.sound.count c.requires.place (c.requires.sound.uncut c.requires.going) stood goes.0 goes.1)
    refl c.gate_log-way.ensures.tells
    (λ tells. still_short old.segment (of_part p trail) (of_part p trail) (ways.Synced c.in-Synced.log c.in-Synced.frame) way _ refl (le_of_eq c.gate_log-way.ensures.reach)
    (subst (KeepsShort old.segment (of_part p trail)) (sym c.in-Synced.ensures.way) (c.requires.sound.short (c.gate_log-way.ensures.tells tells) p c.requires.place)))

pub returns-clause-ok : goal.returns-clause-ok
returns-clause-ok g c =
    let p = c.args.part in
    let way = c.gate_log-way.result.0 in
    subst (λ (w : Way). OnOk c.gate_log-way.result.1 (stage_of w ≡ stages.Gated))
    (sym (way_put _ _ p way (put_for _ _ _ p way c.take_way.ensures.rest c.put_way.ensures) (within _ _ _ c.requires.sound.count c.requires.place))) c.gate_log-way.ensures.ok

pub returns-clause-frame : goal.returns-clause-frame
returns-clause-frame g c =
    let p = c.args.part in
    let way = c.gate_log-way.result.0 in
    ap going_in (way_put _ _ p way (put_for _ _ _ p way c.take_way.ensures.rest c.put_way.ensures) (within _ _ _ c.requires.sound.count c.requires.place))
    ∙ c.gate_log-way.ensures.going ∙ ap going_in c.in-Synced.ensures.way

pub returns-clause-no_frame : goal.returns-clause-no_frame
returns-clause-no_frame g c = (
  (λ is. let other = subst (λ r. OnErr r (r ≡ Err SiteFault)) is c.gate_log-way.ensures.err in absurd (fault_no_frame _ other refl)),
  (λ apart. absurd (apart (ap stage_of (sym c.in-Synced.ensures.way)))),
)

pub returns-clause-unchanged : goal.returns-clause-unchanged
returns-clause-unchanged g c is = let other = subst (λ r. OnErr r (r ≡ Err SiteFault)) is c.gate_log-way.ensures.err in absurd (fault_no_frame _ other refl)

pub returns-then-ne-clause-sound : goal.returns-then-ne-clause-sound
returns-then-ne-clause-sound g c = c.requires.sound

pub returns-then-ne-clause-ok : goal.returns-then-ne-clause-ok
returns-then-ne-clause-ok g c = tt

pub returns-then-ne-clause-frame : goal.returns-then-ne-clause-frame
returns-then-ne-clause-frame g c = refl

pub returns-then-ne-clause-unchanged : goal.returns-then-ne-clause-unchanged
returns-then-ne-clause-unchanged g c = λ is. refl

pub returns-then-ne-clause-still : goal.returns-then-ne-clause-still
returns-then-ne-clause-still g c = tt

pub returns-then-ne-clause-halts : goal.returns-then-ne-clause-halts
returns-then-ne-clause-halts g c = λ is. absurd (fault_no_frame _ is refl)

pub returns-then-ne-clause-halted : goal.returns-then-ne-clause-halted
returns-then-ne-clause-halted g c = record { later = le_refl _; same = λ is. refl; risen = λ is. absurd (true_apart (sym is ∙ c.requires.going)) }

pub returns-clause-keeps : goal.returns-clause-keeps
returns-clause-keeps g c =
    let p = c.args.part in
    let way = c.gate_log-way.result.0 in
    record {
      tells = c.gate_log-way.ensures.tells;
      others = others_stay _ _ p way (put_for _ _ _ p way c.take_way.ensures.rest c.put_way.ensures);
      said = refl;
      segment = refl;
      latest = refl;
      whole = refl;
      later = c.gate_log-way.ensures.cause.later;
      say_faults = c.gate_log-way.ensures.say_faults;
    }

pub returns-clause-trail : goal.returns-clause-trail
returns-clause-trail g c = refl

pub returns-clause-broken : goal.returns-clause-broken
returns-clause-broken g c is =
    let p = c.args.part in
    let way = c.gate_log-way.result.0 in
    ap stage_of (way_put _ _ p way (put_for _ _ _ p way c.take_way.ensures.rest c.put_way.ensures) (within _ _ _ c.requires.sound.count c.requires.place))
    ∙ subst (λ r. OnErr r (stage_of way ≡ stages.BrokenGate)) is c.gate_log-way.ensures.broken

pub returns-then-ne-clause-keeps : goal.returns-then-ne-clause-keeps
returns-then-ne-clause-keeps g c = keeps_still c.args.part c.args.self.now

pub returns-then-ne-clause-trail : goal.returns-then-ne-clause-trail
returns-then-ne-clause-trail g c = refl

pub returns-then-ne-clause-broken : goal.returns-then-ne-clause-broken
returns-then-ne-clause-broken g c is = absurd (fault_no_frame _ is refl)
