use Rattle.std.proofs.Common.{◌≡◌, ◌∙◌, ◌++◌, ◌∷◌, [], Bool, true, length, Option, Some, Ok, sym, ap, subst}
use Rattle.commit_log.specs.declared.reader.OpenedLog.{OpenedLog}
use Rattle.log_items.specs.Plain.{items_of, entry_of}
use Rattle.many_logs.specs.Placing.{are_ready}
use Rattle.part_steps.specs.States.{parts_in}
use Rattle.recover_core.proofs.Going.{course_of, course_taken, stays_read}
use Rattle.recover_core.specs.declared.course.Comes.{Comes}
use Rattle.recover_core.specs.declared.course.Comes.TheVariants.{Waits}
use Rattle.recover_core.specs.Courses.{IsCourse, HasTaken, HasHalted, PlacesAt, SaysRefused}
use Rattle.recover_core.specs.declared.course.Course.{Course}
use Rattle.recover_core.proofs.NextTried.{has_taken, has_refused, opened_is, front_is, broken_is}
use Rattle.recover_core.proofs.PlacedAnyway.{none_gone, taken_gone}
use Rattle.recover_core.proofs.trying.try_next.Goals as goal

pub returns-clause-tries : goal.returns-clause-tries
returns-clause-tries g c tells done is whole chain still =
    let flows = g.R.Reactions.flows c.args.reactions.now in
    let steps = g.V.Site.history c.args.site.now in
    let old = c.args.states.now.items in
    let new = c.place_at.new.states.items in
    let items = items_of c.as_slice.result.now in
    let ready : are_ready (parts_in old) c.args.place items ≡ true = let here : are_ready (parts_in c.deref.result.now) c.args.place items ≡ true = sym c.are_items_ready.ensures ∙ c.if-not-are_items_ready.false in ap (λ l. are_ready (parts_in l) c.args.place items) (sym c.deref.ensures.value) ∙ here in
    let places = subst (λ (b : Bool). PlacesAt flows c.args.place (entry_of c.in-Waits.entry) old new b) c.if-not-placed.false c.in-Ok.ensures.states in
    let taken = has_taken flows steps c.args.place done old new c.args.course c.in-Waits.entry c.in-Waits.behind c.in-Waits.is c.in-Some.opened c.in-Some.is is items (ap items_of c.as_slice.ensures) ready places in
    subst (λ (course : Course). HasTaken flows (length old) steps c.args.place done (parts_in old) (parts_in new) course) (sym c.in_ok-taken.ensures.taken) taken

pub returns-clause-unrefused : goal.returns-clause-unrefused
returns-clause-unrefused g c =
    let flows = g.R.Reactions.flows c.args.reactions.now in
    let old = c.args.states.now.items in
    let new = c.place_at.new.states.items in
    let items = items_of c.as_slice.result.now in
    let ready : are_ready (parts_in old) c.args.place items ≡ true = let here : are_ready (parts_in c.deref.result.now) c.args.place items ≡ true = sym c.are_items_ready.ensures ∙ c.if-not-are_items_ready.false in ap (λ l. are_ready (parts_in l) c.args.place items) (sym c.deref.ensures.value) ∙ here in
    let places = subst (λ (b : Bool). PlacesAt flows c.args.place (entry_of c.in-Waits.entry) old new b) c.if-not-placed.false c.in-Ok.ensures.states in
    taken_gone flows c.args.place (g.V.Site.tells c.place_at.new.site) (g.V.Site.history c.args.site.now) old new c.args.course c.in-Waits.entry c.in-Waits.behind c.in-Waits.is (Some c.in-Some.opened) items c.in_ok-taken.field-0 c.in-Some.is c.in_ok-taken.ensures.taken c.requires.fits (ap items_of c.as_slice.ensures) ready places

pub returns-then-not-placed-clause-tries : goal.returns-then-not-placed-clause-tries
returns-then-not-placed-clause-tries g c tells done is whole chain still =
    let flows = g.R.Reactions.flows c.args.reactions.now in
    let steps = g.V.Site.history c.args.site.now in
    let old = c.args.states.now.items in
    let new = c.place_at.new.states.items in
    let opened = opened_is flows steps c.args.place done old new c.args.course c.in-Waits.entry c.in-Waits.behind c.in-Waits.is c.in-Some.opened c.in-Some.is is in
    let front = front_is flows steps c.args.place done old new c.args.course c.in-Waits.entry c.in-Waits.behind c.in-Waits.is c.in-Some.opened c.in-Some.is is c.requires.fits chain whole in
    let says = subst (λ (b : Bool). SaysRefused flows steps c.in-Some.opened c.args.place (entry_of c.in-Waits.entry) old new (Ok b)) c.if-not-placed.true (c.in-Ok.ensures.refused tells done opened front) in
    let halted = has_refused flows steps c.args.place done old new c.args.course c.in-Waits.entry c.in-Waits.behind c.in-Waits.is c.in-Some.opened c.in-Some.is is says c.requires.fits in
    subst (λ (course : Course). HasHalted flows (length old) steps c.args.place done (parts_in old) (parts_in new) course) (sym c.halted-then-not-placed.ensures) halted

pub returns-in-Err-clause-tries : goal.returns-in-Err-clause-tries
returns-in-Err-clause-tries g c tells done is whole chain still =
    let flows = g.R.Reactions.flows c.args.reactions.now in
    let steps = g.V.Site.history c.args.site.now in
    let old = c.args.states.now.items in
    let new = c.place_at.new.states.items in
    let opened = opened_is flows steps c.args.place done old new c.args.course c.in-Waits.entry c.in-Waits.behind c.in-Waits.is c.in-Some.opened c.in-Some.is is in
    let front = front_is flows steps c.args.place done old new c.args.course c.in-Waits.entry c.in-Waits.behind c.in-Waits.is c.in-Some.opened c.in-Some.is is c.requires.fits chain whole in
    broken_is flows steps c.args.place done old new c.args.course c.in-Waits.entry c.in-Waits.behind c.in-Waits.is c.in-Some.opened c.in-Some.is is c.in-Err.error (c.in-Err.ensures.refused tells done opened front)

-- entries that were placed are the log's, whatever comes of the states

pub returns-in-Refused-clause-reads : goal.returns-in-Refused-clause-reads
returns-in-Refused-clause-reads g c tells done is =
    let steps = g.V.Site.history c.args.site.now in
    let was = c.args.course in
    let same : was ≡ c.halted-in-Refused.result = ap (λ (k : Comes). course_of was.log k was.past was.incarnation) c.in-Refused.is ∙ sym c.halted-in-Refused.ensures in
    stays_read steps done c.halted-in-Refused.result (subst (IsCourse steps done) same is)

pub returns-in-End-clause-reads : goal.returns-in-End-clause-reads
returns-in-End-clause-reads g c tells done is =
    let steps = g.V.Site.history c.args.site.now in
    let was = c.args.course in
    let same : was ≡ c.halted-in-End.result = ap (λ (k : Comes). course_of was.log k was.past was.incarnation) c.in-End.is ∙ sym c.halted-in-End.ensures in
    stays_read steps done c.halted-in-End.result (subst (IsCourse steps done) same is)

pub returns-clause-reads : goal.returns-clause-reads
returns-clause-reads g c tells done is =
    let steps = g.V.Site.history c.args.site.now in
    let was = c.args.course in
    let entry = c.in-Waits.entry in
    let behind = c.in-Waits.behind in
    let log = Some c.in-Some.opened in
    let waits : IsCourse steps done (course_of was.log (Waits entry behind) was.past was.incarnation) = subst (IsCourse steps done) (ap (λ (k : Comes). course_of was.log k was.past was.incarnation) c.in-Waits.is) is in
    let there : IsCourse steps done (course_of log (Waits entry behind) was.past was.incarnation) = subst (λ (l : Option OpenedLog). IsCourse steps done (course_of l (Waits entry behind) was.past was.incarnation)) c.in-Some.is waits in
    (entry_of entry ∷ [], subst (IsCourse steps (done ++ entry_of entry ∷ [])) (sym c.in_ok-taken.ensures.taken) (course_taken steps done log entry behind was.past was.incarnation there))

-- none was placed

pub returns-in-End-clause-unrefused : goal.returns-in-End-clause-unrefused
returns-in-End-clause-unrefused g c =
    let was = c.args.course in
    let same : was ≡ c.halted-in-End.result = ap (λ (k : Comes). course_of was.log k was.past was.incarnation) c.in-End.is ∙ sym c.halted-in-End.ensures in
    none_gone (g.R.Reactions.flows c.args.reactions.now) c.args.place (g.V.Site.tells c.args.site.now) (g.V.Site.history c.args.site.now) c.args.states.now.items was c.halted-in-End.result same

pub returns-in_default-clause-unrefused : goal.returns-in_default-clause-unrefused
returns-in_default-clause-unrefused g c =
    let was = c.args.course in
    let same : was ≡ c.halted-in_default.result = ap (λ (k : Comes). course_of was.log k was.past was.incarnation) c.in-Waits.is ∙ sym c.halted-in_default.ensures in
    none_gone (g.R.Reactions.flows c.args.reactions.now) c.args.place (g.V.Site.tells c.args.site.now) (g.V.Site.history c.args.site.now) c.args.states.now.items was c.halted-in_default.result same

pub returns-then-not-are_items_ready-clause-unrefused : goal.returns-then-not-are_items_ready-clause-unrefused
returns-then-not-are_items_ready-clause-unrefused g c =
    let was = c.args.course in
    let entry = c.in-Waits.entry in
    let behind = c.in-Waits.behind in
    let same : was ≡ c.halted-then-not-are_items_ready.result = ap (λ (k : Comes). course_of was.log k was.past was.incarnation) c.in-Waits.is ∙ ap (λ (l : Option OpenedLog). course_of l (Waits entry behind) was.past was.incarnation) c.in-Some.is ∙ sym c.halted-then-not-are_items_ready.ensures in
    none_gone (g.R.Reactions.flows c.args.reactions.now) c.args.place (g.V.Site.tells c.args.site.now) (g.V.Site.history c.args.site.now) c.args.states.now.items was c.halted-then-not-are_items_ready.result same
