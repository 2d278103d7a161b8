use Rattle.std.proofs.Common.{◌≡◌, ◌∙◌, ◌<◌, inl, inr, false, ℕ, List, length, Ok, Some, sym, ap, subst, arith}
use Rattle.std.specs.List.{slice_get}
use Rattle.std.proofs.lemmas.Option.{slice_get-get_or}
use Rattle.site_model.specs.History.{Step, content_of}
use Rattle.log_files.specs.Checked.{AllOpen}
use Rattle.part_steps.specs.declared.state.PartState.{PartState}
use Rattle.part_steps.specs.States.{parts_in}
use Rattle.recover_core.specs.Ended.{EndsBelow, has_ended}
use Rattle.recover_core.specs.Recovering.{AreOpened, CanGoOn, WerePlaced, AllRest}
use Rattle.recover_core.specs.Rounds.{ArePlaced, HavePlaced, AreReady, PlacesAll, IsOutside}
use Rattle.recover_core.specs.Told.{AllKeep, RefusesAll, WhyBroken, TellsLeft}
use Rattle.recover_core.specs.declared.course.Course.{Course}
use Rattle.recover_core.proofs.LogsWhole.{logs_of, begun_read, kept_whole_all, ended_whole_all}
use Rattle.recover_core.proofs.LogsPlaced.{all_refuses, outside_refuses, begun_ready, begun_placed, can_go_on, all_rest, all_opened, left_refuses, if_lives, opens_by}
use Rattle.recover_core.proofs.PlacedAnyway.{none_placed, were_placed}
use Rattle.recover_core.proofs.recovery.recover_from.Goals as goal

pub place_all-requires-clause-ready : goal.place_all-requires-clause-ready
place_all-requires-clause-ready g c =
    begun_ready c.in-Ok.states.items c.args.courses.items c.in-Ok.ensures.all (c.requires.many ∙ sym c.in-Ok.ensures.many) c.in-Ok.ensures.fresh c.requires.fits

pub returns-in-Err-place_all-clause-opens : goal.returns-in-Err-place_all-clause-opens
returns-in-Err-place_all-clause-opens g c tells opened begun =
    let flows = g.R.Reactions.flows c.args.reactions.now in
    let old = g.V.Site.history c.args.site.now in
    let count = length c.args.fronts.now in
    let digest = c.args.digest in
    let first = c.args.courses.items in
    let states = c.in-Ok.states.items in
    let many = c.in-Ok.ensures.many in
    let files : ℕ → List ℕ = λ f. content_of f old in
    let error = c.in-Err-place_all.error in
    let result = c.why_broken.result in
    let before = c.why_broken.ensures.tells tells in
    let why = subst (λ (s : List Step). AllOpen s c.args.fronts.now → WhyBroken count digest (λ f. content_of f s) error result) c.place_all.ensures.unchanged (c.why_broken.ensures.says tells) opened in
    elim why [
      | inl out ↦ outside_refuses flows count digest files result out
      | inr more ↦ elim more [
        | inl refuses ↦ all_refuses flows count digest files result refuses
        | inr same ↦
            let whole = kept_whole_all count digest old first begun c.requires.many same.1 in
            let placed = subst (λ (n : ℕ). ArePlaced flows n old (parts_in states) first) (sym many) (begun_placed flows count digest old first c.requires.many begun (parts_in states) c.in-Ok.ensures.fresh) in
            let out : IsOutside error = c.in-Err-place_all.ensures.placed before (logs_of first) (begun_read count digest old first begun) whole placed in
            outside_refuses flows count digest files result (subst IsOutside (sym same.0) out)
      ]
    ]

pub returns-in_default-clause-opens : goal.returns-in_default-clause-opens
returns-in_default-clause-opens g c tells opened begun =
    let flows = g.R.Reactions.flows c.args.reactions.now in
    let old = g.V.Site.history c.args.site.now in
    let count = length c.args.fronts.now in
    let digest = c.args.digest in
    let first = c.args.courses.items in
    let states = c.in-Ok.states.items in
    let many = c.in-Ok.ensures.many in
    let later = c.place_all.new.states.items in
    let courses = c.place_all.new.courses.items in
    let gone = c.in-Ok-place_all.ensures in
    let same_many = gone.ready.many ∙ gone.many ∙ many ∙ sym c.requires.many in
    let read = gone.reads tells (logs_of first) (begun_read count digest old first begun) in
    let ended = subst (λ (l : List Course). EndsBelow (length l) l) c.deref.ensures.value c.in_default.ensures in
    let whole = ended_whole_all count digest old first begun courses same_many read ended in
    let placed = subst (λ (n : ℕ). ArePlaced flows n old (parts_in states) first) (sym many) (begun_placed flows count digest old first c.requires.many begun (parts_in states) c.in-Ok.ensures.fresh) in
    let all = subst (λ (n : ℕ). PlacesAll {X = Unit {0}} flows n old (parts_in later) courses (Ok tt)) many (gone.placed tells (logs_of first) (begun_read count digest old first begun) whole placed) in
    opens_by flows count digest (λ f. content_of f old) c.with_lives.result c.with_lives.ensures.want
    (if_lives c.with_lives.result courses later c.with_lives.ensures.ends (AreOpened flows count digest (λ f. content_of f old)) (λ o is ends.
    all_opened flows count digest old first c.requires.many begun courses same_many read ended o (parts_in later) all (ap parts_in is) ends))

pub returns-in_default-clause-begins : goal.returns-in_default-clause-begins
returns-in_default-clause-begins g c =
    let count = length c.args.fronts.now in
    let later = c.place_all.new.states.items in
    let courses = c.place_all.new.courses.items in
    let gone = c.in-Ok-place_all.ensures in
    if_lives c.with_lives.result courses later c.with_lives.ensures.ends (CanGoOn count) (λ o is ends.
    can_go_on count o courses (subst (λ (l : List PartState). AreReady l courses) (sym is) gone.ready) (ap length is ∙ gone.many ∙ c.in-Ok.ensures.many) ends)

pub returns-in_default-clause-placed : goal.returns-in_default-clause-placed
returns-in_default-clause-placed g c unplaced begun =
    let flows = g.R.Reactions.flows c.args.reactions.now in
    let count = length c.args.fronts.now in
    let first = c.args.courses.items in
    let states = c.in-Ok.states.items in
    let later = c.place_all.new.states.items in
    let courses = c.place_all.new.courses.items in
    let digest = c.args.digest in
    let old = g.V.Site.history c.args.site.now in
    let then = g.V.Site.tells c.place_all.new.site in
    let gone = c.in-Ok-place_all.ensures in
    let same_many = gone.ready.many ∙ gone.many ∙ c.in-Ok.ensures.many ∙ sym c.requires.many in
    let placed = gone.keeps (none_placed flows (length states) count digest (g.V.Site.tells c.args.site.now) old (parts_in states) first c.in-Ok.ensures.fresh unplaced begun) in
    let here = subst (λ (n : ℕ). HavePlaced flows n then old (parts_in later) courses) c.in-Ok.ensures.many placed in
    let begun_then = λ (told : then). begun (c.place_all.ensures.tells told) in
    let read = λ (told : then). gone.reads told (logs_of first) (begun_read count digest old first (begun_then told)) in
    let ended = subst (λ (l : List Course). EndsBelow (length l) l) c.deref.ensures.value c.in_default.ensures in
    if_lives c.with_lives.result courses later c.with_lives.ensures.ends (WerePlaced flows count digest then (λ f. content_of f old)) (λ o is ends.
    were_placed flows count digest then old first o courses (parts_in later) c.requires.many same_many begun_then read here ended (ap parts_in is) ends)

pub returns-in_default-clause-rests : goal.returns-in_default-clause-rests
returns-in_default-clause-rests g c tells begun =
    let flows = g.R.Reactions.flows c.args.reactions.now in
    let old = g.V.Site.history c.args.site.now in
    let count = length c.args.fronts.now in
    let digest = c.args.digest in
    let first = c.args.courses.items in
    let later = c.place_all.new.states.items in
    let courses = c.place_all.new.courses.items in
    let gone = c.in-Ok-place_all.ensures in
    let same_many = gone.ready.many ∙ gone.many ∙ c.in-Ok.ensures.many ∙ sym c.requires.many in
    let read = gone.reads tells (logs_of first) (begun_read count digest old first begun) in
    let ended = subst (λ (l : List Course). EndsBelow (length l) l) c.deref.ensures.value c.in_default.ensures in
    if_lives c.with_lives.result courses later c.with_lives.ensures.ends (λ o. AllRest old count digest (λ f. content_of f old) o.lives.items) (λ o is ends.
    all_rest flows count digest old first c.requires.many begun courses same_many read ended o.lives.items ends)

pub returns-clause-opens : goal.returns-clause-opens
returns-clause-opens g c tells opened begun =
    let flows = g.R.Reactions.flows c.args.reactions.now in
    let old = g.V.Site.history c.args.site.now in
    let count = length c.args.fronts.now in
    let digest = c.args.digest in
    let says = subst (λ (s : List Step). AllOpen s c.args.fronts.now → RefusesAll count digest (λ f. content_of f s) c.in-Err-check.error) c.place_all.ensures.unchanged (c.in-Err-check.ensures.says tells) opened in
    all_refuses flows count digest (λ f. content_of f old) c.in-Err-check.error says

pub returns-in-Ok-check-clause-opens : goal.returns-in-Ok-check-clause-opens
returns-in-Ok-check-clause-opens g c tells opened begun =
    let flows = g.R.Reactions.flows c.args.reactions.now in
    let old = g.V.Site.history c.args.site.now in
    let count = length c.args.fronts.now in
    let digest = c.args.digest in
    let first = c.args.courses.items in
    let states = c.in-Ok.states.items in
    let many = c.in-Ok.ensures.many in
    let later = c.place_all.new.states.items in
    let courses = c.place_all.new.courses.items in
    let place = c.in-Some.place in
    let result = c.why_next.result in
    let gone = c.in-Ok-place_all.ensures in
    let before = c.check.ensures.tells tells in
    let same_many = gone.ready.many ∙ gone.many ∙ many ∙ sym c.requires.many in
    let read = gone.reads before (logs_of first) (begun_read count digest old first begun) in
    let is_left = subst (λ (l : List Course). (place < length l) × EndsBelow place l × ((course : Course) → slice_get l place ≡ Some course → has_ended course.comes ≡ false)) c.deref.ensures.value c.in-Some.ensures in
    let keeps = subst (λ (s : List Step). AllOpen s c.args.fronts.now → AllKeep count digest (λ f. content_of f s)) c.place_all.ensures.unchanged (c.in-Ok-check.ensures.says tells) opened in
    let whole = kept_whole_all count digest old first begun c.requires.many keeps in
    let placed = subst (λ (n : ℕ). ArePlaced flows n old (parts_in states) first) (sym many) (begun_placed flows count digest old first c.requires.many begun (parts_in states) c.in-Ok.ensures.fresh) in
    let all = subst (λ (n : ℕ). PlacesAll {X = Unit {0}} flows n old (parts_in later) courses (Ok tt)) many (gone.placed before (logs_of first) (begun_read count digest old first begun) whole placed) in
    let course = c.index.result.now in
    let at : slice_get courses place ≡ Some course = slice_get-get_or courses place course is_left.0 ∙ ap (λ (one : Course). Some one) (sym c.index.ensures) in
    let inside = is_left.0 in
    let here = subst (λ (l : List PartState). TellsLeft flows (length l) (parts_in l) place course.comes result) c.deref-in-Ok-check.ensures.value c.why_next.ensures.says in
    let tells_why = subst (λ (n : ℕ). TellsLeft flows n (parts_in later) place course.comes result) (gone.many ∙ many) here in
    left_refuses flows count digest old first c.requires.many begun courses same_many read keeps (parts_in later) all place course result (omega (arith, inside, same_many, c.requires.many)) is_left.1 at (is_left.2 course at) (gone.ready.each place course at) tells_why
