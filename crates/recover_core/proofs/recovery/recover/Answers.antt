use Rattle.std.proofs.Common.{◌≡◌, ◌∙◌, ℕ, List, length, Ok, sym, ap, subst}
use Rattle.std.specs.Prelude.{IfOk, IfSome}
use Rattle.site_model.specs.History.{Step, content_of}
use Rattle.log_files.specs.Checked.{AllOpen, FitAll}
use Rattle.log_files.specs.declared.opening.LogFiles.{LogFiles}
use Rattle.recover_core.specs.Begun.{AllBegun, AllUnplaced}
use Rattle.recover_core.specs.Recovering.{Opens, WerePlaced, AllRest}
use Rattle.recover_core.specs.Told.{RefusesAll}
use Rattle.recover_core.proofs.LogsPlaced.{all_refuses}
use Rattle.recover_core.proofs.recovery.recover.Goals as goal

pub why_unfit-requires-clause-unfit : goal.why_unfit-requires-clause-unfit
why_unfit-requires-clause-unfit g c = λ fit.
    c.in-Ok-None.ensures.refused (ap (λ o. Ok o) c.in-Ok-None.field-0-is) (subst (λ (l : List LogFiles). FitAll (length l) c.args.digest l) (c.deref-in-Ok-None.ensures.value ∙ sym c.deref.ensures.value) fit)

pub returns-in-Ok-None-clause-opens : goal.returns-in-Ok-None-clause-opens
returns-in-Ok-None-clause-opens g c tells =
    let flows = g.R.Reactions.flows c.args.reactions.now in
    let old = g.V.Site.history c.args.site.now in
    let mid = g.V.Site.history c.open_files.new.site in
    let digest = c.args.digest in
    let opened = c.in-Ok.ensures.open (c.why_unfit.ensures.tells tells) in
    let here = subst (λ (l : List LogFiles). AllOpen mid l → RefusesAll (length l) digest (λ f. content_of f mid) c.why_unfit.result) c.deref-in-Ok-None.ensures.value (c.why_unfit.ensures.says tells) opened in
    let asked = subst (λ (n : ℕ). RefusesAll n digest (λ f. content_of f mid) c.why_unfit.result) c.in-Ok.ensures.many here in
    let same : ◌≡◌ {A = ℕ → List ℕ} (λ f. content_of f mid) (λ f. content_of f old) = λ i f. c.in-Ok.ensures.contents f i in
    all_refuses flows c.args.count digest (λ f. content_of f old) c.why_unfit.result (subst (λ (files : ℕ → List ℕ). RefusesAll c.args.count digest files c.why_unfit.result) same asked)

pub returns-clause-opens : goal.returns-clause-opens
returns-clause-opens g c tells =
    let flows = g.R.Reactions.flows c.args.reactions.now in
    let old = g.V.Site.history c.args.site.now in
    let mid = g.V.Site.history c.open_files.new.site in
    let digest = c.args.digest in
    let result = c.recover_from.result in
    let courses = c.in-Ok-Some.courses in
    let opened = c.in-Ok.ensures.open (c.recover_from.ensures.tells tells) in
    let to_first = subst (λ (l : List LogFiles). AllOpen mid l) (sym c.deref.ensures.value) opened in
    let begun_here = subst (λ o. IfSome o (λ found. AllBegun (length c.deref.result.now) digest mid found.items)) c.in-Ok-Some.field-0-is (c.in-Ok-Some.ensures.begun mid to_first) in
    let begun = subst (λ (l : List LogFiles). AllBegun (length l) digest mid courses.items) c.deref.ensures.value begun_here in
    let here = subst (λ (l : List LogFiles). AllOpen mid l → AllBegun (length l) digest mid courses.items → Opens flows (length l) digest (λ f. content_of f mid) result) c.deref-2.ensures.value (c.recover_from.ensures.opens tells) opened begun in
    let asked = subst (λ (n : ℕ). Opens flows n digest (λ f. content_of f mid) result) c.in-Ok.ensures.many here in
    let same : ◌≡◌ {A = ℕ → List ℕ} (λ f. content_of f mid) (λ f. content_of f old) = λ i f. c.in-Ok.ensures.contents f i in
    subst (λ (files : ℕ → List ℕ). Opens flows c.args.count digest files result) same asked

pub returns-clause-rests : goal.returns-clause-rests
returns-clause-rests g c tells =
    let old = g.V.Site.history c.args.site.now in
    let mid = g.V.Site.history c.open_files.new.site in
    let digest = c.args.digest in
    let result = c.recover_from.result in
    let courses = c.in-Ok-Some.courses in
    let opened = c.in-Ok.ensures.open (c.recover_from.ensures.tells tells) in
    let to_first = subst (λ (l : List LogFiles). AllOpen mid l) (sym c.deref.ensures.value) opened in
    let begun_here = subst (λ o. IfSome o (λ found. AllBegun (length c.deref.result.now) digest mid found.items)) c.in-Ok-Some.field-0-is (c.in-Ok-Some.ensures.begun mid to_first) in
    let begun = subst (λ (l : List LogFiles). AllBegun (length l) digest mid courses.items) c.deref.ensures.value begun_here in
    let Rests : List Step → ℕ → (ℕ → List ℕ) → Type 0 = λ steps count files. IfOk result (λ o. AllRest steps count digest files o.lives.items) in
    let here = subst (λ (l : List LogFiles). AllBegun (length l) digest mid courses.items → Rests mid (length l) (λ f. content_of f mid)) c.deref-2.ensures.value (c.recover_from.ensures.rests tells) begun in
    let asked = subst (λ (n : ℕ). Rests mid n (λ f. content_of f mid)) c.in-Ok.ensures.many here in
    let same : ◌≡◌ {A = ℕ → List ℕ} (λ f. content_of f mid) (λ f. content_of f old) = λ i f. c.in-Ok.ensures.contents f i in
    let told = subst (λ (files : ℕ → List ℕ). Rests mid c.args.count files) same asked in
    subst (λ (steps : List Step). Rests steps c.args.count (λ f. content_of f old)) (sym c.recover_from.ensures.unchanged) told

pub returns-clause-placed : goal.returns-clause-placed
returns-clause-placed g c =
    let flows = g.R.Reactions.flows c.args.reactions.now in
    let old = g.V.Site.history c.args.site.now in
    let mid = g.V.Site.history c.open_files.new.site in
    let then = g.V.Site.tells c.open_files.new.site in
    let after = g.V.Site.tells c.recover_from.new.site in
    let digest = c.args.digest in
    let result = c.recover_from.result in
    let courses = c.in-Ok-Some.courses in
    let unplaced = subst (λ o. IfSome o (λ found. AllUnplaced found.items)) c.in-Ok-Some.field-0-is c.in-Ok-Some.ensures.none in
    let begun : (told : then) → AllBegun (length c.in-Ok.fronts.items) digest mid courses.items = λ told.
    let to_first = subst (λ (l : List LogFiles). AllOpen mid l) (sym c.deref.ensures.value) (c.in-Ok.ensures.open told) in
    let begun_here = subst (λ o. IfSome o (λ found. AllBegun (length c.deref.result.now) digest mid found.items)) c.in-Ok-Some.field-0-is (c.in-Ok-Some.ensures.begun mid to_first) in
    subst (λ (l : List LogFiles). AllBegun (length l) digest mid courses.items) c.deref.ensures.value begun_here in
    let here = subst (λ (l : List LogFiles). (then → AllBegun (length l) digest mid courses.items) → IfOk result (WerePlaced flows (length l) digest after (λ f. content_of f mid))) c.deref-2.ensures.value (c.recover_from.ensures.placed unplaced) begun in
    let asked = subst (λ (n : ℕ). IfOk result (WerePlaced flows n digest after (λ f. content_of f mid))) c.in-Ok.ensures.many here in
    let same : ◌≡◌ {A = ℕ → List ℕ} (λ f. content_of f mid) (λ f. content_of f old) = λ i f. c.in-Ok.ensures.contents f i in
    subst (λ (files : ℕ → List ℕ). IfOk result (WerePlaced flows c.args.count digest after files)) same asked
