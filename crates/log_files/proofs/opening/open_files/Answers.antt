use Rattle.std.proofs.Common.{◌≡◌, ◌∙◌, ◌+◌, ◌++◌, ◌∷◌, [], ℕ, List, length, Err, refl, sym, ap, subst, arith, length-append}
use Rattle.std.proofs.lemmas.Result.{err_from_is_err_and}
use Rattle.site_model.specs.History.{content_of}
use Rattle.site_model.proofs.Faults.{risen_later}
use Rattle.log_files.specs.Fronts.{AllFronts, synced_to}
use Rattle.log_files.specs.declared.error.FilesError.TheVariants as errors
use Rattle.log_files.specs.declared.opening.LogFiles.{LogFiles}
use Rattle.log_files.proofs.FilesOpened.{all_open, same_contents, one_more, pushed_items, synced_on, none_yet, synced_some, syncs_stopped, stopped_contents}
use Rattle.log_files.proofs.opening.open_files.Goals as goal

pub partitions-init : goal.partitions-init
partitions-init g c = record {
  told = λ tells. tells;
  steps = refl;
  many = ap length c.new-files.ensures.items;
  fronts = λ tells. none_yet (λ file. content_of file (g.V.Site.history c.args.site.now)) c.new-files.result.items c.new-files.ensures.items;
  later = omega arith;
  say_faults = refl;
}

pub partitions-preserved : goal.partitions-preserved
partitions-preserved g c =
    let inv = c.partitions.invariant in
    let both = c.in_ok-both.both in
    let old = g.V.Site.history c.args.site.now in
    let mid = g.V.Site.history c.partitions.site in
    let items = pushed_items c.push.result (c.partitions.files.items ++ both ∷ []) c.partitions.files.items c.push.new.self.items c.if-is_err.false c.is_err.ensures.value c.push.ensures.items in
    record {
      told = λ tells. inv.told (c.open_both.ensures.tells tells);
      steps = synced_on c.partitions.partition old mid (g.V.Site.history c.open_both.new.site) inv.steps c.in_ok-both.ensures.synced;
      many = ap length items ∙ length-append c.partitions.files.items (both ∷ []) ∙ ap (λ (n : ℕ). n + 1) inv.many;
      fronts = λ tells.
          subst (λ (l : List LogFiles). AllFronts (λ file. content_of file old) l) (sym items)
          (one_more c.partitions.partition old mid c.partitions.files.items both inv.steps inv.many (inv.fronts (c.open_both.ensures.tells tells)) (c.in_ok-both.ensures.fronts tells));
      later = let before = inv.later in let now = c.open_both.ensures.later in omega (arith, before, now);
      say_faults = c.open_both.ensures.say_faults ∙ inv.say_faults;
    }

pub returns-in_err-both-clause-tells : goal.returns-in_err-both-clause-tells
returns-in_err-both-clause-tells g c = λ tells. c.partitions.invariant.told (c.open_both.ensures.tells tells)

pub returns-in_err-both-clause-contents : goal.returns-in_err-both-clause-contents
returns-in_err-both-clause-contents g c =
    stopped_contents c.partitions.partition (g.V.Site.history c.args.site.now) (g.V.Site.history c.partitions.site) (g.V.Site.history c.open_both.new.site) c.partitions.invariant.steps c.open_both.ensures.syncs

pub returns-in_err-both-clause-syncs : goal.returns-in_err-both-clause-syncs
returns-in_err-both-clause-syncs g c =
    syncs_stopped c.args.count c.partitions.partition (g.V.Site.history c.args.site.now) (g.V.Site.history c.partitions.site) (g.V.Site.history c.open_both.new.site) c.partitions-test.true c.partitions.invariant.steps c.open_both.ensures.syncs

pub returns-in_err-both-clause-fault : goal.returns-in_err-both-clause-fault
returns-in_err-both-clause-fault g c is =
    let p = err_from_is_err_and c.from_residual.result c.from_residual.ensures.1 in
    let same : Err p.0 ≡ Err errors.SiteFault = sym p.1 ∙ is in
    let fault : c.in_err-both.field-0.0 ≡ errors.SiteFault = sym p.2 ∙ cc same in
    risen_later _ _ _ c.partitions.invariant.later c.open_both.ensures.later (c.in_err-both.ensures.fault (ap (λ e. Err e) fault))

pub returns-in_err-both-clause-later : goal.returns-in_err-both-clause-later
returns-in_err-both-clause-later g c = let before = c.partitions.invariant.later in let now = c.open_both.ensures.later in omega (arith, before, now)

pub returns-in_err-both-clause-say_faults : goal.returns-in_err-both-clause-say_faults
returns-in_err-both-clause-say_faults g c = c.open_both.ensures.say_faults ∙ c.partitions.invariant.say_faults

pub returns-then-is_err-clause-tells : goal.returns-then-is_err-clause-tells
returns-then-is_err-clause-tells g c = λ tells. c.partitions.invariant.told (c.open_both.ensures.tells tells)

pub returns-then-is_err-clause-contents : goal.returns-then-is_err-clause-contents
returns-then-is_err-clause-contents g c =
    stopped_contents c.partitions.partition (g.V.Site.history c.args.site.now) (g.V.Site.history c.partitions.site) (g.V.Site.history c.open_both.new.site) c.partitions.invariant.steps c.open_both.ensures.syncs

pub returns-then-is_err-clause-syncs : goal.returns-then-is_err-clause-syncs
returns-then-is_err-clause-syncs g c =
    syncs_stopped c.args.count c.partitions.partition (g.V.Site.history c.args.site.now) (g.V.Site.history c.partitions.site) (g.V.Site.history c.open_both.new.site) c.partitions-test.true c.partitions.invariant.steps c.open_both.ensures.syncs

pub returns-then-is_err-clause-later : goal.returns-then-is_err-clause-later
returns-then-is_err-clause-later g c = let before = c.partitions.invariant.later in let now = c.open_both.ensures.later in omega (arith, before, now)

pub returns-then-is_err-clause-say_faults : goal.returns-then-is_err-clause-say_faults
returns-then-is_err-clause-say_faults g c = c.open_both.ensures.say_faults ∙ c.partitions.invariant.say_faults

pub returns-clause-tells : goal.returns-clause-tells
returns-clause-tells g c = c.partitions.invariant.told

pub returns-clause-open : goal.returns-clause-open
returns-clause-open g c tells =
    all_open c.partitions.partition (g.V.Site.history c.args.site.now) (g.V.Site.history c.partitions.site) c.partitions.files.items c.partitions.invariant.steps c.partitions.invariant.many (c.partitions.invariant.fronts tells)

pub returns-clause-contents : goal.returns-clause-contents
returns-clause-contents g c = same_contents c.partitions.partition (g.V.Site.history c.args.site.now) (g.V.Site.history c.partitions.site) c.partitions.invariant.steps

pub returns-clause-many : goal.returns-clause-many
returns-clause-many g c = c.partitions.invariant.many ∙ omega (arith, c.partitions-test.false, c.partitions.auto.partition-end)

pub returns-clause-syncs : goal.returns-clause-syncs
returns-clause-syncs g c = synced_some c.args.count c.partitions.partition (g.V.Site.history c.args.site.now) (g.V.Site.history c.partitions.site) (omega (arith, c.partitions.auto.partition-end)) c.partitions.invariant.steps

pub returns-clause-synced : goal.returns-clause-synced
returns-clause-synced g c =
    let all : c.partitions.partition ≡ c.args.count = omega (arith, c.partitions-test.false, c.partitions.auto.partition-end) in
    c.partitions.invariant.steps ∙ ap (λ (n : ℕ). synced_to n (g.V.Site.history c.args.site.now)) all

pub returns-clause-later : goal.returns-clause-later
returns-clause-later g c = c.partitions.invariant.later

pub returns-clause-say_faults : goal.returns-clause-say_faults
returns-clause-say_faults g c = c.partitions.invariant.say_faults
