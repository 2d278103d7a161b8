use Rattle.std.proofs.Common.{ℕ, List, length, map, Some, None, sym, subst}
use Rattle.client_order.specs.Clashes.{taken_in, NoClash}
use Rattle.part_steps.specs.States.{parts_in}
use Rattle.part_steps.specs.declared.state.PartState.{PartState}
use Rattle.request_reader.specs.Line.{request_of}
use Rattle.open_logs.specs.Moments.{KeepsAll}
use Rattle.open_logs.specs.Ready.{AllReady, HasOpened}
use Rattle.open_logs.specs.Spent.{IsFirstSpent, IsSpent}
use Rattle.open_logs.proofs.Comes.{can_begin, is_made, all_opened, only_synced, opens_only, is_used_up, refused_synced, outside_synced}
use Rattle.open_logs.proofs.Found.{all_ready}
use Rattle.open_logs.proofs.Refusing.{accepted}
use Rattle.open_logs.proofs.opening.open_logs.Goals as goal
use Rattle.recover_core.specs.Recovering.{AllRest}
use Rattle.recover_core.specs.declared.ending.Life.{Life}
use Rattle.site_model.specs.History.{Step, content_of}
use Rattle.site_model.specs.Moments.{Always}

pub returns-in-Err-clause-during : goal.returns-in-Err-clause-during
returns-in-Err-clause-during g c tells =
    only_synced (g.R.Reactions.flows c.args.reactions.now) c.args.count c.args.digest (g.V.Site.history c.args.site.now) (g.V.Site.history c.recover.new.site)
    (λ f. g.met.V.Site.inside c.args.site.now f (c.recover.ensures.tells tells)) c.recover.ensures.syncs

pub returns-in-Some-clause-during : goal.returns-in-Some-clause-during
returns-in-Some-clause-during g c tells =
    only_synced (g.R.Reactions.flows c.args.reactions.now) c.args.count c.args.digest (g.V.Site.history c.args.site.now) (g.V.Site.history c.recover.new.site)
    (λ f. g.met.V.Site.inside c.args.site.now f (c.recover.ensures.tells tells)) c.recover.ensures.syncs

pub returns-in-Some-clause-refuses : goal.returns-in-Some-clause-refuses
returns-in-Some-clause-refuses g c tells =
    let flows = g.R.Reactions.flows c.args.reactions.now in
    let files : ℕ → List ℕ = λ file. content_of file (g.V.Site.history c.args.site.now) in
    let opened = c.in-Ok.opened in
    let can = c.in-Ok.ensures.begins in
    let first = subst (λ (l : List Life). IsFirstSpent l (Some c.in-Some.place)) c.deref.ensures.value c.in-Some.ensures in
    subst (λ (life : Life). IsSpent flows c.args.count c.args.digest files c.in-Some.place life.incarnation) (sym c.index.ensures)
    (is_used_up flows c.args.count c.args.digest files opened c.in-Some.place c.index.result.now (c.in-Ok.ensures.opens tells) can.lives first)

pub returns-clause-begins : goal.returns-clause-begins
returns-clause-begins g c =
    can_begin c.args.count c.in-Ok.opened c.in-Ok-open_each.ready c.in-Ok.ensures.begins c.in-Ok-open_each.ensures.lives (subst (λ (l : List Life). IsFirstSpent l None) c.deref.ensures.value c.in_default.ensures)

pub returns-clause-placed : goal.returns-clause-placed
returns-clause-placed g c =
    let files : ℕ → List ℕ = λ file. content_of file (g.V.Site.history c.args.site.now) in
    is_made c.args.count c.in-Ok.opened c.in-Ok-open_each.ready c.in-Ok.ensures.begins c.in-Ok-open_each.ensures.lives (g.R.Reactions.flows c.args.reactions.now) c.args.digest (g.V.Site.tells c.recover.new.site) (g.V.Site.tells c.open_each.new.site) files
    c.open_each.ensures.tells c.in-Ok.ensures.placed

pub returns-clause-opened : goal.returns-clause-opened
returns-clause-opened g c tells =
    let flows = g.R.Reactions.flows c.args.reactions.now in
    let old = g.V.Site.history c.args.site.now in
    let mid = g.V.Site.history c.recover.new.site in
    let new = g.V.Site.history c.open_each.new.site in
    let then = c.open_each.ensures.tells tells in
    let opened = c.in-Ok.opened in
    let can = c.in-Ok.ensures.begins in
    let is = c.in-Ok.ensures.opens then in
    let synced = c.in-Ok.ensures.synced in
    let rests = subst (λ (steps : List Step). AllRest steps c.args.count c.args.digest (λ file. content_of file old) opened.lives.items) synced (c.in-Ok.ensures.rests then) in
    let ready = subst (λ (steps : List Step). AllReady c.args.count c.args.digest is.logs steps opened.lives.items) (sym synced) (all_ready flows c.args.count c.args.digest old opened is can.lives rests) in
    let has = subst (λ (steps : List Step). HasOpened c.args.count c.args.digest is.logs steps new c.in-Ok-open_each.ready.logs.items) synced (c.in-Ok-open_each.ensures.opened tells is.logs ready) in
    all_opened c.args.count opened c.in-Ok-open_each.ready can c.in-Ok-open_each.ensures.lives flows c.args.digest old new is has

pub returns-clause-during : goal.returns-clause-during
returns-clause-during g c tells =
    let flows = g.R.Reactions.flows c.args.reactions.now in
    let old = g.V.Site.history c.args.site.now in
    let mid = g.V.Site.history c.recover.new.site in
    let new = g.V.Site.history c.open_each.new.site in
    let then = c.open_each.ensures.tells tells in
    let opened = c.in-Ok.opened in
    let can = c.in-Ok.ensures.begins in
    let is = c.in-Ok.ensures.opens then in
    let synced = c.in-Ok.ensures.synced in
    let rests = subst (λ (steps : List Step). AllRest steps c.args.count c.args.digest (λ file. content_of file old) opened.lives.items) synced (c.in-Ok.ensures.rests then) in
    let ready = subst (λ (steps : List Step). AllReady c.args.count c.args.digest is.logs steps opened.lives.items) (sym synced) (all_ready flows c.args.count c.args.digest old opened is can.lives rests) in
    let path = subst (λ (steps : List Step). Always (KeepsAll c.args.count c.args.digest is.logs steps) steps new) synced (c.open_each.ensures.during tells is.logs ready) in
    opens_only flows c.args.count c.args.digest old new opened (λ f. g.met.V.Site.inside c.args.site.now f (c.recover.ensures.tells then)) is path

pub returns-in-Err-open_each-clause-during : goal.returns-in-Err-open_each-clause-during
returns-in-Err-open_each-clause-during g c tells =
    let flows = g.R.Reactions.flows c.args.reactions.now in
    let old = g.V.Site.history c.args.site.now in
    let mid = g.V.Site.history c.recover.new.site in
    let new = g.V.Site.history c.open_each.new.site in
    let then = c.open_each.ensures.tells tells in
    let opened = c.in-Ok.opened in
    let can = c.in-Ok.ensures.begins in
    let is = c.in-Ok.ensures.opens then in
    let synced = c.in-Ok.ensures.synced in
    let rests = subst (λ (steps : List Step). AllRest steps c.args.count c.args.digest (λ file. content_of file old) opened.lives.items) synced (c.in-Ok.ensures.rests then) in
    let ready = subst (λ (steps : List Step). AllReady c.args.count c.args.digest is.logs steps opened.lives.items) (sym synced) (all_ready flows c.args.count c.args.digest old opened is can.lives rests) in
    let path = subst (λ (steps : List Step). Always (KeepsAll c.args.count c.args.digest is.logs steps) steps new) synced (c.open_each.ensures.during tells is.logs ready) in
    opens_only flows c.args.count c.args.digest old new opened (λ f. g.met.V.Site.inside c.args.site.now f (c.recover.ensures.tells then)) is path

pub returns-in-Err-clause-synced : goal.returns-in-Err-clause-synced
returns-in-Err-clause-synced g c = refused_synced c.args.count (g.V.Site.history c.args.site.now) (g.V.Site.history c.recover.new.site) c.in-Err.error c.recover.ensures.syncs

pub returns-in-Err-open_each-clause-synced : goal.returns-in-Err-open_each-clause-synced
returns-in-Err-open_each-clause-synced g c = outside_synced c.args.count (g.V.Site.history c.args.site.now) (g.V.Site.history c.open_each.new.site) c.in-Err-open_each.error c.in-Err-open_each.ensures.stops

pub returns-in_err-refuse_clash-clause-during : goal.returns-in_err-refuse_clash-clause-during
returns-in_err-refuse_clash-clause-during g c tells =
    only_synced (g.R.Reactions.flows c.args.reactions.now) c.args.count c.args.digest (g.V.Site.history c.args.site.now) (g.V.Site.history c.recover.new.site)
    (λ f. g.met.V.Site.inside c.args.site.now f (c.recover.ensures.tells tells)) c.recover.ensures.syncs

pub returns-clause-accepts : goal.returns-clause-accepts
returns-clause-accepts g c tells why =
    let opened = c.in-Ok.opened in
    let can = c.in-Ok.ensures.begins in
    let requests = map request_of c.args.requests.now in
    let deref = c.deref-2.ensures.value in
    let none = subst (λ (l : List PartState). NoClash (taken_in (length l) (parts_in l)) requests) deref c.in_ok-refuse_clash.ensures.ok in
    let no_clash = subst (λ (n : ℕ). NoClash (taken_in n (parts_in opened.states.items)) requests) can.many none in
    (accepted (g.R.Reactions.flows c.args.reactions.now) c.args.count c.args.digest (λ file. content_of file (g.V.Site.history c.args.site.now)) opened (c.in-Ok.ensures.opens (c.open_each.ensures.tells tells)) can.lives
    (subst (λ (l : List Life). IsFirstSpent l None) c.deref.ensures.value c.in_default.ensures) requests no_clash why.0 why.1 why.2)

pub returns-clause-clean : goal.returns-clause-clean
returns-clause-clean g c tells why =
    let opened = c.in-Ok.opened in
    let can = c.in-Ok.ensures.begins in
    let requests = map request_of c.args.requests.now in
    let deref = c.deref-2.ensures.value in
    let none = subst (λ (l : List PartState). NoClash (taken_in (length l) (parts_in l)) requests) deref c.in_ok-refuse_clash.ensures.ok in
    let no_clash = subst (λ (n : ℕ). NoClash (taken_in n (parts_in opened.states.items)) requests) can.many none in
    absurd (accepted (g.R.Reactions.flows c.args.reactions.now) c.args.count c.args.digest (λ file. content_of file (g.V.Site.history c.args.site.now)) opened (c.in-Ok.ensures.opens (c.open_each.ensures.tells tells)) can.lives
    (subst (λ (l : List Life). IsFirstSpent l None) c.deref.ensures.value c.in_default.ensures) requests no_clash why.0 why.1 why.2)

pub returns-in-Err-open_each-clause-clean : goal.returns-in-Err-open_each-clause-clean
returns-in-Err-open_each-clause-clean g c tells why =
    let opened = c.in-Ok.opened in
    let can = c.in-Ok.ensures.begins in
    let requests = map request_of c.args.requests.now in
    let deref = c.deref-2.ensures.value in
    let none = subst (λ (l : List PartState). NoClash (taken_in (length l) (parts_in l)) requests) deref c.in_ok-refuse_clash.ensures.ok in
    let no_clash = subst (λ (n : ℕ). NoClash (taken_in n (parts_in opened.states.items)) requests) can.many none in
    absurd (accepted (g.R.Reactions.flows c.args.reactions.now) c.args.count c.args.digest (λ file. content_of file (g.V.Site.history c.args.site.now)) opened (c.in-Ok.ensures.opens (c.open_each.ensures.tells tells)) can.lives
    (subst (λ (l : List Life). IsFirstSpent l None) c.deref.ensures.value c.in_default.ensures) requests no_clash why.0 why.1 why.2)
