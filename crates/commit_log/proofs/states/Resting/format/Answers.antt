use Rattle.std.proofs.Common.{refl, ◌∙◌, arith}
use Rattle.site_model.specs.History.{content_of}
use Rattle.commit_log.proofs.Formatting.{format_closes, format_heads, format_opens}
use Rattle.commit_log.proofs.states.Resting.format.Goals as goal

pub returns-in_err-close-clause-during : goal.returns-in_err-close-clause-during
returns-in_err-close-clause-during g c tells kept = format_closes c.args.file (content_of c.args.file (g.V.Site.history c.args.site.now)) c.args.header (c.close.ensures.during tells kept)

pub returns-in_err-write_header-clause-during : goal.returns-in_err-write_header-clause-during
returns-in_err-write_header-clause-during g c tells kept =
    format_heads c.args.file (content_of c.args.file (g.V.Site.history c.args.site.now)) c.args.header (c.close.ensures.during (c.write_header.ensures.tells tells) kept) (c.write_header.ensures.during (c.in_ok-close.ensures.ok (c.write_header.ensures.tells tells) kept))

pub returns-in_err-open-clause-during : goal.returns-in_err-open-clause-during
returns-in_err-open-clause-during g c tells kept =
    let closed = c.in_ok-close.ensures.ok (c.write_header.ensures.tells (c.open.ensures.tells tells)) kept in
    format_opens c.args.file (content_of c.args.file (g.V.Site.history c.args.site.now)) c.args.header (c.close.ensures.during (c.write_header.ensures.tells (c.open.ensures.tells tells)) kept) (c.write_header.ensures.during closed) (c.open.ensures.during c.args.header (c.in_ok-write_header.ensures.ok closed))

pub returns-clause-during : goal.returns-clause-during
returns-clause-during g c tells kept =
    let closed = c.in_ok-close.ensures.ok (c.write_header.ensures.tells (c.open.ensures.tells tells)) kept in
    format_opens c.args.file (content_of c.args.file (g.V.Site.history c.args.site.now)) c.args.header (c.close.ensures.during (c.write_header.ensures.tells (c.open.ensures.tells tells)) kept) (c.write_header.ensures.during closed) (c.open.ensures.during c.args.header (c.in_ok-write_header.ensures.ok closed))

pub returns-clause-ok : goal.returns-clause-ok
returns-clause-ok g c tells kept =
    let closed = c.in_ok-close.ensures.ok (c.write_header.ensures.tells (c.open.ensures.tells tells)) kept in
    c.in_ok-open.ensures.ok c.args.header (c.in_ok-write_header.ensures.ok closed)

pub returns-clause-place : goal.returns-clause-place
returns-clause-place g c = (refl, refl)

pub returns-clause-cause : goal.returns-clause-cause
returns-clause-cause g c = record {
  later = omega (arith, c.in_ok-close.ensures.cause.later, c.in_ok-write_header.ensures.cause.later, c.in_ok-open.ensures.cause.later);
  same = c.in_ok-open.ensures.cause.same ∙ c.in_ok-write_header.ensures.cause.same ∙ c.in_ok-close.ensures.cause.same;
  risen = tt;
}

pub returns-in_err-close-clause-tells : goal.returns-in_err-close-clause-tells
returns-in_err-close-clause-tells g c = c.close.ensures.tells

pub returns-in_err-close-clause-say_faults : goal.returns-in_err-close-clause-say_faults
returns-in_err-close-clause-say_faults g c = c.close.ensures.say_faults

pub returns-in_err-write_header-clause-tells : goal.returns-in_err-write_header-clause-tells
returns-in_err-write_header-clause-tells g c tells = c.close.ensures.tells (c.write_header.ensures.tells tells)

pub returns-in_err-write_header-clause-say_faults : goal.returns-in_err-write_header-clause-say_faults
returns-in_err-write_header-clause-say_faults g c = c.write_header.ensures.say_faults ∙ c.close.ensures.say_faults

pub returns-in_err-open-clause-tells : goal.returns-in_err-open-clause-tells
returns-in_err-open-clause-tells g c tells = c.close.ensures.tells (c.write_header.ensures.tells (c.open.ensures.tells tells))

pub returns-in_err-open-clause-say_faults : goal.returns-in_err-open-clause-say_faults
returns-in_err-open-clause-say_faults g c = c.open.ensures.say_faults ∙ c.write_header.ensures.say_faults ∙ c.close.ensures.say_faults

pub returns-clause-tells : goal.returns-clause-tells
returns-clause-tells g c tells = c.close.ensures.tells (c.write_header.ensures.tells (c.open.ensures.tells tells))

pub returns-clause-say_faults : goal.returns-clause-say_faults
returns-clause-say_faults g c = c.open.ensures.say_faults ∙ c.write_header.ensures.say_faults ∙ c.close.ensures.say_faults
