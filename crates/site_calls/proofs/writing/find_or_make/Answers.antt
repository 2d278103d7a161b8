use Rattle.site_calls.proofs.Events.{honest_more}
use Rattle.site_calls.proofs.writing.find_or_make.Goals as goal

pub returns-in_err-make-clause-tells : goal.returns-in_err-make-clause-tells
returns-in_err-make-clause-tells g c unseen honest = c.find_file.ensures.tells unseen (honest_more unseen c.in_err-make.ensures.noted honest)

pub returns-in_ok-make-clause-tells : goal.returns-in_ok-make-clause-tells
returns-in_ok-make-clause-tells g c unseen honest = c.find_file.ensures.tells unseen (honest_more unseen c.in_ok-make.ensures.noted honest)
