use Rattle.std.proofs.Common.{◌∙◌, ◌++◌, ap, sym, subst}
use Rattle.std.specs.List.{All, filter}
use Rattle.std.proofs.lemmas.List.Elements.{All-filter}
use Rattle.cell_waits.specs.Waits.{MayWait, waits_of, lasting}
use Rattle.cell_waits.proofs.waits.Waits.keep_lasting.Goals as goal

pub returns-clause-kept : goal.returns-clause-kept
returns-clause-kept c = c.in_ok-push_lasting.ensures.pushed ∙ ap (λ l. l ++ filter lasting (waits_of c.args.self.now)) c.new-kept.ensures.none

pub returns-clause-may : goal.returns-clause-may
returns-clause-may c = λ all. subst (All MayWait) (sym (c.in_ok-push_lasting.ensures.pushed ∙ ap (λ l. l ++ filter lasting (waits_of c.args.self.now)) c.new-kept.ensures.none)) (All-filter lasting MayWait (waits_of c.args.self.now) all)
