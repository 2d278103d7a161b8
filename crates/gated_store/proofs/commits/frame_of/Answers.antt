use Rattle.std.proofs.Common.{◌∙◌, List, [], ◌∷◌, ◌++◌, ap}
use Rattle.std.proofs.lemmas.Result.{err_from_is_err_and}
use Rattle.log_items.specs.declared.frames.Entry.{Entry}
use Rattle.log_items.specs.Plain.{entries_of}
use Rattle.gated_store.proofs.commits.frame_of.Goals as goal

pub returns : goal.returns
returns c = ap entries_of (c.of.ensures ∙ c.in_ok-push.ensures.items ∙ ap (λ (l : List Entry). l ++ c.args.entry ∷ []) c.new-entries.ensures.items)

pub returns-in_err-push : goal.returns-in_err-push
returns-in_err-push c = let p = err_from_is_err_and c.from_residual.result c.from_residual.ensures.1 in rw p.1 tt
