use Rattle.std.proofs.Common.{true, ◌∷◌, take, get_or, ap, sym, ◌∙◌, arith}
use Rattle.std.proofs.lemmas.List.{take_more}
use Rattle.site_calls.specs.Events.{flushed, flushing}
use Rattle.site_calls.proofs.SyncsAtOnce.{flushing-push}
use Rattle.site_calls.proofs.record.Record.flushed_all.Goals as goal

pub loop-file-preserved : goal.loop-file-preserved
loop-file-preserved c =
    let files = c.args.files.now in
    let file = get_or files c.loop-file.file-index 0 in
    c.flushed.ensures ∙ ap (λ e. flushed file true ∷ e) c.loop-file.invariant
    ∙ sym (flushing-push (take c.loop-file.file-index files) file c.args.self.now.events)
    ∙ ap (λ l. flushing l c.args.self.now.events) (sym (take_more files c.loop-file.file-index 0 (omega arith)))
