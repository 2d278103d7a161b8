use Rattle.std.proofs.Common.{ap, ◌∙◌, List, ◌∷◌, length}
use Rattle.site_model.specs.History.{Step, on, wrote, synced}
use Rattle.site_memory.specs.Record.{history_of}
use Rattle.site_memory.proofs.History.{history_push}
use Rattle.site_memory.proofs.image.add_file.Goals as goal

pub returns : goal.returns
returns c =
    ap history_of c.in_ok-push.ensures.items
    ∙ history_push _ _
    ∙ ap (λ (s : List Step). on c.args.file synced ∷ s) (c.keep_write.ensures.history ∙ ap (λ s. on c.args.file (wrote 0 (length c.args.bytes.now) c.args.bytes.now) ∷ history_of s) c.in_ok-reserve.ensures.items)
