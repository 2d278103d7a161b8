use Rattle.std.proofs.Common.{ap, ◌∙◌, sym, subst, take, length, ◌-◌}
use Rattle.site_model.specs.History.{back_to, AllInside}
use Rattle.site_memory.specs.Record.{history_of}
use Rattle.site_memory.proofs.Start.{inside_drop}
use Rattle.site_memory.proofs.memory.MemorySite.image.Goals as goal

pub image_of-requires : goal.image_of-requires
image_of-requires c =
    subst AllInside
    (sym (ap (λ l. history_of (take c.cut-end.result l)) (c.deref-2.ensures.value ∙ sym c.deref.ensures.value)
    ∙ c.cut-end.ensures.history
    ∙ ap (λ l. back_to c.args.moment (history_of l)) c.deref.ensures.value))
    (inside_drop (length (history_of c.args.self.now.record.kept.items) - c.args.moment) (history_of c.args.self.now.record.kept.items) c.args.self.now.record.inside)
