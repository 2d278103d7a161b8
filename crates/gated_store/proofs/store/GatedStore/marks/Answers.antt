use Rattle.std.proofs.Common.{◌≡◌, ℕ, List, length, sym, ◌∙◌, ap, subst}
use Rattle.std.specs.List.{All}
use Rattle.commit_gate.specs.declared.ledger.Ledger as declared
use Rattle.commit_gate.specs.Keeping.{IsSized}
use Rattle.hub_store.specs.Changes.{stage_at, going_at, trail_in, told_in}
use Rattle.gated_store.proofs.Moving.{all_sized}
use Rattle.gated_store.proofs.store.GatedStore.marks.Goals as goal

pub marks_of-requires : goal.marks_of-requires
marks_of-requires g c =
    let L = g.L.Local in
    let logs = c.args.self.now.logs in
    let list = c.args.self.now.ledgers.items in
    let fits = c.requires.kept.fits in
    let same : c.deref.result.now ≡ list = c.deref.ensures.value in
    let sized : All (IsSized L.origin.count) list = all_sized L.origin.count L.ledgers L.readers L.may_make logs.latest (trail_in logs) (told_in logs) (going_at logs) (stage_at logs) list fits in
    record {
      count = ap length same ∙ fits.many ∙ c.requires.count;
      sized = subst (λ (l : List declared.Ledger). All (IsSized c.args.count) l) (sym same) (subst (λ (n : ℕ). All (IsSized n) list) c.requires.count sized);
    }
