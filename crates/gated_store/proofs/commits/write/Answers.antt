use Rattle.std.proofs.Common.{List, sym, refl, ap, subst, ◌∙◌}
use Rattle.commit_gate.specs.Ledgers.{after_frame}
use Rattle.commit_gate.specs.Keeping.{GoesInside}
use Rattle.commit_gate.specs.Views.{all_sent}
use Rattle.commit_gate.specs.declared.ledger.Sending.{Sending}
use Rattle.std.specs.List.{All}
use Rattle.std.proofs.lemmas.List.Elements.{All-nil}
use Rattle.hub_store.specs.Changes.{trail_in}
use Rattle.hub_store.specs.Trail.{of_part}
use Rattle.log_items.specs.Entries.{items_in}
use Rattle.log_items.specs.Plain.{entries_of}
use Rattle.gated_store.proofs.Whole.{none_fit, refused_either, refused_full, refused_fault}
use Rattle.gated_store.proofs.commits.write.Goals as goal

pub body-requires-clause-inside : goal.body-requires-clause-inside
body-requires-clause-inside g c = subst (λ (l : List Sending). All (GoesInside g.L.Local.origin.count) (all_sent l)) (sym c.new.ensures.items) (All-nil (GoesInside g.L.Local.origin.count))

pub body-requires-clause-fits : goal.body-requires-clause-fits
body-requires-clause-fits g c = none_fit g.L.Local.origin.count (items_in (entries_of c.args.frame)) c.requires.none

pub body-requires-clause-makes : goal.body-requires-clause-makes
body-requires-clause-makes g c =
    let before = g.L.Local.ledgers c.args.part (of_part c.args.part (trail_in c.args.store.now.logs)) in
    c.requires.makes ∙ ap (λ (l : List Sending). after_frame before (entries_of c.args.frame) (all_sent l)) (sym c.new.ensures.items)

pub returns-in-Err : goal.returns-in-Err
returns-in-Err g c =
    let why = c.let_go.ensures in record {
      keeps = c.body.ensures.keeps;
      kept = c.body.ensures.kept;
      stage = tt;
      frame = tt;
      still = tt;
      trail = c.body.ensures.trail;
      full = λ long. refused_either _ _ _ _ _ _ _ _ refl refl why (c.in-Err.ensures.full long);
      room = λ of n is.
          let was = refused_full _ _ _ of n _ _ refl refl why is in
          let room = c.in-Err.ensures.room n was.frame was.sending was.full in
          (was.own, room.2, room.3, room.4, c.in-Err.ensures.way n was.frame was.sending was.full);
      fault = λ is. c.body.ensures.fault (c.in-Err.ensures.halts.0 (refused_fault _ _ _ _ _ refl refl why is));
    }
