use Rattle.std.proofs.Common.{List, Option, option_map, sym, subst}
use Rattle.std.specs.Prelude.{IfSome, IfNone}
use Rattle.std.specs.List.{Contains}
use Rattle.dura_value.specs.Dependencies.{named_by, Lost}
use Rattle.log_items.specs.Plain.{items_of, entry_of}
use Rattle.log_items.specs.declared.items.Item.{Item}
use Rattle.spec_tracker.specs.Marks.{identity_of, floors_of}
use Rattle.spec_tracker.specs.declared.marks.Dep.{Dep}
use Rattle.cell_steps.specs.Depends.{depends_on, AreKept}
use Rattle.cell_steps.proofs.Losing.{named_behind, kept_behind}
use Rattle.cell_steps.proofs.depending.lost_in.Goals as goal

pub returns-in_default-clause-some : goal.returns-in_default-clause-some
returns-in_default-clause-some c =
    let found = c.lost_of.result in
    let named = subst (λ (l : List Item). IfSome found (λ dep. Contains (named_by (items_of l)) (identity_of dep) × Lost (floors_of c.args.marks.now) (identity_of dep))) c.as_slice.ensures c.lost_of.ensures.some in
    subst (λ (o : Option Dep). IfSome found (λ dep. Contains (depends_on (option_map identity_of o) (entry_of c.args.entry.now)) (identity_of dep) × Lost (floors_of c.args.marks.now) (identity_of dep))) (sym c.in_default.is) named

pub returns : goal.returns
returns c =
    let found = c.lost_of-2.result in
    let marks = c.args.marks.now in
    let items = named_by (items_of c.args.entry.now.items) in
    let own = identity_of c.in-Some.before in
    let named = subst (λ (l : List Item). IfSome found (λ dep. Contains (named_by (items_of l)) (identity_of dep) × Lost (floors_of marks) (identity_of dep))) c.as_slice-2.ensures c.lost_of-2.ensures.some in
    let none = subst (λ (l : List Item). IfNone found (AreKept marks (named_by (items_of l)))) c.as_slice-2.ensures c.lost_of-2.ensures.none in
    record {
      some = subst (λ (o : Option Dep). IfSome found (λ dep. Contains (depends_on (option_map identity_of o) (entry_of c.args.entry.now)) (identity_of dep) × Lost (floors_of marks) (identity_of dep))) (sym c.in-Some.is) (named_behind marks found own items named);
      none = subst (λ (o : Option Dep). IfNone found (AreKept marks (depends_on (option_map identity_of o) (entry_of c.args.entry.now)))) (sym c.in-Some.is) (kept_behind marks found own items (c.is_lost.ensures.kept c.if-is_lost.false) none);
    }
