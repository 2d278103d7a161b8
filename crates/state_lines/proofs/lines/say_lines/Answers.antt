use Rattle.std.proofs.Common.{ℕ, Bool, ◌∙◌, ◌++◌, ◌<◌, Option, None, Some, length, ap, arith, refl, rules, subst, sym, le_trans}
use Rattle.std.proofs.lemmas.List.{length-set}
use Rattle.dura_model.specs.Partition.{shown}
use Rattle.dura_value.specs.Ids.{Id}
use Rattle.dura_value.specs.Messages.{Answer}
use Rattle.dura_value.specs.Views.{id_of}
use Rattle.part_steps.specs.States.{parts_in}
use Rattle.site_model.specs.History.{tape}
use Rattle.state_lines.specs.declared.error.ShowError.{ShowError}
use Rattle.state_lines.specs.declared.error.ShowError.TheVariants.{Memory}
use Rattle.state_lines.specs.Heads.{AreListed, IsLeast, IsLeastOf, head_of, heads_of}
use Rattle.state_lines.specs.Kinds.{has_line, keeps, line_answer}
use Rattle.state_lines.specs.Table.{table_line}
use Rattle.state_lines.specs.Steps.{SaysPart, StopsAt}
use Rattle.state_lines.proofs.Going.{inside, none_left, next_line, next_answer, heads_go_on, fewer_lines}
use Rattle.state_lines.proofs.Listing.{head_at}
use Rattle.state_lines.proofs.OnTape.{by_error}
use Rattle.state_lines.proofs.Saying.{begun, one_said, all_said, none_said, stopped}
use Rattle.state_lines.proofs.lines.say_lines.Goals as goal

pub returns-in_err-lists-clause-part : goal.returns-in_err-lists-clause-part
returns-in_err-lists-clause-part g c = by_error c.from_residual.result Memory _ c.from_residual.ensures.1 (none_said _ _ _)

pub returns-in_err-next-clause-part : goal.returns-in_err-next-clause-part
returns-in_err-next-clause-part g c = by_error c.from_residual-in_err-next.result Memory _ c.from_residual-in_err-next.ensures.1 (none_said _ _ _)

pub lines-init : goal.lines-init
lines-init g c =
    let flows = g.R.Reactions.flows c.args.reactions.now in
    let states = c.args.states.now in
    let kind = c.args.kind in
    let world = shown flows (length states) (parts_in states) in
    let kept : ℕ → Id → Bool = λ place. keeps kind (parts_in states place) in
    let next = c.in_ok-next.ensures in
    let lists = c.in_ok-lists.ensures in
    let same = c.deref.ensures.value in
    let whole = c.in_ok-lists.lists.ok.0 in
    let many = ap length same in
    record {
      tells = λ tells. tells;
      said = begun (has_line kind world) (line_answer kind flows world) (tape (g.V.Site.history c.args.site.now));
      long = search rules;
      heads = next.heads kept (subst (AreListed kept) (sym same) lists.lists);
      files = λ file. refl;
      later = omega arith;
      disk_faults = refl;
    }

pub returns-in_err-say_one-clause-part : goal.returns-in_err-say_one-clause-part
returns-in_err-say_one-clause-part g c =
    let flows = g.R.Reactions.flows c.args.reactions.now in
    let states = c.args.states.now in
    let kind = c.args.kind in
    let world = shown flows (length states) (parts_in states) in
    let id = c.in-Some.id in
    let error = c.in_err-say_one.field-0.0 in
    let old = tape (g.V.Site.history c.args.site.now) in
    let mid = tape (g.V.Site.history c.lines.site) in
    let new = tape (g.V.Site.history c.say_one.new.site) in
    let kept = c.lines.invariant in
    let least : IsLeast (heads_of c.lines.heads.next.items) (c.in-Some.place, id_of id.now) = subst (λ l. IsLeast (heads_of l) (c.in-Some.place, id_of id.now)) c.deref-in-lines.ensures.value c.in-Some.ensures in
    let next = next_line flows states c.requires kind c.lines.heads.last c.lines.heads.next.items kept.long kept.heads c.in-Some.place id least in
    let same = next_answer flows states c.requires kind c.lines.heads.last c.lines.heads.next.items kept.long kept.heads c.in-Some.place id least c.index-states-place.result c.index-states-place.is in
    let part : SaysPart (table_line (id_of id.now) (line_answer kind flows world (id_of id.now))) error mid new = subst (λ (a : Option Answer). SaysPart (table_line (id_of id.now) a) error mid new) same c.in_err-say_one.ensures.part in
    by_error c.from_residual-in_err-say_one.result error (λ (e : ShowError). StopsAt (has_line kind world) (line_answer kind flows world) e old new) c.from_residual-in_err-say_one.ensures.1
    (stopped (has_line kind world) (line_answer kind flows world) (head_of c.lines.heads.last) (id_of id.now) error old mid new kept.said next part)

pub lines-smaller : goal.lines-smaller
lines-smaller g c =
    let least : IsLeast (heads_of c.lines.heads.next.items) (c.in-Some.place, id_of c.in-Some.id.now) = subst (λ l. IsLeast (heads_of l) (c.in-Some.place, id_of c.in-Some.id.now)) c.deref-in-lines.ensures.value c.in-Some.ensures in
    fewer_lines (g.R.Reactions.flows c.args.reactions.now) c.args.states.now c.requires c.args.kind c.lines.heads.last c.lines.heads.next.items c.lines.invariant.long c.lines.invariant.heads c.in-Some.place c.in-Some.id least
    c.index-states-place.result c.index-states-place.is

pub lines-preserved : goal.lines-preserved
lines-preserved g c =
    let flows = g.R.Reactions.flows c.args.reactions.now in
    let states = c.args.states.now in
    let kind = c.args.kind in
    let world = shown flows (length states) (parts_in states) in
    let id = c.in-Some.id in
    let old = tape (g.V.Site.history c.args.site.now) in
    let mid = tape (g.V.Site.history c.lines.site) in
    let new = tape (g.V.Site.history c.say_one.new.site) in
    let kept = c.lines.invariant in
    let said = c.in_ok-say_one.ensures in
    let lists = c.in_ok-lists.lists.items in
    let listed = c.in_ok-lists.ensures.lists in
    let within : c.in-Some.place < length lists =
    let below = inside flows states c.requires kind c.lines.heads.last c.lines.heads.next.items kept.long kept.heads c.in-Some.place id (subst (λ l. IsLeast (heads_of l) (c.in-Some.place, id_of id.now)) c.deref-in-lines.ensures.value c.in-Some.ensures) in
    let many = c.in_ok-lists.ensures.length in
    let whole = c.in_ok-lists.lists.ok.0 in
    omega arith in
    let least : IsLeast (heads_of c.lines.heads.next.items) (c.in-Some.place, id_of id.now) = subst (λ l. IsLeast (heads_of l) (c.in-Some.place, id_of id.now)) c.deref-in-lines.ensures.value c.in-Some.ensures in
    let next = next_line flows states c.requires kind c.lines.heads.last c.lines.heads.next.items kept.long kept.heads c.in-Some.place id least in
    let same = next_answer flows states c.requires kind c.lines.heads.last c.lines.heads.next.items kept.long kept.heads c.in-Some.place id least c.index-states-place.result c.index-states-place.is in
    record {
      tells = λ tells. kept.tells (said.tells tells);
      said = one_said (has_line kind world) (line_answer kind flows world) (head_of c.lines.heads.last) (id_of id.now) old mid new kept.said next (said.said ∙ ap (λ (a : Option Answer). mid ++ table_line (id_of id.now) a) same);
      long = length-set c.lines.heads.next.items c.in-Some.place c.head.result ∙ kept.long;
      heads = heads_go_on flows states c.requires kind c.lines.heads.last c.lines.heads.next.items kept.long kept.heads c.in-Some.place id least c.head.result (head_at (λ place. keeps kind (parts_in states place)) lists c.in-Some.place c.index.result.now (Some (id_of id.now)) (head_of c.head.result) listed within c.index.ensures c.head.ensures);
      files = λ file. said.files file ∙ kept.files file;
      later = le_trans kept.later said.later;
      disk_faults = said.disk_faults ∙ kept.disk_faults;
    }

pub returns-clause-said : goal.returns-clause-said
returns-clause-said g c =
    let flows = g.R.Reactions.flows c.args.reactions.now in
    let states = c.args.states.now in
    let kind = c.args.kind in
    let world = shown flows (length states) (parts_in states) in
    let kept = c.lines.invariant in
    let none : IsLeastOf (heads_of c.lines.heads.next.items) None = subst (λ l. IsLeastOf (heads_of l) None) c.deref-in-lines.ensures.value c.in_default.ensures in
    all_said (has_line kind world) (line_answer kind flows world) (head_of c.lines.heads.last) (tape (g.V.Site.history c.args.site.now)) (tape (g.V.Site.history c.lines.site)) kept.said
    (none_left flows states c.requires kind c.lines.heads.last c.lines.heads.next.items kept.long kept.heads none)
