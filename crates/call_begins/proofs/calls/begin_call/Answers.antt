use Rattle.std.proofs.Common.{Vec, Global, ◌≡◌, ◌<◌, ◌∙◌, ℕ, List, [], Some, None, sym, ap, subst, slice_get}
use Rattle.std.specs.Prelude.{IfOk}
use Rattle.commit_gate.specs.Views.{floors_of}
use Rattle.commit_gate.specs.declared.ledger.Ledger.{Ledger}
use Rattle.dura_value.specs.Items.{Floor}
use Rattle.gated_store.specs.Kept.{LedgerFits}
use Rattle.hub_store.specs.Ways.{stage_of, way_of}
use Rattle.hub_store.specs.declared.way.Way.{Way}
use Rattle.many_rules.proofs.FirstLedgers.{streams_known}
use Rattle.many_rules.specs.Ledgers.{ledgers, readers}
use Rattle.many_rules.specs.Rules.{Rules}
use Rattle.part_steps.specs.declared.state.PartState.{PartState}
use Rattle.call_begins.specs.Begins.{AllBegun, AreLedgersOf, BeginsWith}
use Rattle.call_begins.proofs.Going.{begins_with}
use Rattle.call_begins.proofs.Ledgers.{ledgers_fit, none_given_up}
use Rattle.call_begins.proofs.calls.begin_call.Goals as goal

pub begin-requires-clause-fits : goal.begin-requires-clause-fits
begin-requires-clause-fits g c =
    let rules = g.N.Named.rules in
    let begun = c.args.begun in
    let list = c.in-Ok.ledgers.items in
    let e = c.in-Ok.ensures in
    let same = c.requires.rules in
    let count : rules.count ≡ c.args.count = ap (λ (r : Rules). r.count) same in
    subst (λ (n : ℕ). (p : ℕ) (ledger : Ledger) → slice_get list p ≡ Some ledger → LedgerFits (ledgers rules) (readers rules) n p [] None ledger) g.N.Named.counts
    (ledgers_fit rules begun.states.items begun.pasts.items list (ap (λ (r : Rules). r.begin) same) c.requires.goes.made c.requires.goes.numbered (e.many ∙ sym count) (c.requires.can.pasts ∙ sym count) c.requires.made.past
    (subst (λ (n : ℕ). AreLedgersOf n begun.states.items begun.pasts.items list) (sym count) (subst (λ (s : List PartState). AreLedgersOf c.args.count s begun.pasts.items list) c.deref.ensures.value e.show)))

pub begin-requires-clause-first : goal.begin-requires-clause-first
begin-requires-clause-first g c = streams_known g.N.Named.rules c.requires.goes.made c.requires.goes.numbered c.requires.goes.below

pub call_over-requires-clause-untouched : goal.call_over-requires-clause-untouched
call_over-requires-clause-untouched g c =
    let begun = c.args.begun in
    let e = c.in-Ok-begin.ensures in
    let l = c.in-Ok in
    let r = c.raise.ensures in
    record {
      trail = r.trail ∙ e.trail;
      told = r.told ∙ e.told;
      rest = λ p below. ap (λ (w : Vec Way Global). stage_of (way_of w.items p)) r.ways ∙ e.rest p (subst (λ (n : ℕ). p < n) g.N.Named.counts below);
      floors = λ p. ap (λ (v : Vec Ledger Global). floors_of v.items p) r.ledgers ∙ ap (λ (f : ℕ → List Floor). f p) e.floors ∙ none_given_up c.args.count c.deref.result.now begun.pasts.items l.ledgers.items l.ensures.many c.requires.can.pasts l.ensures.show p;
      going = r.halted ∙ e.going;
      whole = r.whole ∙ e.whole;
    }

pub call_over-requires-clause-begins : goal.call_over-requires-clause-begins
call_over-requires-clause-begins g c =
    let rules = g.N.Named.rules in
    let begun = c.args.begun in
    subst (λ (l : List ℕ). BeginsWith rules begun.states.items l) (sym c.deref-in-Ok-begin.ensures.value)
    (subst (λ (r : Rules). BeginsWith r begun.states.items begun.incarnations.items) (sym c.requires.rules)
    (begins_with rules.flows c.args.count begun rules.recovered c.args.since rules.most rules.requests rules.serves c.requires.some c.requires.few c.requires.can))

pub returns-in-Ok-begin-clause-begun : goal.returns-in-Ok-begin-clause-begun
returns-in-Ok-begin-clause-begun g c = subst (λ (l : List ℕ). IfOk c.call_over.result (λ call. AllBegun l c.args.since call.cells.items)) c.deref-in-Ok-begin.ensures.value c.call_over.ensures.begun
