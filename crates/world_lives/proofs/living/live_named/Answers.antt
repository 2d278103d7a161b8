use Rattle.std.proofs.Common.{◌≡◌, ◌≤◌, ◌<◌, ◌∙◌, arith, ℕ, false, List, [], Some, None, sym, ap, subst, slice_get}
use Rattle.call_begins.specs.Begins.{AreLedgersOf, BeginsWith}
use Rattle.call_begins.proofs.Going.{begins_with}
use Rattle.call_begins.proofs.Ledgers.{ledgers_fit, none_given_up}
use Rattle.commit_gate.specs.declared.ledger.Ledger.{Ledger}
use Rattle.dura_value.specs.Items.{Floor}
use Rattle.gated_store.specs.Kept.{LedgerFits}
use Rattle.log_items.specs.Entries.{incarnations_in}
use Rattle.many_logs.specs.Placing.{Commit, of_partition}
use Rattle.many_rules.proofs.FirstLedgers.{streams_known}
use Rattle.many_rules.specs.Ledgers.{ledgers, readers}
use Rattle.many_rules.specs.Rules.{Rules}
use Rattle.part_steps.specs.declared.state.PartState.{PartState}
use Rattle.world_lives.proofs.living.live_named.Goals as goal

pub begin-requires-clause-fits : goal.begin-requires-clause-fits
begin-requires-clause-fits g c =
    let rules = g.N.Named.rules in
    let begun = c.args.begun in
    let list = c.in-Ok-ledgers_of.ledgers.items in
    let e = c.in-Ok-ledgers_of.ensures in
    let same = c.requires.rules in
    let count : rules.count ≡ c.args.shape.count = ap (λ (r : Rules). r.count) same in
    let recovered : rules.recovered ≡ c.args.placed.run = ap (λ (r : Rules). r.recovered) same in
    subst (λ (n : ℕ). (p : ℕ) (ledger : Ledger) → slice_get list p ≡ Some ledger → LedgerFits (ledgers rules) (readers rules) n p [] None ledger) g.N.Named.counts
    (ledgers_fit rules begun.states.items begun.pasts.items list (ap (λ (r : Rules). r.begin) same) c.requires.goes.made c.requires.goes.numbered (e.many ∙ sym count) (c.requires.can.pasts ∙ sym count)
    (λ p past at. c.requires.made.past p past at ∙ ap (λ (run : List Commit). incarnations_in (of_partition p run)) (sym recovered))
    (subst (λ (n : ℕ). AreLedgersOf n begun.states.items begun.pasts.items list) (sym count) (subst (λ (s : List PartState). AreLedgersOf c.args.shape.count s begun.pasts.items list) c.deref.ensures.value e.show)))

pub begin-requires-clause-first : goal.begin-requires-clause-first
begin-requires-clause-first g c = streams_known g.N.Named.rules c.requires.goes.made c.requires.goes.numbered c.requires.goes.below

pub live_over-requires-clause-untouched : goal.live_over-requires-clause-untouched
live_over-requires-clause-untouched g c =
    let begun = c.args.begun in
    let e = c.in-Ok-begin.ensures in
    let l = c.in-Ok-ledgers_of in
    record {
      trail = e.trail;
      told = e.told;
      rest = λ p below. e.rest p (subst (λ (n : ℕ). p < n) g.N.Named.counts below);
      floors = λ p. ap (λ (f : ℕ → List Floor). f p) e.floors ∙ none_given_up c.args.shape.count c.deref.result.now begun.pasts.items l.ledgers.items l.ensures.many c.requires.can.pasts l.ensures.show p;
      going = e.going;
      whole = e.whole;
    }

pub live_over-requires-clause-silent : goal.live_over-requires-clause-silent
live_over-requires-clause-silent g c = ap (λ (r : Rules). r.serves) c.requires.rules

pub live_over-requires-clause-since : goal.live_over-requires-clause-since
live_over-requires-clause-since g c = ap (λ (r : Rules). r.since) c.requires.rules

pub live_over-requires-clause-most : goal.live_over-requires-clause-most
live_over-requires-clause-most g c = let most : g.N.Named.rules.most ≡ 64 = ap (λ (r : Rules). r.most) c.requires.rules in omega (arith, most)

pub live_over-requires-clause-begins : goal.live_over-requires-clause-begins
live_over-requires-clause-begins g c =
    let begun = c.args.begun in
    subst (λ (l : List ℕ). BeginsWith g.N.Named.rules begun.states.items l) (sym c.deref-in-Ok-begin.ensures.value)
    (subst (λ (r : Rules). BeginsWith r begun.states.items begun.incarnations.items) (sym c.requires.rules)
    (begins_with (g.R.Reactions.flows c.args.reactions.now) c.args.shape.count begun c.args.placed.run 0 64 [] false c.requires.some c.requires.few c.requires.can))
