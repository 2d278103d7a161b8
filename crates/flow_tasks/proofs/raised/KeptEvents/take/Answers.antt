use Rattle.std.proofs.Common.{◌∙◌, ℕ, List, map, ap, sym}
use Rattle.flow_syntax.specs.Machine.{kept_value, without_kept}
use Rattle.flow_tasks.specs.declared.raised.Raised.{Raised}
use Rattle.flow_tasks.specs.Kept.{events_in, places_from}
use Rattle.flow_tasks.specs.Numbers.{numbers_in}
use Rattle.flow_tasks.specs.Views.{raised_of}
use Rattle.flow_tasks.proofs.Kept.{takes, none_there}
use Rattle.flow_tasks.proofs.raised.KeptEvents.take.Goals as goal

pub take_out-requires : goal.take_out-requires
take_out-requires c = (takes c.args.name.now c.self.inside.slots.items c.in-Some.place (numbers_in c.self.inside.places) c.self.invariant c.in-Some.ensures.first).0

pub invariant_of-self : goal.invariant_of-self
invariant_of-self c = λ other.
    let taken = takes c.args.name.now c.self.inside.slots.items c.in-Some.place (numbers_in c.self.inside.places) c.self.invariant c.in-Some.ensures.first in
    ap (λ (f : List ℕ → List ℕ). f other) c.in-Some.ensures.rest ∙ taken.3 other ∙ sym (ap (places_from other 0) c.take_out.ensures.taken)

pub returns-in-Some-clause-value : goal.returns-in-Some-clause-value
returns-in-Some-clause-value c =
    let taken = takes c.args.name.now c.self.inside.slots.items c.in-Some.place (numbers_in c.self.inside.places) c.self.invariant c.in-Some.ensures.first in
    c.take_out.ensures.value ∙ taken.1 ∙ ap (λ (events : List Raised). kept_value c.args.name.now (map raised_of events)) c.self.view_is

pub returns-in-Some-clause-taken : goal.returns-in-Some-clause-taken
returns-in-Some-clause-taken c =
    let taken = takes c.args.name.now c.self.inside.slots.items c.in-Some.place (numbers_in c.self.inside.places) c.self.invariant c.in-Some.ensures.first in
    ap (λ slots. map raised_of (events_in slots)) c.take_out.ensures.taken
    ∙ taken.2
    ∙ ap (λ (events : List Raised). without_kept c.args.name.now (map raised_of events)) c.self.view_is

pub invariant_of-self-in-None : goal.invariant_of-self-in-None
invariant_of-self-in-None c = λ other.
    let none = none_there c.args.name.now c.self.inside.slots.items (numbers_in c.self.inside.places) c.self.invariant c.in-None.ensures.first in
    ap (λ (f : List ℕ → List ℕ). f other) c.in-None.ensures.rest ∙ none.2 other

pub returns-in-None-clause-value : goal.returns-in-None-clause-value
returns-in-None-clause-value c =
    let none = none_there c.args.name.now c.self.inside.slots.items (numbers_in c.self.inside.places) c.self.invariant c.in-None.ensures.first in
    sym none.0 ∙ ap (λ (events : List Raised). kept_value c.args.name.now (map raised_of events)) c.self.view_is

pub returns-in-None-clause-taken : goal.returns-in-None-clause-taken
returns-in-None-clause-taken c =
    let none = none_there c.args.name.now c.self.inside.slots.items (numbers_in c.self.inside.places) c.self.invariant c.in-None.ensures.first in
    sym none.1 ∙ ap (λ (events : List Raised). without_kept c.args.name.now (map raised_of events)) c.self.view_is
