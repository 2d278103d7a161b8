-- A call begins to serve clients.
use Rattle.std.proofs.Common.{◌++◌, ◌≡◌, ◌≤◌, ◌<◌, inl, inr, ℕ, List, Option, Some, None, Result, Ok, Err, refl, sym, ap, subst, arith, length, take}
use Rattle.std.proofs.lemmas.Bool.{cases_lt}
use Rattle.std.proofs.lemmas.Option.{slice_get_within}
use Rattle.std.specs.Result.{is_err}
use Rattle.std.specs.Prelude.{IfSome, OnOk, false, true}
use Rattle.call_begins.specs.Begins.{IsUntouched}
use Rattle.cell_frames.proofs.Calls.{rests_none}
use Rattle.cell_frames.specs.Begun.{HasBegun}
use Rattle.cell_frames.specs.Joined.{view_of}
use Rattle.client_port.specs.Ports.{Queue, queues_of}
use Rattle.dura_model.proofs.Outcomes.{never_twice}
use Rattle.dura_model.specs.Steps.{Label}
use Rattle.engine_rounds.specs.Served.{StandsOrderly, came_of, refusal_in}
use Rattle.engine_rounds.specs.declared.driving.End.{End}
use Rattle.engine_rounds.specs.declared.serving.Came.TheVariants as cames
use Rattle.flow_syntax.specs.Syntax.{Flows}
use Rattle.gated_store.specs.declared.local.Gated as gated_types
use Rattle.gated_store.specs.declared.store.GatedStore.{GatedStore}
use Rattle.hub_store.specs.Origin.{Origin}
use Rattle.hub_store.specs.Trail.{Settled}
use Rattle.hub_store.specs.Ways.{way_of}
use Rattle.hub_store.specs.declared.start.Start as starts
use Rattle.many_logs.specs.Labels.{labels_of_commits}
use Rattle.many_logs.specs.Placing.{frames_in_order}
use Rattle.many_rules.specs.Leaves.{StandsOn}
use Rattle.many_rules.specs.Rules.{Rules, commits_of}
use Rattle.node_core.specs.Running.{HaveShortFrames, Keeps}
use Rattle.node_core.specs.declared.halt.Halt.{Halt}
use Rattle.open_logs.specs.Spent.{OnlySynced, WhyUnopened}
use Rattle.open_logs.specs.declared.error.OpenError.{OpenError}
use Rattle.open_logs.specs.declared.error.OpenError.TheVariants as refusals
use Rattle.recover_core.specs.declared.error.RecoverError.TheVariants as errors
use Rattle.request_reader.specs.Line.{Request}
use Rattle.round_steps.proofs.Queues.{said_first}
use Rattle.round_steps.specs.Serving.{IsServing}
use Rattle.run_laws.proofs.Ordered.{never_overlaps}
use Rattle.site_model.specs.History.{Step}
use Rattle.site_model.specs.declared.site.Site as sites
use Rattle.spec_cell.specs.Views.{CellView}
use Rattle.world_steps.specs.Cells.{AllJoined}

-- where logs rest no frame is out of a cell
untouched_short : {V L : Type 0} {G : sites.Ghosts V} {K : starts.Ghosts (gated_types.Gated L)} (rules : Rules) (store : GatedStore V L G K) (cells : List CellView) → length cells ≡ rules.count → IsUntouched rules.count store → AllJoined rules (view_of store) cells → HaveShortFrames cells
untouched_short rules store cells many untouched joined p c has = elim (cases_lt 0 c.out) [
  | inl some ↦
      let low : p < length cells = slice_get_within cells p c has in
      let none = rests_none (way_of store.logs.ways.items p) (untouched.rest p (omega (arith, low, many))) in
      absurd (cc (none, (joined p c has).1.out.goes some))
  | inr none ↦ let zero : c.out ≡ 0 = omega (arith, none) in let long = ap (λ (n : ℕ). length (take n c.entries)) zero in omega (arith, long)
]

-- nothing was settled or said, and the port is new
pub first_serves : {V L : Type 0} {G : sites.Ghosts V} {K : starts.Ghosts (gated_types.Gated L)} (o : Origin) (rules : Rules) (store : GatedStore V L G K) (cells : List CellView) (queues : List Queue) → HasBegun o rules → rules.serves ≡ true → 0 < rules.count → rules.count ≤ 32 → length cells ≡ rules.count
    → Keeps o rules store → IsUntouched rules.count store → AllJoined rules (view_of store) cells → queues ≡ queues_of rules.requests → IsServing o rules store cells queues
first_serves o rules store cells queues begun serves some few many kept untouched joined port = record {
  running = record { begun = begun; serves = serves; some = some; few = few; many = many; short = untouched_short rules store cells many untouched joined; kept = kept; still = untouched.going; whole = untouched.whole; joined = joined };
  said = said_first rules.requests _ queues untouched.told port;
}

-- where memory ran out nothing is said of why
pub why_memory : (flows : Flows) (count digest : ℕ) (files : ℕ → List ℕ) (requests : List Request) (refused : Option OpenError) → IfSome refused (λ e. e ≡ refusals.Refused errors.Memory) → IfSome refused (WhyUnopened flows count digest files requests)
why_memory flows count digest files requests None is = tt
why_memory flows count digest files requests (Some error) is = subst (WhyUnopened flows count digest files requests) (sym is) tt

-- nothing is said of what happened where memory ran out
pub synced_memory : (count : ℕ) (old new : List Step) (refused : Option OpenError) → IfSome refused (λ e. e ≡ refusals.Refused errors.Memory) → IfSome refused (OnlySynced count old new)
synced_memory count old new None is = tt
synced_memory count old new (Some error) is = subst (OnlySynced count old new) (sym is) tt

-- ---- what rounds came to

pub went_on : (rounds : Result End Halt) → refusal_in (came_of rounds) ≡ None
went_on (Ok end) = refl
went_on (Err halt) = refl

pub ended_so : (rounds : Result End Halt) (end : End) → came_of rounds ≡ cames.Ended end → rounds ≡ Ok end
ended_so (Ok other) end is = ap Ok (cc is)
ended_so (Err halt) end is = absurd (cc is)

pub halted_so : (rounds : Result End Halt) (halt : Halt) → came_of rounds ≡ cames.Halted halt → rounds ≡ Err halt
halted_so (Ok end) halt is = absurd (cc is)
halted_so (Err other) halt is = ap Err (cc is)

pub ok_holds : {A E : Type 0} (r : Result A E) (P : Type 0) → is_err r ≡ false → OnOk r P → P
ok_holds (Ok a) P fine holds = holds
ok_holds (Err e) P fine holds = absurd (cc fine)

-- a legal run is orderly
pub stands_orderly : (rules : Rules) (latest digest : ℕ) (o : Origin) (steps : List Step) (trail : List Settled) (files : ℕ → List ℕ) → StandsOn rules latest digest o steps trail files → (labels : List Label) × StandsOrderly rules latest digest o steps trail files labels
stands_orderly rules latest digest o steps trail files on =
    let labels = labels_of_commits rules.recovered ++ labels_of_commits (commits_of trail) ++ labels_of_commits (frames_in_order rules.count on.going) in (
      labels,
      record {
        on = on;
        labels_are = refl;
        once = λ id task. never_twice rules.flows labels _ on.stands.legal id task;
        apart = λ front rest world split legal overlap. never_overlaps rules.flows front world legal overlap;
      },
    )
