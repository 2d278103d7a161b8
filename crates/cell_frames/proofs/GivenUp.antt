-- What is given up, and what is to be let go of, leaves a cell the call's.
use Rattle.std.proofs.Common.{◌==◌, ◌&&◌, ℕ, Bool, true, false, cond, not, List, [], ◌∷◌, ◌++◌, take, drop, filter, None, sym, subst}
use Rattle.std.specs.List.{All, flat_map}
use Rattle.std.proofs.lemmas.List.{take-append-drop}
use Rattle.std.proofs.lemmas.List.Concat.{flat_map-cons}
use Rattle.std.proofs.lemmas.List.Elements.{All-append, All-cons, All-nil, All-head, All-tail, All-filter}
use Rattle.cell_frames.specs.Ours.{AreOurs, WaitOurs}
use Rattle.cell_tasks.specs.declared.given_out.GivenOut.{GivenOut}
use Rattle.cell_waits.specs.Waits.{Waiting, lasting, is_of_stream, before, without_lost, lost_by}
use Rattle.commit_gate.proofs.Going.{all_front}
use Rattle.dura_model.specs.Partition.{Partition}
use Rattle.dura_value.specs.Items.{Identity, Item, Entry, took, got, ran, ended, fired, trim}
use Rattle.flow_syntax.specs.Syntax.{Flows}
use Rattle.hub_store.specs.Trail.{Said}
use Rattle.many_rules.specs.Rules.{Rules, IsOurs, rules_at, pairs_of}
use Rattle.run_rules.specs.Rules.{IsAsked}
use Rattle.spec_cell.specs.Moves.{given_up, IsRewound, IsReset, IsKept}
use Rattle.spec_cell.specs.Trims.{Trims, trim_by, trims_of, has_trim, has_before, with_trims}
use Rattle.spec_cell.specs.Views.{CellView}
use Rattle.spec_tracker.specs.Marks.{floors_of}
use Rattle.spec_tracker.specs.declared.marks.Marks.{Marks}
use Rattle.spec_tracker.specs.declared.marks.Read.{Read}
use Rattle.std.specs.Prelude.{Option}
use Rattle.task_laws.specs.Asked.{WasAsked}

module _ (P : Waiting → Type 0) where
  before_all : (lost : Identity → Bool) (w : Waiting) (item : Item) (rest : List Waiting) → P w → All P rest → All P (before lost w item rest)
  before_all lost w (got entry number message) rest one all = by (lost entry)
    where
      by : (test : Bool) → All P (cond test (filter (λ v. not (is_of_stream entry.partition v)) rest) (w ∷ rest))
      by true = All-filter (λ v. not (is_of_stream entry.partition v)) P rest all
      by false = All-cons P w rest one all
  before_all lost w (took message) rest one all = All-cons P w rest one all
  before_all lost w (ran from to stamp) rest one all = All-cons P w rest one all
  before_all lost w (ended id task outcome) rest one all = All-cons P w rest one all
  before_all lost w (fired id task stamp) rest one all = All-cons P w rest one all
  before_all lost w (trim reader number) rest one all = All-cons P w rest one all

  pub all_unlost : (lost : Identity → Bool) (waits : List Waiting) → All P waits → All P (without_lost lost waits)
  all_unlost lost [] all = All-nil P
  all_unlost lost (w ∷ waits) all = before_all lost w w.item (without_lost lost waits) (All-head P w waits all) (all_unlost lost waits (All-tail P w waits all))

  all_trims : (p : Partition) → ((read : Read) → P (record { item = trim_by read; activity = None })) → (reads : List Read) (waits : List Waiting) → All P waits → All P (with_trims waits (flat_map (trims_of p) reads))
  all_trims p own [] waits all = all
  all_trims p own (read ∷ reads) waits all =
      subst (λ (l : List Item). All P (with_trims waits l)) (sym (flat_map-cons (trims_of p) read reads)) (by (read.source == p.number && has_before (p.outboxes read.reader) read.next) (λ more every. all_trims p own reads more every))
    where
      rest : List Item
      rest = flat_map (trims_of p) reads

      put : (test : Bool) → ((more : List Waiting) → All P more → All P (with_trims more rest)) → All P (with_trims (cond test waits (waits ++ record { item = trim_by read; activity = None } ∷ [])) rest)
      put true go = go waits all
      put false go = go (waits ++ record { item = trim_by read; activity = None } ∷ []) (All-append P waits (record { item = trim_by read; activity = None } ∷ []) all (All-cons P (record { item = trim_by read; activity = None }) [] (own read) (All-nil P)))

      by : (test : Bool) → ((more : List Waiting) → All P more → All P (with_trims more rest)) → All P (with_trims waits (cond test (trim_by read ∷ []) [] ++ rest))
      by true go = put (has_trim waits (trim_by read)) go
      by false go = go waits all

module _ (rules : Rules) (latest : ℕ) (told : List Said) (old : CellView) (ours : AreOurs rules latest told old) (waits : WaitOurs rules told old) where
  abbrev Both : CellView → Type 0
  Both c = AreOurs rules latest told c × WaitOurs rules told c

  abbrev Asked : Waiting → Type 0
  Asked w = IsAsked (rules_at rules old.number) (pairs_of told) w.item

  abbrev Runs : Partition → Waiting → Type 0
  Runs base w = WasAsked rules.flows base w.item

  front : (P : Entry → Type 0) (n : ℕ) → All P old.entries → All P (take n old.entries)
  front P n all = all_front P (take n old.entries) (drop n old.entries) (subst (All P) (sym (take-append-drop n old.entries)) all)

  pub given_up_ours : (kept out : ℕ) (given : Option GivenOut) → Both (given_up kept out given old)
  given_up_ours kept out given = (
    record {
      ours = front (IsOurs rules latest (pairs_of told) old.number) kept ours.ours;
      run = λ base is serves. front (λ (entry : Entry). All (WasAsked rules.flows base) entry.items) kept (ours.run base is serves);
    },
    record { asked = λ serves. All-filter lasting Asked old.waits (waits.asked serves); run = λ base is serves. All-filter lasting (Runs base) old.waits (waits.run base is serves) },
  )

  pub rewound_ours : (flows : Flows) (count : ℕ) (begin : Partition) (marks : Marks) (new : CellView) (from : ℕ) (lost : Identity) → IsRewound flows count begin marks old new from lost → Both new
  rewound_ours flows count begin marks new from lost rewound = subst Both (sym rewound.becomes) (given_up_ours rewound.kept old.out new.given)

  pub reset_ours : (new : CellView) (from : ℕ) → IsReset from old new → Both new
  reset_ours new from reset = subst Both (sym reset.becomes) (given_up_ours reset.kept 0 new.given)

  pub kept_ours : (flows : Flows) (count : ℕ) (begin : Partition) (marks : Marks) (new : CellView) → IsKept flows count begin marks old new → Both new
  kept_ours flows count begin marks new kept = subst Both (sym kept.becomes) (
    record { ours = ours.ours; run = ours.run },
    record { asked = λ serves. all_unlost Asked (lost_by (floors_of marks)) old.waits (waits.asked serves); run = λ base is serves. all_unlost (Runs base) (lost_by (floors_of marks)) old.waits (waits.run base is serves) },
  )

  pub trims_ours : (marks : Marks) (ahead : Partition) (count : ℕ) (new : CellView) → Trims marks ahead old count new → Both new
  trims_ours marks ahead count new trims = subst Both (sym trims.1) (
    record { ours = ours.ours; run = ours.run },
    record {
      asked = λ serves. all_trims Asked ahead (λ read. tt) marks.reads.items old.waits (waits.asked serves);
      run = λ base is serves. all_trims (Runs base) ahead (λ read. tt) marks.reads.items old.waits (waits.run base is serves);
    },
  )
