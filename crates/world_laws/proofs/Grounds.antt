-- What stands under a life, by what its store keeps.
use Rattle.std.proofs.Common.{◌≡◌, inl, inr, ℕ, Bool, true, List, [], map, Some, slice_get, subst, arith}
use Rattle.std.specs.List.{Contains}
use Rattle.std.proofs.lemmas.List.{length-map, get_or_past}
use Rattle.std.proofs.lemmas.List.Elements.{All-contains}
use Rattle.std.proofs.lemmas.Option.{slice_get_within, get_or_from_slice_get}
use Rattle.cell_frames.specs.Begun.{HasBegun}
use Rattle.cell_frames.specs.Joined.{view_of}
use Rattle.commit_gate.specs.Ledgers.{Ledger, log_length, IsKnown}
use Rattle.commit_gate.specs.Views.{floors_in}
use Rattle.gated_store.proofs.Grounds.{trail_causal}
use Rattle.gated_store.proofs.Moving.{known_unlost}
use Rattle.gated_store.specs.Follows.{ledgers_at}
use Rattle.gated_store.specs.Kept.{IsKept}
use Rattle.gated_store.specs.declared.local.Gated as gated_types
use Rattle.gated_store.specs.declared.store.GatedStore.{GatedStore}
use Rattle.hub_store.specs.Changes.{stage_at, going_at, trail_in, told_in}
use Rattle.hub_store.specs.Origin.{Origin}
use Rattle.hub_store.specs.Trail.{of_part}
use Rattle.hub_store.specs.declared.start.Start as starts
use Rattle.log_items.specs.declared.items.Packet.{Packet}
use Rattle.lost_laws.proofs.There.{depends_there, there_known}
use Rattle.lost_laws.specs.DependsOn.DependsOn.{named}
use Rattle.many_rules.proofs.Meeting.{below_or}
use Rattle.many_rules.specs.Ledgers.{ledgers, readers}
use Rattle.many_rules.specs.Local.{goes_on, outside}
use Rattle.many_rules.specs.Makes.{Makes}
use Rattle.many_rules.specs.Rules.{Rules}
use Rattle.site_model.specs.declared.site.Site as sites
use Rattle.spec_cell.specs.Views.{CellView, HasFacts}
use Rattle.spec_tracker.specs.declared.marks.Marks.{Marks}
use Rattle.trail_states.proofs.States.{makes_states}
use Rattle.world_core.specs.World.{Stands, world}
use Rattle.world_steps.specs.Cells.{AllKnown}
use Rattle.world_laws.specs.Lives.{IsWell}
use Rattle.world_laws.specs.Made.{IsGrounded}

-- what stands at a place is in the list
contains_there : {X : Type 0} (xs : List X) (k : ℕ) (x : X) → slice_get xs k ≡ Some x → Contains xs x
contains_there xs k x there = (k, slice_get_within xs k x there, get_or_from_slice_get xs k x x there)

pub grounded : {V L : Type 0} {G : sites.Ghosts V} {K : starts.Ghosts (gated_types.Gated L)} (o : Origin) (rules : Rules) (count : ℕ) (store : GatedStore V L G K) (cells : List CellView) (packets : List Packet) (marks : List Marks) (ended : Bool)
    → HasBegun o rules → IsKept count (ledgers rules) (readers rules) (Makes rules) store → rules.count ≡ count
    → ((partition : ℕ) (c : CellView) → slice_get cells partition ≡ Some c → HasFacts rules.flows rules.count (rules.begin partition) c) → IsGrounded rules (world store cells packets marks ended)
grounded o rules count store cells packets marks ended begun kept of_count facts = record {
  begun = begun.made;
  have = makes_states rules begun.made begun.below begun.numbered (view_of store).trail kept.fits.grown;
  frames = λ p below. kept.fits.made p (omega (arith, below, of_count));
  facts = facts;
  unlost = λ e known. elim (below_or e.partition rules.count) [
    | inl low ↦ known_unlost count (ledgers rules) (readers rules) (Makes rules) store.logs.latest (trail_in store.logs) (told_in store.logs) (going_at store.logs) (stage_at store.logs) store.ledgers.items kept.fits e (omega (arith, low, of_count)) known
    | inr past ↦ absurd (let none : slice_get [] e.position ≡ Some e.incarnation = subst (λ (l : Ledger). IsKnown l e) (outside rules e.partition (of_part e.partition (trail_in store.logs)) past) known in cc none)
  ];
  floors = λ p past. get_or_past (map floors_in store.ledgers.items) p [] (omega (arith, past, of_count, kept.fits.many, length-map store.ledgers.items floors_in));
  named = λ one d there of_it.
      let causal = trail_causal (ledgers rules) (Makes rules) (goes_on rules) kept.fits.first kept.fits.grown in
      there_known (ledgers rules) (Makes rules) (goes_on rules) kept.fits.grown d
      (depends_there (ledgers rules) (λ t p. log_length (ledgers_at (ledgers rules) t p)) (trail_in store.logs) causal (named one d there of_it));
}

-- a world that stands, whose cells are known, is well
pub well_known : {V L : Type 0} {G : sites.Ghosts V} {K : starts.Ghosts (gated_types.Gated L)} (o : Origin) (rules : Rules) (count : ℕ) (store : GatedStore V L G K) (cells : List CellView) (packets : List Packet) (marks : List Marks) (ended : Bool)
    → HasBegun o rules → IsKept count (ledgers rules) (readers rules) (Makes rules) store → rules.count ≡ count → Stands rules (world store cells packets marks ended) → AllKnown rules cells → IsWell rules (world store cells packets marks ended)
well_known o rules count store cells packets marks ended begun kept of_count stands known = record {
  stands = stands;
  ground = λ on. grounded o rules count store cells packets marks ended begun kept of_count (λ p c there.
      let joined = stands.joined on p c there in
      let facts : HasFacts rules.flows rules.count (rules.begin c.number) c = All-contains (λ (c : CellView). c.going ≡ true → HasFacts rules.flows rules.count (rules.begin c.number) c) cells c known (contains_there cells p c there) joined.0 in
      subst (λ (n : ℕ). HasFacts rules.flows rules.count (rules.begin n) c) joined.1.goes.number facts);
}
