-- What a rewind, and a node that takes a partition over, leave of all entries that were made.
use Rattle.std.proofs.Common.{◌≡◌, ◌≢◌, ◌<◌, ◌≤◌, ◌∙◌, ℕ, ◌+◌, List, [], ◌∷◌, ◌++◌, length, drop, Some, sym, ap, subst, arith}
use Rattle.std.specs.List.{All, Contains}
use Rattle.std.proofs.lemmas.List.{get_or-drop, length-drop, take-take}
use Rattle.std.proofs.lemmas.List.Elements.{Contains-push}
use Rattle.cell_frames.proofs.Frames.{stands_behind}
use Rattle.cell_frames.proofs.Unlost.{numbered_index}
use Rattle.cell_frames.specs.Joined.{StoreView}
use Rattle.cell_frames.specs.Unlost.{floor_of}
use Rattle.commit_gate.specs.Ledgers.{log_length}
use Rattle.dura_model.specs.Partition.{fresh}
use Rattle.dura_value.specs.Items.{Identity, Entry, Floor}
use Rattle.hub_store.specs.Trail.{of_part}
use Rattle.log_items.specs.Entries.{items_in}
use Rattle.many_logs.specs.Placing.{states_after}
use Rattle.many_rules.specs.Ledgers.{ledgers}
use Rattle.many_rules.specs.Rules.{Rules}
use Rattle.spec_cell.specs.Moves.{IsRewound, IsReset}
use Rattle.spec_cell.specs.Views.{CellView, HasFacts, next_at}
use Rattle.spec_tracker.specs.declared.marks.Marks.{Marks}
use Rattle.trail_states.specs.HaveMade.{HaveMade}
use Rattle.world_laws.proofs.GivenUp.{floor_later, gives_up_cell}
use Rattle.world_laws.proofs.Later.{Later}
use Rattle.world_laws.proofs.Lines.{begin_position, many}
use Rattle.world_laws.specs.Made.{MadeEntry, CellMade}

module _ (rules : Rules) (begun : states_after rules.flows rules.count fresh rules.recovered ≡ Some rules.begin) (made : List MadeEntry) (old new : StoreView) (p : ℕ) (below : p < rules.count) (c after : CellView) (cell : CellMade rules made old p c) (number : c.number ≡ p)
    (trail : new.trail ≡ old.trail) (others : (q : ℕ) → q ≢ p → new.floors q ≡ old.floors q) where
  -- ---- a rewind

  module _ (mine : c.slot.mine ≡ of_part p old.trail) (facts : HasFacts rules.flows rules.count (rules.begin p) c) (have : HaveMade rules old.trail) (marks : Marks) (floor : ℕ) (lost : Identity) (is : IsRewound rules.flows rules.count (rules.begin p) marks c after floor lost)
      (floors : new.floors p ≡ old.floors p ++ floor_of after floor ∷ []) where
    -- the floor is where the first entry stood that was given up
    floor_at : floor ≡ facts.base.position + is.kept
    floor_at = let d : Entry = record { position = 0; incarnation = 0; items = [] } in sym (is.floor_is d) ∙ numbered_index (next_at facts.base) c.entries is.kept d facts.numbered is.inside

    -- no later than those behind it
    from : All (λ e. floor ≤ e.position) (drop is.kept c.entries)
    from k d low =
        let long = length-drop is.kept c.entries in
        let at = numbered_index (next_at facts.base) c.entries (is.kept + k) d facts.numbered (omega (arith, long, low)) in
        let same = ap (λ (e : Entry). e.position) (get_or-drop is.kept c.entries k d) in
        omega (arith, at, same, floor_at)

    -- and not before what is settled ends
    behind : log_length (ledgers rules p (of_part p old.trail)) ≤ floor
    behind =
        let all = many rules begun p below old.trail have in
        let at = (stands_behind rules.flows rules.count c.slot.mine (rules.begin p) facts.base facts.settled).position in
        let first = begin_position rules begun p below in
        let same : length c.slot.mine ≡ length (of_part p old.trail) = ap length mine in
        omega (arith, all, at, first, same, floor_at)

    pub rewound_later : Later rules old new
    rewound_later = floor_later rules old new p (floor_of after floor) trail floors others behind

    pub rewound_cell : CellMade rules made new p after
    rewound_cell =
        let of_p : after.number ≡ p = ap (λ (v : CellView). v.number) is.becomes ∙ number in
        let incarnation : after.incarnation ≡ c.incarnation + 1 = ap (λ (v : CellView). v.incarnation) is.becomes in
        let there : Contains (new.floors p) (floor_of after floor) = subst (λ (f : List Floor). Contains f (floor_of after floor)) (sym floors) (Contains-push (old.floors p) (floor_of after floor)) in
        subst (CellMade rules made new p) (sym is.becomes)
        (gives_up_cell rules made old new p c rewound_later cell is.kept c.out after.given (floor_of after floor) there of_p incarnation from
        (λ item e inside names. rewound_later.ready e (cell.ready item e (subst (λ (l : List Entry). Contains (items_in l) item) (take-take c.out is.kept c.entries is.first.behind) inside) names)))

  -- ---- all is given up

  module _ (is : IsReset (log_length (ledgers rules p (of_part p old.trail))) c after) (floors : new.floors p ≡ old.floors p ++ floor_of after (log_length (ledgers rules p (of_part p old.trail))) ∷ []) where
    pub reset_later : Later rules old new
    reset_later = let same : log_length (ledgers rules p (of_part p old.trail)) ≤ log_length (ledgers rules p (of_part p old.trail)) = omega arith in floor_later rules old new p (floor_of after (log_length (ledgers rules p (of_part p old.trail)))) trail floors others same

    pub reset_cell : CellMade rules made new p after
    reset_cell =
        let one : Floor = floor_of after (log_length (ledgers rules p (of_part p old.trail))) in
        let of_p : after.number ≡ p = ap (λ (v : CellView). v.number) is.becomes ∙ number in
        let incarnation : after.incarnation ≡ c.incarnation + 1 = ap (λ (v : CellView). v.incarnation) is.becomes in
        let there : Contains (new.floors p) one = subst (λ (f : List Floor). Contains f one) (sym floors) (Contains-push (old.floors p) one) in
        subst (CellMade rules made new p) (sym is.becomes)
        (gives_up_cell rules made old new p c reset_later cell is.kept 0 after.given one there of_p incarnation is.behind
        (λ item e inside names. let none : inside.0 < 0 = inside.1 in absurd (omega (arith, none))))
