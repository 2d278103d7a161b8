-- A frame under way passes its gate. Each entry that it names is ready since it was picked; so that entry, which was made in this life or
-- recovered, stands among what is settled, and what it sent stands in its stream, of which nothing was let go that the frame's
-- partition has not taken in.
use Rattle.std.proofs.Common.{◌≡◌, inl, inr, ◌<◌, ◌≤◌, ◌∙◌, false, ℕ, ◌+◌, ◌==◌, cond, Bool, true, List, [], ◌∷◌, ◌++◌, length, take, Some, None, Ok, refl, sym, ap, subst, arith, slice_get, length-append}
use Rattle.std.specs.List.{All, Contains}
use Rattle.std.proofs.lemmas.Bool.{eqb-true}
use Rattle.std.proofs.lemmas.List.Elements.{All-nil, All-cons, All-contains}
use Rattle.cell_frames.specs.Joined.{Joined, read_by}
use Rattle.cell_frames.specs.TrimsRead.{IsReadBy}
use Rattle.commit_gate.specs.Ledgers.{Ledger, log_length}
use Rattle.commit_gate.specs.Met.{HasPosted, IsMet}
use Rattle.commit_gate.specs.Refused.{Names, IsNotReady, IsMistaken, Refuses, RefusesFirst}
use Rattle.commit_gate.specs.Refused.Names.{by_got}
use Rattle.commit_gate.specs.declared.unmet.Unmet.{Unmet}
use Rattle.commit_gate.specs.declared.unmet.Unmet.TheVariants as unmet
use Rattle.dura_model.specs.Entries.{placed}
use Rattle.dura_value.specs.Dependencies.{Lost}
use Rattle.dura_value.specs.Items.{Identity, Item, Entry, took, got, ran, ended, fired, trim}
use Rattle.dura_value.specs.Messages.{Message}
use Rattle.gated_store.specs.Follows.{ledgers_at}
use Rattle.gated_store.specs.Kept.{IsMade}
use Rattle.hub_store.specs.Trail.{of_part}
use Rattle.log_items.specs.Entries.{items_in}
use Rattle.log_items.specs.Readings.{with_next, ReadOn}
use Rattle.many_logs.specs.Placing.{of_partition}
use Rattle.many_rules.proofs.Meeting.{below_or}
use Rattle.many_rules.specs.Ledgers.{ledgers}
use Rattle.many_rules.specs.Local.{goes_on, outside}
use Rattle.many_rules.specs.Makes.{Makes}
use Rattle.many_rules.specs.Rules.{Rules}
use Rattle.spec_cell.specs.Views.{CellView}
use Rattle.world_core.specs.World.{WorldView, Stands}
use Rattle.world_laws.proofs.Lines.{shows, many, stays_settled}
use Rattle.world_laws.proofs.Lists.{fronts, there_is, among, front_items}
use Rattle.world_laws.specs.Made.{MadeEntry, line_of, name_of, BeginsWith, IsReadyIn, IsSent, IsTrue, AreMade, IsGrounded}

-- ---- what comes in comes from where its stream was taken in so far

abbrev ComesFrom : (ℕ → ℕ) → Item → Type 0
ComesFrom nexts (got source number message) = nexts source.partition ≤ number
ComesFrom nexts other = Unit {0}

rises : (nexts : ℕ → ℕ) (source next other : ℕ) (test : Bool) → (source == other) ≡ test → nexts source ≤ next → nexts other ≤ cond test next (nexts other)
rises nexts source next other true is low = subst (λ (k : ℕ). nexts k ≤ next) (eqb-true source other is) low
rises nexts source next other false is low = omega arith

come_from : (low nexts : ℕ → ℕ) (items : List Item) → ((source : ℕ) → low source ≤ nexts source) → ReadOn nexts items → All (ComesFrom low) items
come_from low nexts [] above reads = All-nil (ComesFrom low)
come_from low nexts (got from number message ∷ items) above reads =
    let here = above from.partition in
    All-cons (ComesFrom low) (got from number message) items (omega (arith, reads.0, here))
    (come_from low (with_next nexts from.partition (number + 1)) items
    (λ source. let one = rises nexts from.partition (number + 1) source (from.partition == source) refl (omega (arith, reads.0)) in let low_one = above source in omega (arith, one, low_one)) reads.1)
come_from low nexts (took message ∷ items) above reads = All-cons (ComesFrom low) (took message) items tt (come_from low nexts items above reads)
come_from low nexts (ran from to stamp ∷ items) above reads = All-cons (ComesFrom low) (ran from to stamp) items tt (come_from low nexts items above reads)
come_from low nexts (ended id task outcome ∷ items) above reads = All-cons (ComesFrom low) (ended id task outcome) items tt (come_from low nexts items above reads)
come_from low nexts (fired id task stamp ∷ items) above reads = All-cons (ComesFrom low) (fired id task stamp) items tt (come_from low nexts items above reads)
come_from low nexts (trim reader number ∷ items) above reads = All-cons (ComesFrom low) (trim reader number) items tt (come_from low nexts items above reads)

module _ (rules : Rules) (made : List MadeEntry) (w : WorldView) (on : w.ended ≡ false) (stands : Stands rules w) (ground : IsGrounded rules w) (are : AreMade rules made w) where
  abbrev ledger : ℕ → Ledger
  ledger = ledgers_at (ledgers rules) w.store.trail

  -- each partition has a cell
  pub cell_at : (p : ℕ) → p < rules.count → (c : CellView) × (slice_get w.cells p ≡ Some c)
  cell_at p below = there_is w.cells p (let long = stands.many in omega (arith, long, below))

  -- what is settled is of a partition that there is
  pub settled_below : (q position : ℕ) → position < log_length (ledger q) → q < rules.count
  settled_below q position settled = elim (below_or q rules.count) [
    | inl low ↦ low
    | inr past ↦ absurd (let none : log_length (ledger q) ≡ 0 = ap log_length (outside rules q (of_part q w.store.trail) past) in omega (arith, none, settled))
  ]

  -- ---- what a ready entry sent stands in its stream

  module _ (source : Identity) (ready : IsReadyIn rules w.store source) where
    here : source.partition < rules.count
    here = settled_below source.partition source.position ready.settled

    -- an entry that was made and is ready is settled where it was made
    stands_settled : (one : MadeEntry) → Contains made one → name_of one ≡ source → BeginsWith (of_part source.partition w.store.trail) (line_of one)
    stands_settled one there name =
        let cell = cell_at source.partition here in
        let at : one.partition ≡ source.partition = ap (λ (e : Identity). e.partition) name in
        let mine : cell.0.slot.mine ≡ of_part source.partition w.store.trail = (stands.joined on source.partition cell.0 cell.1).1.goes.mine in
        elim ((are.cells source.partition cell.0 cell.1).fate one there at) [
          | inl begins ↦
              let position : one.entry.position ≡ source.position = ap (λ (e : Identity). e.position) name in
              let behind : one.entry.position ≡ length (of_partition source.partition rules.recovered) + length one.front = subst (λ (k : ℕ). one.entry.position ≡ length (of_partition k rules.recovered) + length one.front) at (are.numbered one there) in
              let all : log_length (ledger source.partition) ≡ length (of_partition source.partition rules.recovered) + length (of_part source.partition w.store.trail) = many rules ground.begun source.partition here w.store.trail ground.have in
              let long = length-append one.front (one.entry ∷ []) in
              let settled = ready.settled in
              let same : of_part source.partition w.store.trail ++ cell.0.entries ≡ line_of one ++ begins.0 = ap (λ (l : List Entry). l ++ cell.0.entries) (sym mine) ∙ begins.1 in
              fronts (of_part source.partition w.store.trail) cell.0.entries (line_of one) begins.0 same (omega (arith, position, behind, all, long, settled))
          | inr lost ↦ absurd (ready.kept (subst (λ (e : Identity). Lost (w.store.floors source.partition) e) name lost))
        ]

    posted : (target number : ℕ) (message : Message) → ((ground.have.states source.partition).outboxes target).first ≤ number → IsSent rules made source target number message
        → HasPosted ((ground.have.states source.partition).outboxes target) number (record { entry = source; message = message })
    posted target number message low sent = elim sent [
      | inl was ↦
          let at : was.one.partition ≡ source.partition = ap (λ (e : Identity). e.partition) was.name in
          let begins = stands_settled was.one was.there was.name in
          stays_settled rules ground.begun source.partition here w.store.trail ground.have (line_of was.one) begins.0 was.sent.after target number (record { entry = source; message = message }) begins.1
          (subst (λ (k : ℕ). placed rules.flows rules.count (rules.begin k) (line_of was.one) ≡ Ok was.sent.after) at was.sent.makes) low (subst (λ (e : Identity). HasPosted (was.sent.after.outboxes target) number (record { entry = e; message = message })) was.name was.sent.posted)
      | inr first ↦ stays_settled rules ground.begun source.partition here w.store.trail ground.have [] (of_part source.partition w.store.trail) (rules.begin source.partition) target number (record { entry = source; message = message }) refl refl low first
    ]

  -- ---- an item of the frame that is under way is met

  module _ (p : ℕ) (below : p < rules.count) (going : List Entry) (frame : w.store.going p ≡ Some going) where
    makes : Makes rules w.store.latest (of_part p w.store.trail) w.store.told p going
    makes = subst (IsMade (Makes rules) w.store.latest (of_part p w.store.trail) w.store.told p) frame (ground.frames p below)

    -- it is what the cell has out
    out_of : (c : CellView) → Joined rules w.store p c → take c.out c.entries ≡ going
    out_of c joined = elim (below_or 0 c.out) [
      | inl some ↦ let both : Some (take c.out c.entries) ≡ Some going = sym (joined.out.goes some) ∙ frame in cc
      | inr none ↦
          let rests : w.store.going p ≡ None = (joined.out.rests (omega (arith, none))).1 in
          absurd (let both : None ≡ Some going = sym rests ∙ frame in cc)
    ]

    -- what it takes in comes from where the stream was taken in so far, and so from what its sender's stream has still
    from_first : (source : Identity) (number : ℕ) (message : Message) → source.partition < rules.count → Contains (items_in going) (got source number message) → ((ground.have.states source.partition).outboxes p).first ≤ number
    from_first source number message there inside =
        let reads : ReadOn (ledger p).nexts (items_in going) = (goes_on rules w.store.latest (of_part p w.store.trail) w.store.told p going makes).1.reads in
        let from : (ledger p).nexts source.partition ≤ number = All-contains (ComesFrom (ledger p).nexts) (items_in going) (got source number message) (come_from (ledger p).nexts (ledger p).nexts (items_in going) (λ other. omega arith) reads) inside in
        let same : (ledger p).nexts source.partition ≡ ((ground.have.states p).inboxes source.partition).next = ap (λ (l : Ledger). l.nexts source.partition) (shows rules ground.begun p below w.store.trail ground.have) in
        let first = (ground.have.shown.readers source.partition p there below).from_first in
        omega (arith, from, same, first)

    met : (c : CellView) → Joined rules w.store p c → (item : Item) → Contains (items_in c.entries) item → Contains (items_in going) item → ((e : Identity) → Names item e → IsReadyIn rules w.store e) → IsTrue rules made w.store p item → IsMet ledger p item
    met c joined (got source number message) held inside ready true_is =
        let at = ready source by_got in
        let there = settled_below source.partition source.position at.settled in
        let has = posted source at p number message (from_first source number message there inside) true_is in
        subst (λ (l : Ledger). HasPosted (l.boxes p) number (record { entry = source; message = message })) (sym (shows rules ground.begun source.partition there w.store.trail ground.have)) has
    met c joined (trim reader number) held inside ready true_is = (All-contains (IsReadBy (read_by rules w.store p)) (items_in c.entries) (trim reader number) joined.goes.read.held held, true_is)
    met c joined (took message) held inside ready true_is = tt
    met c joined (ran from to stamp) held inside ready true_is = tt
    met c joined (ended id task outcome) held inside ready true_is = tt
    met c joined (fired id task stamp) held inside ready true_is = tt

    -- so none is refused
    none_refused : (item : Item) (why : Unmet) → Contains (items_in going) item → Refuses ledger w.store.floors p item why → ⊥
    none_refused item why inside refuses =
        let cell = cell_at p below in
        let joined = (stands.joined on p cell.0 cell.1).1 in
        let made_in = are.cells p cell.0 cell.1 in
        let out : Contains (items_in (take cell.0.out cell.0.entries)) item = subst (λ (l : List Entry). Contains (items_in l) item) (sym (out_of cell.0 joined)) inside in
        let held = front_items cell.0.out cell.0.entries item out in
        let ready : (e : Identity) → Names item e → IsReadyIn rules w.store e = λ e names. made_in.ready item e out names in
        let is_met = met cell.0 joined item held inside ready (All-contains (IsTrue rules made w.store p) (items_in cell.0.entries) item made_in.holds held) in
        elim refuses.refused [
          | inl not ↦ not_ready why refuses.e (ready refuses.e refuses.names) not
          | inr mistaken ↦ not_mistaken why refuses.e mistaken is_met
        ]
      where
        not_ready : (why : Unmet) (e : Identity) → IsReadyIn rules w.store e → IsNotReady ledger w.store.floors e why → ⊥
        not_ready (unmet.Lost dep from) e ready not = ready.kept (record { floor = not.1.floor; there = not.1.there; partition = not.1.partition; later = not.1.later; below = omega (arith, not.1.below, not.1.from_is) })
        not_ready (unmet.NotReady dep have) e ready not = let settled = ready.settled in let short = not.3 in let is = not.2 in absurd (omega (arith, settled, short, is))
        not_ready (unmet.Differs dep) e ready not = not

        not_mistaken : (why : Unmet) (e : Identity) → IsMistaken ledger w.store.floors p item e why → IsMet ledger p item → ⊥
        not_mistaken (unmet.Lost dep from) e mistaken is_met = mistaken
        not_mistaken (unmet.NotReady dep have) e mistaken is_met = mistaken
        not_mistaken (unmet.Differs dep) e mistaken is_met = mistaken.2 is_met

    pub passes : (why : Unmet) → RefusesFirst ledger w.store.floors p (items_in going) why → ⊥
    passes why refuses = none_refused refuses.item why (subst (λ (l : List Item). Contains l refuses.item) (sym refuses.split) (among refuses.before refuses.item refuses.behind)) refuses.refuses
