-- An entry that a turn makes is the call's.
use Rattle.std.proofs.Common.{◌≡◌, ◌≤◌, ℕ, max, true, List, [], ◌∷◌, ◌++◌, Some, None, Option, Ok, sym, ap, subst, ◌∙◌, arith}
use Rattle.std.specs.List.{All}
use Rattle.std.proofs.lemmas.Bool.{eqb-true}
use Rattle.std.proofs.lemmas.List.Elements.{All-append, All-cons, All-nil, All-head}
use Rattle.cell_frames.specs.Ours.{AreOurs, WaitOurs}
use Rattle.cell_steps.proofs.Filled.{filled_by}
use Rattle.cell_steps.proofs.Stamps.{raised_max}
use Rattle.cell_steps.specs.Fills.{Filled}
use Rattle.cell_steps.specs.Fills.Filled.{nothing, puts, lets_go, goes_on}
use Rattle.cell_steps.specs.Possible.{next_round}
use Rattle.cell_steps.specs.declared.mode.Mode.{Mode}
use Rattle.cell_waits.specs.Waits.{Waiting, MayWait}
use Rattle.commit_gate.proofs.Going.{all_front, all_back}
use Rattle.dura_model.proofs.Appending.{placed_both}
use Rattle.dura_model.specs.Entries.{placed}
use Rattle.dura_model.specs.Partition.{Partition}
use Rattle.dura_model.specs.World.{Activity}
use Rattle.dura_value.specs.Items.{Item, Entry, took, got, ran, ended, fired, trim}
use Rattle.dura_value.specs.Reading.{◌>>=◌}
use Rattle.flow_syntax.specs.Syntax.{Flows}
use Rattle.hub_store.specs.Trail.{Said}
use Rattle.log_items.specs.declared.items.Packet.{Packet}
use Rattle.many_rules.specs.Rules.{Rules, IsFrom, IsOurs, rules_at, pairs_of}
use Rattle.part_steps.specs.Enabled.{is_at, stamp_at}
use Rattle.run_rules.specs.Rules.{Told, IsAsked, IsBy}
use Rattle.run_rules.specs.Rules as one
use Rattle.spec_cell.specs.Turns.{MakesEntry}
use Rattle.spec_cell.specs.Views.{CellView, HasFacts}
use Rattle.task_laws.specs.Asked.{WasAsked}

-- ---- items

own_asked : (rules : one.Rules) (told : Told) (item : Item) (stamp : ℕ) → is_at item stamp ≡ true → IsAsked rules told item
own_asked rules told (ran from to at) stamp is = tt
own_asked rules told (fired id task at) stamp is = tt
own_asked rules told (took message) stamp is = absurd (cc is)
own_asked rules told (got source number message) stamp is = tt
own_asked rules told (ended id task outcome) stamp is = tt
own_asked rules told (trim reader number) stamp is = tt

own_by : (top : ℕ) (item : Item) (stamp : ℕ) → stamp ≤ top → is_at item stamp ≡ true → IsBy top item
own_by top (ran from to at) stamp low is = let same = eqb-true at stamp is in omega (arith, low, same)
own_by top (fired id task at) stamp low is = let same = eqb-true at stamp is in omega (arith, low, same)
own_by top (took message) stamp low is = tt
own_by top (got source number message) stamp low is = tt
own_by top (ended id task outcome) stamp low is = tt
own_by top (trim reader number) stamp low is = tt

own_from : (since now : ℕ) (item : Item) (stamp : ℕ) → since ≤ now → now ≤ stamp → is_at item stamp ≡ true → IsFrom since item
own_from since now (ran from to at) stamp first high is = let same = eqb-true at stamp is in omega (arith, first, high, same)
own_from since now (fired id task at) stamp first high is = let same = eqb-true at stamp is in omega (arith, first, high, same)
own_from since now (took message) stamp first high is = tt
own_from since now (got source number message) stamp first high is = tt
own_from since now (ended id task outcome) stamp first high is = tt
own_from since now (trim reader number) stamp first high is = tt

own_was : (flows : Flows) (base : Partition) (item : Item) (stamp : ℕ) → is_at item stamp ≡ true → WasAsked flows base item
own_was flows base (ran from to at) stamp is = tt
own_was flows base (fired id task at) stamp is = tt
own_was flows base (took message) stamp is = tt
own_was flows base (got source number message) stamp is = tt
own_was flows base (ended id task outcome) stamp is = absurd (cc is)
own_was flows base (trim reader number) stamp is = tt

-- what waits has no stamp
wait_by : (top : ℕ) (activity : Option Activity) (item : Item) → MayWait (record { item = item; activity = activity }) → IsBy top item
wait_by top activity (took message) may = tt
wait_by top activity (got source number message) may = tt
wait_by top activity (ended id task outcome) may = tt
wait_by top activity (trim reader number) may = tt
wait_by top None (ran from to stamp) may = absurd may
wait_by top None (fired id task stamp) may = absurd may
wait_by top (Some activity) (ran from to stamp) may = absurd may
wait_by top (Some activity) (fired id task stamp) may = absurd may

wait_from : (since : ℕ) (activity : Option Activity) (item : Item) → MayWait (record { item = item; activity = activity }) → IsFrom since item
wait_from since activity (took message) may = tt
wait_from since activity (got source number message) may = tt
wait_from since activity (ended id task outcome) may = tt
wait_from since activity (trim reader number) may = tt
wait_from since None (ran from to stamp) may = absurd may
wait_from since None (fired id task stamp) may = absurd may
wait_from since (Some activity) (ran from to stamp) may = absurd may
wait_from since (Some activity) (fired id task stamp) may = absurd may

waits_from : (since : ℕ) (waits : List Waiting) → All MayWait waits → All (λ w. IsFrom since w.item) waits
waits_from since waits may = λ k d inside. wait_from since _ _ (may k d inside)

waits_by : (top : ℕ) (waits : List Waiting) → All MayWait waits → All (λ w. IsBy top w.item) waits
waits_by top waits may = λ k d inside. wait_by top _ _ (may k d inside)

-- an entry is filled with what was looked at, and with deliveries and timers of no earlier and no later stamp than these
filled_all : (P : Item → Type 0) (flows : Flows) (count now top : ℕ) (from : Partition) → from.stamp ≤ top → now ≤ top → ((item : Item) (stamp : ℕ) → now ≤ stamp → stamp ≤ top → is_at item stamp ≡ true → P item)
    → {looked : List Waiting} {items : List Item} {p : Partition} → Filled flows count now from looked items p → All (λ w. P w.item) looked → All P items
filled_all P flows count now top from low by own nothing all = All-nil P
filled_all P flows count now top from low by own (puts {looked} {items} {p} {q} before w may is_so is) all =
    All-append P items (w.item ∷ []) (filled_all P flows count now top from low by own before (all_front (λ (v : Waiting). P v.item) looked (w ∷ []) all))
    (All-cons P w.item [] (All-head (λ (v : Waiting). P v.item) w [] (all_back (λ (v : Waiting). P v.item) looked (w ∷ []) all)) (All-nil P))
filled_all P flows count now top from low by own (lets_go {looked} {items} {p} before w cant) all = filled_all P flows count now top from low by own before (all_front (λ (v : Waiting). P v.item) looked (w ∷ []) all)
filled_all P flows count now top from low by own (goes_on {looked} {items} {p} {q} before item at is) all =
    let stamp : p.stamp ≤ max from.stamp now = filled_by flows count now before in
    let raised : stamp_at p now ≡ max p.stamp now = raised_max p now in
    All-append P items (item ∷ []) (filled_all P flows count now top from low by own before all) (All-cons P item [] (own item (stamp_at p now) (omega (arith, raised)) (omega (arith, stamp, raised, low, by)) at) (All-nil P))

-- ---- the entry

module _ (rules : Rules) (latest : ℕ) (told : List Said) (mode : Mode) (limit : ℕ) (old : CellView) (position : ℕ) (packets : List Packet) (facts : HasFacts rules.flows rules.count (rules.begin old.number) old) (first : rules.incarnations old.number ≤ old.incarnation) (limit_is : limit ≤ rules.most) (since : rules.since ≤ old.now) (now : old.now ≤ latest)
    (ours : AreOurs rules latest told old) (waits : WaitOurs rules told old) (new : CellView) (makes : MakesEntry rules.flows rules.count (rules.begin old.number) mode limit old new position packets) where
  abbrev begin : Partition
  begin = rules.begin old.number

  abbrev top : ℕ
  top = max begin.stamp latest

  ahead_is : makes.is_begun.ahead ≡ facts.ahead
  ahead_is =
      let both : Ok makes.is_begun.ahead ≡ Ok facts.ahead =
      sym makes.is_begun.is_ahead ∙ placed_both rules.flows rules.count begin old.slot.mine old.entries ∙ ap (λ r. r >>= λ q. placed rules.flows rules.count q old.entries) facts.settled ∙ facts.made in
      cc both

  low : makes.begun.stamp ≤ top
  low =
      let by = facts.by in
      let same : makes.is_begun.ahead.stamp ≡ facts.ahead.stamp = ap (λ (p : Partition). p.stamp) ahead_is in
      let entered : makes.begun.stamp ≡ makes.is_begun.ahead.stamp = ap (λ (p : Partition). p.stamp) makes.is_begun.entered in
      omega (arith, by, same, entered, now)

  -- of what waits the first were looked at
  looked_of : (P : Waiting → Type 0) → All P old.waits → All P makes.looked
  looked_of P all = all_front P makes.looked makes.rest (subst (All P) makes.left all)

  rest_of : (P : Waiting → Type 0) → All P old.waits → All P makes.rest
  rest_of P all = all_back P makes.looked makes.rest (subst (All P) makes.left all)

  all_items : (P : Item → Type 0) → ((item : Item) (stamp : ℕ) → old.now ≤ stamp → stamp ≤ top → is_at item stamp ≡ true → P item) → All (λ w. P w.item) old.waits → All P makes.entry.items
  all_items P own all = filled_all P rules.flows rules.count old.now top makes.begun low (omega (arith, now)) own makes.filled (looked_of (λ (w : Waiting). P w.item) all)

  -- its deliveries and timers are of no earlier stamp than the cell's moment
  pub one_fresh : (low : ℕ) → low ≤ old.now → All (IsFrom low) makes.entry.items
  one_fresh low by = all_items (IsFrom low) (λ item stamp high top at. own_from low old.now item stamp by high at) (waits_from low old.waits facts.waits)

  one_more : IsOurs rules latest (pairs_of told) old.number makes.entry
  one_more = record {
    incarnation = let same = makes.made_by in omega (arith, first, same);
    some = makes.some;
    few = let few = makes.few in omega (arith, few, limit_is);
    asked = λ serves. all_items (IsAsked (rules_at rules old.number) (pairs_of told)) (λ item stamp high by at. own_asked (rules_at rules old.number) (pairs_of told) item stamp at) (waits.asked serves);
    since = one_fresh rules.since since;
    timely = all_items (IsBy top) (λ item stamp high by at. own_by top item stamp by at) (waits_by top old.waits facts.waits);
  }

  abbrev Were : Partition → Entry → Type 0
  Were base entry = All (WasAsked rules.flows base) entry.items

  abbrev after : CellView
  after = record old { entries = old.entries ++ makes.entry ∷ []; waits = makes.rest; round = next_round old.round }

  still_ours : AreOurs rules latest told after
  still_ours = record {
    ours = All-append (IsOurs rules latest (pairs_of told) old.number) old.entries (makes.entry ∷ []) ours.ours (All-cons (IsOurs rules latest (pairs_of told) old.number) makes.entry [] one_more (All-nil (IsOurs rules latest (pairs_of told) old.number)));
    run = λ base is serves.
        All-append (Were base) old.entries (makes.entry ∷ []) (ours.run base is serves)
        (All-cons (Were base) makes.entry [] (all_items (WasAsked rules.flows base) (λ item stamp high by at. own_was rules.flows base item stamp at) (waits.run base is serves)) (All-nil (Were base)));
  }

  still_wait : WaitOurs rules told after
  still_wait = record {
    asked = λ serves. rest_of (λ (w : Waiting). IsAsked (rules_at rules old.number) (pairs_of told) w.item) (waits.asked serves);
    run = λ base is serves. rest_of (λ (w : Waiting). WasAsked rules.flows base w.item) (waits.run base is serves);
  }

  pub made_ours : AreOurs rules latest told new × WaitOurs rules told new
  made_ours = (subst (AreOurs rules latest told) (sym makes.becomes) still_ours, subst (WaitOurs rules told) (sym makes.becomes) still_wait)
