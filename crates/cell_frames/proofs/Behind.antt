-- A frame goes behind what its log has, and what it sends goes to partitions that there are.
use Rattle.std.proofs.Common.{◌≡◌, ◌<◌, ◌≤◌, ℕ, zero, suc, ◌+◌, ◌-◌, ◌^◌, List, [], ◌∷◌, map, take, drop, refl, sym, ap, subst, ◌∙◌, append-nil, arith, Some}
use Rattle.std.specs.List.{All, flat_map, range_with_len}
use Rattle.std.proofs.lemmas.List.{take-append-drop}
use Rattle.std.proofs.lemmas.List.Concat.{flat_map-cons}
use Rattle.std.proofs.lemmas.List.Elements.{All-append, All-cons, All-nil, All-head, All-tail}
use Rattle.cell_frames.specs.Begun.{GoesOnAt}
use Rattle.cell_packets.specs.Packets.{sent_to, sent_from, ends_of}
use Rattle.commit_gate.proofs.Going.{all_back}
use Rattle.commit_gate.specs.Keeping.{IsOfOne, AreOfOne}
use Rattle.commit_gate.specs.Views.{all_sent}
use Rattle.commit_gate.specs.declared.ledger.Sending.{Sending}
use Rattle.dura_model.specs.Partition.{Partition}
use Rattle.dura_model.proofs.EntriesSend.{entries_send}
use Rattle.dura_model.specs.Sends.{IsOfOthers}
use Rattle.dura_value.specs.Items.{Item, Entry, Posted, took, got, ran, ended, fired, trim}
use Rattle.flow_syntax.specs.Syntax.{Flows}
use Rattle.hub_store.specs.Frames.{goes_on, GoesBehind}
use Rattle.hub_store.specs.Origin.{Log, Origin}
use Rattle.hub_store.specs.Trail.{Said}
use Rattle.log_items.specs.Entries.{items_in}
use Rattle.log_items.specs.Streams.{Outbox, Sent}
use Rattle.many_logs.specs.Labels.{state_next}
use Rattle.many_rules.proofs.GateMoments.{goes_behind}
use Rattle.many_rules.specs.Local.{in_turn}
use Rattle.many_rules.specs.Makes.{Makes}
use Rattle.many_rules.specs.Rules.{Rules}
use Rattle.part_items.proofs.Behind.{behind_both}
use Rattle.part_items.proofs.NumberedFrames.{numbered_again}
use Rattle.part_items.proofs.Writable.{frame_writable}
use Rattle.part_items.specs.ItemFits.{FitsItem, FitsEntry, FitsFrame}
use Rattle.part_items.specs.Kept.{first_of}
use Rattle.part_items.specs.Numbered.{Next, behind_all, IsNumbered}
use Rattle.spec_cell.specs.Picks.{HasPicked}
use Rattle.spec_cell.specs.Views.{CellView}
use Rattle.spec_tracker.specs.declared.marks.Marks.{Marks}

-- ---- where it goes

-- behind the same entries a log goes on where a state does, if it did before them
at_behind : (log state : Next) (entries : List Entry) → GoesOnAt log state → GoesOnAt (behind_all log entries) (behind_all state entries)
at_behind log state [] goes = goes
at_behind log state (entry ∷ entries) goes = record { position = refl; incarnation = omega arith }

-- what stands where the state goes on stands where the log does
numbered_there : (log state : Next) (entries : List Entry) → GoesOnAt log state → IsNumbered state entries → IsNumbered log entries
numbered_there log state [] goes numbered = tt
numbered_there log state (entry ∷ entries) goes numbered =
    let later = numbered.1 in
    let before = goes.incarnation in
    (numbered.0 ∙ sym goes.position, omega (arith, later, before), numbered.2)

goes_on_then : (log : Log) (mine : List Entry) → goes_on log mine ≡ behind_all (goes_on log []) mine
goes_on_then log mine =
    behind_both (first_of log.header) log.entries mine
    ∙ ap (λ (l : List Entry). behind_all (behind_all (first_of log.header) l) mine) (sym (append-nil log.entries))

pub goes_there : (o : Origin) (rules : Rules) (latest : ℕ) (mine : List Entry) (told : List Said) (partition : ℕ) (going : List Entry) → GoesOnAt (goes_on (o.logs partition) []) (state_next (rules.begin partition))
    → IsNumbered (state_next (rules.begin partition)) mine → Makes rules latest mine told partition going → FitsFrame going → GoesBehind (goes_on (o.logs partition) mine) going
goes_there o rules latest mine told partition going goes numbered makes fits =
    let log = o.logs partition in
    let state = state_next (rules.begin partition) in
    let stands : state_next makes.before ≡ behind_all state mine = goes_behind rules.flows rules.count mine (rules.begin partition) makes.before makes.made numbered in
    let there : IsNumbered (goes_on log mine) going =
    subst (λ (n : Next). IsNumbered n going) (sym (goes_on_then log mine))
    (numbered_there (behind_all (goes_on log []) mine) (behind_all state mine) going (at_behind (goes_on log []) state mine goes) (subst (λ (n : Next). IsNumbered n going) stands makes.numbered)) in
    record { spells = frame_writable going fits; again = numbered_again (goes_on log mine) going there fits }

-- ---- what comes in by it

fit_items : (entries : List Entry) → All FitsEntry entries → All FitsItem (items_in entries)
fit_items [] fits = All-nil FitsItem
fit_items (entry ∷ entries) fits =
    subst (All FitsItem) (sym (flat_map-cons (λ (e : Entry). e.items) entry entries)) (All-append FitsItem entry.items (items_in entries) (All-head FitsEntry entry entries fits).each (fit_items entries (All-tail FitsEntry entry entries fits)))

of_one : (count partition : ℕ) (item : Item) → IsOfOthers count partition item → FitsItem item → IsOfOne count item
of_one count partition (got source number message) others fits = let low : number < 2 ^ 63 = fits.1 in (others.below, omega (arith, low))
of_one count partition (trim reader number) others fits = others.below
of_one count partition (took message) others fits = tt
of_one count partition (ran from to stamp) others fits = tt
of_one count partition (ended id task outcome) others fits = tt
of_one count partition (fired id task stamp) others fits = tt

pub are_of_one : (rules : Rules) (latest : ℕ) (mine : List Entry) (told : List Said) (partition : ℕ) (going : List Entry) → Makes rules latest mine told partition going → FitsFrame going → AreOfOne rules.count (items_in going)
are_of_one rules latest mine told partition going makes fits =
    let s = entries_send rules.flows rules.count partition makes.below makes.before makes.after going makes.number (in_turn (state_next makes.before) going makes.numbered) makes.accepted in
    let fit = fit_items going fits.each in
    λ k d inside. of_one rules.count partition _ (s.inside k d inside) (fit k d inside)

-- ---- what it sends

abbrev Inside : ℕ → Sent → Type 0
Inside count one = one.to < count

all_to : (count target : ℕ) → target < count → (posts : List Posted) → All (Inside count) (map (sent_to target) posts)
all_to count target low [] = All-nil (Inside count)
all_to count target low (post ∷ posts) = All-cons (Inside count) (sent_to target post) (map (sent_to target) posts) low (all_to count target low posts)

from_inside : (count target from : ℕ) (box : Outbox) → target < count → All (Inside count) (sent_from target from box)
from_inside count target from box low =
    let all = map (sent_to target) box.messages in
    let n = from - box.first in
    all_back (Inside count) (take n all) (drop n all) (subst (All (Inside count)) (sym (take-append-drop n all)) (all_to count target low box.messages))

range_inside : (count : ℕ) (from : ℕ → ℕ) (boxes : ℕ → Outbox) (a n : ℕ) → a + n ≤ count → All (Inside count) (flat_map (λ target. sent_from target (from target) (boxes target)) (range_with_len a n))
range_inside count from boxes a zero low = All-nil (Inside count)
range_inside count from boxes a (suc n) low =
    let rest = flat_map (λ target. sent_from target (from target) (boxes target)) (range_with_len (a + 1) n) in
    subst (All (Inside count)) (sym (flat_map-cons (λ target. sent_from target (from target) (boxes target)) a (range_with_len (a + 1) n)))
    (All-append (Inside count) (sent_from a (from a) (boxes a)) rest (from_inside count a (from a) (boxes a) (omega (arith, low))) (range_inside count from boxes (a + 1) n (omega (arith, low))))

pub picked_inside : (flows : Flows) (count : ℕ) (begin : Partition) (marks : Marks) (old new : CellView) (frame : List Entry) (sending : List Sending) → HasPicked flows count begin marks old frame sending new → All (Inside count) (all_sent sending)
picked_inside flows count begin marks old new frame sending picked =
    let sends = picked.sends in
    subst (All (Inside count)) (sym sends.sends) (range_inside count (ends_of (Some sends.base.outboxes)) sends.behind.outboxes 0 count (omega arith))
