-- How long a log would be with a frame.
use Rattle.std.proofs.Common.{◌≡◌, ◌≢◌, true, false, ℕ, zero, suc, ◌+◌, ◌-◌, max, ◌<◌, ◌≤◌, List, length, Result, Ok, Err, ◌∙◌, ap, subst, arith}
use Rattle.std.specs.Prelude.{◌==◌}
use Rattle.std.proofs.Math.ListN.{set}
use Rattle.std.proofs.lemmas.List.{get_or-set_same}
use Rattle.commit_log.specs.declared.states.BrokenBody.{BrokenBody}
use Rattle.commit_log.specs.declared.states.BrokenGate.{BrokenGate}
use Rattle.commit_log.specs.declared.states.Resting.{Resting}
use Rattle.dura_value.specs.Items.{Entry}
use Rattle.log_items.specs.declared.frames.Entry as rows
use Rattle.part_items.specs.Spelling.{spell_frame}
use Rattle.hub_store.specs.declared.refusal.Unwritten.{Unwritten}
use Rattle.hub_store.specs.declared.refusal.Unwritten.TheVariants.{Full, SiteFault, Memory}
use Rattle.hub_store.specs.declared.refusal.Refusal.{Refusal}
use Rattle.hub_store.specs.declared.refusal.Refusal.TheVariants as refusals
use Rattle.hub_store.specs.declared.refusal.SayError.{SayError}
use Rattle.hub_store.specs.declared.refusal.SayError.TheVariants as unsaid
use Rattle.hub_store.specs.declared.reopen.Reopening.{Reopening}
use Rattle.hub_store.specs.declared.reopen.Reopening.TheVariants as answers
use Rattle.hub_store.specs.declared.way.Way.{Way}
use Rattle.hub_store.specs.declared.way.Way.TheVariants as places
use Rattle.hub_store.specs.Frames.{length_with}
use Rattle.hub_store.specs.Ways.{way_of}

-- where it comes to the limit it is full
pub full_of : {T : Type 0} (way : Way) (log : Resting) (going : List Entry) (payload : List ℕ) (limit part : ℕ) (frame : List rows.Entry) (result : Result T Unwritten) → places.Resting log ≡ way → payload ≡ spell_frame going
    → (limit ≤ log.gate + 6 + length payload → result ≡ Err (Full part (log.gate + 6 + length payload) frame)) → limit ≤ length_with way going → result ≡ Err (Full part (length_with way going) frame)
full_of {T} way log going payload limit part frame result way_is payload_is full =
    subst (λ (w : Way). limit ≤ length_with w going → result ≡ Err (Full part (length_with w going) frame)) way_is
    (subst (λ (bytes : List ℕ). limit ≤ log.gate + 6 + length bytes → result ≡ Err (Full part (log.gate + 6 + length bytes) frame)) payload_is full)

pub length_is : (way : Way) (log : Resting) (going : List Entry) (payload : List ℕ) (n : ℕ) → places.Resting log ≡ way → payload ≡ spell_frame going → n ≡ log.gate + 6 + length payload → n ≡ length_with way going
length_is way log going payload n way_is payload_is is = is ∙ ap (λ (bytes : List ℕ). log.gate + 6 + length bytes) payload_is ∙ ap (λ (w : Way). length_with w going) way_is

-- a way that was put in
pub way_put : (ways new : List Way) (p : ℕ) (way : Way) → new ≡ set ways p way → p < length ways → way_of new p ≡ way
way_put ways new p way is below = ap (λ (l : List Way). way_of l p) is ∙ get_or-set_same ways p way places.Away below

-- a log that rests is there
pub rests_there : (log : Resting) → places.Resting log ≢ places.Away
rests_there log is = cc

-- answers that differ
pub true_apart : true ≡ false → ⊥
true_apart is = cc

pub full_memory : {T : Type 0} (result : Result T Unwritten) (of n : ℕ) (one other : List rows.Entry) → result ≡ Err (Full of n one) → result ≡ Err (Memory other) → ⊥
full_memory result of n one other full memory = cc

pub full_fault : {T : Type 0} (result : Result T Unwritten) (of n : ℕ) (one : List rows.Entry) → result ≡ Err (Full of n one) → result ≡ Err SiteFault → ⊥
full_fault result of n one full fault = cc

pub memory_fault : {T : Type 0} (result : Result T Unwritten) (one : List rows.Entry) → result ≡ Err (Memory one) → result ≡ Err SiteFault → ⊥
memory_fault result one memory fault = cc

-- the same answer has the same frame
pub same_memory : {T : Type 0} (result : Result T Unwritten) (one other : List rows.Entry) → result ≡ Err (Memory one) → result ≡ Err (Memory other) → other ≡ one
same_memory result one other here there = cc

pub fault_no_frame : {T : Type 0} (result : Result T Refusal) → result ≡ Err refusals.SiteFault → result ≡ Err refusals.NoFrame → ⊥
fault_no_frame result fault none = cc

pub dropped_settled : {E : Type 0} (result : Result Reopening E) → result ≡ Ok answers.Dropped → result ≡ Ok answers.Settled → ⊥
dropped_settled result dropped settled = cc

pub unsaid_apart : {T : Type 0} (result : Result T SayError) → result ≡ Err unsaid.SayFault → result ≡ Err unsaid.Memory → ⊥
unsaid_apart result fault memory = cc

-- a place among as many as there are
pub within : (p n count : ℕ) → n ≡ count → p < count → p < n
within p n count is below = omega arith

pub untried_there : (log : BrokenBody) (frame : List rows.Entry) → places.BrokenBody log frame ≢ places.Away
untried_there log frame is = cc

pub tried_there : (log : BrokenGate) (frame : List rows.Entry) → places.BrokenGate log frame ≢ places.Away
tried_there log frame is = cc

-- ---- frames under way, and the trail's room for them

pub grown_due : (due old more was : ℕ) → 0 ≡ was → more ≡ due → due + old ≡ (old + more) + was
grown_due due old more was none is = omega arith

pub less_due : (old len frame was : ℕ) → frame ≡ was → was ≤ old → len ≡ frame → 0 + old ≡ (old - len) + was
less_due old len frame was dues enough size = omega arith

pub less_room : (old len frame was before now room all : ℕ) → frame ≡ was → was ≤ old → len ≡ frame → before + old ≤ room → now ≡ before + frame → all ≡ room → now + (old - len) ≤ all
less_room old len frame was before now room all dues enough size fits grown same = omega arith

pub still_room : (before old len room : ℕ) → before + old ≤ room → before + (old - len) ≤ room
still_room before old len room fits = omega arith

pub some_left : (n : ℕ) → (n == 0) ≡ false → 0 < n
some_left zero is = absurd (true_apart is)
some_left (suc n) is = omega arith

pub room_for : (before left had frame room all : ℕ) → before + left ≡ had + frame → room ≡ all → had + frame ≤ all → 0 < left → before < room
room_for before left had frame room all len same fits some = omega arith

-- ---- how far a log reaches

pub reach_next : (gate next then : ℕ) → then ≡ next → then + 1 ≤ max gate next + 1
reach_next gate next then is = omega arith

pub reach_same : (gate next at then : ℕ) → at ≡ gate → then ≡ next → max at then + 1 ≤ max gate next + 1
reach_same gate next at then is also = omega arith

pub reach_is : (gate next at then : ℕ) → at ≡ gate → then ≡ next → max at then + 1 ≡ max gate next + 1
reach_is gate next at then is also = omega arith
