-- One cell among all becomes another.
use Rattle.std.proofs.Common.{◌≡◌, ◌≢◌, ◌<◌, ◌≤◌, ◌∙◌, inl, inr, true, false, Bool, ℕ, max, List, ◌++◌, length, Some, Result, Ok, Err, IfOk, OnOk, is_ok, sym, refl, subst, ap, arith, slice_get, slice_set, get_or}
use Rattle.std.proofs.lemmas.Bool.{cases_eq}
use Rattle.std.proofs.lemmas.Option.{slice_get_read}
use Rattle.std.specs.List.{Contains}
use Rattle.cell_frames.proofs.ByItself.{fired_joined, heard_joined, trims_joined}
use Rattle.cell_frames.proofs.Frames.{stands_behind}
use Rattle.cell_frames.specs.Joined.{StoreView, Joined, read_by}
use Rattle.cell_frames.specs.Writes.{KeepsOthers}
use Rattle.gated_store.proofs.Fitting.{at_same, at_other}
use Rattle.many_logs.proofs.Own.{own_chain}
use Rattle.many_logs.specs.Placing.{states_after, of_partition}
use Rattle.many_rules.specs.Rules.{Rules}
use Rattle.dura_model.specs.Partition.{Partition, fresh}
use Rattle.spec_cell.specs.Views.{CellView, IsAhead}
use Rattle.spec_tracker.specs.declared.marks.Marks.{Marks}
use Rattle.spec_tracker.specs.declared.marks.Read.{Read}
use Rattle.world_steps.specs.Cells.{CellBecomes}
use Rattle.world_steps.specs.Comes.{TrimsAt}
use Rattle.world_steps.specs.Cells.{AllJoined}

-- the store changed too, in what joins it to this one
pub set_joined : (rules : Rules) (old new : StoreView) (cells : List CellView) (p : ℕ) (after : CellView) → p < length cells → AllJoined rules old cells → KeepsOthers rules p old new
    → after.going ≡ true → Joined rules new p after → AllJoined rules new (slice_set cells p after)
set_joined rules old new cells p after below all keeps going joined q c is = elim (cases_eq q p) [
  | inl same ↦
      let this : c ≡ after = at_same cells p after c below (subst (λ (k : ℕ). slice_get (slice_set cells p after) k ≡ Some c) same is) in
      subst (λ (k : ℕ). (c.going ≡ true) × Joined rules new k c) (sym same) (subst (λ (v : CellView). (v.going ≡ true) × Joined rules new p v) (sym this) (going, joined))
  | inr apart ↦
      let there = all q c (at_other cells p q after c apart is) in
      (there.0, keeps q apart c there.1)
]

-- the store is as it was
pub set_alone : (rules : Rules) (s : StoreView) (cells : List CellView) (p : ℕ) (after : CellView) → p < length cells → AllJoined rules s cells → after.going ≡ true → Joined rules s p after → AllJoined rules s (slice_set cells p after)
set_alone rules s cells p after below all going joined = set_joined rules s s cells p after below all (λ q apart c there. there) going joined

-- ---- calls of one cell

-- the cell that a call is made of stands in its place
pub there_at : (cells : List CellView) (p : ℕ) (c : CellView) → p < length cells → c ≡ get_or cells p c → slice_get cells p ≡ Some c
there_at cells p c below value = slice_get_read cells (length cells) p c refl below value

-- what joins a cell to the store before a call joins it after it
pub each_ok : {A E : Type 0} (rules : Rules) (s : StoreView) (cells : List CellView) (p : ℕ) (c after : CellView) (r : Result A E) (P : A → Type 0) → p < length cells → c ≡ get_or cells p c → after.going ≡ is_ok r → IfOk r P
    → ((a : A) → P a → Joined rules s p c → Joined rules s p after) → AllJoined rules s cells → OnOk r (AllJoined rules s (slice_set cells p after))
each_ok rules s cells p c after (Ok a) P below value going is keeps all = set_alone rules s cells p after below all going (keeps a is (all p c (there_at cells p c below value)).1)
each_ok rules s cells p c after (Err error) P below value going is keeps all = tt

-- a moment was handed to one, and the store hears of it, where the call serves nobody
pub fired_all : (rules : Rules) → rules.serves ≡ false → (s : StoreView) (cells : List CellView) (p : ℕ) (c after : CellView) (now : ℕ) → p < length cells → c ≡ get_or cells p c → after ≡ record c { now = max c.now now } → AllJoined rules s cells
    → AllJoined rules (record s { latest = max s.latest now }) (slice_set cells p after)
fired_all rules silent s cells p c after now below value is all =
    let there = all p c (there_at cells p c below value) in
    let low : s.latest ≤ max s.latest now = omega arith in
    let above : now ≤ max s.latest now = omega arith in
    set_joined rules s (record s { latest = max s.latest now }) cells p after below all (λ q apart other joined. heard_joined rules s q other joined (max s.latest now) low (λ serves. absurd (let wrong : true ≡ false = sym serves ∙ silent in cc wrong)))
    (ap (λ (v : CellView). v.going) is ∙ there.0) (fired_joined rules s p c there.1 now (max s.latest now) after above low (λ serves. absurd (let wrong : true ≡ false = sym serves ∙ silent in cc wrong)) is)

-- a cell's state ahead is of its own partition
pub ahead_number : (rules : Rules) (c : CellView) (ahead : Partition) → states_after rules.flows rules.count fresh rules.recovered ≡ Some rules.begin → IsAhead rules.flows rules.count (rules.begin c.number) c ahead → ahead.number ≡ c.number
ahead_number rules c ahead made is =
    (stands_behind rules.flows rules.count (c.slot.mine ++ c.entries) (rules.begin c.number) ahead is).number
    ∙ (stands_behind rules.flows rules.count (of_partition c.number rules.recovered) (fresh c.number) (rules.begin c.number) (own_chain rules.flows rules.count rules.recovered fresh rules.begin c.number made)).number

-- what is known of reads is of this partition's streams too
pub trimmed_joined : (rules : Rules) (s : StoreView) (p : ℕ) (c after : CellView) (marks : Marks) (count : ℕ) → states_after rules.flows rules.count fresh rules.recovered ≡ Some rules.begin
    → ((read : Read) → Contains marks.reads.items read → read.next ≤ read_by rules s read.source read.reader) → TrimsAt rules marks count c after → Joined rules s p c → Joined rules s p after
trimmed_joined rules s p c after marks count made heard trims joined =
    let number : trims.0.number ≡ p = ahead_number rules c trims.0 made trims.1 ∙ joined.goes.number in
    trims_joined rules s p c joined marks trims.0 count after (λ read inside source. subst (λ (k : ℕ). read.next ≤ read_by rules s k read.reader) (source ∙ number) (heard read inside)) trims.2

-- a cell has a state where a call didn't want memory
pub is_going : (X : Type 0) (going : Bool) → (going ≡ false → X) → (X → ⊥) → going ≡ true
is_going X true stops never = refl
is_going X false stops never = absurd (never (stops refl))

-- what a call that left one cell joined leaves of all
pub kept_all : (rules : Rules) (old new : StoreView) (cells : List CellView) (p : ℕ) (after : CellView) → length cells ≡ rules.count → p < rules.count → AllJoined rules old cells → KeepsOthers rules p old new
    → after.going ≡ true → Joined rules new p after → AllJoined rules new (slice_set cells p after)
kept_all rules old new cells p after many below all keeps going joined = set_joined rules old new cells p after (omega (arith, many, below)) all keeps going joined

-- the cell of a partition, in its place
pub its_place : (rules : Rules) (cells : List CellView) (p : ℕ) (c : CellView) → length cells ≡ rules.count → p < rules.count → c ≡ get_or cells p c → slice_get cells p ≡ Some c
its_place rules cells p c many below value = there_at cells p c (omega (arith, many, below)) value

-- a call that may fail left one cell joined
pub kept_ok : {A E : Type 0} (rules : Rules) (old new : StoreView) (cells : List CellView) (p : ℕ) (after : CellView) (r : Result A E) → length cells ≡ rules.count → p < rules.count → AllJoined rules old cells → KeepsOthers rules p old new
    → OnOk r (after.going ≡ true) → OnOk r (Joined rules new p after) → OnOk r (AllJoined rules new (slice_set cells p after))
kept_ok rules old new cells p after (Ok a) many below all keeps going joined = kept_all rules old new cells p after many below all keeps going joined
kept_ok rules old new cells p after (Err error) many below all keeps going joined = tt

-- and what it says of it
pub becomes_ok : {A E : Type 0} (cells : List CellView) (p : ℕ) (c after : CellView) (r : Result A E) (Does : A → CellView → CellView → Type 0) → slice_get cells p ≡ Some c → IfOk r (λ a. Does a c after) → IfOk r (λ a. CellBecomes p cells (slice_set cells p after) (Does a))
becomes_ok cells p c after (Ok a) Does there does = record { cell = c; after = after; there = there; becomes = refl; does = does }
becomes_ok cells p c after (Err error) Does there does = tt
