-- What a call on the logs leaves of how the ledgers fit.
use Rattle.std.proofs.Common.{◌≡◌, ◌≢◌, Bool, inl, inr, ℕ, ◌<◌, ◌≤◌, List, [], ◌∷◌, ◌++◌, length, map, get_or, Option, Some, None, MatchOption, Result, Ok, Err, OnOk, OnErr, is_err, IfErr, true, false, ◌+◌, length-append, refl, sym, ◌∙◌, ap, subst, arith}
use Rattle.std.specs.List.{All, slice_get}
use Rattle.std.proofs.Math.ListN.{set}
use Rattle.std.proofs.Math.Seq.{map-set_same}
use Rattle.std.proofs.lemmas.Bool.{cases_eq}
use Rattle.std.proofs.lemmas.List.{length-map, get_or-map, get_or_past, map-set, get_or-set_other}
use Rattle.std.proofs.lemmas.Option.{slice_get-get_or, slice_get_cases, slice_get_within}
use Rattle.dura_value.specs.Items.{Identity, Item, Entry, Floor}
use Rattle.dura_value.specs.Dependencies.{Lost}
use Rattle.dura_value.specs.Views.{floor_of}
use Rattle.commit_gate.specs.declared.ledger.Ledger as declared
use Rattle.commit_gate.proofs.Losing.{frame_unlost, floor_unlost, known_kept, settled_unlost}
use Rattle.commit_gate.specs.Unlost.{IsUnlost, IsFrameUnlost, AreUnlost}
use Rattle.commit_gate.specs.Keeping.{IsSized, KeepsPlaces, AreOfOne}
use Rattle.commit_gate.specs.Met.{IsMet}
use Rattle.commit_gate.specs.declared.unmet.Unmet.{Unmet}
use Rattle.commit_gate.specs.Refused.{Passes, RefusesFirst, Tests}
use Rattle.commit_gate.specs.Ledgers.{Ledger, log_length, IsKnown, with_frame, after_items, after_frame}
use Rattle.commit_gate.specs.Views.{ledger_of, whole_of, ledgers_of, floors_of, no_ledger, floors_in, readers_by, readers_in}
use Rattle.log_items.specs.Readings.{readers_behind, readers_after}
use Rattle.hub_store.specs.Trail.{Settled, Said, of_part, settling}
use Rattle.hub_store.specs.Waiting.{stage_behind}
use Rattle.hub_store.specs.Ways.{stage_of, going_in, is_tried, is_open, is_untried}
use Rattle.hub_store.specs.declared.refusal.Refusal.{Refusal}
use Rattle.hub_store.specs.declared.refusal.Refusal.TheVariants as refusals
use Rattle.hub_store.specs.declared.way.Way.{Way}
use Rattle.hub_store.specs.declared.way.Way.TheVariants as ways
use Rattle.hub_store.specs.declared.way.Stage.{Stage}
use Rattle.hub_store.specs.declared.way.Stage.TheVariants as stages
use Rattle.gated_store.specs.Follows.{ledgers_at, GoesOnThere}
use Rattle.gated_store.specs.Kept.{LedgerFits, IsMade, IsMetAt, Grown, AreRecovered, Fits, count_under_way}
use Rattle.gated_store.specs.Kept.Grown.{nothing}
use Rattle.gated_store.proofs.Fitting.{fits_moved, fits_settled}
use Rattle.log_items.specs.Streams.{Sent}
use Rattle.log_items.specs.Entries.{items_in, incarnations_in, identity_at}

behind_append : (p : ℕ) (readers : ℕ → Identity) (a b : List Entry) → readers_behind p readers (a ++ b) ≡ readers_behind p (readers_behind p readers a) b
behind_append p readers [] b = refl
behind_append p readers (entry ∷ a) b = behind_append p (readers_after (identity_at p entry) readers entry.items) a b

-- at rest nothing is under way
pub rest_none : (way : Way) → stage_of way ≡ stages.Resting → going_in way ≡ None
rest_none (ways.Resting log) is = refl
rest_none (ways.Bodied log frame) is = absurd (cc is)
rest_none (ways.Synced log frame) is = absurd (cc is)
rest_none (ways.Gated log frame) is = absurd (cc is)
rest_none (ways.Safe log frame) is = absurd (cc is)
rest_none (ways.BrokenBody log frame) is = absurd (cc is)
rest_none (ways.BrokenGate log frame) is = absurd (cc is)
rest_none ways.Away is = absurd (cc is)

-- the ledger at a place
pub row_at : (list : List declared.Ledger) (p : ℕ) (ledger : declared.Ledger) → p < length list → ledger ≡ get_or list p ledger → slice_get list p ≡ Some ledger
row_at list p ledger low is = slice_get-get_or list p ledger low ∙ ap (λ (r : declared.Ledger). Some r) (sym is)

pub place_on : (old mid new : declared.Ledger) → KeepsPlaces old mid → KeepsPlaces mid new → KeepsPlaces old new
place_on old mid new first then = record { boxes = then.boxes ∙ first.boxes; nexts = then.nexts ∙ first.nexts; readers = then.readers ∙ first.readers; floors = then.floors ∙ first.floors }

pub sized_on : (count : ℕ) (old new : declared.Ledger) → IsSized count old → KeepsPlaces old new → IsSized count new
sized_on count old new sized place = record { boxes = place.boxes ∙ sized.boxes; nexts = place.nexts ∙ sized.nexts; readers = place.readers ∙ sized.readers }

module _ (count : ℕ) (ledgers : ℕ → List Entry → Ledger) (readers : ℕ → ℕ → Identity) (p : ℕ) (mine : List Entry) where
  -- nothing is under way
  pub rest_fits : (ledger new : declared.Ledger) → LedgerFits ledgers readers count p mine None ledger → KeepsPlaces ledger new → new.readers ≡ ledger.readers → ledger_of new ≡ ledger_of ledger → whole_of new ≡ ledger_of new → LedgerFits ledgers readers count p mine None new
  rest_fits ledger new fits place read same rests = record {
    sized = sized_on count ledger new fits.sized place;
    settled = same ∙ fits.settled;
    comes = rests;
    read = ap (λ (v : _). readers_by v.items) read ∙ fits.read;
    unlost = subst (λ (r : Ledger). IsUnlost r (floors_in new)) (sym (rests ∙ same ∙ sym fits.comes)) (subst (λ (v : _). IsUnlost (whole_of ledger) (map floor_of v.items)) (sym place.floors) fits.unlost);
  }

  -- a frame is gone
  pub gone_fits : (going : Option (List Entry)) (ledger new : declared.Ledger) → LedgerFits ledgers readers count p mine going ledger → KeepsPlaces ledger new → new.readers ≡ ledger.readers → ledger_of new ≡ ledger_of ledger → whole_of new ≡ ledger_of ledger → LedgerFits ledgers readers count p mine None new
  gone_fits going ledger new fits place read same gone = record {
    sized = sized_on count ledger new fits.sized place;
    settled = same ∙ fits.settled;
    comes = gone ∙ sym same;
    read = ap (λ (v : _). readers_by v.items) read ∙ fits.read;
    unlost = subst (λ (r : Ledger). IsUnlost r (floors_in new)) (sym gone)
        (subst (λ (v : _). IsUnlost (ledger_of ledger) (map floor_of v.items)) (sym place.floors)
        (settled_unlost ledger (floors_in ledger) fits.unlost));
  }

  -- a frame is
  pub frame_fits : (ledger new : declared.Ledger) (going : List Entry) (sent : List Sent) → LedgerFits ledgers readers count p mine None ledger → KeepsPlaces ledger new → new.readers ≡ ledger.readers → ledger_of new ≡ ledger_of ledger → whole_of new ≡ with_frame (ledger_of ledger) going sent → AreOfOne count (items_in going)
      → ledgers p (mine ++ going) ≡ after_frame (ledgers p mine) going sent → IsFrameUnlost (log_length (ledgers p mine)) (floors_in ledger) going → LedgerFits ledgers readers count p mine (Some going) new
  frame_fits ledger new going sent fits place read same whole inside makes unlost = record {
    sized = sized_on count ledger new fits.sized place;
    settled = same ∙ fits.settled;
    comes = (inside, ap (after_items (items_in going)) whole ∙ ap (λ (r : Ledger). after_frame r going sent) fits.settled ∙ sym makes);
    read = ap (λ (v : _). readers_by v.items) read ∙ fits.read;
    unlost =
        let floors = floors_in ledger in
        let rested : IsUnlost (ledger_of ledger) floors = subst (λ (r : Ledger). IsUnlost r floors) fits.comes fits.unlost in
        let mine_too : IsFrameUnlost (log_length (ledger_of ledger)) floors going = subst (λ (r : Ledger). IsFrameUnlost (log_length r) floors going) (sym fits.settled) unlost in
        subst (λ (r : Ledger). IsUnlost r (floors_in new)) (sym whole)
        (subst (λ (v : _). IsUnlost (with_frame (ledger_of ledger) going sent) (map floor_of v.items)) (sym place.floors) (frame_unlost (ledger_of ledger) floors going sent rested mine_too));
  }

-- what is settled of a frame
after_unlost : (ledger new : declared.Ledger) (items : List Item) → KeepsPlaces ledger new → ledger_of new ≡ after_items items (whole_of ledger) → whole_of new ≡ ledger_of new → IsUnlost (whole_of ledger) (floors_in ledger) → IsUnlost (whole_of new) (floors_in new)
after_unlost ledger new items place made whole unlost =
    let after : IsUnlost (after_items items (whole_of ledger)) (floors_in ledger) = unlost in
    subst (λ (r : Ledger). IsUnlost r (floors_in new)) (sym (whole ∙ made)) (subst (λ (v : _). IsUnlost (after_items items (whole_of ledger)) (map floor_of v.items)) (sym place.floors) after)

module _ (count : ℕ) (ledgers : ℕ → List Entry → Ledger) (readers : ℕ → ℕ → Identity) (may_make : ℕ → List Entry → List Said → ℕ → List Entry → Type 0) (latest now_latest : ℕ) (trail now_trail : List Settled) (told now_told : List Said) (going now_going : ℕ → Option (List Entry)) (stage now_stage : ℕ → Stage) (list now_list : List declared.Ledger)
    (same_latest : now_latest ≡ latest) (same_told : now_told ≡ told) where
  to_now : Fits count ledgers readers may_make latest now_trail told now_going now_stage now_list → Fits count ledgers readers may_make now_latest now_trail now_told now_going now_stage now_list
  to_now fits =
      subst (λ (n : ℕ). Fits count ledgers readers may_make n now_trail now_told now_going now_stage now_list) (sym same_latest)
      (subst (λ (t : List Said). Fits count ledgers readers may_make latest now_trail t now_going now_stage now_list) (sym same_told) fits)

  -- one partition's frame moved
  pub fits_moves : (p : ℕ) (ledger : declared.Ledger) → p < count → now_trail ≡ trail → now_list ≡ set list p ledger → ((q : ℕ) → q ≢ p → now_going q ≡ going q) → ((q : ℕ) → q ≢ p → now_stage q ≡ stage q)
      → Fits count ledgers readers may_make latest trail told going stage list → LedgerFits ledgers readers count p (of_part p trail) (now_going p) ledger → IsMade may_make latest (of_part p trail) told p (now_going p) → (is_tried (now_stage p) ≡ true → IsMetAt ledgers trail p (now_going p))
      → Fits count ledgers readers may_make now_latest now_trail now_told now_going now_stage now_list
  fits_moves p ledger below same_trail list_is others stages_too fits here made met =
      to_now
      (subst (λ (t : List Settled). Fits count ledgers readers may_make latest t told now_going now_stage now_list) (sym same_trail)
      (subst (Fits count ledgers readers may_make latest trail told now_going now_stage) (sym list_is) (fits_moved count ledgers readers may_make latest told p going now_going stage now_stage list others stages_too trail ledger below fits here made met)))

  -- no ledger did
  pub fits_stay : (p : ℕ) → now_trail ≡ trail → now_list ≡ list → ((q : ℕ) → q ≢ p → now_going q ≡ going q) → now_going p ≡ going p → ((q : ℕ) → q ≢ p → now_stage q ≡ stage q)
      → Fits count ledgers readers may_make latest trail told going stage list → (is_tried (now_stage p) ≡ true → IsMetAt ledgers trail p (going p)) → Fits count ledgers readers may_make now_latest now_trail now_told now_going now_stage now_list
  fits_stay p same_trail list_is others own stages_too fits met =
      to_now
      (subst (λ (t : List Settled). Fits count ledgers readers may_make latest t told now_going now_stage now_list) (sym same_trail)
      (subst (Fits count ledgers readers may_make latest trail told now_going now_stage) (sym list_is) here))
    where
      same : (q : ℕ) → now_going q ≡ going q
      same q = elim (cases_eq q p) [
        | inl is ↦ subst (λ (k : ℕ). now_going k ≡ going k) (sym is) own
        | inr apart ↦ others q apart
      ]

      here : Fits count ledgers readers may_make latest trail told now_going now_stage list
      here = record {
        many = fits.many;
        first = fits.first;
        grown = fits.grown;
        each = λ q r is. subst (λ (g : Option (List Entry)). LedgerFits ledgers readers count q (of_part q trail) g r) (sym (same q)) (fits.each q r is);
        made = λ q inside. subst (IsMade may_make latest (of_part q trail) told q) (sym (same q)) (fits.made q inside);
        met = λ q inside gated. subst (IsMetAt ledgers trail q) (sym (same q)) (elim (cases_eq q p) [
          | inl is ↦ subst (λ (k : ℕ). IsMetAt ledgers trail k (going k)) (sym is) (met (subst (λ (k : ℕ). is_tried (now_stage k) ≡ true) is gated))
          | inr apart ↦ fits.met q inside (ap is_tried (sym (stages_too q apart)) ∙ gated)
        ]);
      }

-- what a test of the ledgers says is said of what was settled
pub rows_are : (count : ℕ) (ledgers : ℕ → List Entry → Ledger) (readers : ℕ → ℕ → Identity) (may_make : ℕ → List Entry → List Said → ℕ → List Entry → Type 0) (latest : ℕ) (trail : List Settled) (told : List Said) (going : ℕ → Option (List Entry)) (stage : ℕ → Stage) (list : List declared.Ledger)
    → ((partition : ℕ) (mine : List Entry) → count ≤ partition → ledgers partition mine ≡ no_ledger) → Fits count ledgers readers may_make latest trail told going stage list → (p : ℕ) → ledgers_of list p ≡ ledgers_at ledgers trail p
rows_are count ledgers readers may_make latest trail told going stage list outside fits p = elim (slice_get_cases list p).1 [
  | inl (ledger, low, there, is) ↦ get_or-map ledger_of list p ledger no_ledger low ∙ ap ledger_of is ∙ (fits.each p ledger there).settled
  | inr (past, none) ↦ get_or_past (map ledger_of list) p no_ledger (omega (arith, length-map list ledger_of)) ∙ sym (outside p (of_part p trail) (omega (arith, fits.many)))
]

pub all_met : (ledgers : ℕ → Ledger) (floors : ℕ → List Floor) (p : ℕ) (items : List Item) → All (Passes ledgers floors p) items → All (IsMet ledgers p) items
all_met ledgers floors p items all = λ k d low. (all k d low).met

-- a stage that no gate was tried at
pub untried : (stage aim : Stage) → stage ≡ aim → is_tried aim ≡ false → is_tried stage ≡ true → ⊥
untried stage aim at none tried = cc (at, none, tried)

-- where a gate is open it was tried
pub open_tried : (seen stage : Stage) → seen ≡ stage → is_open seen ≡ true → is_tried stage ≡ true
open_tried seen stages.Resting same is = absurd (let wrong : is_open stages.Resting ≡ true = ap is_open (sym same) ∙ is in cc wrong)
open_tried seen stages.Bodied same is = absurd (let wrong : is_open stages.Bodied ≡ true = ap is_open (sym same) ∙ is in cc wrong)
open_tried seen stages.Synced same is = absurd (let wrong : is_open stages.Synced ≡ true = ap is_open (sym same) ∙ is in cc wrong)
open_tried seen stages.Gated same is = refl
open_tried seen stages.Safe same is = refl
open_tried seen stages.BrokenBody same is = absurd (let wrong : is_open stages.BrokenBody ≡ true = ap is_open (sym same) ∙ is in cc wrong)
open_tried seen stages.BrokenGate same is = refl

-- a gate that was tried once all files are made safe, or that failed, was tried before
tried_before : (safe : Bool) (stage : Stage) → is_tried (stage_behind safe stage) ≡ true → is_tried stage ≡ true
tried_before true stages.Resting is = is
tried_before true stages.Bodied is = absurd (cc is)
tried_before true stages.Synced is = is
tried_before true stages.Gated is = refl
tried_before true stages.Safe is = is
tried_before true stages.BrokenBody is = is
tried_before true stages.BrokenGate is = is
tried_before false stages.Resting is = is
tried_before false stages.Bodied is = absurd (cc is)
tried_before false stages.Synced is = is
tried_before false stages.Gated is = refl
tried_before false stages.Safe is = is
tried_before false stages.BrokenBody is = is
tried_before false stages.BrokenGate is = is

-- no frame was settled or made, and all files were made safe, or that failed
pub fits_behind : (count : ℕ) (ledgers : ℕ → List Entry → Ledger) (readers : ℕ → ℕ → Identity) (may_make : ℕ → List Entry → List Said → ℕ → List Entry → Type 0) (latest now_latest : ℕ) (trail now_trail : List Settled) (told now_told : List Said) (going now_going : ℕ → Option (List Entry)) (stage now_stage : ℕ → Stage) (list : List declared.Ledger)
    → now_latest ≡ latest → now_told ≡ told → now_trail ≡ trail → ((q : ℕ) → now_going q ≡ going q) → (safe : Bool) → ((q : ℕ) → now_stage q ≡ stage_behind safe (stage q)) → Fits count ledgers readers may_make latest trail told going stage list
    → Fits count ledgers readers may_make now_latest now_trail now_told now_going now_stage list
fits_behind count ledgers readers may_make latest now_latest trail now_trail told now_told going now_going stage now_stage list same_latest same_told same_trail same safe behind fits =
    subst (λ (n : ℕ). Fits count ledgers readers may_make n now_trail now_told now_going now_stage list) (sym same_latest)
    (subst (λ (t : List Said). Fits count ledgers readers may_make latest now_trail t now_going now_stage list) (sym same_told)
    (subst (λ (t : List Settled). Fits count ledgers readers may_make latest t told now_going now_stage list) (sym same_trail)
    (record {
      many = fits.many;
      first = fits.first;
      grown = fits.grown;
      each = λ q r is. subst (λ (g : Option (List Entry)). LedgerFits ledgers readers count q (of_part q trail) g r) (sym (same q)) (fits.each q r is);
      made = λ q inside. subst (IsMade may_make latest (of_part q trail) told q) (sym (same q)) (fits.made q inside);
      met = λ q inside tried. subst (IsMetAt ledgers trail q) (sym (same q)) (fits.met q inside (tried_before safe (stage q) (ap is_tried (sym (behind q)) ∙ tried)));
    })))

-- whatever a call answered that brings a frame no further than before its gate
pub still_untried : {T : Type 0} (r : Result T Refusal) (now before aim : Stage) → is_tried aim ≡ false → is_tried before ≡ false → OnOk r (now ≡ aim) → (r ≡ Err refusals.SiteFault → now ≡ stages.BrokenBody) → (r ≡ Err refusals.NoFrame → now ≡ before) → is_tried now ≡ true → ⊥
still_untried (Ok x) now before aim untried_aim untried_before ok fault none = untried now aim ok untried_aim
still_untried (Err refusals.SiteFault) now before aim untried_aim untried_before ok fault none = untried now stages.BrokenBody (fault refl) refl
still_untried (Err refusals.NoFrame) now before aim untried_aim untried_before ok fault none = untried now before (none refl) untried_before

-- a frame whose gate was not tried, while it was dropped in vain
pub still_dropped : {T : Type 0} (why : Refusal) (now before : Stage) → (◌≡◌ {A = Result T Refusal} (Err why) (Err refusals.SiteFault) → now ≡ stages.BrokenBody) → (◌≡◌ {A = Result T Refusal} (Err why) (Err refusals.NoFrame) → is_untried before ≡ false) → is_untried before ≡ true → is_tried now ≡ true → ⊥
still_dropped refusals.SiteFault now before fault none was tried = untried now stages.BrokenBody (fault refl) refl tried
still_dropped refusals.NoFrame now before fault none was tried = cc (none refl, was)

pub on_refusal : {T E : Type 0} {P Q : Type 0} (r : Result T E) → OnErr r P → (P → Q) → OnErr r Q
on_refusal (Ok x) p f = tt
on_refusal (Err e) p f = f p

-- where an answer is an error
pub on_err : {T E : Type 0} {P : Type 0} (r : Result T E) → is_err r ≡ true → OnErr r P → P
on_err (Ok x) is p = absurd (cc is)
on_err (Err e) is p = p

pub on_no_err : {T E : Type 0} {P : Type 0} (r : Result T E) → is_err r ≡ false → OnOk r P → P
on_no_err (Ok x) is p = p
on_no_err (Err e) is p = absurd (cc is)

-- what a test comes to, said of what was settled
pub tested_ok : (ledgers now : ℕ → Ledger) (floors now_floors : ℕ → List Floor) (p : ℕ) (frame : List Entry) (way : Option (List Entry)) (r : Result (Unit {0}) Unmet) → now ≡ ledgers → now_floors ≡ floors → way ≡ Some frame → Tests now now_floors p (items_in frame) r
    → OnOk r ((going : List Entry) → way ≡ Some going → All (Passes ledgers floors p) (items_in going))
tested_ok ledgers now floors now_floors p frame way (Ok x) same floors_same way_is tests = λ going going_is.
    let is : frame ≡ going = cc in
    subst (λ (f : ℕ → List Floor). All (Passes ledgers f p) (items_in going)) floors_same (subst (λ (f : ℕ → Ledger). All (Passes f now_floors p) (items_in going)) same (subst (λ (l : List Entry). All (Passes now now_floors p) (items_in l)) is tests))
tested_ok ledgers now floors now_floors p frame way (Err e) same floors_same way_is tests = tt

pub tested_err : (ledgers now : ℕ → Ledger) (floors now_floors : ℕ → List Floor) (p : ℕ) (frame : List Entry) (way : Option (List Entry)) (r : Result (Unit {0}) Unmet) → now ≡ ledgers → now_floors ≡ floors → way ≡ Some frame → Tests now now_floors p (items_in frame) r
    → IfErr r (λ unmet. (going : List Entry) × (way ≡ Some going) × RefusesFirst ledgers floors p (items_in going) unmet)
tested_err ledgers now floors now_floors p frame way (Ok x) same floors_same way_is tests = tt
tested_err ledgers now floors now_floors p frame way (Err e) same floors_same way_is tests =
    (frame, way_is, subst (λ (f : ℕ → List Floor). RefusesFirst ledgers f p (items_in frame) e) floors_same (subst (λ (f : ℕ → Ledger). RefusesFirst f now_floors p (items_in frame) e) same tests))

-- what passed is met
pub met_at : (ledgers : ℕ → List Entry → Ledger) (floors : ℕ → List Floor) (trail : List Settled) (p : ℕ) (way : Option (List Entry)) → ((going : List Entry) → way ≡ Some going → All (Passes (ledgers_at ledgers trail) floors p) (items_in going)) → IsMetAt ledgers trail p way
met_at ledgers floors trail p None passed = tt
met_at ledgers floors trail p (Some going) passed = all_met (ledgers_at ledgers trail) floors p (items_in going) (passed going refl)

module _ (count : ℕ) (ledgers : ℕ → List Entry → Ledger) (readers : ℕ → ℕ → Identity) (may_make : ℕ → List Entry → List Said → ℕ → List Entry → Type 0) (latest now_latest : ℕ) (trail now_trail : List Settled) (told now_told : List Said) (going now_going : ℕ → Option (List Entry)) (stage now_stage : ℕ → Stage) (list now_list : List declared.Ledger)
    (same_latest : now_latest ≡ latest) (same_told : now_told ≡ told) where
  -- one partition's frame was settled
  pub fits_settles : ((latest : ℕ) (mine : List Entry) (told : List Said) (partition : ℕ) (going : List Entry) → may_make latest mine told partition going → GoesOnThere ledgers mine partition going) → (p at : ℕ) (mine : List Entry) (ledger new : declared.Ledger) → p < count
      → now_trail ≡ trail ++ settling p at mine → now_list ≡ set list p new → ((q : ℕ) → q ≢ p → now_going q ≡ going q) → ((q : ℕ) → q ≢ p → now_stage q ≡ stage q) → going p ≡ Some mine → is_tried (stage p) ≡ true → now_going p ≡ None → now_stage p ≡ stages.Resting
      → Fits count ledgers readers may_make latest trail told going stage list → LedgerFits ledgers readers count p (of_part p trail) (Some mine) ledger → KeepsPlaces ledger new → readers_in new ≡ readers_behind p (readers_in ledger) mine → ledger_of new ≡ after_items (items_in mine) (whole_of ledger) → whole_of new ≡ ledger_of new
      → Fits count ledgers readers may_make now_latest now_trail now_told now_going now_stage now_list
  fits_settles goes p at mine ledger new below trail_is list_is others stages_too way gate rests rests_too fits here place read made whole =
      to_now count ledgers readers may_make latest now_latest trail now_trail told now_told going now_going stage now_stage list now_list same_latest same_told
      (subst (λ (t : List Settled). Fits count ledgers readers may_make latest t told now_going now_stage now_list) (sym trail_is)
      (subst (Fits count ledgers readers may_make latest (trail ++ settling p at mine) told now_going now_stage) (sym list_is)
      (fits_settled count ledgers readers may_make latest told p going now_going stage now_stage list others stages_too goes trail at mine new below way gate rests (untried (now_stage p) stages.Resting rests_too refl) fits
      (record { sized = sized_on count ledger new here.sized place; settled = made ∙ here.comes.1; comes = whole; read = read ∙ ap (λ (r : ℕ → Identity). readers_behind p r mine) here.read ∙ sym (behind_append p (readers p) (of_part p trail) mine); unlost = after_unlost ledger new (items_in mine) place made whole here.unlost }))))

-- the floors of a partition
pub floors_are : (list : List declared.Ledger) (p : ℕ) (ledger : declared.Ledger) → p < length list → ledger ≡ get_or list p ledger → floors_of list p ≡ floors_in ledger
floors_are list p ledger low is = get_or-map floors_in list p ledger [] low ∙ ap floors_in (sym is)

-- where the frame under way ends
pub end_is : (ledgers : ℕ → List Entry → Ledger) (readers : ℕ → ℕ → Identity) (may_make : ℕ → List Entry → List Said → ℕ → List Entry → Type 0) → ((latest : ℕ) (mine : List Entry) (told : List Said) (partition : ℕ) (going : List Entry) → may_make latest mine told partition going → GoesOnThere ledgers mine partition going)
    → (count p latest : ℕ) (mine : List Entry) (told : List Said) (going : Option (List Entry)) (ledger : declared.Ledger) → LedgerFits ledgers readers count p mine going ledger → IsMade may_make latest mine told p going → log_length (whole_of ledger) ≡ log_length (ledgers p mine) + count_under_way going
end_is ledgers readers may_make goes count p latest mine told None ledger fits made = let e : log_length (whole_of ledger) ≡ log_length (ledgers p mine) = ap log_length (fits.comes ∙ fits.settled) in omega (arith, e)
end_is ledgers readers may_make goes count p latest mine told (Some going) ledger fits made =
    let on = goes latest mine told p going made in
    let e : log_length (whole_of ledger) ≡ log_length (after_frame (ledgers p mine) going on.0) = ap log_length (fits.comes.1 ∙ on.1.makes) in
    let n : length ((ledgers p mine).incarnations ++ incarnations_in going) ≡ length (ledgers p mine).incarnations + length going = length-append (ledgers p mine).incarnations (incarnations_in going) ∙ ap (λ (k : ℕ). length (ledgers p mine).incarnations + k) (length-map going (λ (x : Entry). x.incarnation)) in
    omega (arith, e, n)

-- a new incarnation
pub restart_fits : (count : ℕ) (ledgers : ℕ → List Entry → Ledger) (readers : ℕ → ℕ → Identity) (p : ℕ) (mine : List Entry) (going : Option (List Entry)) (ledger new : declared.Ledger) (floors : List Floor) → LedgerFits ledgers readers count p mine going ledger → length new.boxes.items ≡ length ledger.boxes.items → length new.nexts.items ≡ length ledger.nexts.items → new.readers ≡ ledger.readers
    → ledger_of new ≡ ledger_of ledger → whole_of new ≡ whole_of ledger → floors_in new ≡ floors → IsUnlost (whole_of ledger) floors → LedgerFits ledgers readers count p mine going new
restart_fits count ledgers readers p mine None ledger new floors fits boxes nexts read same whole is unlost = record {
  sized = record { boxes = boxes ∙ fits.sized.boxes; nexts = nexts ∙ fits.sized.nexts; readers = ap (λ (v : _). length v.items) read ∙ fits.sized.readers };
  read = ap (λ (v : _). readers_by v.items) read ∙ fits.read;
  settled = same ∙ fits.settled;
  comes = whole ∙ fits.comes ∙ sym same;
  unlost = subst (IsUnlost (whole_of new)) (sym is) (subst (λ (r : Ledger). IsUnlost r floors) (sym whole) unlost);
}
restart_fits count ledgers readers p mine (Some going) ledger new floors fits boxes nexts read same whole is unlost = record {
  sized = record { boxes = boxes ∙ fits.sized.boxes; nexts = nexts ∙ fits.sized.nexts; readers = ap (λ (v : _). length v.items) read ∙ fits.sized.readers };
  read = ap (λ (v : _). readers_by v.items) read ∙ fits.read;
  settled = same ∙ fits.settled;
  comes = (fits.comes.0, ap (after_items (items_in going)) whole ∙ fits.comes.1);
  unlost = subst (IsUnlost (whole_of new)) (sym is) (subst (λ (r : Ledger). IsUnlost r floors) (sym whole) unlost);
}

-- by its answer the floor is there, or all is as it was
pub restart_either : {E : Type 0} (r : Result (Unit {0}) E) (ledger : Ledger) (floors now : List Floor) (floor : Floor) → OnOk r (now ≡ floors ++ floor ∷ []) → OnErr r (now ≡ floors) → log_length ledger ≤ floor.from → IsUnlost ledger floors → IsUnlost ledger now
restart_either (Ok x) ledger floors now floor ok err high unlost = subst (IsUnlost ledger) (sym ok) (floor_unlost ledger floors floor high unlost)
restart_either (Err e) ledger floors now floor ok err high unlost = subst (IsUnlost ledger) (sym err) unlost

-- nothing that is settled is lost
pub known_unlost : (count : ℕ) (ledgers : ℕ → List Entry → Ledger) (readers : ℕ → ℕ → Identity) (may_make : ℕ → List Entry → List Said → ℕ → List Entry → Type 0) (latest : ℕ) (trail : List Settled) (told : List Said) (going : ℕ → Option (List Entry)) (stage : ℕ → Stage) (list : List declared.Ledger)
    → Fits count ledgers readers may_make latest trail told going stage list → (e : Identity) → e.partition < count → IsKnown (ledgers_at ledgers trail e.partition) e → (Lost (floors_of list e.partition) e → ⊥)
known_unlost count ledgers readers may_make latest trail told going stage list fits e below known = elim (slice_get_cases list e.partition).1 [
  | inl (ledger, low, there, is) ↦
      let here = fits.each e.partition ledger there in
      let shown : IsKnown (ledger_of ledger) e = subst (λ (r : Ledger). IsKnown r e) (sym here.settled) known in
      subst (λ (f : List Floor). (Lost f e → ⊥)) (sym (floors_are list e.partition ledger low (sym is))) (known_kept (ledger_of ledger) (floors_in ledger) e (settled_unlost ledger (floors_in ledger) here.unlost) shown)
  | inr (past, none) ↦ absurd (omega (arith, past, fits.many, below))
]

-- the floors stay where a ledger with the same was put in
pub floors_stay : (list now : List declared.Ledger) (p : ℕ) (ledger new : declared.Ledger) → now ≡ set list p new → ledger ≡ get_or list p ledger → new.floors ≡ ledger.floors → floors_of now ≡ floors_of list
floors_stay list now p ledger new is here same =
    ap floors_of is ∙ ap (λ (l : List (List Floor)). λ (q : ℕ). get_or l q []) (map-set_same floors_in list p new ledger (ap (λ (v : _). map floor_of v.items) (same ∙ ap (λ (r : declared.Ledger). r.floors) here)))

-- where another ledger was written
pub floors_else : (list : List declared.Ledger) (p q : ℕ) (new : declared.Ledger) → q ≢ p → floors_of (set list p new) q ≡ floors_of list q
floors_else list p q new apart =
    ap (λ (l : List (List Floor)). get_or l q []) (map-set floors_in list p new) ∙ get_or-set_other (map floors_in list) p q (floors_in new) [] apart

-- of no partition anything settled was given up
pub are_unlost : (count : ℕ) (ledgers : ℕ → List Entry → Ledger) (readers : ℕ → ℕ → Identity) (may_make : ℕ → List Entry → List Said → ℕ → List Entry → Type 0) (latest : ℕ) (trail : List Settled) (told : List Said) (going : ℕ → Option (List Entry)) (stage : ℕ → Stage) (list : List declared.Ledger)
    → Fits count ledgers readers may_make latest trail told going stage list → AreUnlost list
are_unlost count ledgers readers may_make latest trail told going stage list fits p ledger is = settled_unlost ledger (floors_in ledger) (fits.each p ledger is).unlost

-- a frame is under way
pub some_frame : {X : Type 0} (way : Option (List Entry)) (entries : List Entry) (found : Option X) (P : X → List Entry) → way ≡ Some entries → MatchOption found (way ≡ None) (λ x. way ≡ Some (P x)) → found ≢ None
some_frame way entries None P is told none = cc (is, told)
some_frame way entries (Some x) P is told none = cc none

-- nothing was settled, and no frame is under way
pub fits_first : (count : ℕ) (ledgers : ℕ → List Entry → Ledger) (readers : ℕ → ℕ → Identity) (may_make : ℕ → List Entry → List Said → ℕ → List Entry → Type 0) (latest : ℕ) (trail : List Settled) (told : List Said) (going : ℕ → Option (List Entry)) (stage : ℕ → Stage) (list : List declared.Ledger)
    → length list ≡ count → AreRecovered ledgers → trail ≡ [] → ((p : ℕ) → p < count → going p ≡ None) → ((p : ℕ) (ledger : declared.Ledger) → slice_get list p ≡ Some ledger → LedgerFits ledgers readers count p [] None ledger) → ((p : ℕ) → p < count → is_tried (stage p) ≡ true → ⊥)
    → Fits count ledgers readers may_make latest trail told going stage list
fits_first count ledgers readers may_make latest trail told going stage list many recovered first none fits rests = record {
  many = many;
  first = recovered;
  grown = subst (Grown ledgers may_make) (sym first) nothing;
  each = λ p ledger there.
      let below : p < count = omega (arith, many, slice_get_within list p ledger there) in
      subst (λ (g : Option (List Entry)). LedgerFits ledgers readers count p (of_part p trail) g ledger) (sym (none p below))
      (subst (λ (t : List Settled). LedgerFits ledgers readers count p (of_part p t) None ledger) (sym first) (fits p ledger there));
  made = λ p below. subst (IsMade may_make latest (of_part p trail) told p) (sym (none p below)) tt;
  met = λ p below tried. absurd (rests p below tried);
}

-- each ledger has a place for each partition
pub all_sized : (count : ℕ) (ledgers : ℕ → List Entry → Ledger) (readers : ℕ → ℕ → Identity) (may_make : ℕ → List Entry → List Said → ℕ → List Entry → Type 0) (latest : ℕ) (trail : List Settled) (told : List Said) (going : ℕ → Option (List Entry)) (stage : ℕ → Stage) (list : List declared.Ledger)
    → Fits count ledgers readers may_make latest trail told going stage list → All (IsSized count) list
all_sized count ledgers readers may_make latest trail told going stage list fits k d low = (fits.each k (get_or list k d) (slice_get-get_or list k d low)).sized
