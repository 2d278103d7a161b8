-- The laws of sections, from the invariant.
use Rattle.std.proofs.Common.{◌≡◌, ◌&&◌, ◌+◌, ◌<◌, ◌≤◌, ◌⊎◌, inl, inr, ℕ, Bool, true, false, cond, List, [], ◌∷◌, Option, Some, None, refl, sym, ap, subst, ◌∙◌, arith}
use Rattle.std.specs.List.{Contains}
use Rattle.std.proofs.lemmas.Bool.{cases_lt, and_parts}
use Rattle.dura_value.specs.Ids.{Id, id_eq}
use Rattle.dura_value.specs.Messages.{Spot, at_spot, spot_before, Message}
use Rattle.dura_value.proofs.Ids.{id_self, id_same}
use Rattle.flow_syntax.specs.Syntax.{Flows}
use Rattle.flow_syntax.specs.Machine.{Section, outside, acquiring, inside, Progress, unborn, running, done, failed}
use Rattle.dura_model.specs.World.{World, Orchestration}
use Rattle.dura_model.specs.Deliveries.{is_over}
use Rattle.dura_model.specs.Steps.{Label}
use Rattle.dura_model.specs.Legal.{Legal, Inside, Overlap, holder_of, Releases, Waits, Holds, Blocks, one, more}
use Rattle.run_laws.specs.Causes.{RunsInside, Because, is_inside, is_acquiring, is_granted, is_leaving}
use Rattle.run_laws.proofs.Counts.{lock_of, Lock, releases, locks_of, grants_of, when_true, link_self}
use Rattle.run_laws.proofs.Does.{IsSettled}
use Rattle.run_laws.proofs.Found.{release_stands, grant_stands, lock_stands, lock_counted, only_one, contains_among, among_contains, first_place, first_before, named_one, counts_one, nothing_in}
use Rattle.run_laws.proofs.Instances.{Placed}
use Rattle.run_laws.proofs.Keeps.{Fits, Keeps, holders}
use Rattle.run_laws.proofs.Order.{spot_trans, spot_not_self}
use Rattle.run_laws.proofs.Programs.{is_unborn}
use Rattle.run_laws.proofs.Runs.{legal_keeps}
use Rattle.run_laws.proofs.Tallies.{Place, quiet, locking, granting, first, held, locks_at, grants_at, Sound, SoundLock, Tally, among, named}
use Rattle.dura_value.proofs.Basics.{some_same}

module _ (w : World) (keeps : Keeps w) where
  abbrev tally : Tally keeps.places w.links (holders w.entities)
  tally = keeps.tally

  -- ---- no two sections overlap

  inside_place : (id : Id) (spot : Spot) (inside : Inside w id spot) → keeps.places id ≡ quiet inside.set
  inside_place id spot has =
      let fits : Fits id (Some has.instance) (keeps.places id) = subst (λ (o : Option Orchestration). Fits id o (keeps.places id)) has.there (keeps.fits id) in
      subst (λ (section : Section). Placed section (keeps.places id)) has.section fits.placed

  -- whoever is inside is the holder
  inside_holds : (id : Id) (spot : Spot) → Inside w id spot → holder_of (w.entities (at_spot spot)) ≡ Some id
  inside_holds id spot has =
      let count : among has.set (at_spot spot) + releases (w.links id (at_spot spot)) ≡ named (holders w.entities (at_spot spot)) id =
      ap (λ (p : Place). among (held p) (at_spot spot) + releases (w.links id (at_spot spot))) (sym (inside_place id spot has)) ∙ tally.count id (at_spot spot) in
      named_one (holders w.entities (at_spot spot)) id (among has.set (at_spot spot)) (releases (w.links id (at_spot spot))) (contains_among has.set spot has.held) count

  overlaps_not : Overlap w → ⊥
  overlaps_not overlap =
      let same : overlap.one ≡ overlap.other = some_same (sym (inside_holds overlap.one overlap.shared overlap.first) ∙ inside_holds overlap.other overlap.shared overlap.second) in
      let itself : id_eq overlap.one overlap.other ≡ true = subst (λ (id : Id). id_eq overlap.one id ≡ true) same (id_self overlap.one) in
      let both : true ≡ false = sym itself ∙ overlap.apart in
      cc both

  -- ---- the order of waits

  place_found : (id : Id) (task : ℕ) (set : List Spot) (index : ℕ) (from at : Id) (place : Place) → Contains (locks_at place from at) (lock_of task set index) → place ≡ locking task set index from at
  place_found id task set index from at (quiet held) has = absurd (nothing_in (lock_of task set index) has)
  place_found id task set index from at (granting asked wanted a) has = absurd (nothing_in (lock_of task set index) has)
  place_found id task set index from at (locking asked wanted place a b) has = by (id_eq a from && id_eq b at) refl has
    where
      by : (test : Bool) → id_eq a from && id_eq b at ≡ test → Contains (cond test (lock_of asked wanted place ∷ []) []) (lock_of task set index) → locking asked wanted place a b ≡ locking task set index from at
      by true same has =
          let parts = and_parts (id_eq a from) (id_eq b at) same in
          let it = only_one (lock_of asked wanted place) (lock_of task set index) has in
          let x = id_same a from parts.0 in
          let y = id_same b at parts.1 in
          let t = ap (λ (l : Lock). l.task) it in
          let s = ap (λ (l : Lock). l.set) it in
          let i = ap (λ (l : Lock). l.index) it in
          cc (x, y, t, s, i)
      by false apart has = absurd (nothing_in (lock_of task set index) has)

  waits_place : (id : Id) (spot : Spot) (waits : Waits w id spot) → keeps.places id ≡ locking waits.task waits.set waits.index waits.from (at_spot spot)
  waits_place id spot waits =
      place_found id waits.task waits.set waits.index waits.from (at_spot spot) (keeps.places id)
      (subst (λ (l : List Lock). Contains l (lock_of waits.task waits.set waits.index)) (tally.locks id waits.from (at_spot spot))
      (lock_counted id (w.links waits.from (at_spot spot)) waits.message waits.task waits.set waits.index waits.stands waits.is))

  -- no release, or one that stands in the link
  release_or : (id : Id) (spot : Spot) → (releases (w.links id (at_spot spot)) ≡ 0) ⊎ Releases w id spot
  release_or id spot = by (cases_lt 0 (releases (w.links id (at_spot spot))))
    where
      by : (0 < releases (w.links id (at_spot spot))) ⊎ (releases (w.links id (at_spot spot)) ≤ 0) → (releases (w.links id (at_spot spot)) ≡ 0) ⊎ Releases w id spot
      by (inl some) = let standing = release_stands (w.links id (at_spot spot)) (omega (arith, some)) in inr (record { message = standing.message; stands = standing.stands; is = standing.is })
      by (inr none) = inl (omega (arith, none))

  -- what an instance has of which no release is under way
  has_it : (id : Id) (spot : Spot) → holder_of (w.entities (at_spot spot)) ≡ Some id → releases (w.links id (at_spot spot)) ≡ 0 → 1 ≤ among (held (keeps.places id)) (at_spot spot)
  has_it id spot is none = let count = tally.count id (at_spot spot) in let who = counts_one (holders w.entities (at_spot spot)) id is in omega (arith, count, who, none)

  waits_rising : (id : Id) (shared smaller : Spot) → Waits w id shared → Holds w id smaller → spot_before smaller shared ≡ true
  waits_rising id shared smaller waits holds =
      let place = waits_place id shared waits in
      let sound : SoundLock id waits.set waits.index waits.from (at_spot shared) = subst (Sound id) place (tally.sound id) in
      let none : releases (w.links id (at_spot smaller)) ≡ 0 = kept (release_or id smaller) in
      let some : 1 ≤ among (first waits.index waits.set) (at_spot smaller) = subst (λ (p : Place). 1 ≤ among (held p) (at_spot smaller)) place (has_it id smaller holds.named none) in
      let below = first_place waits.set waits.index smaller some in
      first_before waits.set waits.index below.place smaller shared sound.rising below.before below.has sound.is_at
    where
      kept : (releases (w.links id (at_spot smaller)) ≡ 0) ⊎ Releases w id smaller → releases (w.links id (at_spot smaller)) ≡ 0
      kept (inl none) = none
      kept (inr releases_it) = absurd (holds.kept releases_it)

  -- from the entity that the first waits for the chain rises to the one that the last holds
  rises : (id last : Id) → Blocks w id last → (low : Spot) × (high : Spot) × Waits w id low × Holds w last high × ((low ≡ high) ⊎ (spot_before low high ≡ true))
  rises id last (one spot waits holds) = (spot, spot, waits, holds, inl refl)
  rises id last (more {holder = holder} spot waits holds rest) =
      let chain = rises holder last rest in
      let step = waits_rising holder chain.0 spot chain.2 holds in
      (spot, chain.1, waits, chain.3, inr (by chain.0 chain.1 step chain.4))
    where
      by : (low high : Spot) → spot_before spot low ≡ true → (low ≡ high) ⊎ (spot_before low high ≡ true) → spot_before spot high ≡ true
      by low high step (inl same) = subst (λ (s : Spot). spot_before spot s ≡ true) same step
      by low high step (inr before) = spot_trans spot low high step before

  circles_not : (id : Id) → Blocks w id id → ⊥
  circles_not id blocks = let chain = rises id id blocks in by chain.0 chain.1 (waits_rising id chain.0 chain.1 chain.2 chain.3) chain.4
    where
      by : (low high : Spot) → spot_before high low ≡ true → (low ≡ high) ⊎ (spot_before low high ≡ true) → ⊥
      by low high back (inl same) = spot_not_self high (subst (λ (s : Spot). spot_before high s ≡ true) same back)
      by low high back (inr before) = spot_not_self low (spot_trans low high low before back)

  -- ---- why an entity has a holder

  is_running : (progress : Progress) → is_unborn progress ≡ false → is_over progress ≡ false → progress ≡ running
  is_running unborn born over = absurd (cc born)
  is_running running born over = refl
  is_running (done value) born over = absurd (cc over)
  is_running (failed text) born over = absurd (cc over)

  cause_acquiring : (id : Id) (spot : Spot) (o : Orchestration) (task : ℕ) (set : List Spot) → w.orchestrations id ≡ Some o → o.machine.section ≡ acquiring task set → (place : Place) → keeps.places id ≡ place → Placed (acquiring task set) place
      → 1 ≤ among (held place) (at_spot spot) → Because w id spot
  cause_acquiring id spot o task set there section (quiet has) is placed some =
      let none : among has (at_spot spot) ≡ 0 = ap (λ (s : List Spot). among s (at_spot spot)) placed.0 in absurd (omega (arith, none, some))
  cause_acquiring id spot o task set there section (locking asked wanted index from at) is placed some =
      let locks : locks_of id (w.links from at) ≡ lock_of asked wanted index ∷ [] =
      tally.locks id from at ∙ ap (λ (p : Place). locks_at p from at) is ∙ when_true (id_eq from from && id_eq at at) (lock_of asked wanted index ∷ []) [] (link_self from at) in
      let standing = lock_stands id (w.links from at) asked wanted index [] locks in
      let below = first_place wanted index spot some in
      is_acquiring (record {
        instance = o;
        there = there;
        task = asked;
        set = wanted;
        section = section ∙ (let t = placed.0 in let s = placed.1 in cc (t, s));
        index = index;
        from = from;
        to = at;
        message = standing.message;
        stands = standing.stands;
        is = standing.is;
        place = below.place;
        before = below.before;
        has = below.has;
      })
  cause_acquiring id spot o task set there section (granting asked wanted from) is placed some =
      let grants : grants_of (w.links from id) ≡ asked ∷ [] = tally.grants from id ∙ ap (λ (p : Place). grants_at p from) is ∙ when_true (id_eq from from) (asked ∷ []) [] (id_self from) in
      let standing = grant_stands (w.links from id) asked [] grants in
      is_granted (record {
        instance = o;
        there = there;
        task = asked;
        set = wanted;
        section = section ∙ (let t = placed.0 in let s = placed.1 in cc (t, s));
        from = from;
        message = standing.message;
        stands = standing.stands;
        is = standing.is;
        has = among_contains wanted spot some;
      })

  nobody_has : (place : Place) (spot : Spot) → place ≡ quiet [] → 1 ≤ among (held place) (at_spot spot) → ⊥
  nobody_has place spot is some = let none : among (held place) (at_spot spot) ≡ 0 = ap (λ (p : Place). among (held p) (at_spot spot)) is in omega (arith, none, some)

  cause_section : (id : Id) (spot : Spot) (o : Orchestration) → w.orchestrations id ≡ Some o → Fits id (Some o) (keeps.places id) → 1 ≤ among (held (keeps.places id)) (at_spot spot) → (section : Section) → o.machine.section ≡ section
      → Placed section (keeps.places id) → IsSettled section (is_over o.machine.progress) → Because w id spot
  cause_section id spot o there fits some outside is placed settled = absurd (nobody_has (keeps.places id) spot placed some)
  cause_section id spot o there fits some (inside set) is placed settled =
      is_inside (record {
        inside = record { instance = o; there = there; set = set; section = is; held = among_contains set spot (subst (λ (p : Place). 1 ≤ among (held p) (at_spot spot)) placed some) };
        runs = is_running o.machine.progress fits.sits.1 settled;
      })
  cause_section id spot o there fits some (acquiring task set) is placed settled = cause_acquiring id spot o task set there is (keeps.places id) refl placed some

  cause_instance : (id : Id) (spot : Spot) (o : Option Orchestration) → w.orchestrations id ≡ o → Fits id o (keeps.places id) → 1 ≤ among (held (keeps.places id)) (at_spot spot) → Because w id spot
  cause_instance id spot None there fits some = absurd (nobody_has (keeps.places id) spot fits.placed some)
  cause_instance id spot (Some o) there fits some = cause_section id spot o there fits some o.machine.section refl fits.placed fits.settled

  cause : (id : Id) (spot : Spot) → holder_of (w.entities (at_spot spot)) ≡ Some id → Because w id spot
  cause id spot is = by (release_or id spot)
    where
      by : (releases (w.links id (at_spot spot)) ≡ 0) ⊎ Releases w id spot → Because w id spot
      by (inl none) = cause_instance id spot (w.orchestrations id) refl (keeps.fits id) (has_it id spot is none)
      by (inr releases_it) = is_leaving releases_it

  nothing_stands : ((from to : Id) → w.links from to ≡ []) → (from to : Id) (message : Message) → Contains (w.links from to) message → ⊥
  nothing_stands none from to message has = nothing_in message (subst (λ (l : List Message). Contains l message) (none from to) has)

  runs_inside : ((from to : Id) → w.links from to ≡ []) → (id : Id) (spot : Spot) → Because w id spot → RunsInside w id spot
  runs_inside none id spot (is_inside has) = has
  runs_inside none id spot (is_acquiring has) = absurd (nothing_stands none has.from has.to has.message has.stands)
  runs_inside none id spot (is_granted has) = absurd (nothing_stands none has.from id has.message has.stands)
  runs_inside none id spot (is_leaving has) = absurd (nothing_stands none id (at_spot spot) has.message has.stands)

-- ---- of legal runs

pub never_overlaps : (flows : Flows) (run : List Label) (w : World) → Legal flows run w → Overlap w → ⊥
never_overlaps flows run w legal = overlaps_not w (legal_keeps flows run w legal)

pub waits_for_larger : (flows : Flows) (run : List Label) (w : World) → Legal flows run w → (id : Id) (shared smaller : Spot) → Waits w id shared → Holds w id smaller → spot_before smaller shared ≡ true
waits_for_larger flows run w legal = waits_rising w (legal_keeps flows run w legal)

pub never_circles : (flows : Flows) (run : List Label) (w : World) → Legal flows run w → (id : Id) → Blocks w id id → ⊥
never_circles flows run w legal = circles_not w (legal_keeps flows run w legal)

pub has_cause : (flows : Flows) (run : List Label) (w : World) → Legal flows run w → (id : Id) (spot : Spot) → holder_of (w.entities (at_spot spot)) ≡ Some id → Because w id spot
has_cause flows run w legal = cause w (legal_keeps flows run w legal)

pub holder_inside : (flows : Flows) (run : List Label) (w : World) → Legal flows run w → ((from to : Id) → w.links from to ≡ []) → (id : Id) (spot : Spot) → holder_of (w.entities (at_spot spot)) ≡ Some id → RunsInside w id spot
holder_inside flows run w legal none id spot is = let keeps = legal_keeps flows run w legal in runs_inside w keeps none id spot (cause w keeps id spot is)
