-- How all stands behind a call that makes the files of several frames safe, or failed to.
use Rattle.std.proofs.Common.{◌≡◌, ◌≢◌, inl, inr, ℕ, zero, suc, ◌+◌, ◌<◌, ◌≤◌, Bool, true, false, List, [], ◌∷◌, ◌++◌, length, take, Some, Ok, refl, sym, ◌∙◌, ap, subst, arith, append_assoc}
use Rattle.std.specs.Vec.{vec_len, vec_capacity}
use Rattle.std.specs.Global.{Vec}
use Rattle.site_model.specs.History.{Change, Step, on, synced, syncing, changes_of, reads, Leaves}
use Rattle.site_model.specs.declared.site.Site as sites
use Rattle.site_model.specs.Moments.{Always}
use Rattle.site_model.specs.Moments.Always.{begins, goes_on}
use Rattle.site_model.proofs.Paths.{together}
use Rattle.site_model.proofs.Syncing.{tape-syncing}
use Rattle.commit_log.specs.declared.header.Header.{Header}
use Rattle.commit_log.proofs.Steps.{settled, resting_images, bodied_synced_images}
use Rattle.dura_value.specs.Items.{Entry}
use Rattle.log_items.specs.Plain.{entries_of}
use Rattle.part_items.specs.Spelling.{spell_frame}
use Rattle.hub_store.specs.declared.start.Start as starts
use Rattle.hub_store.specs.declared.store.Store.{Store}
use Rattle.hub_store.specs.declared.trail.Settled as rows
use Rattle.hub_store.specs.declared.trail.Said as requests
use Rattle.hub_store.specs.Changes.{stage_at, going_at, trail_in, told_in}
use Rattle.hub_store.specs.declared.way.Way.{Way}
use Rattle.hub_store.specs.declared.way.Way.TheVariants.{Resting, Bodied, Synced, Gated, Safe, BrokenBody, BrokenGate, Away}
use Rattle.hub_store.specs.declared.way.Stage.TheVariants as stages
use Rattle.hub_store.specs.Moments.{before_syncs, LeavesLog, StandsWith, StoreStands}
use Rattle.hub_store.specs.Origin.{Origin, AreApart, IsNoLog}
use Rattle.hub_store.specs.Plain.{trail_of, told_of}
use Rattle.hub_store.specs.Runs.{Runs}
use Rattle.hub_store.specs.Short.{KeepsShort}
use Rattle.hub_store.specs.Sound.{IsTold, IsSound}
use Rattle.hub_store.specs.Trail.{Settled, Said, of_part}
use Rattle.hub_store.specs.Waiting.{waits, waiting, IsBehind, AreBehind}
use Rattle.hub_store.specs.Ways.{LogFits, WayFits, WayGoesOn, stage_of, way_of, going_in}
use Rattle.hub_store.proofs.EveryMoment.{runs_along}
use Rattle.hub_store.proofs.Payloads.{kept_payloads}
use Rattle.hub_store.proofs.Shortness.{still_short}
use Rattle.hub_store.proofs.Stores.{with_frame}
use Rattle.hub_store.proofs.SyncCounts.{count_of, syncs_on, changes_syncing, count_take, file_in, either, none_there, one_there, waits_inside, dues_same}
use Rattle.hub_store.proofs.SyncCounts.Either.{it_is, it_is_not}

-- one step a file
pub syncing_along : {P : List Step → Type 0} (files : List ℕ) (steps : List Step) → ((n : ℕ) → P (syncing (take n files) steps)) → Always P steps (syncing files steps)
syncing_along [] steps all = begins (all 0)
syncing_along (file ∷ files) steps all = together (goes_on (begins (all 0)) (all 1)) (syncing_along files (on file synced ∷ steps) (λ n. all (suc n)))

-- a frame that waits is in its partition's file
file_fits : (file : ℕ) (h : Header) (payloads : List (List ℕ)) (changes : List Change) (way : Way) → WayFits file h payloads changes way → waits (stage_of way) ≡ true → file_in way ≡ file
file_fits file h payloads changes (Resting log) fits is = absurd (cc is)
file_fits file h payloads changes (Bodied log frame) fits is = fits.0
file_fits file h payloads changes (Synced log frame) fits is = absurd (cc is)
file_fits file h payloads changes (Gated log frame) fits is = fits.0
file_fits file h payloads changes (Safe log frame) fits is = absurd (cc is)
file_fits file h payloads changes (BrokenBody log frame) fits is = absurd (cc is)
file_fits file h payloads changes (BrokenGate log frame) fits is = absurd (cc is)
file_fits file h payloads changes Away fits is = absurd fits

-- and it has entries
waits_going : (way : Way) → waits (stage_of way) ≡ true → (going : List Entry) × (going_in way ≡ Some going)
waits_going (Resting log) is = absurd (cc is)
waits_going (Bodied log frame) is = (entries_of frame, refl)
waits_going (Synced log frame) is = absurd (cc is)
waits_going (Gated log frame) is = (entries_of frame, refl)
waits_going (Safe log frame) is = absurd (cc is)
waits_going (BrokenBody log frame) is = absurd (cc is)
waits_going (BrokenGate log frame) is = absurd (cc is)
waits_going Away is = absurd (cc is)

module _ (MayFollow : List Settled → List Said → ℕ → List Entry → Type 0) (MaySay : List Settled → List Said → Said → List ℕ → Type 0) (o : Origin) where
  -- what a crash leaves of a file with a frame that waited, behind the sync: the frame only where its gate was written
  leaves_synced : (p : ℕ) (trail : List Settled) (told : List Said) (changes : List Change) (way : Way) → LogFits (o.logs p) (of_part p trail) changes way → waits (stage_of way) ≡ true
      → ((going : List Entry) → going_in way ≡ Some going → stage_of way ≡ stages.Gated → MayFollow trail told p going)
      → (image : List ℕ) → Leaves (synced ∷ changes) image → LeavesLog MayFollow MaySay (o.logs p) p trail told (synced ∷ changes) image
  leaves_synced p trail told changes (Resting log) fits is follows image left = absurd (cc is)
  leaves_synced p trail told changes (Bodied log frame) fits is follows image left =
      let h = (o.logs p).header in
      inl (log.gate, kept_payloads h fits.payloads log.gate ((o.logs p).entries ++ of_part p trail) image (bodied_synced_images h fits.payloads (spell_frame (entries_of frame)) log.gate log.next changes fits.fits.1 image left) fits.kept)
  leaves_synced p trail told changes (Synced log frame) fits is follows image left = absurd (cc is)
  leaves_synced p trail told changes (Gated log frame) fits is follows image left =
      let h = (o.logs p).header in
      let payload = spell_frame (entries_of frame) in
      let going = entries_of frame in
      let rests = settled h fits.payloads payload log.gate log.next changes fits.fits.1 in
      let wrote_is = fits.fits.2 in
      inr (record {
        going = going;
        follows = follows going refl refl;
        gate = record {
          gate = log.gate;
          bytes = wrote_is.0;
          before = wrote_is.1;
          last = ap before_syncs wrote_is.2;
          kept = kept_payloads h fits.payloads log.gate ((o.logs p).entries ++ of_part p trail) (reads wrote_is.1) wrote_is.3 fits.kept;
        };
        keeps = (
          log.next,
          kept_payloads h (fits.payloads ++ payload ∷ []) log.next ((o.logs p).entries ++ (of_part p trail ++ going)) image (resting_images h (fits.payloads ++ payload ∷ []) log.next (synced ∷ changes) rests image left)
              (fits.next ∙ ap (λ (l : List Entry). Ok l) (append_assoc (o.logs p).entries (of_part p trail) going)),
        );
      })
  leaves_synced p trail told changes (Safe log frame) fits is follows image left = absurd (cc is)
  leaves_synced p trail told changes (BrokenBody log frame) fits is follows image left = absurd (cc is)
  leaves_synced p trail told changes (BrokenGate log frame) fits is follows image left = absurd (cc is)
  leaves_synced p trail told changes Away fits is follows image left = absurd (cc is)

  -- how all stands before the call
  pub record CanSync (ways : List Way) (trail : List Settled) (told : List Said) (steps : List Step) : Type 0 where
    pub apart : AreApart o
    pub many : length ways ≡ o.count
    pub logs : (p : ℕ) → p < o.count → LogFits (o.logs p) (of_part p trail) (changes_of (o.logs p).file steps) (way_of ways p)
    pub follows : (p : ℕ) → p < o.count → (going : List Entry) → going_in (way_of ways p) ≡ Some going → stage_of (way_of ways p) ≡ stages.Gated → MayFollow trail told p going
    pub stands : StandsWith MayFollow MaySay o steps trail told []

  module _ (ways : List Way) (trail : List Settled) (told : List Said) (steps : List Step) (can : CanSync ways trail told steps) where
    -- the file of another's frame
    other_file : (f : ℕ) (j : ℕ) → waits (stage_of (way_of ways j)) ≡ true → ((o.logs j).file ≢ f) → file_in (way_of ways j) ≢ f
    other_file f j is differ same =
        let inside : j < o.count = omega (arith, waits_inside ways j is, can.many) in
        let fits = can.logs j inside in
        differ (sym (file_fits (o.logs j).file (o.logs j).header fits.payloads (changes_of (o.logs j).file steps) (way_of ways j) fits.fits is) ∙ same)

    inside_of : (j : ℕ) → waits (stage_of (way_of ways j)) ≡ true → j < o.count
    inside_of j is = omega (arith, waits_inside ways j is, can.many)

    -- each that waits is synced once, no other
    pub count_waiting : (p : ℕ) → p < o.count → waits (stage_of (way_of ways p)) ≡ true → count_of (o.logs p).file (waiting ways) ≡ 1
    count_waiting p below is =
        let fits = can.logs p below in
        one_there (o.logs p).file ways p is (file_fits (o.logs p).file (o.logs p).header fits.payloads (changes_of (o.logs p).file steps) (way_of ways p) fits.fits is)
        (λ j differ there. other_file (o.logs p).file j there (can.apart j p (inside_of j there) below differ))

    pub count_resting : (p : ℕ) → p < o.count → waits (stage_of (way_of ways p)) ≡ false → count_of (o.logs p).file (waiting ways) ≡ 0
    count_resting p below is =
        none_there (o.logs p).file ways
        (λ j there. other_file (o.logs p).file j there (can.apart j p (inside_of j there) below (λ same. let wrong : waits (stage_of (way_of ways p)) ≡ true = subst (λ (n : ℕ). waits (stage_of (way_of ways n)) ≡ true) same there in cc (is, wrong))))

    count_no_log : (f : ℕ) → IsNoLog o f → count_of f (waiting ways) ≡ 0
    count_no_log f none = none_there f ways (λ j there. other_file f j there (none j (inside_of j there)))

    -- what a crash leaves of a log that was synced so often
    leaves_by : (p : ℕ) → p < o.count → (k : ℕ) → k ≤ count_of (o.logs p).file (waiting ways) → (image : List ℕ) → Leaves (syncs_on k (changes_of (o.logs p).file steps)) image
        → LeavesLog MayFollow MaySay (o.logs p) p trail told (syncs_on k (changes_of (o.logs p).file steps)) image
    leaves_by p below zero few = can.stands.images p below
    leaves_by p below (suc k) few = elim (either (waits (stage_of (way_of ways p)))) [
      | it_is is ↦
          let none : k ≡ 0 = omega (arith, few, count_waiting p below is) in
          subst (λ (n : ℕ). (image : List ℕ) → Leaves (synced ∷ syncs_on n (changes_of (o.logs p).file steps)) image → LeavesLog MayFollow MaySay (o.logs p) p trail told (synced ∷ syncs_on n (changes_of (o.logs p).file steps)) image) (sym none)
          (leaves_synced p trail told (changes_of (o.logs p).file steps) (way_of ways p) (can.logs p below) is (can.follows p below))
      | it_is_not is ↦ absurd (omega (arith, few, count_resting p below is))
    ]

    -- all stands behind some of them as it stood
    pub stands_synced : (files : List ℕ) → ((f : ℕ) → count_of f files ≤ count_of f (waiting ways)) → StandsWith MayFollow MaySay o (syncing files steps) trail told []
    stands_synced files few = record {
      lines = can.stands.lines;
      rightly = can.stands.rightly;
      spoken = tape-syncing files steps ∙ can.stands.spoken;
      images = λ p below.
          subst (λ (changes : List Change). (image : List ℕ) → Leaves changes image → LeavesLog MayFollow MaySay (o.logs p) p trail told changes image) (sym (changes_syncing (o.logs p).file files steps))
          (leaves_by p below (count_of (o.logs p).file files) (few (o.logs p).file));
      others = λ f none.
          let never : count_of f files ≡ 0 = omega (arith, few f, count_no_log f none) in
          changes_syncing f files steps ∙ ap (λ (k : ℕ). syncs_on k (changes_of f steps)) never ∙ can.stands.others f none;
    }

    pub runs_synced : {begin : List Step} → Runs (StoreStands MayFollow MaySay o) begin steps trail → (files : List ℕ) → ((f : ℕ) → count_of f files ≤ count_of f (waiting ways)) → Runs (StoreStands MayFollow MaySay o) begin (syncing files steps) trail
    runs_synced runs files few =
        runs_along runs
        (syncing_along {P = λ now. StandsWith MayFollow MaySay o now trail told []} files steps (λ m. stands_synced (take m files) (λ f. let a = count_take f files m in let b = few f in omega (arith, a, b))))
        (λ now here. record { told = told; part = []; stands = here; speaking = inl refl })

    -- a log whose frame went on
    fits_new : (p : ℕ) (below : p < o.count) (changes : List Change) (way : Way) → going_in way ≡ going_in (way_of ways p) → WayFits (o.logs p).file (o.logs p).header (can.logs p below).payloads changes way → LogFits (o.logs p) (of_part p trail) changes way
    fits_new p below changes way going stands =
        let fits = can.logs p below in
        record {
          payloads = fits.payloads;
          kept = fits.kept;
          next = subst (WayGoesOn (o.logs p).header fits.payloads ((o.logs p).entries ++ of_part p trail)) (sym going) fits.next;
          fits = stands;
        }

    waits_behind : (safe : Bool) (p : ℕ) (below : p < o.count) (new : Way) (k : ℕ) → IsBehind safe (way_of ways p) new → waits (stage_of (way_of ways p)) ≡ true → k ≤ 1 → (safe ≡ true → 1 ≤ k)
        → LogFits (o.logs p) (of_part p trail) (syncs_on k (changes_of (o.logs p).file steps)) new
    waits_behind true p below new zero behind is few all = absurd (let some = all refl in omega (arith, some))
    waits_behind true p below new (suc zero) behind is few all =
        let fits = can.logs p below in
        fits_new p below (synced ∷ changes_of (o.logs p).file steps) new behind.going (behind.fits is (o.logs p).file (o.logs p).header fits.payloads (changes_of (o.logs p).file steps) fits.fits)
    waits_behind true p below new (suc (suc k)) behind is few all = absurd (omega (arith, few))
    waits_behind false p below new zero behind is few all =
        let fits = can.logs p below in
        fits_new p below (changes_of (o.logs p).file steps) new behind.going (behind.fits is (o.logs p).file (o.logs p).header fits.payloads (changes_of (o.logs p).file steps) fits.fits).0
    waits_behind false p below new (suc zero) behind is few all =
        let fits = can.logs p below in
        fits_new p below (synced ∷ changes_of (o.logs p).file steps) new behind.going (behind.fits is (o.logs p).file (o.logs p).header fits.payloads (changes_of (o.logs p).file steps) fits.fits).1
    waits_behind false p below new (suc (suc k)) behind is few all = absurd (omega (arith, few))

    log_behind : (safe : Bool) (p : ℕ) (below : p < o.count) (new : Way) (k : ℕ) → IsBehind safe (way_of ways p) new → k ≤ count_of (o.logs p).file (waiting ways) → (safe ≡ true → count_of (o.logs p).file (waiting ways) ≤ k)
        → LogFits (o.logs p) (of_part p trail) (syncs_on k (changes_of (o.logs p).file steps)) new
    log_behind safe p below new k behind few all = elim (either (waits (stage_of (way_of ways p)))) [
      | it_is is ↦
          let one = count_waiting p below is in
          waits_behind safe p below new k behind is (omega (arith, few, one)) (λ safely. let more = all safely in omega (arith, more, one))
      | it_is_not is ↦
          let none : k ≡ 0 = omega (arith, few, count_resting p below is) in
          subst (λ (n : ℕ). LogFits (o.logs p) (of_part p trail) (syncs_on n (changes_of (o.logs p).file steps)) new) (sym none)
          (subst (LogFits (o.logs p) (of_part p trail) (changes_of (o.logs p).file steps)) (sym (behind.stays is)) (can.logs p below))
    ]

    -- history, trail and logs behind the call
    pub told_behind : (safe : Bool) (new : List Way) (files : List ℕ) (begin : List Step) (cut : Bool) → ((f : ℕ) → count_of f files ≤ count_of f (waiting ways)) → (safe ≡ true → files ≡ waiting ways) → AreBehind safe ways new
        → Runs (StoreStands MayFollow MaySay o) o.steps steps trail → IsTold MayFollow MaySay o (syncing files steps) new trail told cut
    told_behind safe new files begin cut few all behind runs = record {
      runs = runs_synced runs files few;
      logs = λ p below.
          subst (λ (changes : List Change). LogFits (o.logs p) (of_part p trail) changes (way_of new p)) (sym (changes_syncing (o.logs p).file files steps))
          (log_behind safe p below (way_of new p) (count_of (o.logs p).file files) (behind.each p) (few (o.logs p).file)
          (λ safely. let same = ap (count_of (o.logs p).file) (all safely) in omega (arith, same)));
      rests = λ still. stands_synced files few;
    }

-- a store whose frames all went on so
module _ {V N : Type 0} {G : sites.Ghosts V} {H : starts.Ghosts N} (old new : Store V N G H) (safe : Bool) (behind : AreBehind safe old.ways.items new.ways.items) where
  still_there : (p : ℕ) → way_of old.ways.items p ≢ Away → way_of new.ways.items p ≢ Away
  still_there p there = elim (either (waits (stage_of (way_of old.ways.items p)))) [
    | it_is is ↦
        let some = waits_going (way_of old.ways.items p) is in
        with_frame (way_of new.ways.items p) some.0 ((behind.each p).going ∙ some.1)
    | it_is_not is ↦ λ away. there (sym ((behind.each p).stays is) ∙ away)
  ]

  still_keeps : (segment_length p : ℕ) (settled : List Entry) → KeepsShort segment_length settled (way_of old.ways.items p) → KeepsShort segment_length settled (way_of new.ways.items p)
  still_keeps segment_length p settled short = elim (either (waits (stage_of (way_of old.ways.items p)))) [
    | it_is is ↦
        let some = waits_going (way_of old.ways.items p) is in
        still_short segment_length settled settled (way_of old.ways.items p) (way_of new.ways.items p) some.0 some.1 (let same = (behind.each p).reach in omega (arith, same)) short
    | it_is_not is ↦ subst (KeepsShort segment_length settled) (sym ((behind.each p).stays is)) short
  ]

  pub sound_all : IsSound old → new.trail ≡ old.trail → new.due ≡ old.due → old.cut ≡ false → new.cut ≡ old.cut → new.segment ≡ old.segment → (G.tells new.site → G.tells old.site)
      → (G.tells new.site → IsTold (H.may_follow new.latest) H.may_say H.origin (G.history new.site) new.ways.items (trail_of old.trail.items) (told_of new.told.items) new.cut) → IsSound new
  sound_all sound trail due whole same_cut segment back told = record {
    count = behind.count ∙ sound.count;
    there = λ p below. still_there p (sound.there p below);
    apart = sound.apart;
    headers = sound.headers;
    due = dues_same old.ways.items new.ways.items behind.count (λ p. (behind.each p).due) ∙ sound.due ∙ sym due;
    room = subst (λ (t : Vec rows.Settled). vec_len t + new.due ≤ vec_capacity t) (sym trail) (omega (arith, sound.room, due));
    uncut = λ still. same_cut ∙ whole;
    short = λ tells p below.
        subst (λ (n : ℕ). KeepsShort n (of_part p (trail_of new.trail.items)) (way_of new.ways.items p)) (sym segment)
        (subst (λ (t : Vec rows.Settled). KeepsShort old.segment (of_part p (trail_of t.items)) (way_of new.ways.items p)) (sym trail)
        (still_keeps old.segment p (of_part p (trail_of old.trail.items)) (sound.short (back tells) p below)));
    told = λ tells.
        subst (λ (t : Vec rows.Settled). IsTold (H.may_follow new.latest) H.may_say H.origin (G.history new.site) new.ways.items (trail_of t.items) (told_of new.told.items) new.cut) (sym trail) (told tells);
  }

-- a store behind the call, which synced these files
pub store_synced : {V N : Type 0} {G : sites.Ghosts V} {H : starts.Ghosts N} (old new : Store V N G H) (safe : Bool) (files : List ℕ) → IsSound old → old.halted ≡ false
    → ((p : ℕ) → p < H.origin.count → (going : List Entry) → going_at old p ≡ Some going → stage_at old p ≡ stages.Gated → H.may_follow old.latest (trail_in old) (told_in old) p going)
    → AreBehind safe old.ways.items new.ways.items → new.trail ≡ old.trail → new.due ≡ old.due → new.told ≡ old.told → new.cut ≡ old.cut → new.segment ≡ old.segment → new.latest ≡ old.latest → (G.tells new.site → G.tells old.site)
    → G.history new.site ≡ syncing files (G.history old.site) → ((f : ℕ) → count_of f files ≤ count_of f (waiting old.ways.items)) → (safe ≡ true → files ≡ waiting old.ways.items) → IsSound new
store_synced {V} {N} {G} {H} old new safe files sound going follows behind trail due said same_cut segment latest back steps few all =
    sound_all old new safe behind sound trail due (sound.uncut going) same_cut segment back
    (λ tells.
    let stood = sound.told (back tells) in
    let can : CanSync (H.may_follow old.latest) H.may_say H.origin old.ways.items (trail_in old) (told_in old) (G.history old.site) =
    record { apart = sound.apart; many = sound.count; logs = stood.logs; follows = follows; stands = stood.rests (sound.uncut going) } in
    let now = told_behind (H.may_follow old.latest) H.may_say H.origin old.ways.items (trail_in old) (told_in old) (G.history old.site) can safe new.ways.items files H.origin.steps new.cut few all behind stood.runs in
    subst (λ (n : ℕ). IsTold (H.may_follow n) H.may_say H.origin (G.history new.site) new.ways.items (trail_of old.trail.items) (told_of new.told.items) new.cut) (sym latest)
    (subst (λ (t : Vec requests.Said). IsTold (H.may_follow old.latest) H.may_say H.origin (G.history new.site) new.ways.items (trail_of old.trail.items) (told_of t.items) new.cut) (sym said)
    (subst (λ (h : List Step). IsTold (H.may_follow old.latest) H.may_say H.origin h new.ways.items (trail_of old.trail.items) (told_of old.told.items) new.cut) (sym steps) now)))
