-- How things stand when a call begins.
use Rattle.std.proofs.Common.{◌≡◌, inl, ℕ, zero, suc, ◌+◌, ◌<◌, Bool, false, List, [], ◌∷◌, ◌++◌, length, map, Some, Ok, slice_get, refl, sym, ◌∙◌, ap, subst, add-zero, arith}
use Rattle.std.specs.List.{fold, sum_by}
use Rattle.std.proofs.lemmas.List.{append-nil, length-map}
use Rattle.std.specs.Vec.{vec_len}
use Rattle.site_model.specs.declared.site.Site as sites
use Rattle.site_model.specs.History.{Step, changes_of, tape}
use Rattle.commit_log.specs.declared.states.Resting.{Resting}
use Rattle.commit_log.proofs.Steps.{resting_images}
use Rattle.dura_value.specs.Items.{Entry}
use Rattle.hub_store.specs.declared.start.Start as starts
use Rattle.hub_store.specs.declared.trail.Settled as rows
use Rattle.hub_store.specs.declared.store.Store.{Store}
use Rattle.hub_store.specs.declared.way.Way.{Way}
use Rattle.hub_store.specs.Plain.{trail_of, told_of}
use Rattle.hub_store.specs.declared.way.Way.TheVariants as places
use Rattle.hub_store.specs.declared.way.Way.TheVariants.{Away}
use Rattle.hub_store.specs.Origin.{Origin}
use Rattle.hub_store.specs.Opened.{IsOrigin, HasBegun}
use Rattle.hub_store.specs.Trail.{Settled, Said, of_part}
use Rattle.hub_store.specs.Moments.{StandsWith, StoreStands}
use Rattle.hub_store.specs.Moments.SaidSoFar.{silent}
use Rattle.hub_store.specs.Runs.{Runs}
use Rattle.hub_store.specs.Runs.Runs.{starts as run_starts}
use Rattle.hub_store.specs.Sound.{IsTold, IsSound}
use Rattle.hub_store.specs.Ways.{LogFits, way_of, due_in, stage_of}
use Rattle.hub_store.proofs.Payloads.{kept_payloads}

-- each of these is the way of a log at rest
pub way_at : (logs : List Resting) (p : ℕ) → p < length logs → (log : Resting) × (slice_get logs p ≡ Some log) × (way_of (map places.Resting logs) p ≡ places.Resting log)
way_at [] p below = absurd (omega (arith, below))
way_at (log ∷ logs) zero below = (log, refl, refl)
way_at (log ∷ logs) (suc p) below = way_at logs p (omega (arith, below))

none_from : (n : ℕ) (logs : List Resting) → fold (λ sum way. sum + due_in way) n (map places.Resting logs) ≡ n
none_from n [] = refl
none_from n (log ∷ logs) = none_from (n + 0) logs ∙ add-zero n

pub none_due : (logs : List Resting) → sum_by due_in (map places.Resting logs) ≡ 0
none_due logs = none_from 0 logs

module _ (MayFollow : List Settled → List Said → ℕ → List Entry → Type 0) (MaySay : List Settled → List Said → Said → List ℕ → Type 0) (o : Origin) where
  pub told_begun : (steps : List Step) (logs : List Resting) → length logs ≡ o.count → IsOrigin o → HasBegun o steps logs → IsTold MayFollow MaySay o steps (map places.Resting logs) [] [] false
  told_begun steps logs many origin begun =
      let fits : (p : ℕ) → p < o.count → LogFits (o.logs p) (of_part p []) (changes_of (o.logs p).file steps) (way_of (map places.Resting logs) p) =
      λ p below.
      let found = way_at logs p (omega (arith, many, below)) in
      subst (LogFits (o.logs p) [] (changes_of (o.logs p).file steps)) (sym found.2) (record {
        payloads = (o.logs p).payloads;
        kept = origin.kept p below ∙ ap (λ (l : List Entry). Ok l) (sym (append-nil (o.logs p).entries));
        next = tt;
        fits = begun.rests p found.0 found.1;
      }) in
      let stands : StandsWith MayFollow MaySay o steps [] [] [] = record {
        lines = [];
        rightly = silent;
        spoken = ap tape begun.now ∙ sym (append-nil (tape o.steps)) ∙ sym (append-nil (tape o.steps ++ []));
        images = λ p below image left.
            let found = way_at logs p (omega (arith, many, below)) in
            inl (
              found.0.gate,
              kept_payloads (o.logs p).header (o.logs p).payloads found.0.gate ((o.logs p).entries ++ []) image
                  (resting_images (o.logs p).header (o.logs p).payloads found.0.gate (changes_of (o.logs p).file steps) (begun.rests p found.0 found.1).1 image left) (origin.kept p below ∙ ap (λ (l : List Entry). Ok l) (sym (append-nil (o.logs p).entries))),
            );
        others = λ file none. ap (changes_of file) begun.now;
      } in
      record {
        runs = subst (λ (now : List Step). Runs (StoreStands MayFollow MaySay o) o.steps now []) (sym begun.now)
            (run_starts (subst (λ (now : List Step). StoreStands MayFollow MaySay o now []) begun.now (record { told = []; part = []; stands = stands; speaking = inl refl })));
        logs = fits;
        rests = λ going. stands;
      }

-- a store of these is sound
pub sound_begun : {V N : Type 0} {G : sites.Ghosts V} {H : starts.Ghosts N} (store : Store V N G H) (logs : List Resting) → length logs ≡ H.origin.count → IsOrigin H.origin → store.ways.items ≡ map places.Resting logs → store.trail.items ≡ []
    → store.told.items ≡ [] → store.due ≡ 0 → vec_len store.trail ≡ 0 → store.cut ≡ false → (G.tells store.site → HasBegun H.origin (G.history store.site) logs) → IsSound store
sound_begun {V} {N} {G} {H} store logs many origin ways trail told due none uncut begun = record {
  count = ap length ways ∙ length-map logs places.Resting ∙ many;
  there = λ p below is.
      let found = way_at logs p (omega (arith, many, below)) in
      let taken : places.Resting found.0 ≡ Away = sym found.2 ∙ ap (λ (w : List Way). way_of w p) (sym ways) ∙ is in
      cc;
  apart = origin.apart;
  headers = origin.headers;
  due = ap (sum_by due_in) ways ∙ none_due logs ∙ sym due;
  room = omega (arith, due, none);
  uncut = λ still. uncut;
  short = λ tells p below.
      let found = way_at logs p (omega (arith, many, below)) in
      inl (ap stage_of (ap (λ (w : List Way). way_of w p) ways ∙ found.2), ap (λ (t : List rows.Settled). of_part p (trail_of t)) trail);
  told = λ tells.
      let stands = told_begun (H.may_follow store.latest) H.may_say H.origin (G.history store.site) logs many origin (begun tells) in
      subst (λ (b : Bool). IsTold (H.may_follow store.latest) H.may_say H.origin (G.history store.site) store.ways.items (trail_of store.trail.items) (told_of store.told.items) b) (sym uncut)
      (subst (λ (w : List Way). IsTold (H.may_follow store.latest) H.may_say H.origin (G.history store.site) w (trail_of store.trail.items) (told_of store.told.items) false) (sym ways)
      (subst (λ (t : List Settled). IsTold (H.may_follow store.latest) H.may_say H.origin (G.history store.site) (map places.Resting logs) t (told_of store.told.items) false) (sym (ap trail_of trail))
      (subst (λ (s : List Said). IsTold (H.may_follow store.latest) H.may_say H.origin (G.history store.site) (map places.Resting logs) [] s false) (sym (ap told_of told)) stands)));
}
