-- Calls on one partition's log: the others stand as they stood.
use Rattle.std.proofs.Common.{◌≡◌, ◌⊎◌, inl, inr, ℕ, ◌<◌, Bool, false, List, [], ◌∷◌, length, refl, sym, ◌∙◌, subst, arith}
use Rattle.std.proofs.Math.ListN.{set}
use Rattle.std.proofs.lemmas.Bool.{cases_eq}
use Rattle.std.proofs.lemmas.List.{get_or-set_same, get_or-set_other}
use Rattle.site_model.specs.History.{Change, Step, changes_of, Leaves}
use Rattle.site_model.specs.Moments.{Always, OnlyFile}
use Rattle.site_model.specs.Moments.Always.{begins, goes_on}
use Rattle.site_model.proofs.Paths.{last}
use Rattle.dura_value.specs.Items.{Entry}
use Rattle.hub_store.specs.declared.way.Way.{Way}
use Rattle.hub_store.specs.declared.way.Way.TheVariants.{Away}
use Rattle.hub_store.specs.Origin.{Origin, AreApart}
use Rattle.hub_store.specs.Trail.{Settled, Said, of_part}
use Rattle.hub_store.specs.Moments.{LeavesLog, StandsWith}
use Rattle.hub_store.specs.Ways.{LogFits, way_of}
use Rattle.hub_store.specs.Sound.{IsTold}
use Rattle.hub_store.proofs.EveryMoment.{runs_along}

-- one step, or none
pub one_step : {P : List Step → Type 0} (old new : List Step) (step : Step) → (new ≡ step ∷ old) ⊎ (new ≡ old) → P old → (new ≡ step ∷ old → P new) → Always P old new
one_step {P} old new step (inl is) here there = subst (Always P old) (sym is) (goes_on (begins here) (subst P is (there is)))
one_step {P} old new step (inr is) here there = subst (Always P old) (sym is) (begins here)

module _ (MayFollow : List Settled → List Said → ℕ → List Entry → Type 0) (MaySay : List Settled → List Said → Said → List ℕ → Type 0) (o : Origin) where
  -- nothing happened but to this partition's log, of which a crash leaves what it may
  pub record OnLog (p : ℕ) (trail : List Settled) (told : List Said) (old steps : List Step) : Type 0 where
    pub only : OnlyFile (o.logs p).file old steps
    pub images : (image : List ℕ) → Leaves (changes_of (o.logs p).file steps) image → LeavesLog MayFollow MaySay (o.logs p) p trail told (changes_of (o.logs p).file steps) image

  -- of another partition's log
  pub other_log : (p q : ℕ) (old steps : List Step) → AreApart o → p < o.count → q < o.count → (q ≡ p → ⊥) → OnlyFile (o.logs p).file old steps → changes_of (o.logs q).file steps ≡ changes_of (o.logs q).file old
  other_log p q old steps apart below there other only = only.others (o.logs q).file (apart q p there below other)

  -- so all stands as it stood
  pub stands_on : (p : ℕ) (trail : List Settled) (told : List Said) (old steps : List Step) → AreApart o → p < o.count → StandsWith MayFollow MaySay o old trail told [] → OnLog p trail told old steps
      → StandsWith MayFollow MaySay o steps trail told []
  stands_on p trail told old steps apart below stood here = record {
    lines = stood.lines;
    rightly = stood.rightly;
    spoken = here.only.same_tape ∙ stood.spoken;
    images = λ q there. elim (cases_eq q p) [
      | inl is ↦ subst (λ (r : ℕ). (image : List ℕ) → Leaves (changes_of (o.logs r).file steps) image → LeavesLog MayFollow MaySay (o.logs r) r trail told (changes_of (o.logs r).file steps) image) (sym is) here.images
      | inr other ↦
          subst (λ (changes : List Change). (image : List ℕ) → Leaves changes image → LeavesLog MayFollow MaySay (o.logs q) q trail told changes image)
          (sym (other_log p q old steps apart below there other here.only)) (stood.images q there)
    ];
    others = λ file none. here.only.others file (λ is. none p below (sym is)) ∙ stood.others file none;
  }

  -- a call on one log, which then stands as its new way says
  pub told_on : (p : ℕ) (old new : List Step) (ways : List Way) (way : Way) (trail : List Settled) (told : List Said) (cut now_cut : Bool) → AreApart o → length ways ≡ o.count → p < o.count
      → cut ≡ false → IsTold MayFollow MaySay o old ways trail told cut → Always (OnLog p trail told old) old new
      → LogFits (o.logs p) (of_part p trail) (changes_of (o.logs p).file new) way → IsTold MayFollow MaySay o new (set ways p way) trail told now_cut
  told_on p old new ways way trail told cut now_cut apart many below going stood path fits = record {
    runs = runs_along stood.runs path (λ steps here. record { told = told; part = []; stands = stands_on p trail told old steps apart below (stood.rests going) here; speaking = inl refl });
    logs = λ q there. elim (cases_eq q p) [
      | inl is ↦ subst (λ (r : ℕ). LogFits (o.logs r) (of_part r trail) (changes_of (o.logs r).file new) (way_of (set ways p way) r)) (sym is)
          (subst (LogFits (o.logs p) (of_part p trail) (changes_of (o.logs p).file new)) (sym (get_or-set_same ways p way Away (omega arith))) fits)
      | inr other ↦
          subst (λ (changes : List Change). LogFits (o.logs q) (of_part q trail) changes (way_of (set ways p way) q)) (sym (other_log p q old new apart below there other (last path).only))
          (subst (LogFits (o.logs q) (of_part q trail) (changes_of (o.logs q).file old)) (sym (get_or-set_other ways p q way Away other)) (stood.logs q there))
    ];
    rests = λ still. stands_on p trail told old new apart below (stood.rests going) (last path);
  }
