-- What is ready of the lives so far, and which of them is spent.
use Rattle.std.proofs.Common.{◌≡◌, ◌≤◌, ◌<◌, ◌+◌, ◌^◌, inl, inr, ℕ, List, [], ◌∷◌, ◌++◌, length, get_or, Some, Result, refl, sym, ◌∙◌, ap, subst, arith}
use Rattle.std.specs.Prelude.{IfOk}
use Rattle.std.specs.List.{slice_get}
use Rattle.std.proofs.lemmas.Bool.{cases_eq}
use Rattle.std.proofs.lemmas.Option.{get_or_from_slice_get, slice_get_within}
use Rattle.commit_log.specs.declared.states.Resting.{Resting}
use Rattle.dura_value.specs.Items.{Entry}
use Rattle.open_logs.specs.Moments.{KeepsAll}
use Rattle.open_logs.specs.Ready.{IsReady, AllReady, OpensLog, HasOpened, AreOfLives}
use Rattle.open_logs.specs.Spent.{AreYoung}
use Rattle.open_logs.specs.declared.formatting.Ready.{Ready}
use Rattle.open_logs.proofs.Formats.{one_step}
use Rattle.open_logs.proofs.Pushed.{pushed_both, stands_behind, one_longer}
use Rattle.recover_core.specs.declared.ending.Life.{Life}
use Rattle.site_model.specs.History.{Step}
use Rattle.site_model.specs.Moments.{Always}

-- nothing is ready of no life
pub none_ready : (ready : Ready) → ready.logs.items ≡ [] → ready.pasts.items ≡ [] → ready.incarnations.items ≡ [] → AreOfLives [] ready
none_ready ready logs pasts incarnations = record {
  logs = ap length logs;
  pasts = ap length pasts;
  incarnations = ap length incarnations;
  past = λ partition life past at there. absurd (cc at);
  incarnation = λ partition life incarnation at there. absurd (cc at);
}

-- one more
pub one_more_ready : (lives : List Life) (life : Life) (old new : Ready) (log : _) → AreOfLives lives old → new.logs.items ≡ old.logs.items ++ log ∷ [] → new.pasts.items ≡ old.pasts.items ++ life.past ∷ [] → new.incarnations.items ≡ old.incarnations.items ++ life.incarnation ∷ []
    → AreOfLives (lives ++ life ∷ []) new
one_more_ready lives life old new log are logs pasts incarnations = record {
  logs = ap length logs ∙ one_longer old.logs.items log ∙ ap (λ (n : ℕ). n + 1) are.logs ∙ sym (one_longer lives life);
  pasts = ap length pasts ∙ one_longer old.pasts.items life.past ∙ ap (λ (n : ℕ). n + 1) are.pasts ∙ sym (one_longer lives life);
  incarnations = ap length incarnations ∙ one_longer old.incarnations.items life.incarnation ∙ ap (λ (n : ℕ). n + 1) are.incarnations ∙ sym (one_longer lives life);
  past = λ partition one past at there.
      pushed_both (λ place (l : Life) (p : List ℕ). p ≡ l.past) lives old.pasts.items life life.past (sym are.pasts) are.past refl partition one past at (subst (λ (l : List (List ℕ)). slice_get l partition ≡ Some past) pasts there);
  incarnation = λ partition one incarnation at there.
      pushed_both (λ place (l : Life) (n : ℕ). n ≡ l.incarnation) lives old.incarnations.items life life.incarnation (sym are.incarnations) are.incarnation refl partition one incarnation at (subst (λ (l : List ℕ). slice_get l partition ≡ Some incarnation) incarnations there);
}

-- where the next of those that are left stands
pub next_at : (all done rest : List Life) (life : Life) → done ++ life ∷ rest ≡ all → slice_get all (length done) ≡ Some life
next_at all done rest life is = subst (λ (l : List Life). slice_get l (length done) ≡ Some life) is (stands_behind done life rest)

pub next_within : (all done rest : List Life) (life : Life) → done ++ life ∷ rest ≡ all → length done < length all
next_within all done rest life is = slice_get_within all (length done) life (next_at all done rest life is)

-- the log of the next is opened
pub next_opened : {E : Type 0} (count digest : ℕ) (logs : ℕ → List Entry) (base now new : List Step) (all done rest : List Life) (life : Life) (opened : List Resting) (partition : ℕ) (result : Result Resting E) → length all ≡ count → done ++ life ∷ rest ≡ all → partition ≡ length done
    → length opened ≡ length done → AllReady count digest logs base all → HasOpened count digest logs base now opened → OpensLog count digest partition now new life.log result
    → Always (KeepsAll count digest logs base) base new × IfOk result (λ log. HasOpened count digest logs base new (opened ++ log ∷ []))
next_opened count digest logs base now new all done rest life opened partition result many is place long ready so_far opens =
    let inside = next_within all done rest life is in
    one_step count digest logs base now opened so_far partition (long ∙ sym place) new life.log result (omega (arith, inside, many, place))
    (subst (λ (p : ℕ). IsReady count digest p (logs p) base life.log) (sym place) (ready (length done) life (next_at all done rest life is))) opens

-- ---- incarnations

pub young_more : (lives : List Life) (place : ℕ) (d : Life) → AreYoung place lives → (get_or lives place d).incarnation < 2 ^ 62 → AreYoung (place + 1) lives
young_more lives place d lower here other life below at = elim (cases_eq other place) [
  | inl same ↦ subst (λ (l : Life). l.incarnation < 2 ^ 62) (get_or_from_slice_get lives place life d (subst (λ (p : ℕ). slice_get lives p ≡ Some life) same at)) here
  | inr apart ↦ lower other life (omega (arith, below, apart)) at
]

pub is_spent : (lives : List Life) (place : ℕ) (d : Life) → 2 ^ 62 ≤ (get_or lives place d).incarnation → (life : Life) → slice_get lives place ≡ Some life → 2 ^ 62 ≤ life.incarnation
is_spent lives place d here life at = subst (λ (l : Life). 2 ^ 62 ≤ l.incarnation) (get_or_from_slice_get lives place life d at) here
