-- All partitions went on, one after the other.
use Rattle.std.proofs.Common.{◌≡◌, inl, inr, ℕ, ◌+◌, ◌<◌, ◌≤◌, ◌||◌, Bool, true, false, List, length, Option, Some, Result, refl, sym, subst, arith}
use Rattle.std.specs.List.{slice_get}
use Rattle.std.proofs.lemmas.Bool.{cases_eq}
use Rattle.std.proofs.lemmas.Option.{slice_get_within}
use Rattle.site_model.specs.History.{Step}
use Rattle.commit_log.specs.declared.reader.OpenedLog.{OpenedLog}
use Rattle.flow_syntax.specs.Syntax.{Flows}
use Rattle.dura_model.specs.Partition.{Partition}
use Rattle.part_steps.specs.declared.state.PartState.{PartState}
use Rattle.part_steps.specs.States.{parts_in}
use Rattle.recover_core.specs.Courses.{Halts}
use Rattle.recover_core.specs.Rounds.{AllRead, AllWhole, ArePlaced, HasLess, HasTurned, Turns, HasGoneRound, GoesRound, HasPlacedAll}
use Rattle.recover_core.specs.declared.course.Course.{Course}
use Rattle.recover_core.specs.declared.error.RecoverError.{RecoverError}

-- the partitions so far went on, and where none did none of them can
pub record InRound (flows : Flows) (count : ℕ) (steps : List Step) (place : ℕ) (parts : ℕ → Partition) (courses : List Course) (moved : Bool) : Type 0 where
  pub placed : ArePlaced flows count steps parts courses
  pub halt : moved ≡ false → (lower : ℕ) → lower < place → (course : Course) → slice_get courses lower ≡ Some course → Halts flows count parts lower course.comes

both_false : (a b : Bool) → (a || b) ≡ false → (a ≡ false) × (b ≡ false)
both_false true b is = absurd (cc is)
both_false false b is = (refl, is)

pub round_begun : (flows : Flows) (count : ℕ) (steps : List Step) (parts : ℕ → Partition) (courses : List Course) → ArePlaced flows count steps parts courses → InRound flows count steps 0 parts courses false
round_begun flows count steps parts courses placed = record { placed = placed; halt = λ is lower below. absurd (omega (arith, below)) }

pub round_on : (flows : Flows) (count : ℕ) (steps : List Step) (place : ℕ) (now new : ℕ → Partition) (was courses : List Course) (moved gone : Bool) → InRound flows count steps place now was moved → HasTurned flows count steps place now new was courses gone
    → InRound flows count steps (place + 1) new courses (moved || gone)
round_on flows count steps place now new was courses moved gone so_far turned = record {
  placed = turned.placed;
  halt = λ is lower below course at.
      let none = both_false moved gone is in
      elim (cases_eq lower place) [
        | inl same ↦
            let here : slice_get courses place ≡ Some course = subst (λ (l : ℕ). slice_get courses l ≡ Some course) same at in
            subst (λ (l : ℕ). Halts flows count new l course.comes) (sym same) (turned.halts course here)
        | inr apart ↦
            let before = so_far.halt none.0 lower (omega (arith, below, apart)) course (turned.others lower course apart at) in
            subst (λ (f : ℕ → Partition). Halts flows count f lower course.comes) (sym (turned.stays none.1)) before
      ];
}

pub round_over : (flows : Flows) (count : ℕ) (steps : List Step) (place : ℕ) (parts : ℕ → Partition) (courses : List Course) (moved : Bool) → length courses ≤ place → InRound flows count steps place parts courses moved → HasGoneRound flows count steps parts courses moved
round_over flows count steps place parts courses moved past so_far = record {
  placed = so_far.placed;
  halt = λ is lower course at. so_far.halt is lower (let inside = slice_get_within courses lower course at in omega (arith, inside, past)) course at;
}

pub less_begun : (courses : List Course) → HasLess courses courses false
less_begun courses = record { no_more = omega arith; less = λ is. absurd (cc is) }

pub less_on : (first now new : List Course) (moved gone : Bool) → HasLess first now moved → HasLess now new gone → HasLess first new (moved || gone)
less_on first now new true gone so_far turn = let less = so_far.less refl in let more = turn.no_more in record { no_more = omega (arith, less, more); less = λ is. omega (arith, less, more) }
less_on first now new false gone so_far turn = let no_more = so_far.no_more in let more = turn.no_more in record { no_more = omega (arith, no_more, more); less = λ is. let less = turn.less is in omega (arith, no_more, less) }

-- what is said of the files as they are now is said of them as they were
pub reads_over : (mid old : List Step) (logs : ℕ → Option OpenedLog) (now new : List Course) → mid ≡ old → AllRead old logs now → ((some : ℕ → Option OpenedLog) → AllRead mid some now → AllRead mid some new) → AllRead old logs new
reads_over mid old logs now new same all reads = subst (λ (s : List Step). (some : ℕ → Option OpenedLog) → AllRead s some now → AllRead s some new) same reads logs all

abbrev pub TurnsAny : Flows → ℕ → List Step → ℕ → (now new : List PartState) → (was courses : List Course) → Result Bool RecoverError → Type 0
TurnsAny flows count steps place now new was courses result =
    (logs : ℕ → Option OpenedLog) → AllRead steps logs was → AllWhole steps logs → ArePlaced flows count steps (parts_in now) was → Turns flows count steps place (parts_in now) (parts_in new) was courses result

pub turns_over : (flows : Flows) (mid old : List Step) (place : ℕ) (first now new : List PartState) (was courses : List Course) (result : Result Bool RecoverError) (logs : ℕ → Option OpenedLog) → mid ≡ old → length now ≡ length first → AllRead old logs was → AllWhole old logs
    → ArePlaced flows (length first) old (parts_in now) was → TurnsAny flows (length now) mid place now new was courses result → Turns flows (length first) old place (parts_in now) (parts_in new) was courses result
turns_over flows mid old place first now new was courses result logs same many all whole placed turns =
    let counted : TurnsAny flows (length first) mid place now new was courses result = subst (λ (n : ℕ). TurnsAny flows n mid place now new was courses result) many turns in
    subst (λ (s : List Step). TurnsAny flows (length first) s place now new was courses result) same counted logs all whole placed

-- ---- round after round

abbrev pub RoundsAny : Flows → ℕ → List Step → (now new : List PartState) → (was courses : List Course) → Result Bool RecoverError → Type 0
RoundsAny flows count steps now new was courses result =
    (logs : ℕ → Option OpenedLog) → AllRead steps logs was → AllWhole steps logs → ArePlaced flows count steps (parts_in now) was → GoesRound flows count steps (parts_in new) courses result

pub rounds_over : (flows : Flows) (mid old : List Step) (first now new : List PartState) (was courses : List Course) (result : Result Bool RecoverError) (logs : ℕ → Option OpenedLog) → mid ≡ old → length now ≡ length first → AllRead old logs was → AllWhole old logs
    → ArePlaced flows (length first) old (parts_in now) was → RoundsAny flows (length now) mid now new was courses result → GoesRound flows (length first) old (parts_in new) courses result
rounds_over flows mid old first now new was courses result logs same many all whole placed goes =
    let counted : RoundsAny flows (length first) mid now new was courses result = subst (λ (n : ℕ). RoundsAny flows n mid now new was courses result) many goes in
    subst (λ (s : List Step). RoundsAny flows (length first) s now new was courses result) same counted logs all whole placed

pub all_placed : (flows : Flows) (count : ℕ) (steps : List Step) (parts : ℕ → Partition) (courses : List Course) (moved : Bool) → moved ≡ false → HasGoneRound flows count steps parts courses moved → HasPlacedAll flows count steps parts courses
all_placed flows count steps parts courses moved is gone = record { placed = gone.placed; halt = gone.halt is }
