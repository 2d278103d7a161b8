-- One of the partitions went on.
use Rattle.std.proofs.Common.{◌≡◌, ◌≢◌, ◌∙◌, inl, inr, ℕ, zero, suc, ◌+◌, ◌<◌, Bool, List, [], ◌∷◌, ◌++◌, length, get_or, Option, Some, None, sym, ap, subst, append-nil, arith}
use Rattle.std.proofs.Math.ListN.{set}
use Rattle.std.specs.List.{slice_get}
use Rattle.std.proofs.lemmas.Bool.{cases_eq}
use Rattle.std.proofs.lemmas.List.{length-set, get_or-set_same, get_or-set_other}
use Rattle.std.proofs.lemmas.Option.{slice_get_within, slice_get-get_or, get_or_from_slice_get}
use Rattle.site_model.specs.History.{Step}
use Rattle.commit_log.specs.declared.reader.FrameError.{FrameError}
use Rattle.commit_log.specs.declared.reader.FrameError.TheVariants as unread
use Rattle.commit_log.specs.declared.reader.OpenedLog.{OpenedLog}
use Rattle.dura_value.specs.Items.{Entry}
use Rattle.flow_syntax.specs.Syntax.{Flows}
use Rattle.dura_model.specs.Partition.{Partition, fresh}
use Rattle.many_logs.specs.Placing.{states_after, of_partition, commits_at}
use Rattle.many_logs.proofs.Frames.{of_both, of_own, of_other, below_both, below_at, put_then}
use Rattle.many_logs.proofs.Own.{own_chain}
use Rattle.part_steps.specs.declared.state.PartState.{PartState}
use Rattle.part_steps.specs.States.{parts_in}
use Rattle.recover_core.specs.Courses.{IsCourse, IsWhole, ReadsFurther, IsBrokenLog, IsStill, IsChain, Halts, FitsCourse, GoesFar, GoesFitting, to_go}
use Rattle.recover_core.specs.Rounds.{AreReady, all_to_go, HasLess, AllRead, IsOutside, error_in, IsOfRun, ArePlaced, HasTurned}
use Rattle.recover_core.specs.declared.course.Course.{Course}

at_same : {X : Type 0} (xs : List X) (i : ℕ) (x y : X) → i < length xs → slice_get (set xs i x) i ≡ Some y → y ≡ x
at_same xs i x y low is = sym (get_or_from_slice_get (set xs i x) i y x is) ∙ get_or-set_same xs i x x low

at_other : {X : Type 0} (xs : List X) (i j : ℕ) (x y : X) → j ≢ i → slice_get (set xs i x) j ≡ Some y → slice_get xs j ≡ Some y
at_other xs i j x y apart is =
    let low : j < length xs = omega (arith, slice_get_within (set xs i x) j y is, length-set xs i x) in
    slice_get-get_or xs j y low ∙ ap (λ (z : _). Some z) (sym (get_or-set_other xs i j x y apart) ∙ get_or_from_slice_get (set xs i x) j y y is)

there_same : {X : Type 0} (xs : List X) (i : ℕ) (x : X) → i < length xs → slice_get (set xs i x) i ≡ Some x
there_same xs i x low = slice_get-get_or (set xs i x) i x (omega (arith, low, length-set xs i x)) ∙ ap (λ (z : _). Some z) (get_or-set_same xs i x x low)

there_other : {X : Type 0} (xs : List X) (i j : ℕ) (x y : X) → j ≢ i → slice_get xs j ≡ Some y → slice_get (set xs i x) j ≡ Some y
there_other xs i j x y apart is =
    let low : j < length (set xs i x) = omega (arith, slice_get_within xs j y is, length-set xs i x) in
    slice_get-get_or (set xs i x) j y low ∙ ap (λ (z : _). Some z) (get_or-set_other xs i j x y apart ∙ get_or_from_slice_get xs j y y is)

-- the sum once one changed
sum_set : (xs : List Course) (i : ℕ) (x d : Course) → i < length xs → all_to_go (set xs i x) + to_go (get_or xs i d).comes ≡ all_to_go xs + to_go x.comes
sum_set [] i x d low = absurd (omega arith)
sum_set (c ∷ xs) zero x d low = omega arith
sum_set (c ∷ xs) (suc i) x d low = let rest = sum_set xs i x d (omega (arith, low)) in omega (arith, rest)

-- the courses once one of them was taken out, and another put in
module _ (was : List Course) (place : ℕ) (none next : Course) (low : place < length was) where
  abbrev pub now_at : List Course
  now_at = set (set was place none) place next

  low_still : place < length (set was place none)
  low_still = omega (arith, low, length-set was place none)

  pub next_here : (course : Course) → slice_get now_at place ≡ Some course → course ≡ next
  next_here course is = at_same (set was place none) place next course low_still is

  pub next_there : slice_get now_at place ≡ Some next
  next_there = there_same (set was place none) place next low_still

  pub others_there : (other : ℕ) (course : Course) → other ≢ place → slice_get was other ≡ Some course → slice_get now_at other ≡ Some course
  others_there other course apart is = there_other (set was place none) place other next course apart (there_other was place other none course apart is)

  pub others_stay : (other : ℕ) (course : Course) → other ≢ place → slice_get now_at other ≡ Some course → slice_get was other ≡ Some course
  others_stay other course apart is = at_other was place other none course apart (at_other (set was place none) place other next course apart is)

  pub same_long : length now_at ≡ length was
  same_long = length-set (set was place none) place next ∙ length-set was place none

  pub sums : (d : Course) → all_to_go now_at + to_go (get_or was place d).comes ≡ all_to_go was + to_go next.comes
  sums d =
      let first = sum_set was place none d low in
      let second = sum_set (set was place none) place next none low_still in
      let there : to_go (get_or (set was place none) place none).comes ≡ to_go none.comes = ap (λ (c : Course). to_go c.comes) (get_or-set_same was place none none low) in
      omega (arith, first, second, there)

-- ---- whatever the disk answered

module _ (old new : List PartState) (was : List Course) (place : ℕ) (none course next : Course) (moved : Bool) (low : place < length old) (ready : AreReady old was) (at : course ≡ get_or was place course) (goes : GoesFitting place old new course next moved) where
  pub inside : place < length was
  inside = let many = ready.many in omega (arith, many, low)

  pub course_at : slice_get was place ≡ Some course
  course_at = slice_get-get_or was place course inside ∙ ap (λ (c : Course). Some c) (sym at)

  pub ready_still : AreReady new (now_at was place none next inside)
  ready_still = record {
    all = goes.all;
    many = same_long was place none next inside ∙ ready.many ∙ sym goes.many;
    each = λ other one is. elim (cases_eq other place) [
      | inl same ↦
          let here : slice_get (now_at was place none next inside) place ≡ Some one = subst (λ (o : ℕ). slice_get (now_at was place none next inside) o ≡ Some one) same is in
          subst (λ (o : ℕ). FitsCourse (parts_in new o) one) (sym same) (subst (FitsCourse (parts_in new place)) (sym (next_here was place none next inside one here)) goes.fits)
      | inr apart ↦ subst (λ (p : Partition). FitsCourse p one) (sym (goes.others other apart)) (ready.each other one (others_stay was place none next inside other one apart is))
    ];
  }

  pub less_still : HasLess was (now_at was place none next inside) moved
  less_still =
      let sum = sums was place none next inside course in
      let here : to_go (get_or was place course).comes ≡ to_go course.comes = ap (λ (c : Course). to_go c.comes) (sym at) in
      record {
        no_more = let no_more = goes.no_more in omega (arith, sum, here, no_more);
        less = λ is. let less = goes.less is in omega (arith, sum, here, less);
      }

  -- ---- what was read

  pub read_still : (steps : List Step) (logs : ℕ → Option OpenedLog) → AllRead steps logs was → ((done : List Entry) → IsCourse steps done course → ReadsFurther steps done next) → AllRead steps logs (now_at was place none next inside)
  read_still steps logs all further = λ other one is. elim (cases_eq other place) [
    | inl same ↦
        let here : slice_get (now_at was place none next inside) place ≡ Some one = subst (λ (o : ℕ). slice_get (now_at was place none next inside) o ≡ Some one) same is in
        let one_is : one ≡ next = next_here was place none next inside one here in
        let so_far = all place course course_at in
        let more = further so_far.1.0 so_far.1.1 in
        (ap (λ (c : Course). c.log) one_is ∙ goes.log ∙ so_far.0 ∙ ap logs (sym same), (so_far.1.0 ++ more.0, subst (IsCourse steps (so_far.1.0 ++ more.0)) (sym one_is) more.1))
    | inr apart ↦ all other one (others_stay was place none next inside other one apart is)
  ]

  -- ---- what was placed

  pub chain_here : (flows : Flows) (steps : List Step) (placed : ArePlaced flows (length old) steps (parts_in old) was) → IsChain flows (length old) place (of_partition place placed.run) (parts_in old)
  chain_here flows steps placed = own_chain flows (length old) placed.run fresh (parts_in old) place placed.made

  pub turned : (flows : Flows) (steps : List Step) (placed : ArePlaced flows (length old) steps (parts_in old) was) → GoesFar flows (length old) steps place (of_partition place placed.run) (parts_in old) (parts_in new) next moved
      → HasTurned flows (length old) steps place (parts_in old) (parts_in new) was (now_at was place none next inside) moved
  turned flows steps placed far =
      let run = placed.run ++ commits_at place far.entries in
      record {
        placed = record {
          run = run;
          below = below_both (length old) placed.run (commits_at place far.entries) placed.below (below_at (length old) place far.entries low);
          made = put_then flows (length old) fresh (parts_in old) (parts_in new) placed.run (commits_at place far.entries) placed.made far.made;
          each = λ other one is. elim (cases_eq other place) [
            | inl same ↦
                let here : slice_get (now_at was place none next inside) place ≡ Some one = subst (λ (o : ℕ). slice_get (now_at was place none next inside) o ≡ Some one) same is in
                let mine : of_partition place run ≡ of_partition place placed.run ++ far.entries = of_both place placed.run (commits_at place far.entries) ∙ ap (λ (l : List Entry). of_partition place placed.run ++ l) (of_own place far.entries) in
                let of_next : IsOfRun flows (length old) steps (parts_in new) run place next = record { course_is = subst (λ (l : List Entry). IsCourse steps l next) (sym mine) far.course_is; still = far.still } in
                subst (λ (o : ℕ). IsOfRun flows (length old) steps (parts_in new) run o one) (sym same) (subst (IsOfRun flows (length old) steps (parts_in new) run place) (sym (next_here was place none next inside one here)) of_next)
            | inr apart ↦
                let was_of = placed.each other one (others_stay was place none next inside other one apart is) in
                let theirs : of_partition other run ≡ of_partition other placed.run =
                of_both other placed.run (commits_at place far.entries) ∙ ap (λ (l : List Entry). of_partition other placed.run ++ l) (of_other place other far.entries (λ same. apart (sym same))) ∙ append-nil (of_partition other placed.run) in
                record {
                  course_is = subst (λ (l : List Entry). IsCourse steps l one) (sym theirs) was_of.course_is;
                  still = subst (λ (p : Partition). IsStill flows (length old) p one.comes) (sym (goes.others other apart)) was_of.still;
                }
          ];
        };
        halts = λ one is. subst (λ (c : Course). Halts flows (length old) (parts_in new) place c.comes) (sym (next_here was place none next inside one is)) far.halts;
        others = λ other one apart is. others_stay was place none next inside other one apart is;
        stays = λ is.
            let none_placed : [] ≡ far.entries = sym (far.none is) in
            let same : Some (parts_in old) ≡ Some (parts_in new) = subst (λ (l : List Entry). states_after flows (length old) (parts_in old) (commits_at place l) ≡ Some (parts_in new)) (sym none_placed) far.made in
            sym (cc same);
      }

-- a log that can be read to its end isn't broken
pub outside : (steps : List Step) (file : ℕ) (log : Option OpenedLog) (error : FrameError) → IsWhole steps log → IsBrokenLog steps log error → IsOutside (error_in file error)
outside steps file None (unread.Damaged offset) whole broken = broken
outside steps file (Some log) (unread.Damaged offset) whole broken = let wrong = sym whole.1 ∙ broken in cc wrong
outside steps file log unread.SiteFault whole broken = tt
outside steps file log unread.Memory whole broken = tt

pub course_there : (xs : List Course) (i : ℕ) (course : Course) → i < length xs → course ≡ get_or xs i course → slice_get xs i ≡ Some course
course_there xs i course low at = slice_get-get_or xs i course low ∙ ap (λ (c : Course). Some c) (sym at)
