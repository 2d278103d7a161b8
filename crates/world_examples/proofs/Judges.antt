-- What judging all cells of small worlds comes to.
use Rattle.std.proofs.Common.{◌≡◌, ◌<◌, ◌||◌, ◌∷◌, ℕ, Bool, true, false, [], ◌&&◌, Some, Ok, Err, refl, ap, subst, length, arith, inl, inr, ◌∙◌}
use Rattle.cell_steps.specs.declared.mode.Mode.{Mode}
use Rattle.dura_model.specs.Partition.{fresh}
use Rattle.spec_cell.specs.Views.{CellView}
use Rattle.spec_tracker.specs.declared.marks.Marks.{Marks}
use Rattle.world_core.specs.Happens.{Happens, HasJudged}
use Rattle.world_core.specs.Unmet.{is_unmet, names_nothing, has_no_frame}
use Rattle.world_core.specs.World.{WorldView}
use Rattle.world_steps.specs.Known.{AreMarksOf}
use Rattle.world_core.specs.declared.answer.Answer.{Answer}
use Rattle.world_core.specs.declared.answer.Answer.TheVariants as answers
use Rattle.world_core.specs.declared.event.Event.TheVariants as events
use Rattle.world_examples.proofs.NewWorlds.{store_with, well_with, nothing_made, nothing_names, first_heard, none_heard}
use Rattle.world_examples.specs.Courses.{alone, begun, first_cell}
use Rattle.world_examples.specs.Worlds.{over}
use Rattle.world_judges.specs.Judging.{is_kept, is_judged, Pass, Passes, JudgesAll}
use Rattle.world_judges.specs.Judging.Pass.{begins, goes_on}
use Rattle.world_judges.specs.Judging.Passes.{none, one_more}
use Rattle.world_laws.specs.Lives.{IsWell}

-- where judging is Unmet no cell is judged
no_judge : (mode : Mode) (nodes judged : ℕ) (old new : WorldView) (answer : Answer) → is_unmet 1 nodes old (events.Judge judged 0) ≡ true → is_judged answer ≡ true → Happens alone mode nodes old (events.Judge judged 0) answer new → ⊥
no_judge mode nodes judged old new answer is judges happens = elim (happens.unmet is) [
  | inl not_met ↦ absurd (let e : is_judged answer ≡ false = ap is_judged not_met.0 in cc (e, judges))
  | inr outcome ↦ absurd (cc outcome.0)
]

-- where judging the first cell is Unmet no cell was judged
none_passed : (mode : Mode) (nodes : ℕ) (first : WorldView) → is_unmet 1 nodes first (events.Judge 0 0) ≡ true → (judged : ℕ) (kept : Bool) (new : WorldView) → Pass alone mode nodes first judged kept new → (judged ≡ 0) × (new ≡ first)
none_passed mode nodes first is _ _ _ begins = (refl, refl)
none_passed mode nodes first is _ _ _ (goes_on {judged} {kept} {old} before answer new judges happens well) =
    let so_far = none_passed mode nodes first is judged kept old before in
    absurd (no_judge mode nodes judged old new answer (ap (λ (w : WorldView). is_unmet 1 nodes w (events.Judge judged 0)) so_far.1 ∙ ap (λ (n : ℕ). is_unmet 1 nodes first (events.Judge n 0)) so_far.0 ∙ is) judges happens)

none_passes : (mode : Mode) (nodes : ℕ) (first : WorldView) → is_unmet 1 nodes first (events.Judge 0 0) ≡ true → (new : WorldView) → Passes alone mode nodes first new → new ≡ first
none_passes mode nodes first is _ none = refl
none_passes mode nodes first is _ (one_more {old} before new pass) =
    let same = none_passes mode nodes first is old before in
    absurd (let e : 1 ≡ 0 = (none_passed mode nodes old (ap (λ (w : WorldView). is_unmet 1 nodes w (events.Judge 0 0)) same ∙ is) 1 false new pass).0 in omega (arith, e))

unjudged : (mode : Mode) (nodes : ℕ) (first new : WorldView) → is_unmet 1 nodes first (events.Judge 0 0) ≡ true → JudgesAll alone mode nodes first (Ok tt) new → ⊥
unjudged mode nodes first new is judges =
    let same = none_passes mode nodes first is judges.0 judges.1 in
    let e : 1 ≡ 0 = (none_passed mode nodes judges.0 (ap (λ (w : WorldView). is_unmet 1 nodes w (events.Judge 0 0)) same ∙ is) 1 true new judges.2).0 in
    omega (arith, e)

unmet : (mode : Mode) (nodes : ℕ) (w : WorldView) → is_unmet 1 nodes w (events.Judge 0 0) ≡ true → IsWell alone w → JudgesAll alone mode nodes w (Err answers.Unmet) w
unmet mode nodes w is well = (
  w,
  none,
  record {
    judged = 0;
    kept = true;
    before = w;
    pass = begins;
    below = omega arith;
    other = refl;
    happens = record { unmet = λ is. inl (refl, refl); met = λ fits. absurd (cc (is, fits)) };
    well = well;
  },
)

-- ---- the life is over

behind_end : (nodes : ℕ) (w : WorldView) → w.ended ≡ true → is_unmet 1 nodes w (events.Judge 0 0) ≡ true
behind_end nodes w over = ap (λ (b : Bool). b || (names_nothing 1 nodes w (events.Judge 0 0) || has_no_frame w (events.Judge 0 0))) over

pub over_unjudged : (mode : Mode) (nodes : ℕ) (w new : WorldView) → w.ended ≡ true → JudgesAll alone mode nodes w (Ok tt) new → ⊥
over_unjudged mode nodes w new over = unjudged mode nodes w new (behind_end nodes w over)

pub over_unmet : (mode : Mode) (nodes : ℕ) (w : WorldView) → w.ended ≡ true → IsWell alone w → JudgesAll alone mode nodes w (Err answers.Unmet) w
over_unmet mode nodes w over well = unmet mode nodes w (behind_end nodes w over) well

pub well_then : (mode : Mode) (nodes : ℕ) (w new : WorldView) (answer : Answer) → JudgesAll alone mode nodes w (Err answer) new → IsWell alone new
well_then mode nodes w new answer judges = judges.2.well

pub not_kept : (mode : Mode) (nodes : ℕ) (w new : WorldView) → JudgesAll alone mode nodes w (Err answers.Kept) new → ⊥
not_kept mode nodes w new judges = let other = judges.2.other in cc other

-- a world without cells isn't well
pub over_ill : (mode : Mode) (nodes : ℕ) → JudgesAll alone mode nodes over (Err answers.Unmet) over → ⊥
over_ill mode nodes judges = let cells : 0 ≡ 1 = judges.2.well.stands.many in omega (arith, cells)

pub over_remembers : (mode : Mode) (nodes : ℕ) (w new : WorldView) → w.ended ≡ true → JudgesAll alone mode nodes w (Err answers.Memory) new → ⊥
over_remembers mode nodes w new ends judges =
    let cant = judges.2 in
    let same = none_passes mode nodes w (behind_end nodes w ends) judges.0 judges.1 in
    let last_ends : judges.0.ended ≡ true = ap (λ (v : WorldView). v.ended) same ∙ ends in
    let so_far = none_passed mode nodes judges.0 (behind_end nodes judges.0 last_ends) cant.judged cant.kept cant.before cant.pass in
    let before_ends : cant.before.ended ≡ true = ap (λ (v : WorldView). v.ended) so_far.1 ∙ last_ends in
    let is : is_unmet 1 nodes cant.before (events.Judge cant.judged 0) ≡ true = ap (λ (b : Bool). b || (names_nothing 1 nodes cant.before (events.Judge cant.judged 0) || has_no_frame cant.before (events.Judge cant.judged 0))) before_ends in
    elim (cant.happens.unmet is) [
      | inl not_met ↦ cc not_met.0
      | inr outcome ↦ cc outcome.0
    ]

-- ---- nothing is known

pub unknown_unmet : (mode : Mode) (nodes : ℕ) → JudgesAll alone mode nodes (begun []) (Err answers.Unmet) (begun [])
unknown_unmet mode nodes = unmet mode nodes (begun []) refl (well_with [] [] false [] [] false refl nothing_made nothing_names (λ on. refl) (none_heard (store_with [] [])))

pub unknown_unjudged : (mode : Mode) (nodes : ℕ) (new : WorldView) → JudgesAll alone mode nodes (begun []) (Ok tt) new → ⊥
unknown_unjudged mode nodes new = unjudged mode nodes (begun []) new refl

-- ---- there are no partitions

pub none_judged : (mode : Mode) (nodes : ℕ) (w : WorldView) → JudgesAll (record alone { count = 0 }) mode nodes w (Ok tt) w
none_judged mode nodes w = (w, none, begins)

pub none_stands : (mode : Mode) (nodes : ℕ) (w new : WorldView) (answer : Answer) → JudgesAll (record alone { count = 0 }) mode nodes w (Err answer) new → ⊥
none_stands mode nodes w new answer judges = let low : judges.2.judged < 0 = judges.2.below in omega (arith, low)

-- ---- a new world

pub no_cell : (mode : Mode) (nodes : ℕ) (w : WorldView) → Pass alone mode nodes w 0 true w
no_cell mode nodes w = begins

pub one_cell : (mode : Mode) (nodes : ℕ) (marks : Marks) → AreMarksOf alone (begun (marks ∷ [])).store marks → Pass alone mode nodes (begun (marks ∷ [])) 1 true (begun (marks ∷ []))
one_cell mode nodes marks are = goes_on begins answers.Kept (begun (marks ∷ [])) refl
    (record {
      unmet = λ is. absurd (cc is);
      met = λ fits. (
        λ same. cc same,
        (
          refl,
          (
            marks,
            refl,
            record {
              cell = first_cell;
              after = first_cell;
              there = refl;
              becomes = refl;
              does = (record { base = fresh 0; is_base = refl; kept = λ k d low. absurd (omega (arith, low)); becomes = refl }, refl);
            },
          ),
        ),
      );
    })
    (well_with [] [] false [] (marks ∷ []) false refl nothing_made nothing_names (λ on. refl) (first_heard (store_with [] []) marks are))

pub new_judged : (mode : Mode) (nodes : ℕ) (marks : Marks) → AreMarksOf alone (begun (marks ∷ [])).store marks → JudgesAll alone mode nodes (begun (marks ∷ [])) (Ok tt) (begun (marks ∷ []))
new_judged mode nodes marks are = (begun (marks ∷ []), none, one_cell mode nodes marks are)

-- ---- what a pass is

passed_none : (mode : Mode) (nodes : ℕ) (first : WorldView) (judged : ℕ) (kept : Bool) (new : WorldView) → Pass alone mode nodes first judged kept new → judged ≡ 0 → (kept ≡ true) × (new ≡ first)
passed_none mode nodes first _ _ _ begins is = (refl, refl)
passed_none mode nodes first _ _ _ (goes_on {judged} before answer new judges happens well) is = absurd (omega (arith, is))

pub nothing_changed : (mode : Mode) (nodes : ℕ) (kept : Bool) (w new : WorldView) → Pass alone mode nodes w 0 kept new → (kept ≡ true) × (new ≡ w)
nothing_changed mode nodes kept w new pass = passed_none mode nodes w 0 kept new pass refl

-- nothing is there to give up
kept_first : (marks : Marks) (answer : Answer) (new : WorldView) → is_judged answer ≡ true → HasJudged alone 0 0 (begun (marks ∷ [])) new answer → is_kept answer ≡ true
kept_first marks answers.Kept new is has = refl
kept_first marks (answers.Rewound floor dep) new is has =
    let becomes = has.2 in
    let cell : first_cell ≡ becomes.cell = let there : Some first_cell ≡ Some becomes.cell = becomes.there in cc there in
    let none_held : 0 ≡ length becomes.cell.entries = ap (λ (c : CellView). length c.entries) cell in
    absurd (let inside = becomes.does.0.inside in omega (arith, none_held, inside))
kept_first marks other new is has = absurd (cc is)

passed_first : (mode : Mode) (nodes : ℕ) (marks : Marks) (judged : ℕ) (kept : Bool) (new : WorldView) → Pass alone mode nodes (begun (marks ∷ [])) judged kept new → judged ≡ 1 → kept ≡ true
passed_first mode nodes marks _ _ _ begins is = refl
passed_first mode nodes marks _ _ _ (goes_on {judged} {kept} {old} before answer new judges happens well) is =
    let first : judged ≡ 0 = omega (arith, is) in
    let so_far = passed_none mode nodes (begun (marks ∷ [])) judged kept old before first in
    let here : Happens alone mode nodes (begun (marks ∷ [])) (events.Judge 0 0) answer new =
    subst (λ (n : ℕ). Happens alone mode nodes (begun (marks ∷ [])) (events.Judge n 0) answer new) first (subst (λ (w : WorldView). Happens alone mode nodes w (events.Judge judged 0) answer new) so_far.1 happens) in
    let is_kept_too = kept_first marks answer new judges (here.met refl).1 in
    ap (λ (b : Bool). b && is_kept answer) so_far.0 ∙ is_kept_too

pub first_kept : (mode : Mode) (nodes : ℕ) (marks : Marks) (new : WorldView) → Pass alone mode nodes (begun (marks ∷ [])) 1 false new → ⊥
first_kept mode nodes marks new pass = let e : false ≡ true = passed_first mode nodes marks 1 false new pass refl in cc e

-- the second partition isn't there
second_unmet : (nodes : ℕ) (w : WorldView) → is_unmet 1 nodes w (events.Judge 1 0) ≡ true
second_unmet nodes w = by w.ended
  where
    by : (ended : Bool) → ended || true ≡ true
    by true = refl
    by false = refl

passed_two : (mode : Mode) (nodes : ℕ) (first : WorldView) (judged : ℕ) (kept : Bool) (new : WorldView) → Pass alone mode nodes first judged kept new → judged ≡ 2 → ⊥
passed_two mode nodes first _ _ _ begins is = omega (arith, is)
passed_two mode nodes first _ _ _ (goes_on {judged} {kept} {old} before answer new judges happens well) is =
    let second : judged ≡ 1 = omega (arith, is) in
    no_judge mode nodes judged old new answer (ap (λ (n : ℕ). is_unmet 1 nodes old (events.Judge n 0)) second ∙ second_unmet nodes old) judges happens

pub no_second : (mode : Mode) (nodes : ℕ) (kept : Bool) (w new : WorldView) → Pass alone mode nodes w 2 kept new → ⊥
no_second mode nodes kept w new pass = passed_two mode nodes w 2 kept new pass refl
