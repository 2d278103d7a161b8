-- Where all cells were judged and nothing was given up, each was judged by what is known of the logs as they are.
use Rattle.std.proofs.Common.{◌≡◌, ◌<◌, ◌∙◌, inl, inr, ℕ, ◌+◌, ◌-◌, ◌||◌, Bool, true, false, List, [], ◌∷◌, ◌++◌, length, drop, Some, Ok, refl, sym, ap, subst, arith, slice_get, slice_set, length-append}
use Rattle.std.specs.List.{All}
use Rattle.std.proofs.lemmas.Bool.{and_parts, or_parts, cases_eq}
use Rattle.std.proofs.lemmas.Option.{slice_get_within}
use Rattle.cell_frames.specs.Joined.{StoreView}
use Rattle.cell_steps.specs.Depends.{AreKept}
use Rattle.cell_steps.specs.declared.mode.Mode.{Mode}
use Rattle.gated_store.proofs.Fitting.{at_same, at_other}
use Rattle.many_rules.specs.Rules.{Rules}
use Rattle.spec_cell.specs.Moves.{dependencies_in}
use Rattle.spec_cell.specs.Views.{CellView, IsBase}
use Rattle.spec_tracker.specs.declared.marks.Marks.{Marks}
use Rattle.world_core.specs.Happens.{Happens, HasJudged}
use Rattle.world_core.specs.Unmet.{names_nothing, has_no_frame, place_ago}
use Rattle.world_core.specs.World.{WorldView}
use Rattle.world_steps.specs.Known.{AreMarksOf}
use Rattle.world_core.specs.declared.answer.Answer.{Answer}
use Rattle.world_core.specs.declared.answer.Answer.TheVariants as answers
use Rattle.world_core.specs.declared.event.Event.TheVariants as events
use Rattle.world_judges.proofs.Held.{can_judge, judged_met}
use Rattle.world_judges.specs.Judging.{is_kept, is_judged, Pass, Passes, JudgesAll}
use Rattle.world_judges.specs.Judging.Pass.{begins, goes_on}
use Rattle.world_judges.specs.Judging.Passes.{none, one_more}
use Rattle.world_laws.proofs.Current.{stays_current}
use Rattle.world_laws.proofs.Depending.{nothing_lost}
use Rattle.world_laws.specs.Depends.{HoldsNothingLost, IsJudged}
use Rattle.world_laws.specs.Lives.{IsCurrent, IsWell}
use Rattle.world_laws.specs.Made.{MadeEntry, AreMade}

-- what was known of the logs last is what a Judge goes by
last_at : {X : Type 0} (before : List X) (x : X) → slice_get (before ++ x ∷ []) (length before) ≡ Some x
last_at [] x = refl
last_at (first ∷ before) x = last_at before x

last_known : (all before : List Marks) (marks : Marks) → all ≡ before ++ marks ∷ [] → slice_get all (place_ago all 0) ≡ Some marks
last_known all before marks is =
    let long : length (before ++ marks ∷ []) ≡ length before + 1 = length-append before (marks ∷ []) in
    let lengths : length all ≡ length (before ++ marks ∷ []) = ap length is in
    let place : length before ≡ length all - (0 + 1) = omega (arith, long, lengths) in
    subst (λ (n : ℕ). slice_get all n ≡ Some marks) place (subst (λ (l : List Marks). slice_get l (length before) ≡ Some marks) (sym is) (last_at before marks))

module _ (rules : Rules) (mode : Mode) (nodes : ℕ) where
  -- ---- the life goes on, what is known is as it is, and each world is well

  judged_on : (p : ℕ) (old new : WorldView) (answer : Answer) → is_judged answer ≡ true → Happens rules mode nodes old (events.Judge p 0) answer new → old.ended ≡ false
  judged_on p old new answer judged happens = (or_parts old.ended (names_nothing rules.count nodes old (events.Judge p 0) || has_no_frame old (events.Judge p 0)) (can_judge rules mode nodes p old new answer judged happens)).0

  pub pass_began : (first : WorldView) {judged : ℕ} {kept : Bool} (new : WorldView) → Pass rules mode nodes first judged kept new → new.ended ≡ false → first.ended ≡ false
  pass_began first _ begins on = on
  pass_began first _ (goes_on {judged} {kept} {old} before answer new is happens well) on = pass_began first old before (judged_on judged old new answer is happens)

  pub pass_current : (first : WorldView) {judged : ℕ} {kept : Bool} (new : WorldView) → IsCurrent rules first → Pass rules mode nodes first judged kept new → new.ended ≡ false → IsCurrent rules new
  pass_current first _ known begins on = known
  pass_current first _ known (goes_on {judged} {kept} {old} before answer new is happens well) on =
      stays_current rules old new (pass_current first old known before (judged_on judged old new answer is happens)) on mode nodes (events.Judge judged 0) answer happens

  pub pass_well : (first : WorldView) {judged : ℕ} {kept : Bool} (new : WorldView) → IsWell rules first → Pass rules mode nodes first judged kept new → IsWell rules new
  pass_well first _ well begins = well
  pass_well first _ well (goes_on before answer new is happens well_then) = well_then

  pub passes_current : (first new : WorldView) → IsCurrent rules first → Passes rules mode nodes first new → new.ended ≡ false → IsCurrent rules new
  passes_current first _ known none on = known
  passes_current first _ known (one_more {old} before new pass) on = pass_current old new (passes_current first old known before (pass_began old new pass on)) pass on

  pub passes_well : (first new : WorldView) → IsWell rules first → Passes rules mode nodes first new → IsWell rules new
  passes_well first _ well none = well
  passes_well first _ well (one_more {old} before new pass) = pass_well old new (passes_well first old well before) pass

  -- ---- nothing was given up

  kept_only : (p place : ℕ) (old new : WorldView) (answer : Answer) → is_kept answer ≡ true → HasJudged rules p place old new answer → HasJudged rules p place old new answers.Kept
  kept_only p place old new answers.Kept kept has = has
  kept_only p place old new (answers.Rewound floor dep) kept has = absurd (cc kept)
  kept_only p place old new (answers.Spent number) kept has = absurd (cc kept)
  kept_only p place old new answers.Memory kept has = absurd (cc kept)
  kept_only p place old new other kept has = absurd has

  module _ (first : WorldView) (before : List Marks) (marks : Marks) (known : first.marks ≡ before ++ marks ∷ []) where
    -- The cells of the first so many partitions were judged by these marks, and neither the store nor what is known of it changed.
    record AllKept (judged : ℕ) (new : WorldView) : Type 0 where
      store : new.store ≡ first.store
      same : new.marks ≡ first.marks
      cells : (p : ℕ) (c : CellView) → p < judged → slice_get new.cells p ≡ Some c → IsJudged rules marks c

    kept_more : (judged : ℕ) (old new : WorldView) → AllKept judged old → new.ended ≡ false → IsWell rules new → HasJudged rules judged (place_ago old.marks 0) old new answers.Kept → AllKept (judged + 1) new
    kept_more judged old new so_far on well has = record {
      store = ap (λ (w : WorldView). w.store) has.0 ∙ so_far.store;
      same = ap (λ (w : WorldView). w.marks) has.0 ∙ so_far.same;
      cells = λ p c low there.
          let set : slice_get (slice_set old.cells judged has.1.2.after) p ≡ Some c = subst (λ (l : List CellView). slice_get l p ≡ Some c) has.1.2.becomes there in
          elim (cases_eq p judged) [ inl here ↦ this p c here there set | inr apart ↦ so_far.cells p c (omega (arith, low, apart)) (at_other old.cells judged p has.1.2.after c apart set) ];
    }
      where
        by_last : has.1.0 ≡ marks
        by_last = let both : Some has.1.0 ≡ Some marks = sym has.1.1 ∙ last_known old.marks before marks (so_far.same ∙ known) in cc both

        -- the cell that is judged here
        this : (p : ℕ) (c : CellView) → p ≡ judged → slice_get new.cells p ≡ Some c → slice_get (slice_set old.cells judged has.1.2.after) p ≡ Some c → IsJudged rules marks c
        this p c here there set =
            let is = has.1.2.does.0 in
            let same : c ≡ has.1.2.after = at_same old.cells judged has.1.2.after c (slice_get_within old.cells judged has.1.2.cell has.1.2.there) (subst (λ (k : ℕ). slice_get (slice_set old.cells judged has.1.2.after) k ≡ Some c) here set) in
            let number : judged ≡ has.1.2.cell.number = sym here ∙ sym (well.stands.joined on p c there).1.goes.number ∙ ap (λ (v : CellView). v.number) (same ∙ is.becomes) in
            subst (IsJudged rules marks) (sym (same ∙ is.becomes)) (record {
              base = is.base;
              is_base = subst (λ (n : ℕ). IsBase rules.flows rules.count (rules.begin n) has.1.2.cell is.base) number is.is_base;
              kept = subst (λ (m : Marks). All (AreKept m) (drop has.1.2.cell.out (dependencies_in has.1.2.cell is.base))) by_last is.kept;
            })

    pass_kept : {judged : ℕ} {kept : Bool} (new : WorldView) → Pass rules mode nodes first judged kept new → kept ≡ true → new.ended ≡ false → AllKept judged new
    pass_kept _ begins all on = record { store = refl; same = refl; cells = λ p c low there. absurd (omega (arith, low)) }
    pass_kept _ (goes_on {judged} {kept} {old} earlier answer new is happens well) all on =
        let both = and_parts kept (is_kept answer) all in
        let so_far = pass_kept old earlier both.0 (judged_on judged old new answer is happens) in
        kept_more judged old new so_far on well (kept_only judged (place_ago old.marks 0) old new answer both.1 (judged_met rules mode nodes judged old new answer is happens))

  -- All cells were judged by marks of the logs as they are, and nothing of any was given up.
  pub record AllJudged (w : WorldView) : Type 0 where
    pub marks : Marks
    pub known : AreMarksOf rules w.store marks
    pub judged : (p : ℕ) (c : CellView) → slice_get w.cells p ≡ Some c → IsJudged rules marks c

  pub pass_judged : (first new : WorldView) → IsCurrent rules first → IsWell rules new → new.ended ≡ false → Pass rules mode nodes first rules.count true new → AllJudged new
  pass_judged first new known well on pass =
      let all = pass_kept first known.0 known.1 known.2 new pass refl on in
      record {
        marks = known.1;
        known = subst (λ (s : StoreView). AreMarksOf rules s known.1) (sym all.store) known.3;
        judged = λ p c there. let low = slice_get_within new.cells p c there in let long = well.stands.many in all.cells p c (omega (arith, low, long)) there;
      }

  -- then no cell holds what depends on an entry that was given up
  pub all_settles : (made : List MadeEntry) (old new : WorldView) → IsWell rules old → IsCurrent rules old → JudgesAll rules mode nodes old (Ok tt) new → new.ended ≡ false → AreMade rules made new → HoldsNothingLost rules made new
  all_settles made old new well known judges on are =
      let last = judges.0 in
      let well_then = pass_well judges.0 new (passes_well old judges.0 well judges.1) judges.2 in
      let known_last = passes_current old judges.0 known judges.1 (pass_began judges.0 new judges.2 on) in
      let all = pass_judged judges.0 new known_last well_then on judges.2 in
      nothing_lost rules made new all.marks on well_then.stands (well_then.ground on) are all.known all.judged
