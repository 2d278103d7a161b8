-- Each fact of each course of a life, but the one that it lacks.
use Rattle.std.proofs.Common.{◌≡◌, ◌≢◌, ◌<◌, ◌∷◌, ℕ, Bool, false, true, List, [], refl, sym, ap, arith, length, length-append, append-nil, inl, inr}
use Rattle.std.specs.List.{Contains}
use Rattle.std.proofs.lemmas.List.Elements.{Contains-push_cases}
use Rattle.call_begins.specs.Says.{AnyFollows, SaysAll}
use Rattle.cell_steps.specs.declared.mode.Mode.{Mode}
use Rattle.commit_gate.specs.Ledgers.{log_length}
use Rattle.commit_gate.specs.declared.unmet.Unmet.{Unmet}
use Rattle.gated_store.specs.Causal.{Causal}
use Rattle.gated_store.specs.Follows.{ledgers_at}
use Rattle.hub_store.specs.Moments.{SaidSoFar}
use Rattle.hub_store.specs.Trail.{Settled, Said}
use Rattle.log_items.specs.declared.items.Packet.{Packet}
use Rattle.many_rules.specs.Ledgers.{ledgers}
use Rattle.many_rules.specs.Rules.{Answers}
use Rattle.site_model.specs.History.{Step, tape, said as spoke}
use Rattle.spec_tracker.specs.declared.marks.Marks.{Marks}
use Rattle.world_core.specs.Happens.{Happens}
use Rattle.world_core.specs.World.{WorldView}
use Rattle.world_steps.specs.Known.{AreMarksOf}
use Rattle.world_core.specs.declared.answer.Answer.{Answer}
use Rattle.world_core.specs.declared.answer.Answer.TheVariants as answers
use Rattle.world_core.specs.declared.event.Event.TheVariants as events
use Rattle.world_examples.proofs.NewWorlds.{store_with, world_with, well_with, nothing_made, nothing_names, beside_made, beside_names, first_heard, none_heard, first_holds, none_holds, new_with}
use Rattle.world_examples.specs.Courses.{Course, Fact, Holds, LacksJust, alone, begun, beside, still, was_over, had_settled, had_said, had_sent, had_failed, knew_nothing, unasked, told_settled, said_more}
use Rattle.world_laws.specs.Lives.{IsWell}
use Rattle.world_lives.proofs.Passed.{lives_pass}
use Rattle.world_lives.specs.Lives.{Lives, WasLived}
use Rattle.world_lives.specs.declared.deed.Deed.{Deed}
use Rattle.world_lives.specs.declared.deed.Deed.TheVariants as deeds

-- ---- what holds of several

abbrev StandsBehind : List Settled → Type 0
StandsBehind trail = Causal (λ partition. ledgers alone partition []) (λ settled partition. log_length (ledgers_at (ledgers alone) settled partition)) trail

-- the entry beside stands behind nothing
beside_stands : StandsBehind (beside ∷ [])
beside_stands = Causal.one_more 1 0 (beside.entry ∷ []) Causal.nothing (λ k d low. absurd (omega (arith, low))) (refl, tt)

says_nothing : (steps : List Step) → SaysAll alone steps steps [] []
says_nothing steps = record { lines = []; said = SaidSoFar.silent; spoken = sym (append-nil (tape steps)) }

says_beside : (steps : List Step) → SaysAll alone steps steps (beside ∷ []) []
says_beside steps = record { lines = []; said = SaidSoFar.settles SaidSoFar.silent 1 0 (beside.entry ∷ []) tt; spoken = sym (append-nil (tape steps)) }

none_refused : (why : Unmet) → Contains [] (answers.Refused why) → ⊥
none_refused why inside = absurd (let e : inside.0 < 0 = inside.1 in omega (arith, e))

one_refused : (answer : Answer) (why : Unmet) → (answer ≡ answers.Refused why → ⊥) → Contains (answer ∷ []) (answers.Refused why) → ⊥
one_refused answer why apart inside = elim (Contains-push_cases [] answer (answers.Refused why) inside) [
  | inl none ↦ absurd (let e : none.0 < 0 = none.1 in omega (arith, e))
  | inr same ↦ apart same
]

-- ---- a life has them all

module _ (mode : Mode) (nodes : ℕ) (steps : List Step) (marks : Marks) where
  pub still_holds : AreMarksOf alone (begun (marks ∷ [])).store marks → (fact : Fact) → Holds mode nodes (still steps marks) fact
  still_holds are Fact.going = refl
  still_holds are Fact.unsettled = refl
  still_holds are Fact.silent = refl
  still_holds are Fact.new = new_with [] [] false (marks ∷ []) false (first_holds (store_with [] []) marks are)
  still_holds are Fact.well = well_with [] [] false [] (marks ∷ []) false refl nothing_made nothing_names (λ on. refl) (first_heard (store_with [] []) marks are)
  still_holds are Fact.current = ([], marks, refl, are)
  still_holds are Fact.lives = Lives.nothing
  still_holds are Fact.passed = none_refused
  still_holds are Fact.settled = refl
  still_holds are Fact.causal = Causal.nothing
  still_holds are Fact.said = λ on. says_nothing steps

  pub untold : AreMarksOf alone (begun (marks ∷ [])).store marks → WasLived alone mode nodes ⊥ steps (spoke 66 ∷ steps) [] [] []
  untold are = record {
    first = begun (marks ∷ []);
    last = begun (marks ∷ []);
    going = refl;
    unsettled = refl;
    silent = refl;
    new = still_holds are Fact.new;
    well = still_holds are Fact.well;
    current = still_holds are Fact.current;
    lives = Lives.nothing;
    passed = none_refused;
    settled = refl;
    causal = Causal.nothing;
    said = λ tells. absurd tells;
  }

-- all facts are what a life is
pub all_facts : (mode : Mode) (nodes : ℕ) (course : Course) → ((fact : Fact) → Holds mode nodes course fact) → WasLived alone mode nodes (Unit {0}) course.before course.now course.done course.came course.trail
all_facts mode nodes course holds = record {
  first = course.first;
  last = course.last;
  going = holds Fact.going;
  unsettled = holds Fact.unsettled;
  silent = holds Fact.silent;
  new = holds Fact.new;
  well = holds Fact.well;
  current = holds Fact.current;
  lives = holds Fact.lives;
  passed = holds Fact.passed;
  settled = holds Fact.settled;
  causal = holds Fact.causal;
  said = λ tells. holds Fact.said;
}

pub each_fact : (mode : Mode) (nodes : ℕ) (course : Course) → (was : WasLived alone mode nodes (Unit {0}) course.before course.now course.done course.came course.trail) → (fact : Fact) → Holds mode nodes (record course { first = was.first; last = was.last }) fact
each_fact mode nodes course was Fact.going = was.going
each_fact mode nodes course was Fact.unsettled = was.unsettled
each_fact mode nodes course was Fact.silent = was.silent
each_fact mode nodes course was Fact.new = was.new
each_fact mode nodes course was Fact.well = was.well
each_fact mode nodes course was Fact.current = was.current
each_fact mode nodes course was Fact.lives = was.lives
each_fact mode nodes course was Fact.passed = was.passed
each_fact mode nodes course was Fact.settled = was.settled
each_fact mode nodes course was Fact.causal = was.causal
each_fact mode nodes course was Fact.said = was.said tt

pub pass : (mode : Mode) (nodes : ℕ) (course : Course) → Holds mode nodes course Fact.well → Holds mode nodes course Fact.new → Holds mode nodes course Fact.lives → Holds mode nodes course Fact.passed
pass mode nodes course well new lives = lives_pass alone mode nodes course.first course.last course.done course.came well new lives

-- ---- just one is lacked

module _ (mode : Mode) (nodes : ℕ) (steps : List Step) (marks : Marks) where
  over_holds : AreMarksOf alone (store_with [] []) marks → (fact : Fact) → fact ≢ Fact.going → Holds mode nodes (was_over steps marks) fact
  over_holds are Fact.going apart = absurd (apart refl)
  over_holds are Fact.unsettled apart = refl
  over_holds are Fact.silent apart = refl
  over_holds are Fact.new apart = new_with [] [] false (marks ∷ []) true (first_holds (store_with [] []) marks are)
  over_holds are Fact.well apart = well_with [] [] false [] (marks ∷ []) true refl nothing_made nothing_names (λ on. refl) (first_heard (store_with [] []) marks are)
  over_holds are Fact.current apart = ([], marks, refl, are)
  over_holds are Fact.lives apart = Lives.nothing
  over_holds are Fact.passed apart = none_refused
  over_holds are Fact.settled apart = refl
  over_holds are Fact.causal apart = Causal.nothing
  over_holds are Fact.said apart = λ on. says_nothing steps

  pub lacks_going : AreMarksOf alone (store_with [] []) marks → LacksJust mode nodes (was_over steps marks) Fact.going
  lacks_going are = (over_holds are, λ on. cc on)

  settled_holds : AreMarksOf alone (store_with (beside ∷ []) []) marks → (fact : Fact) → fact ≢ Fact.unsettled → Holds mode nodes (had_settled steps marks) fact
  settled_holds are Fact.going apart = refl
  settled_holds are Fact.unsettled apart = absurd (apart refl)
  settled_holds are Fact.silent apart = refl
  settled_holds are Fact.new apart = new_with (beside ∷ []) [] false (marks ∷ []) false (first_holds (store_with (beside ∷ []) []) marks are)
  settled_holds are Fact.well apart = well_with (beside ∷ []) [] false [] (marks ∷ []) false refl beside_made beside_names (λ on. refl) (first_heard (store_with (beside ∷ []) []) marks are)
  settled_holds are Fact.current apart = ([], marks, refl, are)
  settled_holds are Fact.lives apart = Lives.nothing
  settled_holds are Fact.passed apart = none_refused
  settled_holds are Fact.settled apart = refl
  settled_holds are Fact.causal apart = beside_stands
  settled_holds are Fact.said apart = λ on. says_beside steps

  pub lacks_unsettled : AreMarksOf alone (store_with (beside ∷ []) []) marks → LacksJust mode nodes (had_settled steps marks) Fact.unsettled
  lacks_unsettled are = (settled_holds are, λ none. cc none)

  -- memory may run out at a turn
  over_at_turn : (one : Said) → Happens alone mode nodes (had_said one steps marks).first (events.Turn 0 1) answers.Memory (had_said one steps marks).last
  over_at_turn one = record { unmet = λ is. absurd (cc is); met = λ is. (λ same. cc same, record { ended = refl; store = refl }) }

  said_well : (one : Said) (ended : Bool) → AreMarksOf alone (store_with [] (one ∷ [])) marks → IsWell alone (world_with [] (one ∷ []) false [] (marks ∷ []) ended)
  said_well one ended are = well_with [] (one ∷ []) false [] (marks ∷ []) ended refl nothing_made nothing_names (λ on. refl) (first_heard (store_with [] (one ∷ [])) marks are)

  had_said_holds : (one : Said) → AreMarksOf alone (store_with [] (one ∷ [])) marks → (fact : Fact) → fact ≢ Fact.silent → Holds mode nodes (had_said one steps marks) fact
  had_said_holds one are Fact.going apart = refl
  had_said_holds one are Fact.unsettled apart = refl
  had_said_holds one are Fact.silent apart = absurd (apart refl)
  had_said_holds one are Fact.new apart = new_with [] (one ∷ []) false (marks ∷ []) false (first_holds (store_with [] (one ∷ [])) marks are)
  had_said_holds one are Fact.well apart = said_well one false are
  had_said_holds one are Fact.current apart = ([], marks, refl, are)
  had_said_holds one are Fact.lives apart = Lives.one_more Lives.nothing (deeds.Happen (events.Turn 0 1)) answers.Memory (had_said one steps marks).last (over_at_turn one) (said_well one true are)
  had_said_holds one are Fact.passed apart = λ why. one_refused answers.Memory why (λ same. cc same)
  had_said_holds one are Fact.settled apart = refl
  had_said_holds one are Fact.causal apart = Causal.nothing
  had_said_holds one are Fact.said apart = λ on. absurd (cc on)

  pub lacks_silent : (one : Said) → AreMarksOf alone (store_with [] (one ∷ [])) marks → LacksJust mode nodes (had_said one steps marks) Fact.silent
  lacks_silent one are = (had_said_holds one are, λ none. cc none)

  had_sent_holds : (packet : Packet) → AreMarksOf alone (store_with [] []) marks → (fact : Fact) → fact ≢ Fact.new → Holds mode nodes (had_sent packet steps marks) fact
  had_sent_holds packet are Fact.going apart = refl
  had_sent_holds packet are Fact.unsettled apart = refl
  had_sent_holds packet are Fact.silent apart = refl
  had_sent_holds packet are Fact.new apart = absurd (apart refl)
  had_sent_holds packet are Fact.well apart = well_with [] [] false (packet ∷ []) (marks ∷ []) false refl nothing_made nothing_names (λ on. refl) (first_heard (store_with [] []) marks are)
  had_sent_holds packet are Fact.current apart = ([], marks, refl, are)
  had_sent_holds packet are Fact.lives apart = Lives.nothing
  had_sent_holds packet are Fact.passed apart = none_refused
  had_sent_holds packet are Fact.settled apart = refl
  had_sent_holds packet are Fact.causal apart = Causal.nothing
  had_sent_holds packet are Fact.said apart = λ on. says_nothing steps

  pub lacks_new : (packet : Packet) → AreMarksOf alone (store_with [] []) marks → LacksJust mode nodes (had_sent packet steps marks) Fact.new
  lacks_new packet are = (had_sent_holds packet are, λ new. let none = new.packets in cc none)

  failed_holds : AreMarksOf alone (store_with [] []) marks → (fact : Fact) → fact ≢ Fact.well → Holds mode nodes (had_failed steps marks) fact
  failed_holds are Fact.going apart = refl
  failed_holds are Fact.unsettled apart = refl
  failed_holds are Fact.silent apart = refl
  failed_holds are Fact.new apart = new_with [] [] true (marks ∷ []) false (first_holds (store_with [] []) marks are)
  failed_holds are Fact.well apart = absurd (apart refl)
  failed_holds are Fact.current apart = ([], marks, refl, are)
  failed_holds are Fact.lives apart = Lives.nothing
  failed_holds are Fact.passed apart = none_refused
  failed_holds are Fact.settled apart = refl
  failed_holds are Fact.causal apart = Causal.nothing
  failed_holds are Fact.said apart = λ on. says_nothing steps

  pub lacks_well : AreMarksOf alone (store_with [] []) marks → LacksJust mode nodes (had_failed steps marks) Fact.well
  lacks_well are = (failed_holds are, λ well. let whole : true ≡ false = well.stands.going refl in cc whole)

  unasked_holds : AreMarksOf alone (store_with [] []) marks → (fact : Fact) → fact ≢ Fact.lives → Holds mode nodes (unasked steps marks) fact
  unasked_holds are Fact.going apart = refl
  unasked_holds are Fact.unsettled apart = refl
  unasked_holds are Fact.silent apart = refl
  unasked_holds are Fact.new apart = still_holds mode nodes steps marks are Fact.new
  unasked_holds are Fact.well apart = still_holds mode nodes steps marks are Fact.well
  unasked_holds are Fact.current apart = ([], marks, refl, are)
  unasked_holds are Fact.lives apart = absurd (apart refl)
  unasked_holds are Fact.passed apart = λ why. one_refused answers.Seen why (λ same. cc same)
  unasked_holds are Fact.settled apart = refl
  unasked_holds are Fact.causal apart = Causal.nothing
  unasked_holds are Fact.said apart = λ on. says_nothing steps

  told_holds : AreMarksOf alone (store_with [] []) marks → (fact : Fact) → fact ≢ Fact.settled → Holds mode nodes (told_settled steps marks) fact
  told_holds are Fact.going apart = refl
  told_holds are Fact.unsettled apart = refl
  told_holds are Fact.silent apart = refl
  told_holds are Fact.new apart = still_holds mode nodes steps marks are Fact.new
  told_holds are Fact.well apart = still_holds mode nodes steps marks are Fact.well
  told_holds are Fact.current apart = ([], marks, refl, are)
  told_holds are Fact.lives apart = Lives.nothing
  told_holds are Fact.passed apart = none_refused
  told_holds are Fact.settled apart = absurd (apart refl)
  told_holds are Fact.causal apart = beside_stands
  told_holds are Fact.said apart = λ on. says_beside steps

  pub lacks_settled : AreMarksOf alone (store_with [] []) marks → LacksJust mode nodes (told_settled steps marks) Fact.settled
  lacks_settled are = (told_holds are, λ same. cc same)

  more_holds : AreMarksOf alone (store_with [] []) marks → (fact : Fact) → fact ≢ Fact.said → Holds mode nodes (said_more steps marks) fact
  more_holds are Fact.going apart = refl
  more_holds are Fact.unsettled apart = refl
  more_holds are Fact.silent apart = refl
  more_holds are Fact.new apart = still_holds mode nodes steps marks are Fact.new
  more_holds are Fact.well apart = still_holds mode nodes steps marks are Fact.well
  more_holds are Fact.current apart = ([], marks, refl, are)
  more_holds are Fact.lives apart = Lives.nothing
  more_holds are Fact.passed apart = none_refused
  more_holds are Fact.settled apart = refl
  more_holds are Fact.causal apart = Causal.nothing
  more_holds are Fact.said apart = absurd (apart refl)

module _ (mode : Mode) (nodes : ℕ) (steps : List Step) where
  unknown_holds : (fact : Fact) → fact ≢ Fact.current → Holds mode nodes (knew_nothing steps) fact
  unknown_holds Fact.going apart = refl
  unknown_holds Fact.unsettled apart = refl
  unknown_holds Fact.silent apart = refl
  unknown_holds Fact.new apart = new_with [] [] false [] false (none_holds (store_with [] []))
  unknown_holds Fact.well apart = well_with [] [] false [] [] false refl nothing_made nothing_names (λ on. refl) (none_heard (store_with [] []))
  unknown_holds Fact.current apart = absurd (apart refl)
  unknown_holds Fact.lives apart = Lives.nothing
  unknown_holds Fact.passed apart = none_refused
  unknown_holds Fact.settled apart = refl
  unknown_holds Fact.causal apart = Causal.nothing
  unknown_holds Fact.said apart = λ on. says_nothing steps

  pub lacks_current : LacksJust mode nodes (knew_nothing steps) Fact.current
  lacks_current = (unknown_holds, λ known. let e = ap length known.2 in let f = length-append known.0 (known.1 ∷ []) in omega (arith, e, f))

-- there is no answer without a deed
answers_are : {mode : Mode} {nodes : ℕ} {first last : WorldView} {done : List Deed} {came : List Answer} → Lives alone mode nodes first done came last → length came ≡ length done
answers_are Lives.nothing = refl
answers_are (Lives.one_more {done} {came} {old} lives deed answer new does well) =
    let before = answers_are lives in
    let e = length-append came (answer ∷ []) in
    let f = length-append done (deed ∷ []) in
    omega (arith, before, e, f)

pub lacks_lives : (mode : Mode) (nodes : ℕ) (steps : List Step) (marks : Marks) → AreMarksOf alone (store_with [] []) marks → LacksJust mode nodes (unasked steps marks) Fact.lives
lacks_lives mode nodes steps marks are = (unasked_holds mode nodes steps marks are, λ lives. let e : 1 ≡ 0 = answers_are lives in omega (arith, e))

-- where no request was answered there is no line
no_line : (trail : List Settled) (told : List Said) (lines : List ℕ) → SaidSoFar AnyFollows (Answers alone) trail told lines → told ≡ [] → lines ≡ []
no_line _ _ _ SaidSoFar.silent none = refl
no_line _ told lines (SaidSoFar.settles {trail} before partition at going may) none = no_line trail told lines before none
no_line trail _ _ (SaidSoFar.says {told} before one line may) none = absurd (let e = ap length none in let f = length-append told (one ∷ []) in omega (arith, e, f))

pub lacks_said : (mode : Mode) (nodes : ℕ) (steps : List Step) (marks : Marks) → AreMarksOf alone (store_with [] []) marks → LacksJust mode nodes (said_more steps marks) Fact.said
lacks_said mode nodes steps marks are = (
  more_holds mode nodes steps marks are,
  λ said. let all = said refl in
      let none = ap length (no_line [] [] all.lines all.said refl) in
      let e = ap length all.spoken in
      let f = length-append (tape steps) (66 ∷ []) in
      let g = length-append (tape steps) all.lines in
      omega (arith, none, e, f, g),
)
