-- What goes by a clock, and what doesn't.
use Rattle.std.proofs.Common.{◌≡◌, ◌≤◌, ◌<◌, ℕ, max, List, [], ◌∷◌, refl, subst, arith}
use Rattle.std.specs.List.{All}
use Rattle.std.proofs.lemmas.List.Elements.{All-append, All-cons, All-head, All-nil}
use Rattle.dura_value.specs.Ids.{Id}
use Rattle.dura_value.specs.Items.{Item, ran}
use Rattle.engine_rounds.specs.Heard.{BeginsAt, GoesByClock, heard_of}
use Rattle.engine_rounds.specs.Heard.BeginsAt.{first_given, none_given}
use Rattle.engine_rounds.specs.Heard.GoesByClock.{begins, hears, settles}
use Rattle.engine_rounds.specs.declared.driving.End.TheVariants as ends
use Rattle.engine_rounds.specs.declared.serving.Came.{Came}
use Rattle.engine_rounds.specs.declared.serving.Came.TheVariants as cames
use Rattle.hub_store.specs.Trail.{Settled}
use Rattle.many_rules.specs.Rules.{Rules, IsFrom}
use Rattle.node_core.specs.Growing.{IsStamped}
use Rattle.node_core.specs.declared.halt.Halt.TheVariants as halts
use Rattle.round_steps.specs.Labels.{AreFew, settled_labels}
use Rattle.run_examples.specs.Clocks.{delivered, delivered_often, one_at_a_time}
use Rattle.run_rules.specs.Rules.{IsBy}
use Rattle.site_model.specs.Readings.{Reading, asked}

module _ (rules : Rules) where
  -- where the clock gave nothing all is of the moment at the beginning
  of_one_moment : (enough latest : ℕ) {readings : List Reading} {moment : ℕ} {settled : List Settled} → GoesByClock rules enough [] latest [] readings moment settled → readings ≡ [] → (moment ≡ latest) × All (IsStamped rules latest latest) settled
  of_one_moment enough latest begins none = (refl, All-nil (IsStamped rules latest latest))
  of_one_moment enough latest (hears course few reading) none = absurd (cc none)
  of_one_moment enough latest (settles course more stamped) none =
      let before = of_one_moment enough latest course none in
      (before.0, All-append (IsStamped rules latest latest) _ more before.1 (subst (λ (n : ℕ). All (IsStamped rules n n) more) before.0 stamped))

  first_of : (latest : ℕ) (from to : Id) (stamp : ℕ) → All (IsStamped rules latest latest) (delivered from to stamp) → (latest ≤ stamp) × (stamp ≤ max (rules.begin 0).stamp latest)
  first_of latest from to stamp all =
      let one = All-head (IsStamped rules latest latest) _ [] all in
      (All-head (IsFrom latest) (ran from to stamp) [] one.from, All-head (IsBy (max (rules.begin 0).stamp latest)) (ran from to stamp) [] one.by)

  -- a delivery that is stamped before the moment heard of
  pub too_early : (enough : ℕ) (from to : Id) → GoesByClock rules enough [] 5 [] [] 5 (delivered from to 4) → ⊥
  too_early enough from to course = let is = (first_of 5 from to 4 (of_one_moment enough 5 course refl).1).0 in absurd (omega (arith, is))

  -- or behind it
  pub too_late : (enough : ℕ) (from to : Id) → (rules.begin 0).stamp ≤ 5 → GoesByClock rules enough [] 5 [] [] 5 (delivered from to 6) → ⊥
  too_late enough from to low course = let is = (first_of 5 from to 6 (of_one_moment enough 5 course refl).1).1 in absurd (omega (arith, is, low))

  -- or has more items than an entry may have
  pub too_full : (enough : ℕ) (from to : Id) → rules.most ≡ 0 → GoesByClock rules enough [] 5 [] [] 5 (delivered from to 5) → ⊥
  too_full enough from to none course =
      let one = All-head (IsStamped rules 5 5) _ [] (of_one_moment enough 5 course refl).1 in
      let few = one.few in
      absurd (omega (arith, few, none))

  none_heard : {readings : List Reading} {moment : ℕ} {settled : List Settled} → GoesByClock rules 0 [] 5 [] readings moment settled → readings ≡ []
  none_heard begins = refl
  none_heard (hears course few reading) = absurd (omega (arith, few))
  none_heard (settles course more stamped) = none_heard course

  -- a reading where enough was settled
  pub read_again : GoesByClock rules 0 [] 5 [] (asked 7 ∷ []) 7 [] → ⊥
  read_again course = let none = none_heard course in absurd (cc none)

  -- a reading, and then a delivery at its moment
  pub goes_by_clock : (from to : Id) → 0 < rules.most → GoesByClock rules 1 [] 5 [] (asked 7 ∷ []) 7 (delivered from to 7)
  goes_by_clock from to some =
      settles (hears begins (omega arith) (asked 7)) (delivered from to 7)
      (All-cons (IsStamped rules 7 7) _ [] (record { few = omega (arith, some); from = All-cons (IsFrom 7) _ [] (omega arith) (All-nil (IsFrom 7)); by = All-cons (IsBy (max (rules.begin 0).stamp 7)) _ [] (omega arith) (All-nil (IsBy (max (rules.begin 0).stamp 7))) }) (All-nil (IsStamped rules 7 7)))

  -- what the clock gave stays
  never_less : (enough latest : ℕ) (first : Reading) (given : List Reading) {readings : List Reading} {moment : ℕ} {settled : List Settled} → GoesByClock rules enough (first ∷ given) latest [] readings moment settled → readings ≡ [] → ⊥
  never_less enough latest first given begins none = cc none
  never_less enough latest first given (hears course few reading) none = cc none
  never_less enough latest first given (settles course more stamped) none = never_less enough latest first given course none

  -- it began at a moment that the clock didn't give, and settled something
  pub no_moment : (enough : ℕ) (from to : Id) (came : Came) (since : ℕ) → BeginsAt rules enough (heard_of [] [] 5) (delivered from to 5) came since → ⊥
  no_moment enough from to came since (first_given given by low course) = never_less enough given (asked given) [] course refl
  no_moment enough from to came since (none_given silent none over) = cc none

  -- or ended for another cause than the clock
  pub no_fault : (enough since : ℕ) → BeginsAt rules enough (heard_of [] [] 5) [] (cames.Ended ends.Rest) since → ⊥
  no_fault enough since (first_given given by low course) = never_less enough given (asked given) [] course refl
  no_fault enough since (none_given silent none over) = cc over

  -- the clock failed first
  pub clock_failed : (enough : ℕ) → BeginsAt rules enough (heard_of [] [] 5) [] (cames.Halted halts.ClockFault) 0
  clock_failed enough = none_given refl refl refl

-- ---- how many labels there may be

pub one_frame : (from to : Id) → AreFew one_at_a_time 1 (delivered_often 64 from to)
one_frame from to = let many : settled_labels (delivered_often 64 from to) ≡ 64 = refl in omega (arith, many)

pub one_too_many : (from to : Id) → AreFew one_at_a_time 1 (delivered_often 65 from to) → ⊥
one_too_many from to few = let many : settled_labels (delivered_often 65 from to) ≡ 65 = refl in absurd (omega (arith, few, many))
