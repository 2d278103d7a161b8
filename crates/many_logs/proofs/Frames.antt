-- Frames of different partitions, each of which is accepted in the same states, are accepted one after another.
use Rattle.std.proofs.Common.{◌≡◌, ◌≤◌, ◌<◌, ◌==◌, ℕ, zero, suc, Bool, true, false, cond, List, [], ◌∷◌, ◌++◌, Option, Some, None, refl, sym, ap, subst, ◌∙◌, append-nil, arith}
use Rattle.std.specs.Option.{option_and_then}
use Rattle.std.proofs.lemmas.Bool.{eqb-true}
use Rattle.dura_value.specs.Items.{Entry}
use Rattle.flow_syntax.specs.Syntax.{Flows}
use Rattle.dura_model.specs.Partition.{Partition, enter, with_part}
use Rattle.dura_model.proofs.Basics.{eqb_apart}
use Rattle.dura_model.specs.Entries.{AreGiven}
use Rattle.many_logs.specs.Placing.{commit_accepted, Commit, states_after, of_partition, AllBelow, commits_at, frames_in_order, GoesThrough}
use Rattle.many_logs.specs.Labels.{AllGiven}
use Rattle.many_logs.proofs.Basics.{apart_eqb, self_eqb}
use Rattle.many_logs.proofs.Streams.{Grows, grows_then, same_grows}
use Rattle.many_logs.proofs.Apart.{part_here, part_there, AllGrow, accepted_still, one_grows}
use Rattle.many_logs.proofs.Leads.{parts_again, parts_same}
use Rattle.dura_value.proofs.Basics.{some_same, both_some}

-- ---- the entries of one partition

pub of_both : (partition : ℕ) (a b : List Commit) → of_partition partition (a ++ b) ≡ of_partition partition a ++ of_partition partition b
of_both partition [] b = refl
of_both partition (one ∷ a) b = by (one.partition == partition) (of_both partition a b)
  where
    by : (test : Bool) → of_partition partition (a ++ b) ≡ of_partition partition a ++ of_partition partition b
        → cond test (one.entry ∷ of_partition partition (a ++ b)) (of_partition partition (a ++ b)) ≡ cond test (one.entry ∷ of_partition partition a) (of_partition partition a) ++ of_partition partition b
    by true rest = ap (λ (l : List Entry). one.entry ∷ l) rest
    by false rest = rest

pub of_own : (partition : ℕ) (going : List Entry) → of_partition partition (commits_at partition going) ≡ going
of_own partition [] = refl
of_own partition (entry ∷ going) = ap (λ (b : Bool). cond b (entry ∷ of_partition partition (commits_at partition going)) (of_partition partition (commits_at partition going))) (self_eqb partition) ∙ ap (λ (l : List Entry). entry ∷ l) (of_own partition going)

pub of_other : (partition other : ℕ) (going : List Entry) → (partition ≡ other → ⊥) → of_partition other (commits_at partition going) ≡ []
of_other partition other [] apart = refl
of_other partition other (entry ∷ going) apart = ap (λ (b : Bool). cond b (entry ∷ of_partition other (commits_at partition going)) (of_partition other (commits_at partition going))) (apart_eqb partition other apart) ∙ of_other partition other going apart

of_later : (most partition : ℕ) (going : ℕ → List Entry) → most ≤ partition → of_partition partition (frames_in_order most going) ≡ []
of_later zero partition going above = refl
of_later (suc most) partition going above =
    of_both partition (frames_in_order most going) (commits_at most (going most))
    ∙ ap (λ (l : List Entry). l ++ of_partition partition (commits_at most (going most))) (of_later most partition going (omega (arith, above)))
    ∙ of_other most partition (going most) (λ wrong. omega (arith, wrong, above))

pub of_frames : (most partition : ℕ) (going : ℕ → List Entry) → partition < most → of_partition partition (frames_in_order most going) ≡ going partition
of_frames zero partition going low = absurd (omega (arith, low))
of_frames (suc most) partition going low = of_both partition (frames_in_order most going) (commits_at most (going most)) ∙ by (most == partition) refl (of_frames most partition going)
  where
    by : (test : Bool) → (most == partition) ≡ test → (partition < most → of_partition partition (frames_in_order most going) ≡ going partition) → of_partition partition (frames_in_order most going) ++ of_partition partition (commits_at most (going most)) ≡ going partition
    by true same rest =
        let at = eqb-true most partition same in
        ap (λ (l : List Entry). l ++ of_partition partition (commits_at most (going most))) (of_later most partition going (omega (arith, at)))
        ∙ subst (λ (p : ℕ). of_partition p (commits_at most (going most)) ≡ going p) at (of_own most (going most))
    by false apart rest =
        let off = eqb_apart most partition apart in
        ap (λ (l : List Entry). of_partition partition (frames_in_order most going) ++ l) (of_other most partition (going most) off)
        ∙ append-nil (of_partition partition (frames_in_order most going))
        ∙ rest (omega (arith, low, off))

pub below_both : (count : ℕ) (a b : List Commit) → AllBelow count a → AllBelow count b → AllBelow count (a ++ b)
below_both count [] b low also = also
below_both count (one ∷ a) b low also = (low.0, below_both count a b low.1 also)

pub below_at : (count partition : ℕ) (going : List Entry) → partition < count → AllBelow count (commits_at partition going)
below_at count partition [] low = tt
below_at count partition (entry ∷ going) low = (low, below_at count partition going low)

pub below_frames : (count most : ℕ) (going : ℕ → List Entry) → most ≤ count → AllBelow count (frames_in_order most going)
below_frames count zero going low = tt
below_frames count (suc most) going low = below_both count (frames_in_order most going) (commits_at most (going most)) (below_frames count most going (omega (arith, low))) (below_at count most (going most) low)

-- of no other partition there is an entry
pub of_none : (count partition : ℕ) (run : List Commit) → AllBelow count run → count ≤ partition → of_partition partition run ≡ []
of_none count partition [] low above = refl
of_none count partition (one ∷ run) low above =
    let first = low.0 in
    ap (λ (b : Bool). cond b (one.entry ∷ of_partition partition run) (of_partition partition run)) (apart_eqb one.partition partition (λ wrong. omega (arith, wrong, above, first))) ∙ of_none count partition run low.1 above

-- ---- states that are as far or further

pub all_grow_then : (a b c : ℕ → Partition) → AllGrow a b → AllGrow b c → AllGrow a c
all_grow_then a b c one two = λ partition. grows_then (a partition) (b partition) (c partition) (one partition) (two partition)

pub all_grow_same : (parts : ℕ → Partition) → AllGrow parts parts
all_grow_same parts = λ partition. same_grows (parts partition) (parts partition) refl refl refl

-- the same partition moves alike in both
both_move : (parts later : ℕ → Partition) (partition : ℕ) (next : Partition) → AllGrow parts later → AllGrow (with_part parts partition next) (with_part later partition next)
both_move parts later partition next grow = λ other. at other (partition == other)
  where
    at : (other : ℕ) (test : Bool) → Grows (cond test next (parts other)) (cond test next (later other))
    at other true = same_grows next next refl refl refl
    at other false = grow other

module _ (flows : Flows) (count : ℕ) where
  -- ---- one order behind another

  pub put_both : (parts : ℕ → Partition) (a b : List Commit) → states_after flows count parts (a ++ b) ≡ option_and_then (λ q. states_after flows count q b) (states_after flows count parts a)
  put_both parts [] b = refl
  put_both parts (one ∷ a) b = by (commit_accepted flows count parts one.partition one.entry) (λ next. put_both (with_part parts one.partition next) a b)
    where
      by : (made : Option Partition) → ((next : Partition) → states_after flows count (with_part parts one.partition next) (a ++ b) ≡ option_and_then (λ q. states_after flows count q b) (states_after flows count (with_part parts one.partition next) a))
          → option_and_then (λ next. states_after flows count (with_part parts one.partition next) (a ++ b)) made ≡ option_and_then (λ q. states_after flows count q b) (option_and_then (λ next. states_after flows count (with_part parts one.partition next) a) made)
      by None rest = refl
      by (Some next) rest = rest next

  pub put_then : (parts middle later : ℕ → Partition) (a b : List Commit) → states_after flows count parts a ≡ Some middle → states_after flows count middle b ≡ Some later → states_after flows count parts (a ++ b) ≡ Some later
  put_then parts middle later a b one two = put_both parts a b ∙ ap (option_and_then (λ q. states_after flows count q b)) one ∙ two

  pub put_apart : (parts later : ℕ → Partition) (a b : List Commit) → states_after flows count parts (a ++ b) ≡ Some later → (middle : ℕ → Partition) × (states_after flows count parts a ≡ Some middle) × (states_after flows count middle b ≡ Some later)
  put_apart parts later a b all = both_some (states_after flows count parts a) (λ q. states_after flows count q b) later (sym (put_both parts a b) ∙ all)

  pub run_grows : (run : List Commit) (parts later : ℕ → Partition) → states_after flows count parts run ≡ Some later → AllGrow parts later
  run_grows [] parts later all = subst (AllGrow parts) (some_same all) (all_grow_same parts)
  run_grows (one ∷ run) parts later all =
      let first = both_some (commit_accepted flows count parts one.partition one.entry) (λ x. states_after flows count (with_part parts one.partition x) run) later all in
      let next = with_part parts one.partition first.0 in
      all_grow_then parts next later (one_grows flows count parts one.partition one.entry first.0 first.1) (run_grows run next later first.2)

  -- a partition without an entry among these is as it was
  pub run_leaves : (run : List Commit) (parts later : ℕ → Partition) (partition : ℕ) → states_after flows count parts run ≡ Some later → of_partition partition run ≡ [] → later partition ≡ parts partition
  run_leaves [] parts later partition all none = ap (λ (f : ℕ → Partition). f partition) (sym (some_same all))
  run_leaves (one ∷ run) parts later partition all none = by (one.partition == partition) refl none (run_leaves run next later partition first.2)
    where
      first : (x : Partition) × (commit_accepted flows count parts one.partition one.entry ≡ Some x) × (states_after flows count (with_part parts one.partition x) run ≡ Some later)
      first = both_some (commit_accepted flows count parts one.partition one.entry) (λ x. states_after flows count (with_part parts one.partition x) run) later all

      next : ℕ → Partition
      next = with_part parts one.partition first.0

      by : (test : Bool) → (one.partition == partition) ≡ test → cond test (one.entry ∷ of_partition partition run) (of_partition partition run) ≡ [] → (of_partition partition run ≡ [] → later partition ≡ next partition) → later partition ≡ parts partition
      by true same is rest = absurd (cc is)
      by false apart is rest = rest is ∙ part_there parts one.partition partition first.0 (eqb_apart one.partition partition apart)

  -- ---- frames

  -- a frame stays accepted where its partition's state is the same and the others are as far or further
  pub frame_still : (going : List Entry) (parts later after : ℕ → Partition) (partition : ℕ) → AllGrow parts later → later partition ≡ parts partition → states_after flows count parts (commits_at partition going) ≡ Some after
      → states_after flows count later (commits_at partition going) ≡ Some (with_part later partition (after partition))
  frame_still [] parts later after partition grow same all =
      ap (λ (f : ℕ → Partition). Some f) (sym (parts_same later partition) ∙ ap (with_part later partition) (same ∙ ap (λ (f : ℕ → Partition). f partition) (some_same all)))
  frame_still (entry ∷ going) parts later after partition grow same all =
      let first = both_some (commit_accepted flows count parts partition entry) (λ x. states_after flows count (with_part parts partition x) (commits_at partition going)) after all in
      let still = accepted_still flows count parts later partition entry first.0 grow same first.1 in
      ap (option_and_then (λ x. states_after flows count (with_part later partition x) (commits_at partition going))) still
      ∙ frame_still going (with_part parts partition first.0) (with_part later partition first.0) after partition (both_move parts later partition first.0 grow) (part_here later partition first.0 ∙ sym (part_here parts partition first.0)) first.2
      ∙ ap (λ (f : ℕ → Partition). Some f) (parts_again later partition first.0 (after partition))

  pub given_still : (going : List Entry) (parts later after : ℕ → Partition) (partition : ℕ) → AllGrow parts later → later partition ≡ parts partition → states_after flows count parts (commits_at partition going) ≡ Some after
      → AllGiven flows count parts (commits_at partition going) → AllGiven flows count later (commits_at partition going)
  given_still [] parts later after partition grow same all given = tt
  given_still (entry ∷ going) parts later after partition grow same all given =
      let first = both_some (commit_accepted flows count parts partition entry) (λ x. states_after flows count (with_part parts partition x) (commits_at partition going)) after all in
      let still = accepted_still flows count parts later partition entry first.0 grow same first.1 in (
        subst (λ (s : Partition). AreGiven flows count (enter entry.incarnation s) entry.items) (sym same) given.0,
        λ next is.
            let it : first.0 ≡ next = some_same (sym still ∙ is) in
            subst (λ (s : Partition). AllGiven flows count (with_part later partition s) (commits_at partition going)) it
            (given_still going (with_part parts partition first.0) (with_part later partition first.0) after partition (both_move parts later partition first.0 grow) (part_here later partition first.0 ∙ sym (part_here parts partition first.0)) first.2 (given.1 first.0 first.1)),
      )

  pub given_both : (a b : List Commit) (parts : ℕ → Partition) → AllGiven flows count parts a → ((middle : ℕ → Partition) → states_after flows count parts a ≡ Some middle → AllGiven flows count middle b) → AllGiven flows count parts (a ++ b)
  given_both [] b parts given rest = rest parts refl
  given_both (one ∷ a) b parts given rest = (
    given.0,
    λ next is. given_both a b (with_part parts one.partition next) (given.1 next is) (λ middle all. rest middle (ap (option_and_then (λ x. states_after flows count (with_part parts one.partition x) a)) is ∙ all)),
  )

  -- the frames of the first so many partitions, one after another
  pub record FramesGo (states : ℕ → Partition) (most : ℕ) (going : ℕ → List Entry) : Type 0 where
    pub after : ℕ → Partition
    pub all : states_after flows count states (frames_in_order most going) ≡ Some after
    pub grow : AllGrow states after
    pub there : (partition : ℕ) → most ≤ partition → after partition ≡ states partition
    pub given : AllGiven flows count states (frames_in_order most going)

  -- frames that are each accepted in the same states don't disturb one another
  pub frames_go : (most : ℕ) (states : ℕ → Partition) (going : ℕ → List Entry) → ((partition : ℕ) → partition < most → GoesThrough flows count states partition (going partition)) → ((partition : ℕ) → partition < most → AllGiven flows count states (commits_at partition (going partition)))
      → FramesGo states most going
  frames_go zero states going may given = record { after = states; all = refl; grow = all_grow_same states; there = λ partition above. refl; given = tt }
  frames_go (suc most) states going may given =
      let before = frames_go most states going (λ partition low. may partition (omega (arith, low))) (λ partition low. given partition (omega (arith, low))) in
      let own = may most (omega arith) in
      let same = before.there most (omega arith) in
      let still = frame_still (going most) states before.after own.0 most before.grow same own.1 in
      let after = with_part before.after most (own.0 most) in
      record {
        after = after;
        all = put_then states before.after after (frames_in_order most going) (commits_at most (going most)) before.all still;
        grow = all_grow_then states before.after after before.grow (run_grows (commits_at most (going most)) before.after after still);
        there = λ partition above. part_there before.after most partition (own.0 most) (λ wrong. omega (arith, wrong, above)) ∙ before.there partition (omega (arith, above));
        given = given_both (frames_in_order most going) (commits_at most (going most)) states before.given (λ middle all.
            let it : before.after ≡ middle = some_same (sym before.all ∙ all) in
            subst (λ (f : ℕ → Partition). AllGiven flows count f (commits_at most (going most))) it (given_still (going most) states before.after own.0 most before.grow same own.1 (given most (omega arith))));
      }

  -- the same where nothing is known of outcomes
  pub frames_together : (states : ℕ → Partition) (going : ℕ → List Entry) → ((partition : ℕ) → partition < count → GoesThrough flows count states partition (going partition)) → (after : ℕ → Partition) × (states_after flows count states (frames_in_order count going) ≡ Some after)
  frames_together states going may = let they = upto count (λ partition low. may partition low) in (they.0, they.1)
    where
      Upto : ℕ → Type 0
      Upto most = (after : ℕ → Partition) × (states_after flows count states (frames_in_order most going) ≡ Some after) × ((partition : ℕ) → most ≤ partition → after partition ≡ states partition)

      upto : (most : ℕ) → ((partition : ℕ) → partition < most → GoesThrough flows count states partition (going partition)) → Upto most
      upto zero each = (states, refl, λ partition above. refl)
      upto (suc most) each =
          let before = upto most (λ partition low. each partition (omega (arith, low))) in
          let own = each most (omega arith) in
          let still = frame_still (going most) states before.0 own.0 most (run_grows (frames_in_order most going) states before.0 before.1) (before.2 most (omega arith)) own.1 in (
            with_part before.0 most (own.0 most),
            put_then states before.0 (with_part before.0 most (own.0 most)) (frames_in_order most going) (commits_at most (going most)) before.1 still,
            λ partition above. part_there before.0 most partition (own.0 most) (λ wrong. omega (arith, wrong, above)) ∙ before.2 partition (omega (arith, above)),
          )
