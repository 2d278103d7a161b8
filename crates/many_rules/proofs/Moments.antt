-- At each moment the files of many partitions stand for what was settled, and the frames under way whose gates are open.
use Rattle.std.proofs.Common.{◌≡◌, ◌⊎◌, inl, inr, ◌<◌, ◌==◌, ℕ, Bool, true, false, cond, not, List, [], ◌++◌, Option, Some, None, refl, sym, ap, subst, ◌∙◌, append_assoc, append-nil, arith}
use Rattle.std.specs.Prelude.{nat_lt}
use Rattle.std.proofs.lemmas.Bool.{eq-eqb, ltb-true, lt-ltb}
use Rattle.commit_log.specs.declared.header.Header.{Header}
use Rattle.dura_model.specs.Partition.{Partition, fresh}
use Rattle.dura_model.specs.Steps.{Label}
use Rattle.dura_value.specs.Items.{Entry}
use Rattle.hub_store.specs.Moments.{WroteGate, LogKeeps, StoreStands as StandsAt}
use Rattle.hub_store.specs.Origin.{Origin, IsNoLog}
use Rattle.hub_store.specs.Trail.{Settled, Said, of_part}
use Rattle.many_logs.specs.Placing.{Commit, of_partition, AllBelow, frames_in_order}
use Rattle.many_logs.specs.Labels.{labels_of_commits, AllGiven, AreNumbered}
use Rattle.many_logs.specs.Stands.{asked_at, FilesStand}
use Rattle.many_logs.proofs.Frames.{of_both, of_frames, below_both, below_frames, put_then, given_both, frames_go}
use Rattle.many_logs.proofs.OrdersStand.{logs_numbered, orders_stand}
use Rattle.many_rules.specs.Rules.{Rules, commits_of, pairs_of, known_of, IsOurs, GoesFrom, Follows, Answers}
use Rattle.many_logs.specs.Names.{identities_in}
use Rattle.many_rules.specs.Leaves.{header_at, Begins, StandsOn}
use Rattle.many_rules.specs.Appended.{puts_part}
use Rattle.many_rules.proofs.Trails.{Goes, labels_split, numbered_front, ours_so_far, trail_goes, frames_ran}
use Rattle.many_rules.proofs.Founding.{named_both, named_frames, all_founded}
use Rattle.many_rules.proofs.Answered.{all_answered, half_said}
use Rattle.std.specs.List.{All}
use Rattle.std.proofs.lemmas.List.Elements.{All-append}
use Rattle.part_items.specs.Kept.{Kept, keeps, nothing, kept_in}
use Rattle.part_items.specs.Logs.{Refusal, other_shape, other_flows, fault_of, or_else, unless, log_in, logs_of, logs_in, entries_in, first_log, second_log}
use Rattle.site_model.specs.History.{Step, changes_of, Leaves, IsImage}
use Rattle.dura_value.proofs.Basics.{some_same}

-- ---- one partition's files

-- one file keeps these entries, and the other nothing
module _ (count digest partition : ℕ) (entries : List Entry) (gate : ℕ) where
  header : Header
  header = header_at count digest partition

  faultless : (file : ℕ) → fault_of (asked_at count digest partition) file (keeps (header_at count digest partition) entries gate) ≡ None
  faultless file =
      ap (λ b. cond (not b) (Some (other_shape count)) (cond (not (digest == digest)) (Some (other_flows digest)) None)) (eq-eqb count count refl)
      ∙ ap (λ b. cond (not b) (Some (other_flows digest)) None) (eq-eqb digest digest refl)

  in_first : entries_in (logs_of (asked_at count digest partition) (keeps (header_at count digest partition) entries gate) nothing) ≡ Some entries
  in_first = ap (λ (f : Option Refusal). entries_in (unless (or_else f None) (log_in (first_log partition) entries gate))) (faultless (first_log partition))

  in_second : entries_in (logs_of (asked_at count digest partition) nothing (keeps (header_at count digest partition) entries gate)) ≡ Some entries
  in_second = ap (λ (f : Option Refusal). entries_in (unless (or_else f None) (log_in (second_log partition) entries gate))) (faultless (second_log partition))

  pub entries_alone : (files : ℕ → List ℕ) (file other : ℕ) → ((file ≡ first_log partition) × (other ≡ second_log partition)) ⊎ ((file ≡ second_log partition) × (other ≡ first_log partition))
      → kept_in partition (files file) ≡ keeps (header_at count digest partition) entries gate → kept_in partition (files other) ≡ nothing → entries_in (logs_in (asked_at count digest partition) files) ≡ Some entries
  entries_alone files file other places here none = elim places [
    | inl first ↦
        ap (λ (k : Kept). entries_in (logs_of (asked_at count digest partition) k (kept_in partition (files (second_log partition))))) (subst (λ (n : ℕ). kept_in partition (files n) ≡ keeps (header_at count digest partition) entries gate) first.0 here)
        ∙ ap (λ (k : Kept). entries_in (logs_of (asked_at count digest partition) (keeps (header_at count digest partition) entries gate) k)) (subst (λ (n : ℕ). kept_in partition (files n) ≡ nothing) first.1 none)
        ∙ in_first
    | inr second ↦
        ap (λ (k : Kept). entries_in (logs_of (asked_at count digest partition) k (kept_in partition (files (second_log partition))))) (subst (λ (n : ℕ). kept_in partition (files n) ≡ nothing) second.1 none)
        ∙ ap (λ (k : Kept). entries_in (logs_of (asked_at count digest partition) nothing k)) (subst (λ (n : ℕ). kept_in partition (files n) ≡ keeps (header_at count digest partition) entries gate) second.0 here)
        ∙ in_second
  ]

-- ---- one image

module _ (rules : Rules) (latest : ℕ) where
  -- the frame of a partition that an image has, if it has one
  record Frame (o : Origin) (states : ℕ → Partition) (steps : List Step) (trail : List Settled) (told : List Said) (files : ℕ → List ℕ) (partition : ℕ) (going : List Entry) : Type 0 where
    goes : GoesFrom rules (known_of rules trail) states partition going
    own : All (IsOurs rules latest (pairs_of told) partition) going
    keeps_it : LogKeeps (o.logs partition) (of_part partition trail ++ going) (files (o.logs partition).file)
    writing : (going ≡ []) ⊎ WroteGate (o.logs partition) (of_part partition trail) (changes_of (o.logs partition).file steps)

  module _ (o : Origin) (digest : ℕ) (begins : Begins o rules digest) where
    abbrev Lies : ℕ → ℕ → ℕ → Type 0
    Lies partition file other = ((file ≡ first_log partition) × (other ≡ second_log partition)) ⊎ ((file ≡ second_log partition) × (other ≡ first_log partition))

    -- the other file of a partition is no log's
    no_log : (partition : ℕ) → partition < rules.count → IsNoLog o (begins.other partition)
    no_log partition low part below same = by (begins.files partition low) (begins.files part (omega (arith, below, begins.count)))
      where
        file_at : part ≡ partition → (o.logs part).file ≡ (o.logs partition).file
        file_at is = ap (λ (p : ℕ). (o.logs p).file) is

        by : Lies partition (o.logs partition).file (begins.other partition) → Lies part (o.logs part).file (begins.other part) → ⊥
        by (inl mine) (inl theirs) = omega (arith, same, mine.1, theirs.0)
        by (inl mine) (inr theirs) = let is : part ≡ partition = omega (arith, same, mine.1, theirs.0) in let there = file_at is in omega (arith, is, there, mine.0, theirs.0)
        by (inr mine) (inl theirs) = let is : part ≡ partition = omega (arith, same, mine.1, theirs.0) in let there = file_at is in omega (arith, is, there, mine.0, theirs.0)
        by (inr mine) (inr theirs) = omega (arith, same, mine.1, theirs.0)

    module _ (steps : List Step) (trail : List Settled) (files : ℕ → List ℕ) (here : StandsAt (Follows rules latest) (Answers rules) o steps trail) (image : IsImage steps files) where
      goes_so : Goes rules latest trail
      goes_so = trail_goes rules latest here.stands.rightly

      none_there : (partition : ℕ) → partition < rules.count → kept_in partition (files (begins.other partition)) ≡ nothing
      none_there partition low = begins.empty partition low (files (begins.other partition)) (subst (λ changes. Leaves changes (files (begins.other partition))) (here.stands.others (begins.other partition) (no_log partition low)) (image.each (begins.other partition)))

      abbrev Its : ℕ → List Entry → Type 0
      Its = Frame o goes_so.states steps trail here.told files

      frame_at : (partition : ℕ) → partition < rules.count → (going : List Entry) × Its partition going
      frame_at partition low = elim (here.stands.images partition (omega (arith, low, begins.count)) (files (o.logs partition).file) (image.each (o.logs partition).file)) [
        | inl kept ↦ (
          [],
          record {
            goes = record { accepted = (goes_so.states, refl); given = tt; pending = λ serves k d inside. absurd (omega (arith, inside)); named = λ k d inside. absurd (omega (arith, inside)) };
            own = λ k d inside. absurd (omega (arith, inside));
            keeps_it = subst (λ (l : List Entry). LogKeeps (o.logs partition) l (files (o.logs partition).file)) (sym (append-nil (of_part partition trail))) kept;
            writing = inl refl;
          },
        )
        | inr next ↦ (next.going, record { goes = next.follows.goes goes_so.states goes_so.made; own = next.follows.ours; keeps_it = next.keeps; writing = inr next.gate })
      ]

      -- the frame of each, by whether there is such a partition
      chosen : (partition : ℕ) (test : Bool) → nat_lt partition rules.count ≡ test → List Entry
      chosen partition true is = (frame_at partition (ltb-true partition rules.count is)).0
      chosen partition false is = []

      going_in : ℕ → List Entry
      going_in partition = chosen partition (nat_lt partition rules.count) refl

      its : (partition : ℕ) → partition < rules.count → Its partition (going_in partition)
      unfolding chosen going_in
      its partition low = by (nat_lt partition rules.count) refl
        where
          by : (test : Bool) → (is : nat_lt partition rules.count ≡ test) → Its partition (chosen partition test is)
          by true is = (frame_at partition (ltb-true partition rules.count is)).1
          by false is = let wrong = sym (lt-ltb partition rules.count low) ∙ is in absurd (cc wrong)

      abbrev whole : List Commit
      whole = rules.recovered ++ (commits_of trail ++ frames_in_order rules.count going_in)

      of_whole : (partition : ℕ) → partition < rules.count → of_partition partition whole ≡ (o.logs partition).entries ++ (of_part partition trail ++ going_in partition)
      of_whole partition low =
          of_both partition rules.recovered (commits_of trail ++ frames_in_order rules.count going_in)
          ∙ ap (λ (l : List Entry). l ++ of_partition partition (commits_of trail ++ frames_in_order rules.count going_in)) (begins.theirs partition low)
          ∙ ap (λ (l : List Entry). (o.logs partition).entries ++ l)
          (of_both partition (commits_of trail) (frames_in_order rules.count going_in)
          ∙ ap (λ (l : List Entry). l ++ of_partition partition (frames_in_order rules.count going_in)) (puts_part partition trail)
          ∙ ap (λ (l : List Entry). of_part partition trail ++ l) (of_frames rules.count partition going_in low))

      kept : (partition : ℕ) → partition < rules.count → entries_in (logs_in (asked_at rules.count digest partition) files) ≡ Some (of_partition partition whole)
      kept partition low =
          let it = its partition low in
          let entries = (o.logs partition).entries ++ (of_part partition trail ++ going_in partition) in
          let there : kept_in partition (files (o.logs partition).file) ≡ keeps (header_at rules.count digest partition) entries it.keeps_it.0 =
          subst (λ (h : Header). kept_in h.partition (files (o.logs partition).file) ≡ keeps h entries it.keeps_it.0) (begins.headers partition low) it.keeps_it.1 in
          entries_alone rules.count digest partition entries it.keeps_it.0 files (o.logs partition).file (begins.other partition) (begins.files partition low) there (none_there partition low)
          ∙ ap (λ (l : List Entry). Some l) (sym (of_whole partition low))

      labels_whole : labels_of_commits whole ≡ labels_of_commits rules.recovered ++ labels_of_commits (commits_of trail) ++ labels_of_commits (frames_in_order rules.count going_in)
      labels_whole = labels_split rules.recovered (commits_of trail ++ frames_in_order rules.count going_in) ∙ ap (λ (l : List Label). labels_of_commits rules.recovered ++ l) (labels_split (commits_of trail) (frames_in_order rules.count going_in)) ∙ sym (append_assoc (labels_of_commits rules.recovered) (labels_of_commits (commits_of trail)) (labels_of_commits (frames_in_order rules.count going_in)))

      below : AllBelow rules.count whole
      below = below_both rules.count rules.recovered (commits_of trail ++ frames_in_order rules.count going_in) begins.below (below_both rules.count (commits_of trail) (frames_in_order rules.count going_in) goes_so.below (below_frames rules.count rules.count going_in (omega arith)))

      numbered : AreNumbered fresh whole
      numbered = logs_numbered rules.count digest files whole below kept

      settled_numbered : AreNumbered fresh (rules.recovered ++ commits_of trail)
      settled_numbered = numbered_front (rules.recovered ++ commits_of trail) (frames_in_order rules.count going_in) (subst (AreNumbered fresh) (sym (append_assoc rules.recovered (commits_of trail) (frames_in_order rules.count going_in))) numbered)

      pub moment_stands : StandsOn rules latest digest o steps trail files
      moment_stands =
          let flows = rules.flows in
          let frames = frames_go flows rules.count rules.count goes_so.states going_in (λ partition low. (its partition low).goes.accepted) (λ partition low. (its partition low).goes.given) in
          let tail_made = put_then flows rules.count rules.begin goes_so.states frames.after (commits_of trail) (frames_in_order rules.count going_in) goes_so.made frames.all in
          let tail_given : AllGiven flows rules.count rules.begin (commits_of trail ++ frames_in_order rules.count going_in) = given_both flows rules.count (commits_of trail) (frames_in_order rules.count going_in) rules.begin goes_so.given
          (λ middle all. subst (λ (f : ℕ → Partition). AllGiven flows rules.count f (frames_in_order rules.count going_in)) (some_same (sym goes_so.made ∙ all)) frames.given) in
          let given : AllGiven flows rules.count fresh whole = given_both flows rules.count rules.recovered (commits_of trail ++ frames_in_order rules.count going_in) fresh begins.given
          (λ middle all. subst (λ (f : ℕ → Partition). AllGiven flows rules.count f (commits_of trail ++ frames_in_order rules.count going_in)) (some_same (sym begins.made ∙ all)) tail_given) in
          record {
            going = going_in;
            stands = subst (FilesStand flows rules.count digest files) labels_whole
                (orders_stand flows rules.count digest files whole frames.after below kept
                (put_then flows rules.count fresh rules.begin frames.after rules.recovered (commits_of trail ++ frames_in_order rules.count going_in) begins.made tail_made) given);
            writing = λ partition low. (its partition low).writing;
            kept = record {
              below = below;
              kept = kept;
              states = frames.after;
              made = put_then flows rules.count fresh rules.begin frames.after rules.recovered (commits_of trail ++ frames_in_order rules.count going_in) begins.made tail_made;
              given = given;
            };
            ran = frames_ran rules latest (known_of rules trail) rules.count (commits_of trail) goes_so.states going_in goes_so.ran goes_so.made (λ partition low. (its partition low).goes);
            founded = all_founded rules.recovered (commits_of trail ++ frames_in_order rules.count going_in) numbered
                (named_both (identities_in rules.recovered) (commits_of trail) (frames_in_order rules.count going_in) goes_so.named
                (named_frames (identities_in rules.recovered ++ identities_in (commits_of trail)) rules.count going_in (λ partition low. (its partition low).goes.named)));
            told = here.told;
            own = λ partition low. All-append (IsOurs rules latest (pairs_of here.told) partition) (of_part partition trail) (going_in partition) (ours_so_far rules latest here.stands.rightly partition) (its partition low).own;
            lines = here.stands.lines;
            part = here.part;
            answered = all_answered o rules latest digest begins (commits_of trail) settled_numbered here.stands.rightly [] (sym (append-nil (commits_of trail)));
            spoken = here.stands.spoken;
            saying = elim here.speaking [
              | inl whole_lines ↦ inl whole_lines
              | inr next ↦ inr (half_said o rules latest digest begins (commits_of trail) settled_numbered trail here.told steps here.part refl goes_so next)
            ];
          }
