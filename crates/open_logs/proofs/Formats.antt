-- A log is opened, and a crash leaves the entries of each partition all the while.
use Rattle.std.proofs.Common.{◌≡◌, ◌≢◌, ◌<◌, ◌==◌, inl, inr, ℕ, cond, List, [], ◌∷◌, ◌++◌, length, Option, Some, None, Result, Ok, Err, refl, sym, ◌∙◌, ap, subst, arith}
use Rattle.std.specs.Prelude.{IfOk, not}
use Rattle.std.specs.List.{slice_get}
use Rattle.std.proofs.lemmas.Bool.{eq-eqb, cases_eq}
use Rattle.std.proofs.lemmas.Option.{slice_get_within}
use Rattle.commit_log.specs.declared.states.Resting.{Resting}
use Rattle.commit_log.specs.Segment.{fresh as is_fresh, segment, first_gate, reading_of}
use Rattle.commit_log.specs.States.{IsFormatting, IsResting}
use Rattle.commit_log.specs.Outcomes.{RestsAs}
use Rattle.commit_log.proofs.Written.{reads_closed}
use Rattle.dura_value.specs.Items.{Entry}
use Rattle.many_logs.specs.Stands.{asked_at}
use Rattle.many_rules.specs.Leaves.{header_at}
use Rattle.open_logs.specs.Moments.{KeepsAt, KeepsAll}
use Rattle.open_logs.specs.Ready.{IsOpened, IsUnmade, IsReady, OpensLog, HasOpened}
use Rattle.open_logs.proofs.Pushed.{pushed, one_longer}
use Rattle.part_items.specs.Kept.{Kept, nothing, keeps, kept_in, first_of, decoded}
use Rattle.part_items.specs.Logs.{Refusal, other_shape, other_flows, fault_of, or_else, unless, log_in, first_log, second_log, logs_of, entries_in}
use Rattle.part_items.proofs.PayloadsKept.{reading_kept, nothing_yet}
use Rattle.site_model.specs.History.{Change, Step, reads, changes_of, content_of, Leaves, IsKept}
use Rattle.site_model.specs.Moments.{Always, begins, ImageKeeps}
use Rattle.site_model.proofs.Paths.{last, weaker, together}

-- ---- what two files keep

module _ (count digest partition : ℕ) where
  module _ (entries : List Entry) (gate : ℕ) where
    faultless : (file : ℕ) → fault_of (asked_at count digest partition) file (keeps (header_at count digest partition) entries gate) ≡ None
    faultless file =
        ap (λ b. cond (not b) (Some (other_shape count)) (cond (not (digest == digest)) (Some (other_flows digest)) None)) (eq-eqb count count refl)
        ∙ ap (λ b. cond (not b) (Some (other_flows digest)) None) (eq-eqb digest digest refl)

    in_first : (one two : List ℕ) → kept_in partition one ≡ keeps (header_at count digest partition) entries gate → kept_in partition two ≡ nothing → entries_in (logs_of (asked_at count digest partition) (kept_in partition one) (kept_in partition two)) ≡ Some entries
    in_first one two here none =
        ap (λ (k : Kept). entries_in (logs_of (asked_at count digest partition) k (kept_in partition two))) here
        ∙ ap (λ (k : Kept). entries_in (logs_of (asked_at count digest partition) (keeps (header_at count digest partition) entries gate) k)) none
        ∙ ap (λ (f : Option Refusal). entries_in (unless (or_else f None) (log_in (first_log partition) entries gate))) (faultless (first_log partition))

    in_second : (one two : List ℕ) → kept_in partition one ≡ nothing → kept_in partition two ≡ keeps (header_at count digest partition) entries gate → entries_in (logs_of (asked_at count digest partition) (kept_in partition one) (kept_in partition two)) ≡ Some entries
    in_second one two none here =
        ap (λ (k : Kept). entries_in (logs_of (asked_at count digest partition) k (kept_in partition two))) none
        ∙ ap (λ (k : Kept). entries_in (logs_of (asked_at count digest partition) nothing k)) here
        ∙ ap (λ (f : Option Refusal). entries_in (unless (or_else f None) (log_in (second_log partition) entries gate))) (faultless (second_log partition))

  in_none : (one two : List ℕ) → kept_in partition one ≡ nothing → kept_in partition two ≡ nothing → entries_in (logs_of (asked_at count digest partition) (kept_in partition one) (kept_in partition two)) ≡ Some []
  in_none one two first second =
      ap (λ (k : Kept). entries_in (logs_of (asked_at count digest partition) k (kept_in partition two))) first
      ∙ ap (λ (k : Kept). entries_in (logs_of (asked_at count digest partition) nothing k)) second

  -- what a crash leaves of a log at rest keeps its entries
  rest_keeps : (entries : List Entry) (payloads : List (List ℕ)) (gate : ℕ) (changes : List Change) (image : List ℕ) → decoded first_gate (first_of (header_at count digest partition)) payloads ≡ Ok entries
      → IsResting changes (header_at count digest partition) payloads gate → Leaves changes image → kept_in partition image ≡ keeps (header_at count digest partition) entries gate
  rest_keeps entries payloads gate changes image read rests left =
      let header = header_at count digest partition in
      let reading : reading_of image ≡ segment header payloads gate = ap reading_of (rests.kept image left ∙ rests.content) ∙ reads_closed header payloads gate rests.byte rests.rest rests.ends rests.closed in
      reading_kept partition image header payloads gate entries reading refl read

  keeps_opened : (entries : List Entry) (steps : List Step) (log : Resting) → IsOpened count digest partition entries steps log → KeepsAt count digest partition entries steps
  keeps_opened entries steps log is one two first second = elim is.files [
    | inl mine ↦
        in_first entries log.gate one two (rest_keeps entries is.payloads log.gate (changes_of log.file steps) one is.read is.rests (subst (λ (f : ℕ). Leaves (changes_of f steps) one) (sym mine.0) first))
        (is.empty two (subst (λ (f : ℕ). Leaves (changes_of f steps) two) (sym mine.1) second))
    | inr mine ↦
        in_second entries log.gate one two (is.empty one (subst (λ (f : ℕ). Leaves (changes_of f steps) one) (sym mine.1) first))
        (rest_keeps entries is.payloads log.gate (changes_of log.file steps) two is.read is.rests (subst (λ (f : ℕ). Leaves (changes_of f steps) two) (sym mine.0) second))
  ]

  keeps_unmade : (entries : List Entry) (steps : List Step) → IsUnmade partition entries steps → KeepsAt count digest partition entries steps
  keeps_unmade entries steps is one two first second =
      in_none one two (ap (kept_in partition) (is.first_kept one first) ∙ is.first) (ap (kept_in partition) (is.second_kept two second) ∙ is.second) ∙ ap (λ (l : List Entry). Some l) (sym is.none)

  pub keeps_ready : (entries : List Entry) (steps : List Step) (found : Option Resting) → IsReady count digest partition entries steps found → KeepsAt count digest partition entries steps
  keeps_ready entries steps (Some log) is = keeps_opened entries steps log is
  keeps_ready entries steps None is = keeps_unmade entries steps is

  -- while a log is made there are no entries
  keeps_formatting : (entries : List Entry) (old steps : List Step) → IsUnmade partition entries old → ImageKeeps (first_log partition) old (IsFormatting (content_of (first_log partition) old) (header_at count digest partition)) steps → KeepsAt count digest partition entries steps
  keeps_formatting entries old steps is here one two first second =
      let header = header_at count digest partition in
      let same = here.only.others (second_log partition) (λ same. omega (arith, same)) in
      let none : kept_in partition two ≡ nothing = ap (kept_in partition) (is.second_kept two (subst (λ c. Leaves c two) same second)) ∙ is.second in
      let empty : reading_of one ≡ is_fresh → entries_in (logs_of (asked_at count digest partition) (kept_in partition one) (kept_in partition two)) ≡ Some [] = λ fresh. in_none one two ((nothing_yet partition one).0 fresh) none in
      let no_entries : entries_in (logs_of (asked_at count digest partition) (kept_in partition one) (kept_in partition two)) ≡ Some [] = elim (here.images one first) [
        | inl same ↦ empty (same ∙ (nothing_yet partition (content_of (first_log partition) old)).1 is.first)
        | inr new ↦ elim new [
          | inl fresh ↦ empty fresh
          | inr has ↦ in_first [] first_gate one two (reading_kept partition one header [] first_gate [] has refl refl) none
        ]
      ] in
      no_entries ∙ ap (λ (l : List Entry). Some l) (sym is.none)

-- ---- files to which nothing happened

-- nothing happened to either file of a partition
record SameFiles (partition : ℕ) (old new : List Step) : Type 0 where
  first : changes_of (first_log partition) new ≡ changes_of (first_log partition) old
  second : changes_of (second_log partition) new ≡ changes_of (second_log partition) old

keeps_same : (count digest partition : ℕ) (entries : List Entry) (old new : List Step) → SameFiles partition old new → KeepsAt count digest partition entries old → KeepsAt count digest partition entries new
keeps_same count digest partition entries old new same before one two first second = before one two (subst (λ c. Leaves c one) same.first first) (subst (λ c. Leaves c two) same.second second)

unmade_same : (partition : ℕ) (entries : List Entry) (old new : List Step) → SameFiles partition old new → IsUnmade partition entries old → IsUnmade partition entries new
unmade_same partition entries old new same is = record {
  none = is.none;
  first = subst (λ (c : List Change). kept_in partition (reads c) ≡ nothing) (sym same.first) is.first;
  second = subst (λ (c : List Change). kept_in partition (reads c) ≡ nothing) (sym same.second) is.second;
  first_kept = subst IsKept (sym same.first) is.first_kept;
  second_kept = subst IsKept (sym same.second) is.second_kept;
}

opened_same : (count digest partition : ℕ) (entries : List Entry) (old new : List Step) (log : Resting) → SameFiles partition old new → IsOpened count digest partition entries old log → IsOpened count digest partition entries new log
opened_same count digest partition entries old new log same is =
    let here : changes_of log.file new ≡ changes_of log.file old = elim is.files [
      | inl mine ↦ subst (λ (f : ℕ). changes_of f new ≡ changes_of f old) (sym mine.0) same.first
      | inr mine ↦ subst (λ (f : ℕ). changes_of f new ≡ changes_of f old) (sym mine.0) same.second
    ] in
    let there : changes_of is.other new ≡ changes_of is.other old = elim is.files [
      | inl mine ↦ subst (λ (f : ℕ). changes_of f new ≡ changes_of f old) (sym mine.1) same.second
      | inr mine ↦ subst (λ (f : ℕ). changes_of f new ≡ changes_of f old) (sym mine.1) same.first
    ] in
    record {
      payloads = is.payloads;
      read = is.read;
      rests = subst (λ (c : List Change). IsResting c (header_at count digest partition) is.payloads log.gate) (sym here) is.rests;
      other = is.other;
      files = is.files;
      empty = λ image left. is.empty image (subst (λ c. Leaves c image) there left);
    }

-- ---- one more log

module _ (count digest : ℕ) (logs : ℕ → List Entry) (base : List Step) where
  -- nothing is opened yet
  pub none_opened : (opened : List Resting) → opened ≡ [] → ((partition : ℕ) → partition < count → KeepsAt count digest partition (logs partition) base) → HasOpened count digest logs base base opened
  none_opened opened none kept = record {
    path = begins (record { silent = refl; keeps = kept; others = λ file other. refl });
    opened_all = λ partition log at. absurd (let wrong : slice_get [] partition ≡ Some log = subst (λ (l : List Resting). slice_get l partition ≡ Some log) none at in cc wrong);
    first = λ partition past. refl;
    second = λ partition past. refl;
  }

  module _ (now : List Step) (opened : List Resting) (so_far : HasOpened count digest logs base now opened) where
    -- the next partition's files are as they were
    next_same : SameFiles (length opened) base now
    next_same = record { first = so_far.first (length opened) (omega arith); second = so_far.second (length opened) (omega arith) }

    -- the next log was there
    with_found : (log : Resting) → IsOpened count digest (length opened) (logs (length opened)) base log → HasOpened count digest logs base now (opened ++ log ∷ [])
    with_found log is =
        let long = one_longer opened log in record {
          path = so_far.path;
          opened_all =
              pushed (λ partition (l : Resting). IsOpened count digest partition (logs partition) now l) opened log so_far.opened_all (opened_same count digest (length opened) (logs (length opened)) base now log next_same is);
          first = λ partition past. so_far.first partition (omega (arith, past, long));
          second = λ partition past. so_far.second partition (omega (arith, past, long));
        }

    -- and what was unmade is so still
    still_unmade : IsUnmade (length opened) (logs (length opened)) base → IsUnmade (length opened) (logs (length opened)) now
    still_unmade unmade = unmade_same (length opened) (logs (length opened)) base now next_same unmade

    abbrev Formats : List Step → Type 0
    Formats = ImageKeeps (first_log (length opened)) now (IsFormatting (content_of (first_log (length opened)) now) (header_at count digest (length opened)))

    -- the files of another partition stay
    other_same : (steps : List Step) → Formats steps → (partition : ℕ) → partition ≢ length opened → SameFiles partition now steps
    other_same steps moment partition apart = record {
      first = moment.only.others (first_log partition) (λ same. apart (omega (arith, same)));
      second = moment.only.others (second_log partition) (λ same. omega (arith, same));
    }

    module _ (new : List Step) (below : length opened < count) (unmade : IsUnmade (length opened) (logs (length opened)) base) (leaves : Always Formats now new) where
      moment_keeps : (steps : List Step) → Formats steps → KeepsAll count digest logs base steps
      moment_keeps steps moment =
          let before = last so_far.path in record {
            silent = moment.only.same_tape ∙ before.silent;
            keeps = λ partition low. elim (cases_eq partition (length opened)) [
              | inl same ↦ subst (λ (p : ℕ). KeepsAt count digest p (logs p) steps) (sym same) (keeps_formatting count digest (length opened) (logs (length opened)) now steps (still_unmade unmade) moment)
              | inr apart ↦ keeps_same count digest partition (logs partition) now steps (other_same steps moment partition apart) (before.keeps partition low)
            ];
            others = λ file none. moment.only.others file (none (length opened) below).0 ∙ before.others file none;
          }

      made_path : Always (KeepsAll count digest logs base) base new
      made_path = together so_far.path (weaker moment_keeps leaves)

      -- it was made
      with_made : (log : Resting) → log.file ≡ first_log (length opened) → RestsAs new (header_at count digest (length opened)) [] log → HasOpened count digest logs base new (opened ++ log ∷ [])
      with_made log file rests =
          let long = one_longer opened log in
          let moment = last leaves in
          let here = still_unmade unmade in
          let made : IsOpened count digest (length opened) (logs (length opened)) new log = record {
            payloads = [];
            read = ap (λ (l : List Entry). Ok l) (sym unmade.none);
            rests = rests;
            other = second_log (length opened);
            files = inl (file, refl);
            empty = λ image left. ap (kept_in (length opened)) (here.second_kept image (subst (λ c. Leaves c image) (moment.only.others (second_log (length opened)) (λ same. omega (arith, same))) left)) ∙ here.second;
          } in
          record {
            path = made_path;
            opened_all = pushed (λ partition (l : Resting). IsOpened count digest partition (logs partition) new l) opened log
                (λ partition l at.
                let low = slice_get_within opened partition l at in
                opened_same count digest partition (logs partition) now new l (other_same new moment partition (λ same. omega (arith, same, low))) (so_far.opened_all partition l at))
                made;
            first = λ partition past. (other_same new moment partition (λ same. omega (arith, same, past, long))).first ∙ so_far.first partition (omega (arith, past, long));
            second = λ partition past. (other_same new moment partition (λ same. omega (arith, same, past, long))).second ∙ so_far.second partition (omega (arith, past, long));
          }

    -- the next log was there, or was made
    pub one_path : {E : Type 0} (new : List Step) (found : Option Resting) (result : Result Resting E) → length opened < count → IsReady count digest (length opened) (logs (length opened)) base found → OpensLog count digest (length opened) now new found result
        → Always (KeepsAll count digest logs base) base new
    one_path new (Some log) result below ready opens = subst (Always (KeepsAll count digest logs base) base) (sym opens.1) so_far.path
    one_path new None result below ready opens = made_path new below ready (opens (still_unmade ready).first_kept).0

    pub one_opened : {E : Type 0} (new : List Step) (found : Option Resting) (result : Result Resting E) → length opened < count → IsReady count digest (length opened) (logs (length opened)) base found → OpensLog count digest (length opened) now new found result
        → IfOk result (λ log. HasOpened count digest logs base new (opened ++ log ∷ []))
    one_opened new found (Err e) below ready opens = tt
    one_opened new (Some l) (Ok log) below ready opens =
        let same : l ≡ log = cc (opens.0) in
        subst (λ (r : Resting). HasOpened count digest logs base new (opened ++ r ∷ [])) same (subst (λ (steps : List Step). HasOpened count digest logs base steps (opened ++ l ∷ [])) (sym opens.1) (with_found l ready))
    one_opened new None (Ok log) below ready opens =
        let made = opens (still_unmade ready).first_kept in
        with_made new below ready made.0 log made.1.0 made.1.1

    -- at the place of the next partition
    pub one_step : {E : Type 0} (partition : ℕ) → length opened ≡ partition → (new : List Step) (found : Option Resting) (result : Result Resting E) → partition < count → IsReady count digest partition (logs partition) base found → OpensLog count digest partition now new found result
        → Always (KeepsAll count digest logs base) base new × IfOk result (λ log. HasOpened count digest logs base new (opened ++ log ∷ []))
    one_step partition same new found result =
        subst (λ (p : ℕ). p < count → IsReady count digest p (logs p) base found → OpensLog count digest p now new found result → Always (KeepsAll count digest logs base) base new × IfOk result (λ log. HasOpened count digest logs base new (opened ++ log ∷ []))) same
        (λ below ready opens. (one_path new found result below ready opens, one_opened new found result below ready opens))
