-- What an image of the one partition's log stands for.
use Rattle.std.proofs.Common.{◌≡◌, ◌⊎◌, inl, inr, ℕ, List, [], ◌++◌, not, cond, Option, Some, None, refl, sym, ◌∙◌, ap, subst, append_assoc, arith}
use Rattle.std.proofs.lemmas.Bool.{eq-eqb}
use Rattle.std.proofs.lemmas.List.{append-nil}
use Rattle.commit_log.specs.declared.header.Header.{Header}
use Rattle.dura_model.specs.Partition.{fresh}
use Rattle.dura_model.specs.Steps.{Label}
use Rattle.dura_value.specs.Items.{Entry}
use Rattle.hub_store.specs.Moments.{WroteGate, LogKeeps, StoreStands as StandsAt}
use Rattle.hub_store.specs.Origin.{Origin, IsNoLog}
use Rattle.hub_store.specs.Trail.{Settled, of_part}
use Rattle.part_items.specs.Kept.{Kept, keeps, nothing, kept_in}
use Rattle.part_items.specs.Logs.{Refusal, other_flows, fault_of, or_else, unless, log_in, logs_of, logs_in, entries_in, first_log, second_log, alone_with}
use Rattle.dura_model.specs.Entries.{labels_in}
use Rattle.many_logs.specs.Labels.{state_next}
use Rattle.many_logs.specs.Stands.{FilesStand}
use Rattle.dura_model.proofs.Appending.{labels_both}
use Rattle.part_items.proofs.Behind.{numbered_both}
use Rattle.run_rules.proofs.LabelsStand.{labels_stand}
use Rattle.part_items.proofs.LogsNumbered.{entries_numbered}
use Rattle.part_items.specs.Numbered.{IsNumbered}
use Rattle.run_rules.specs.Rules.{Rules}
use Rattle.run_laws.specs.Begins.{BeginsAlone, header_with, may_follow, may_say}
use Rattle.run_laws.specs.Leaves.{StandsOn}
use Rattle.run_laws.proofs.Answered.{all_answered, half_said}
use Rattle.run_laws.proofs.Founding.{entries_founded}
use Rattle.run_laws.proofs.Trails.{Goes, goes_on, trail_goes}
use Rattle.run_laws.proofs.Whole.{whole}
use Rattle.site_model.specs.History.{Step, changes_of, Leaves, IsImage}

-- one file keeps these entries, and the other nothing
module _ (digest : ℕ) (entries : List Entry) (gate : ℕ) where
  faultless : (file : ℕ) → fault_of (alone_with digest) file (keeps (header_with digest) entries gate) ≡ None
  faultless file = ap (λ b. cond (not b) (Some (other_flows digest)) None) (eq-eqb digest digest refl)

  in_first : entries_in (logs_of (alone_with digest) (keeps (header_with digest) entries gate) nothing) ≡ Some entries
  in_first = ap (λ (f : Option Refusal). entries_in (unless (or_else f None) (log_in (first_log 0) entries gate))) (faultless (first_log 0))

  in_second : entries_in (logs_of (alone_with digest) nothing (keeps (header_with digest) entries gate)) ≡ Some entries
  in_second = ap (λ (f : Option Refusal). entries_in (unless (or_else f None) (log_in (second_log 0) entries gate))) (faultless (second_log 0))

  pub entries_alone : (files : ℕ → List ℕ) (file other : ℕ) → ((file ≡ first_log 0) × (other ≡ second_log 0)) ⊎ ((file ≡ second_log 0) × (other ≡ first_log 0))
      → kept_in 0 (files file) ≡ keeps (header_with digest) entries gate → kept_in 0 (files other) ≡ nothing → entries_in (logs_in (alone_with digest) files) ≡ Some entries
  entries_alone files file other places here none = elim places [
    | inl first ↦
        ap (λ (k : Kept). entries_in (logs_of (alone_with digest) k (kept_in 0 (files (second_log 0))))) (subst (λ (n : ℕ). kept_in 0 (files n) ≡ keeps (header_with digest) entries gate) first.0 here)
        ∙ ap (λ (k : Kept). entries_in (logs_of (alone_with digest) (keeps (header_with digest) entries gate) k)) (subst (λ (n : ℕ). kept_in 0 (files n) ≡ nothing) first.1 none)
        ∙ in_first
    | inr second ↦
        ap (λ (k : Kept). entries_in (logs_of (alone_with digest) k (kept_in 0 (files (second_log 0))))) (subst (λ (n : ℕ). kept_in 0 (files n) ≡ nothing) second.1 none)
        ∙ ap (λ (k : Kept). entries_in (logs_of (alone_with digest) nothing k)) (subst (λ (n : ℕ). kept_in 0 (files n) ≡ keeps (header_with digest) entries gate) second.0 here)
        ∙ in_second
  ]

module _ (o : Origin) (rules : Rules) (latest digest : ℕ) (begins : BeginsAlone o rules digest) where
  -- the entries of an image of the log, beside one of the other file
  kept_entries : (files : ℕ → List ℕ) (entries : List Entry) → LogKeeps (o.logs 0) entries (files (o.logs 0).file) → kept_in 0 (files begins.other) ≡ nothing
      → entries_in (logs_in (alone_with digest) files) ≡ Some ((o.logs 0).entries ++ entries)
  kept_entries files entries kept none =
      let here : kept_in 0 (files (o.logs 0).file) ≡ keeps (header_with digest) ((o.logs 0).entries ++ entries) kept.0 =
      subst (λ (h : Header). kept_in h.partition (files (o.logs 0).file) ≡ keeps h ((o.logs 0).entries ++ entries) kept.0) begins.header kept.1 in
      entries_alone digest ((o.logs 0).entries ++ entries) kept.0 files (o.logs 0).file begins.other begins.files here none

  -- the run that it stands for
  image_stands : (files : ℕ → List ℕ) (entries : List Entry) → Goes rules latest entries → LogKeeps (o.logs 0) entries (files (o.logs 0).file) → kept_in 0 (files begins.other) ≡ nothing
      → FilesStand rules.flows 1 digest files (labels_in (o.logs 0).entries ++ labels_in entries)
  image_stands files entries goes kept none =
      let all = whole o rules latest digest begins entries goes in
      subst (FilesStand rules.flows 1 digest files) (labels_both (o.logs 0).entries entries)
      (labels_stand rules.flows digest files ((o.logs 0).entries ++ entries) goes.state (kept_entries files entries kept none) all.0 all.1)

  labels_split : (before going : List Entry) → labels_in (o.logs 0).entries ++ labels_in (before ++ going) ≡ labels_in (o.logs 0).entries ++ labels_in before ++ labels_in going
  labels_split before going = ap (λ (l : List Label). labels_in (o.logs 0).entries ++ l) (labels_both before going) ∙ sym (append_assoc (labels_in (o.logs 0).entries) (labels_in before) (labels_in going))

  -- the other file is no log's
  no_log : IsNoLog o begins.other
  no_log part below same =
      let first : part ≡ 0 = omega (arith, below, begins.one) in
      let both : (o.logs 0).file ≡ begins.other = subst (λ (p : ℕ). (o.logs p).file ≡ begins.other) first same in
      elim begins.files [
        | inl places ↦ omega (arith, both, places.0, places.1)
        | inr places ↦ omega (arith, both, places.0, places.1)
      ]

  -- what was settled is numbered, since an image keeps it
  numbered : (files : ℕ → List ℕ) (entries : List Entry) → LogKeeps (o.logs 0) entries (files (o.logs 0).file) → kept_in 0 (files begins.other) ≡ nothing → IsNumbered (state_next (fresh 0)) ((o.logs 0).entries ++ entries)
  numbered files entries kept none = entries_numbered (alone_with digest) files ((o.logs 0).entries ++ entries) (kept_entries files entries kept none)

  -- how things stand at a moment, where the image keeps these entries
  standing : (steps : List Step) (trail : List Settled) (files : ℕ → List ℕ) (going : List Entry) → StandsAt (may_follow rules latest) (may_say rules) o steps trail → Goes rules latest (of_part 0 trail ++ going)
      → LogKeeps (o.logs 0) (of_part 0 trail ++ going) (files (o.logs 0).file) → kept_in 0 (files begins.other) ≡ nothing → (going ≡ []) ⊎ WroteGate (o.logs 0) (of_part 0 trail) (changes_of (o.logs 0).file steps) → StandsOn rules latest digest o steps trail files
  standing steps trail files going here goes kept none writing =
      let longer : IsNumbered (state_next (fresh 0)) (((o.logs 0).entries ++ of_part 0 trail) ++ going) =
      subst (IsNumbered (state_next (fresh 0))) (sym (append_assoc (o.logs 0).entries (of_part 0 trail) going)) (numbered files (of_part 0 trail ++ going) kept none) in
      let is_numbered = ((numbered_both (state_next (fresh 0)) ((o.logs 0).entries ++ of_part 0 trail) going).0 longer).0 in
      record {
        going = going;
        kept = kept_entries files (of_part 0 trail ++ going) kept none;
        stands = subst (FilesStand rules.flows 1 digest files) (labels_split (of_part 0 trail) going) (image_stands files (of_part 0 trail ++ going) goes kept none);
        writing = writing;
        given = (whole o rules latest digest begins (of_part 0 trail ++ going) goes).1;
        ran = goes.ran;
        own = goes.own;
        founded = entries_founded rules.flows (o.logs 0).entries (of_part 0 trail ++ going) goes.state (numbered files (of_part 0 trail ++ going) kept none) (whole o rules latest digest begins (of_part 0 trail ++ going) goes).0
            (whole o rules latest digest begins (of_part 0 trail ++ going) goes).1;
        told = here.told;
        lines = here.stands.lines;
        part = here.part;
        answered = all_answered o rules latest digest begins (of_part 0 trail) is_numbered here.stands.rightly [] (sym (append-nil (of_part 0 trail)));
        spoken = here.stands.spoken;
        saying = elim here.speaking [
          | inl whole_lines ↦ inl whole_lines
          | inr next ↦ inr (half_said o rules latest digest begins (of_part 0 trail) is_numbered trail here.told steps here.part refl (trail_goes rules latest here.stands.rightly) next)
        ];
      }

  -- how things stand at a moment
  pub moment_stands : (steps : List Step) (trail : List Settled) (files : ℕ → List ℕ) → StandsAt (may_follow rules latest) (may_say rules) o steps trail → IsImage steps files → StandsOn rules latest digest o steps trail files
  moment_stands steps trail files here image =
      let goes = trail_goes rules latest here.stands.rightly in
      let none : kept_in 0 (files begins.other) ≡ nothing =
      begins.empty (files begins.other) (subst (λ changes. Leaves changes (files begins.other)) (here.stands.others begins.other no_log) (image.each begins.other)) in
      let all = sym (append-nil (of_part 0 trail)) in
      elim (here.stands.images 0 (omega (arith, begins.one)) (files (o.logs 0).file) (image.each (o.logs 0).file)) [
        | inl kept ↦ standing steps trail files [] here (subst (Goes rules latest) all goes) (subst (λ (l : List Entry). LogKeeps (o.logs 0) l (files (o.logs 0).file)) all kept) none (inl refl)
        | inr next ↦ standing steps trail files next.going here (goes_on rules latest trail here.told next.going goes next.follows) next.keeps none (inr next.gate)
      ]
