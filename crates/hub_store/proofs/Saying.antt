-- What saying a line leaves.
use Rattle.std.proofs.Common.{◌≡◌, ◌⊎◌, inl, inr, ℕ, ◌<◌, Bool, false, true, List, [], ◌∷◌, ◌++◌, take, drop, Result, refl, sym, ◌∙◌, ap, subst, append_assoc}
use Rattle.std.proofs.lemmas.List.{take-append-drop, append-nil}
use Rattle.site_model.specs.History.{Change, Step, said, saying, tape, changes_of, Leaves}
use Rattle.site_model.specs.Calls.{Says}
use Rattle.site_model.specs.Moments.{Always}
use Rattle.site_model.specs.Moments.Always.{begins, goes_on}
use Rattle.site_model.proofs.Tape.{tape-saying, says_no_file}
use Rattle.dura_value.specs.Items.{Entry}
use Rattle.hub_store.specs.declared.way.Way.{Way}
use Rattle.hub_store.specs.Origin.{Log, Origin}
use Rattle.hub_store.specs.Trail.{Settled, Said, of_part}
use Rattle.hub_store.specs.Moments.{IsSpeaking, IsPrefix, LeavesLog, StandsWith, StoreStands}
use Rattle.hub_store.specs.Moments.SaidSoFar.{says}
use Rattle.hub_store.specs.Ways.{LogFits, way_of}
use Rattle.hub_store.specs.Sound.{IsTold}
use Rattle.hub_store.proofs.EveryMoment.{runs_along}

-- a part of the line was said, where any was the last one just now, and no file changed
record SaysPart (line : List ℕ) (old steps : List Step) : Type 0 where
  files : (file : ℕ) → changes_of file steps ≡ changes_of file old
  part : List ℕ
  spoken : tape steps ≡ tape old ++ part
  front : IsPrefix part line
  whole : (part ≡ []) ⊎ IsSpeaking steps

always_saying : (bytes rest done line : List ℕ) (old mid : List Step) → line ≡ done ++ (bytes ++ rest) → ((file : ℕ) → changes_of file mid ≡ changes_of file old) → tape mid ≡ tape old ++ done
    → Always (SaysPart line old) old mid → Always (SaysPart line old) old (saying bytes mid)
always_saying [] rest done line old mid goes files stood before = before
always_saying (byte ∷ bytes) rest done line old mid goes files stood before =
    let next = done ++ byte ∷ [] in
    let split : line ≡ next ++ (bytes ++ rest) = goes ∙ sym (append_assoc done (byte ∷ []) (bytes ++ rest)) in
    let said_now : tape (said byte ∷ mid) ≡ tape old ++ next = ap (λ (l : List ℕ). l ++ byte ∷ []) stood ∙ append_assoc (tape old) done (byte ∷ []) in
    always_saying bytes rest next line old (said byte ∷ mid) split files said_now
    (goes_on before (record { files = files; part = next; spoken = said_now; front = (bytes ++ rest, split); whole = inr (byte, mid, refl) }))

says_during : {T E : Type 0} (line : List ℕ) (old new : List Step) (result : Result T E) → Says line old new result → Always (SaysPart line old) old new
says_during line old new result call =
    let nothing : tape old ≡ tape old ++ [] = sym (append-nil (tape old)) in
    subst (λ (steps : List Step). Always (SaysPart line old) old steps) (sym call.steps)
    (always_saying (take call.count line) (drop call.count line) [] line old old (sym (take-append-drop call.count line)) (λ file. refl) nothing
    (begins (record { files = λ file. refl; part = []; spoken = nothing; front = (line, refl); whole = inl refl })))

-- lines, and then a part of one more
behind : (base lines part : List ℕ) → (base ++ lines ++ []) ++ part ≡ base ++ lines ++ part
behind base lines part = ap (λ (l : List ℕ). l ++ part) (append-nil (base ++ lines))

module _ (MayFollow : List Settled → List Said → ℕ → List Entry → Type 0) (MaySay : List Settled → List Said → Said → List ℕ → Type 0) (o : Origin)
    (still : (trail : List Settled) (told also : List Said) (partition : ℕ) (going : List Entry) → MayFollow trail told partition going → MayFollow trail (told ++ also) partition going) where
  -- while the line is being said
  stands_saying : (trail : List Settled) (told : List Said) (one : Said) (line : List ℕ) (old steps : List Step) → MaySay trail told one line → StandsWith MayFollow MaySay o old trail told []
      → SaysPart line old steps → StoreStands MayFollow MaySay o steps trail
  stands_saying trail told one line old steps may stood here = record {
    told = told;
    part = here.part;
    stands = record {
      lines = stood.lines;
      rightly = stood.rightly;
      spoken = here.spoken ∙ ap (λ (l : List ℕ). l ++ here.part) stood.spoken ∙ behind (tape o.steps) stood.lines here.part;
      images = λ p below. subst (λ (changes : List Change). (image : List ℕ) → Leaves changes image → LeavesLog MayFollow MaySay (o.logs p) p trail told changes image)
          (sym (here.files (o.logs p).file)) (stood.images p below);
      others = λ file none. here.files file ∙ stood.others file none;
    };
    speaking = elim here.whole [
      | inl none ↦ inl none
      | inr speaking ↦ inr (record { speaking = speaking; one = one; line = line; may = may; front = here.front })
    ];
  }

  -- what may follow may follow still once more was said
  log_still : (log : Log) (p : ℕ) (trail : List Settled) (told also : List Said) (changes : List Change) (image : List ℕ) → LeavesLog MayFollow MaySay log p trail told changes image → LeavesLog MayFollow MaySay log p trail (told ++ also) changes image
  log_still log p trail told also changes image (inl keeps) = inl keeps
  log_still log p trail told also changes image (inr next) = inr (record {
    going = next.going;
    follows = still trail told also p next.going next.follows;
    gate = next.gate;
    keeps = next.keeps;
  })

  -- once it was said
  stands_said : (trail : List Settled) (told : List Said) (one : Said) (line : List ℕ) (old new : List Step) → MaySay trail told one line → StandsWith MayFollow MaySay o old trail told []
      → ((file : ℕ) → changes_of file new ≡ changes_of file old) → tape new ≡ tape old ++ line → StandsWith MayFollow MaySay o new trail (told ++ one ∷ []) []
  stands_said trail told one line old new may stood files spoken = record {
    lines = stood.lines ++ line;
    rightly = says stood.rightly one line may;
    spoken = spoken ∙ ap (λ (l : List ℕ). l ++ line) stood.spoken ∙ behind (tape o.steps) stood.lines line ∙ append_assoc (tape o.steps) stood.lines line ∙ sym (append-nil (tape o.steps ++ (stood.lines ++ line)));
    images = λ p below. subst (λ (changes : List Change). (image : List ℕ) → Leaves changes image → LeavesLog MayFollow MaySay (o.logs p) p trail (told ++ one ∷ []) changes image)
        (sym (files (o.logs p).file)) (λ image left. log_still (o.logs p) p trail told (one ∷ []) (changes_of (o.logs p).file old) image (stood.images p below image left));
    others = λ file none. files file ∙ stood.others file none;
  }

  -- the logs stay
  logs_stay : (old new : List Step) (ways : List Way) (trail : List Settled) → ((file : ℕ) → changes_of file new ≡ changes_of file old)
      → ((p : ℕ) → p < o.count → LogFits (o.logs p) (of_part p trail) (changes_of (o.logs p).file old) (way_of ways p)) → (p : ℕ) → p < o.count → LogFits (o.logs p) (of_part p trail) (changes_of (o.logs p).file new) (way_of ways p)
  logs_stay old new ways trail files logs p below = subst (λ (changes : List Change). LogFits (o.logs p) (of_part p trail) changes (way_of ways p)) (sym (files (o.logs p).file)) (logs p below)

  pub told_said : {T E : Type 0} (ways : List Way) (trail : List Settled) (told : List Said) (one : Said) (line : List ℕ) (old new : List Step) (result : Result T E) (cut now_cut : Bool) → MaySay trail told one line → cut ≡ false
      → IsTold MayFollow MaySay o old ways trail told cut → Says line old new result → new ≡ saying line old → IsTold MayFollow MaySay o new ways trail (told ++ one ∷ []) now_cut
  told_said ways trail told one line old new result cut now_cut may going stood call done =
      let files = says_no_file line old new result call in
      record {
        runs = runs_along stood.runs (says_during line old new result call) (λ steps here. stands_saying trail told one line old steps may (stood.rests going) here);
        logs = logs_stay old new ways trail files stood.logs;
        rests = λ rests. stands_said trail told one line old new may (stood.rests going) files (ap tape done ∙ tape-saying line old);
      }

  pub told_failed : {T E : Type 0} (ways : List Way) (trail : List Settled) (told : List Said) (one : Said) (line : List ℕ) (old new : List Step) (result : Result T E) (cut now_cut : Bool) → MaySay trail told one line → cut ≡ false
      → now_cut ≡ true → IsTold MayFollow MaySay o old ways trail told cut → Says line old new result → IsTold MayFollow MaySay o new ways trail told now_cut
  told_failed ways trail told one line old new result cut now_cut may going fell stood call = record {
    runs = runs_along stood.runs (says_during line old new result call) (λ steps here. stands_saying trail told one line old steps may (stood.rests going) here);
    logs = logs_stay old new ways trail (says_no_file line old new result call) stood.logs;
    rests = λ rests. let fell_not : true ≡ false = sym fell ∙ rests in cc;
  }
