-- How often files are synced by one call, of which each frame that waits has its own.
use Rattle.std.proofs.Common.{◌≡◌, ◌≢◌, inl, inr, ℕ, zero, suc, ◌<◌, ◌≤◌, ◌==◌, ◌+◌, Bool, true, false, cond, List, [], ◌∷◌, ◌++◌, length, take, get_or, refl, sym, ◌∙◌, ap, subst, arith}
use Rattle.std.specs.List.{sum_by}
use Rattle.std.proofs.lemmas.List.{append-nil, take_more}
use Rattle.std.proofs.lemmas.List.Sums.{sum_by-cons}
use Rattle.std.proofs.lemmas.Bool.{cases_eq, eq-eqb, ne_eqb}
use Rattle.site_model.specs.History.{Change, Step, on, synced, syncing, changes_of}
use Rattle.site_model.proofs.Paths.{own_change, other_change}
use Rattle.hub_store.specs.Ways.{stage_of, way_of, due_in}
use Rattle.hub_store.specs.Waiting.{waits, waiting}
use Rattle.hub_store.specs.declared.way.Way.{Way}
use Rattle.hub_store.specs.declared.way.Way.TheVariants.{Resting, Bodied, Synced, Gated, Safe, BrokenBody, BrokenGate, Away}

-- ---- changes

abbrev pub count_of : ℕ → List ℕ → ℕ
count_of f [] = 0
count_of f (g ∷ gs) = cond (g == f) (suc (count_of f gs)) (count_of f gs)

pub counts_own : (f : ℕ) (gs : List ℕ) (g : ℕ) → g ≡ f → count_of f (g ∷ gs) ≡ suc (count_of f gs)
counts_own f gs g is = ap (λ (b : Bool). cond b (suc (count_of f gs)) (count_of f gs)) (eq-eqb g f is)

pub counts_other : (f : ℕ) (gs : List ℕ) (g : ℕ) → g ≢ f → count_of f (g ∷ gs) ≡ count_of f gs
counts_other f gs g apart = ap (λ (b : Bool). cond b (suc (count_of f gs)) (count_of f gs)) (ne_eqb g f apart)

-- these changes, and then so many syncs
abbrev pub syncs_on : ℕ → List Change → List Change
syncs_on zero changes = changes
syncs_on (suc k) changes = synced ∷ syncs_on k changes

syncs_under : (k : ℕ) (changes : List Change) → syncs_on k (synced ∷ changes) ≡ synced ∷ syncs_on k changes
syncs_under zero changes = refl
syncs_under (suc k) changes = ap (λ (l : List Change). synced ∷ l) (syncs_under k changes)

pub changes_syncing : (f : ℕ) (gs : List ℕ) (steps : List Step) → changes_of f (syncing gs steps) ≡ syncs_on (count_of f gs) (changes_of f steps)
changes_syncing f [] steps = refl
changes_syncing f (g ∷ gs) steps =
    let then : changes_of f (syncing gs (on g synced ∷ steps)) ≡ syncs_on (count_of f gs) (changes_of f (on g synced ∷ steps)) = changes_syncing f gs (on g synced ∷ steps) in
    elim (cases_eq g f) [
      | inl is ↦
          let own : changes_of f (on g synced ∷ steps) ≡ synced ∷ changes_of f steps = ap (λ (n : ℕ). changes_of f (on n synced ∷ steps)) is ∙ own_change f synced steps in
          then ∙ ap (syncs_on (count_of f gs)) own ∙ syncs_under (count_of f gs) (changes_of f steps) ∙ ap (λ (k : ℕ). syncs_on k (changes_of f steps)) (sym (counts_own f gs g is))
      | inr apart ↦
          then ∙ ap (syncs_on (count_of f gs)) (other_change f g synced steps (λ e. apart (sym e))) ∙ ap (λ (k : ℕ). syncs_on k (changes_of f steps)) (sym (counts_other f gs g apart))
    ]

pub count_take : (f : ℕ) (gs : List ℕ) (n : ℕ) → count_of f (take n gs) ≤ count_of f gs
count_take f gs zero = omega arith
count_take f [] (suc n) = omega arith
count_take f (g ∷ gs) (suc n) =
    let then = count_take f gs n in
    elim (cases_eq g f) [
      | inl is ↦ omega (arith, then, counts_own f gs g is, counts_own f (take n gs) g is)
      | inr apart ↦ omega (arith, then, counts_other f gs g apart, counts_other f (take n gs) g apart)
    ]

-- ---- the files of those that wait

abbrev pub file_in : Way → ℕ
file_in (Bodied log frame) = log.file
file_in (Gated log frame) = log.file
file_in other = 0

pub waiting_more : (way : Way) (ways : List Way) → waits (stage_of way) ≡ true → waiting (way ∷ ways) ≡ file_in way ∷ waiting ways
waiting_more (Resting log) ways is = absurd (cc is)
waiting_more (Bodied log frame) ways is = refl
waiting_more (Synced log frame) ways is = absurd (cc is)
waiting_more (Gated log frame) ways is = refl
waiting_more (Safe log frame) ways is = absurd (cc is)
waiting_more (BrokenBody log frame) ways is = absurd (cc is)
waiting_more (BrokenGate log frame) ways is = absurd (cc is)
waiting_more Away ways is = absurd (cc is)

pub waiting_less : (way : Way) (ways : List Way) → waits (stage_of way) ≡ false → waiting (way ∷ ways) ≡ waiting ways
waiting_less (Resting log) ways is = refl
waiting_less (Bodied log frame) ways is = absurd (cc is)
waiting_less (Synced log frame) ways is = refl
waiting_less (Gated log frame) ways is = absurd (cc is)
waiting_less (Safe log frame) ways is = refl
waiting_less (BrokenBody log frame) ways is = refl
waiting_less (BrokenGate log frame) ways is = refl
waiting_less Away ways is = refl

-- it waits, or it doesn't
pub data Either (b : Bool) : Type 0 where
  it_is : b ≡ true → Either b
  it_is_not : b ≡ false → Either b

pub either : (b : Bool) → Either b
either true = it_is refl
either false = it_is_not refl

pub waiting_append : (ways more : List Way) → waiting (ways ++ more) ≡ waiting ways ++ waiting more
waiting_append [] more = refl
waiting_append (way ∷ ways) more = elim (either (waits (stage_of way))) [
  | it_is is ↦ waiting_more way (ways ++ more) is ∙ ap (λ (l : List ℕ). file_in way ∷ l) (waiting_append ways more) ∙ ap (λ (l : List ℕ). l ++ waiting more) (sym (waiting_more way ways is))
  | it_is_not is ↦ waiting_less way (ways ++ more) is ∙ waiting_append ways more ∙ ap (λ (l : List ℕ). l ++ waiting more) (sym (waiting_less way ways is))
]

pub none_wait : (ways : List Way) → waiting ways ≡ [] → (p : ℕ) → waits (stage_of (way_of ways p)) ≡ false
none_wait [] is p = refl
none_wait (way ∷ ways) is zero = elim (either (waits (stage_of way))) [
  | it_is some ↦ let wrong : file_in way ∷ waiting ways ≡ [] = sym (waiting_more way ways some) ∙ is in absurd (cc wrong)
  | it_is_not none ↦ none
]
none_wait (way ∷ ways) is (suc p) = elim (either (waits (stage_of way))) [
  | it_is some ↦ let wrong : file_in way ∷ waiting ways ≡ [] = sym (waiting_more way ways some) ∙ is in absurd (cc wrong)
  | it_is_not none ↦ none_wait ways (sym (waiting_less way ways none) ∙ is) p
]

pub all_rest : (ways : List Way) → ((p : ℕ) → waits (stage_of (way_of ways p)) ≡ false) → waiting ways ≡ []
all_rest [] none = refl
all_rest (way ∷ ways) none = waiting_less way ways (none 0) ∙ all_rest ways (λ p. none (suc p))

-- no file of those that wait is this one
pub none_there : (f : ℕ) (ways : List Way) → ((j : ℕ) → waits (stage_of (way_of ways j)) ≡ true → file_in (way_of ways j) ≢ f) → count_of f (waiting ways) ≡ 0
none_there f [] apart = refl
none_there f (way ∷ ways) apart =
    let then : count_of f (waiting ways) ≡ 0 = none_there f ways (λ j. apart (suc j)) in
    elim (either (waits (stage_of way))) [
      | it_is is ↦ ap (count_of f) (waiting_more way ways is) ∙ counts_other f (waiting ways) (file_in way) (apart 0 is) ∙ then
      | it_is_not is ↦ ap (count_of f) (waiting_less way ways is) ∙ then
    ]

-- just one is
pub one_there : (f : ℕ) (ways : List Way) (p : ℕ) → waits (stage_of (way_of ways p)) ≡ true → file_in (way_of ways p) ≡ f → ((j : ℕ) → j ≢ p → waits (stage_of (way_of ways j)) ≡ true → file_in (way_of ways j) ≢ f)
    → count_of f (waiting ways) ≡ 1
one_there f [] p is own apart = absurd (cc is)
one_there f (way ∷ ways) zero is own apart =
    ap (count_of f) (waiting_more way ways is) ∙ counts_own f (waiting ways) (file_in way) own ∙ ap suc (none_there f ways (λ j. apart (suc j) (λ e. omega (arith, e))))
one_there f (way ∷ ways) (suc p) is own apart =
    let then : count_of f (waiting ways) ≡ 1 = one_there f ways p is own (λ j other. apart (suc j) (λ e. other (omega (arith, e)))) in
    elim (either (waits (stage_of way))) [
      | it_is here ↦ ap (count_of f) (waiting_more way ways here) ∙ counts_other f (waiting ways) (file_in way) (apart 0 (λ e. omega (arith, e)) here) ∙ then
      | it_is_not here ↦ ap (count_of f) (waiting_less way ways here) ∙ then
    ]

-- a frame that waits is of a partition that there is
pub waits_inside : (ways : List Way) (p : ℕ) → waits (stage_of (way_of ways p)) ≡ true → p < length ways
waits_inside [] p is = absurd (cc is)
waits_inside (way ∷ ways) zero is = omega arith
waits_inside (way ∷ ways) (suc p) is = omega (arith, waits_inside ways p is)

-- ---- what is under way

-- as many entries are
pub dues_same : (old new : List Way) → length new ≡ length old → ((p : ℕ) → due_in (way_of new p) ≡ due_in (way_of old p)) → sum_by due_in new ≡ sum_by due_in old
dues_same [] [] count same = refl
dues_same [] (way ∷ new) count same = absurd (omega (arith, count))
dues_same (way ∷ old) [] count same = absurd (omega (arith, count))
dues_same (one ∷ old) (other ∷ new) count same =
    let first : due_in other ≡ due_in one = same 0 in
    let then : sum_by due_in new ≡ sum_by due_in old = dues_same old new (omega (arith, count)) (λ p. same (suc p)) in
    sum_by-cons due_in other new ∙ (λ i. first i + then i) ∙ sym (sum_by-cons due_in one old)

-- ---- the files one after another

-- one frame more was looked at
waits_one_more : (ways : List Way) (i : ℕ) (way : Way) → i < length ways → way ≡ get_or ways i way → waiting (take (i + 1) ways) ≡ waiting (take i ways) ++ waiting (way ∷ [])
waits_one_more ways i way below is =
    ap waiting (take_more ways i way below) ∙ waiting_append (take i ways) (get_or ways i way ∷ []) ∙ ap (λ (w : Way). waiting (take i ways) ++ waiting (w ∷ [])) (sym is)

pub file_pushed : (ways : List Way) (i : ℕ) (way : Way) (old now : List ℕ) (file : ℕ) → i < length ways → way ≡ get_or ways i way → old ≡ waiting (take i ways) → waiting (way ∷ []) ≡ file ∷ [] → now ≡ old ++ file ∷ []
    → now ≡ waiting (take (i + 1) ways)
file_pushed ways i way old now file below is before one put = put ∙ ap (λ (l : List ℕ). l ++ file ∷ []) before ∙ ap (λ (l : List ℕ). waiting (take i ways) ++ l) (sym one) ∙ sym (waits_one_more ways i way below is)

pub none_pushed : (ways : List Way) (i : ℕ) (way : Way) (old now : List ℕ) → i < length ways → way ≡ get_or ways i way → old ≡ waiting (take i ways) → waiting (way ∷ []) ≡ [] → now ≡ old → now ≡ waiting (take (i + 1) ways)
none_pushed ways i way old now below is before none same =
    same ∙ before ∙ sym (append-nil (waiting (take i ways))) ∙ ap (λ (l : List ℕ). waiting (take i ways) ++ l) (sym none) ∙ sym (waits_one_more ways i way below is)

-- where one waits, some do
pub some_wait : (ways : List Way) (i : ℕ) (way : Way) (file : ℕ) → i < length ways → way ≡ get_or ways i way → waiting (way ∷ []) ≡ file ∷ [] → waiting ways ≢ []
some_wait [] i way file below is one none = omega (arith, below)
some_wait (first ∷ ways) zero way file below is one none =
    let here : waiting (first ∷ []) ≡ file ∷ [] = subst (λ (w : Way). waiting (w ∷ []) ≡ file ∷ []) is one in
    elim (either (waits (stage_of first))) [
      | it_is some ↦ let wrong : file_in first ∷ waiting ways ≡ [] = sym (waiting_more first ways some) ∙ none in cc wrong
      | it_is_not no_one ↦ let wrong : [] ≡ file ∷ [] = sym (waiting_less first [] no_one) ∙ here in cc wrong
    ]
some_wait (first ∷ ways) (suc i) way file below is one none = elim (either (waits (stage_of first))) [
  | it_is some ↦ let wrong : file_in first ∷ waiting ways ≡ [] = sym (waiting_more first ways some) ∙ none in cc wrong
  | it_is_not no_one ↦ some_wait ways i way file (omega (arith, below)) is one (sym (waiting_less first ways no_one) ∙ none)
]

-- a list of some isn't empty
pub some_apart : (files : List ℕ) → 0 < length files → files ≢ []
some_apart [] some none = omega (arith, some)
some_apart (file ∷ files) some none = cc none
