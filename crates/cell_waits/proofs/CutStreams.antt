-- Streams are cut one packet after another.
use Rattle.std.proofs.Common.{◌≡◌, ◌∙◌, ◌==◌, ◌&&◌, ◌||◌, ◌++◌, ℕ, Bool, true, false, not, List, [], ◌∷◌, Option, cond, refl, ap, sym, eqb-true, eq-eqb}
use Rattle.std.specs.List.{All, filter}
use Rattle.std.proofs.lemmas.List.Elements.{All-head, All-tail, All-cons, All-nil, All-filter, filter_agree}
use Rattle.std.proofs.lemmas.List.Folds.{list_any-append}
use Rattle.dura_model.specs.World.{Activity}
use Rattle.dura_value.specs.Items.{Identity, Item, took, got, ran, ended, fired, trim}
use Rattle.cell_waits.specs.CutStreams.{is_among, is_sent_by, stays, goes, cut_behind}
use Rattle.cell_waits.specs.Keys.{is_number}
use Rattle.cell_waits.specs.Waits.{Waiting, sender_of, source_of, is_of_stream, without_stream, before, without_lost}

twice_by : (b c : Bool) (x : Waiting) (rest : List Waiting) (p : Waiting → Bool) → p x ≡ c → filter p (cond b (x ∷ rest) rest) ≡ cond (b && c) (x ∷ filter p rest) (filter p rest)
twice_by true c x rest p is = ap (λ (d : Bool). cond d (x ∷ filter p rest) (filter p rest)) is
twice_by false c x rest p is = refl

twice : (p q : Waiting → Bool) (xs : List Waiting) → filter p (filter q xs) ≡ filter (λ x. q x && p x) xs
twice p q [] = refl
twice p q (x ∷ xs) = twice_by (q x) (p x) x (filter q xs) p refl ∙ ap (λ (l : List Waiting). cond (q x && p x) (x ∷ l) l) (twice p q xs)

gone_too : (b among : Bool) → (b ≡ true → among ≡ true) → (not b && not among) ≡ not among
gone_too true among is = ap not (sym (is refl))
gone_too false among is = refl

-- of a stream that is cut nothing is left
cut_already : (cut : List ℕ) (source : ℕ) → is_among cut source ≡ true → (item : Item) → (not (is_number (source_of item) source) && not (is_sent_by cut (sender_of item))) ≡ not (is_sent_by cut (sender_of item))
cut_already cut source among (got entry number message) =
    gone_too (entry.partition == source) (is_among cut entry.partition) (λ same. ap (is_among cut) (eqb-true entry.partition source same) ∙ among)
cut_already cut source among (took message) = refl
cut_already cut source among (ran from to stamp) = refl
cut_already cut source among (ended id task outcome) = refl
cut_already cut source among (fired id task stamp) = refl
cut_already cut source among (trim reader number) = refl

turned_by : (a b : ℕ) (x y : Bool) → (a == b) ≡ x → (b == a) ≡ y → x ≡ y
turned_by a b true true first second = refl
turned_by a b false false first second = refl
turned_by a b true false first second = sym (eq-eqb b a (sym (eqb-true a b first))) ∙ second
turned_by a b false true first second = sym first ∙ eq-eqb a b (sym (eqb-true b a second))

turned : (a b : ℕ) → (a == b) ≡ (b == a)
turned a b = turned_by a b (a == b) (b == a) refl refl

one_of : (b among : Bool) → (not b && not among) ≡ not (among || (b || false))
one_of true true = refl
one_of true false = refl
one_of false true = refl
one_of false false = refl

-- a stream more is cut
cut_more : (cut : List ℕ) (source : ℕ) (item : Item) → (not (is_number (source_of item) source) && not (is_sent_by cut (sender_of item))) ≡ not (is_sent_by (cut ++ source ∷ []) (sender_of item))
cut_more cut source (got entry number message) =
    one_of (entry.partition == source) (is_among cut entry.partition)
    ∙ ap (λ (b : Bool). not (is_among cut entry.partition || (b || false))) (turned entry.partition source)
    ∙ ap not (sym (list_any-append (λ (other : ℕ). other == entry.partition) cut (source ∷ [])))
cut_more cut source (took message) = refl
cut_more cut source (ran from to stamp) = refl
cut_more cut source (ended id task outcome) = refl
cut_more cut source (fired id task stamp) = refl
cut_more cut source (trim reader number) = refl

-- what is left in front, and behind it the rest without the streams that are cut
abbrev left : Bool → Waiting → List ℕ → List Waiting → List Waiting
left goes w cut rest = cond (not goes) (w ∷ []) [] ++ filter (stays cut) rest

packet : (among is_lost : Bool) (w : Waiting) (cut : List ℕ) (source : ℕ) (rest : List Waiting) → is_among cut source ≡ among → stays cut w ≡ not among
    → filter (stays cut) (cond is_lost (without_stream source rest) (w ∷ rest)) ≡ left (among || is_lost) w (cond among cut (cond is_lost (cut ++ source ∷ []) cut)) rest
packet true true w cut source rest among same =
    twice (stays cut) (λ x. not (is_of_stream source x)) rest ∙ filter_agree _ _ (λ x. cut_already cut source among x.item) rest
packet true false w cut source rest among same = ap (λ (b : Bool). cond b (w ∷ filter (stays cut) rest) (filter (stays cut) rest)) same
packet false true w cut source rest among same =
    twice (stays cut) (λ x. not (is_of_stream source x)) rest ∙ filter_agree _ _ (λ x. cut_more cut source x.item) rest
packet false false w cut source rest among same = ap (λ (b : Bool). cond b (w ∷ filter (stays cut) rest) (filter (stays cut) rest)) same

module _ (lost : Identity → Bool) where
  cut_item : (item : Item) (activity : Option Activity) (cut : List ℕ) (rest : List Waiting)
      → filter (stays cut) (before lost (record { item = item; activity = activity }) item rest)
      ≡ left (goes lost cut (sender_of item)) (record { item = item; activity = activity }) (cut_behind lost cut (sender_of item)) rest
  cut_item (got entry number message) activity cut rest =
      packet (is_among cut entry.partition) (lost entry) (record { item = got entry number message; activity = activity }) cut entry.partition rest refl refl
  cut_item (took message) activity cut rest = refl
  cut_item (ran from to stamp) activity cut rest = refl
  cut_item (ended id task outcome) activity cut rest = refl
  cut_item (fired id task stamp) activity cut rest = refl
  cut_item (trim reader number) activity cut rest = refl

  -- the first of what is left stays or goes
  pub cut_one : (w : Waiting) (cut : List ℕ) (rest : List Waiting)
      → filter (stays cut) (without_lost lost (w ∷ rest)) ≡ cond (not (goes lost cut (sender_of w.item))) (w ∷ []) [] ++ filter (stays (cut_behind lost cut (sender_of w.item))) (without_lost lost rest)
  cut_one w cut rest = cut_item w.item w.activity cut (without_lost lost rest)

  module _ (P : Waiting → Type 0) where
    all_before : (w : Waiting) (item : Item) (rest : List Waiting) → P w → All P rest → All P (before lost w item rest)
    all_before w (got entry number message) rest first all =
        elim (lost entry) as (λ b. All P (cond b (without_stream entry.partition rest) (w ∷ rest))) [
          | true ↦ All-filter (λ x. not (is_of_stream entry.partition x)) P rest all
          | false ↦ All-cons P w rest first all
        ]
    all_before w (took message) rest first all = All-cons P w rest first all
    all_before w (ran from to stamp) rest first all = All-cons P w rest first all
    all_before w (ended id task outcome) rest first all = All-cons P w rest first all
    all_before w (fired id task stamp) rest first all = All-cons P w rest first all
    all_before w (trim reader number) rest first all = All-cons P w rest first all

    -- what is true of all is true of those that are kept
    pub all_unlost : (ws : List Waiting) → All P ws → All P (without_lost lost ws)
    all_unlost [] all = All-nil P
    all_unlost (w ∷ ws) all = all_before w w.item (without_lost lost ws) (All-head P w ws all) (all_unlost ws (All-tail P w ws all))

-- where no stream is cut all stay
stay_by : (item : Item) → not (is_sent_by [] (sender_of item)) ≡ true
stay_by (got entry number message) = refl
stay_by (took message) = refl
stay_by (ran from to stamp) = refl
stay_by (ended id task outcome) = refl
stay_by (fired id task stamp) = refl
stay_by (trim reader number) = refl

pub all_stay : (ws : List Waiting) → filter (stays []) ws ≡ ws
all_stay [] = refl
all_stay (w ∷ ws) = ap (λ (b : Bool). cond b (w ∷ filter (stays []) ws) (filter (stays []) ws)) (stay_by w.item) ∙ ap (λ (l : List Waiting). w ∷ l) (all_stay ws)
