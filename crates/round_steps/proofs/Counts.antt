-- How many labels there are, one item and one entry after another.
use Rattle.std.proofs.Common.{◌≡◌, ◌<◌, ◌≤◌, ◌∙◌, Bool, ℕ, zero, suc, ◌+◌, ◌*◌, ◌-◌, min, List, [], ◌∷◌, ◌++◌, length, length-append, take, drop, get_or, cond, true, false, Option, Some, None, refl, sym, ap, subst, arith}
use Rattle.std.specs.Prelude.{is_some}
use Rattle.std.specs.List.{All}
use Rattle.std.proofs.Math.Nat.{mul-le-mul_left}
use Rattle.std.proofs.lemmas.List.Elements.{All-head, All-tail}
use Rattle.std.proofs.lemmas.List.{map_more, take_all}
use Rattle.dura_model.specs.Entries.{and_label, labels_of}
use Rattle.dura_model.specs.Partition.{label_in}
use Rattle.dura_model.specs.Steps.{Label}
use Rattle.dura_value.specs.Items.{Item}
use Rattle.hub_store.specs.Plain.{settled_of, trail_of}
use Rattle.hub_store.specs.Trail.{Settled}
use Rattle.hub_store.specs.declared.trail.Settled as rows
use Rattle.log_items.specs.Plain.{item_of, items_of}
use Rattle.log_items.specs.declared.items.Item.{Item as OwnItem}
use Rattle.many_logs.specs.Labels.{labels_of_commits}
use Rattle.many_rules.specs.Rules.{Rules, commits_of}
use Rattle.node_core.specs.Growing.{IsStamped, Grows}
use Rattle.round_steps.specs.Labels.{AreFew, IsCounted, settled_labels}
use Rattle.round_steps.specs.declared.course.Seen.{Seen}

alone : (n : ℕ) → n ≡ 0 + n
alone n = omega arith

label_counts : (o : Option Label) (labels : List Label) → length (and_label o labels) ≡ cond (is_some o) 1 0 + length labels
label_counts None labels = alone (length labels)
label_counts (Some label) labels = omega arith

at_most_one : (b : Bool) → cond b 1 0 ≤ 1
at_most_one true = omega arith
at_most_one false = omega arith

labels_more : (xs ys : List Item) → length (labels_of (xs ++ ys)) ≡ length (labels_of xs) + length (labels_of ys)
labels_more [] ys = alone (length (labels_of ys))
labels_more (x ∷ xs) ys =
    let all = label_counts (label_in x) (labels_of (xs ++ ys)) in
    let some = label_counts (label_in x) (labels_of xs) in
    let rest = labels_more xs ys in
    omega (arith, all, some, rest)

-- one item more
pub next_item : (xs : List OwnItem) (i : ℕ) (x : OwnItem) → i < length xs → x ≡ get_or xs i x → length (labels_of (items_of (take (i + 1) xs))) ≡ length (labels_of (items_of (take i xs))) + cond (is_some (label_in (item_of x))) 1 0
next_item xs i x lt at =
    let longer : items_of (take (i + 1) xs) ≡ items_of (take i xs) ++ item_of x ∷ [] = map_more item_of xs i x lt ∙ ap (λ y. items_of (take i xs) ++ item_of y ∷ []) (sym at) in
    let same = ap (λ (l : List Item). length (labels_of l)) longer in
    let more = labels_more (items_of (take i xs)) (item_of x ∷ []) in
    let one = label_counts (label_in (item_of x)) [] in
    omega (arith, same, more, one)

pub all_items : (xs : List OwnItem) (i : ℕ) → length xs ≤ i → length (labels_of (items_of (take i xs))) ≡ length (labels_of (items_of xs))
all_items xs i end = ap (λ (l : List OwnItem). length (labels_of (items_of l))) (take_all i xs end)

pub settled_more : (a b : List Settled) → settled_labels (a ++ b) ≡ settled_labels a + settled_labels b
settled_more [] b = alone (settled_labels b)
settled_more (s ∷ a) b =
    let all = length-append (labels_of s.entry.items) (labels_of_commits (commits_of (a ++ b))) in
    let some = length-append (labels_of s.entry.items) (labels_of_commits (commits_of a)) in
    let rest = settled_more a b in
    omega (arith, all, some, rest)

-- one entry more
pub next_entry : (xs : List rows.Settled) (i : ℕ) (x : rows.Settled) → i < length xs → x ≡ get_or xs i x → settled_labels (trail_of (take (i + 1) xs)) ≡ settled_labels (trail_of (take i xs)) + length (labels_of (items_of x.items))
next_entry xs i x lt at =
    let longer : trail_of (take (i + 1) xs) ≡ trail_of (take i xs) ++ settled_of x ∷ [] = map_more settled_of xs i x lt ∙ ap (λ y. trail_of (take i xs) ++ settled_of y ∷ []) (sym at) in
    let same = ap settled_labels longer in
    let more = settled_more (trail_of (take i xs)) (settled_of x ∷ []) in
    let one = length-append (labels_of (items_of x.items)) [] in
    omega (arith, same, more, one)

pub all_entries : (xs : List rows.Settled) (i : ℕ) → length xs ≤ i → settled_labels (trail_of (take i xs)) ≡ settled_labels (trail_of xs)
all_entries xs i end = ap (λ (l : List rows.Settled). settled_labels (trail_of l)) (take_all i xs end)

-- ---- since so many entries

behind : (list : List rows.Settled) (n : ℕ) → take (length list - n) (drop n list) ≡ drop n list
behind [] zero = refl
behind [] (suc n) = let none : 0 - suc n ≡ 0 = omega arith in ap (λ (m : ℕ). take {A = rows.Settled} m []) none
behind (x ∷ xs) zero = take_all (length (x ∷ xs) - zero) (x ∷ xs) (omega arith)
behind (x ∷ xs) (suc n) = let less : length (x ∷ xs) - suc n ≡ length xs - n = omega arith in ap (λ (m : ℕ). take m (drop n xs)) less ∙ behind xs n

-- past the end there is nothing
dropped : (list : List rows.Settled) (n : ℕ) → trail_of (drop (min n (length list)) list) ≡ drop n (trail_of list)
dropped [] zero = refl
dropped [] (suc n) = let none : min (suc n) 0 ≡ 0 = omega arith in ap (λ (m : ℕ). trail_of (drop {A = rows.Settled} m [])) none
dropped (x ∷ xs) zero = let none : min 0 (length (x ∷ xs)) ≡ 0 = omega arith in ap (λ (m : ℕ). trail_of (drop m (x ∷ xs))) none
dropped (x ∷ xs) (suc n) = let both : min (suc n) (length (x ∷ xs)) ≡ suc (min n (length xs)) = omega arith in ap (λ (m : ℕ). trail_of (drop m (x ∷ xs))) both ∙ dropped xs n

pub since : (list : List rows.Settled) (trail : List Settled) (seen from n : ℕ) → trail_of list ≡ trail → from ≡ min seen (length list) → n ≡ settled_labels (trail_of (take (length list - from) (drop from list))) → n ≡ settled_labels (drop seen trail)
since list trail seen from n is at counted =
    counted
    ∙ ap (λ (l : List rows.Settled). settled_labels (trail_of l)) (behind list from)
    ∙ ap (λ (m : ℕ). settled_labels (trail_of (drop m list))) at
    ∙ ap settled_labels (dropped list seen ∙ ap (drop seen) is)

-- ---- what came since is counted

new_end : {X : Type 0} (a b : List X) → drop (length a) (a ++ b) ≡ b
new_end [] b = refl
new_end (x ∷ a) b = new_end a b

-- what came behind so many entries is what is new
pub grown : (rules : Rules) (first last : ℕ) (old new : List Settled) → Grows rules first last old new → settled_labels new ≡ settled_labels old + settled_labels (drop (length old) new)
grown rules first last old new grows =
    let all = ap settled_labels grows.is in
    let both = settled_more old grows.more in
    let rest = ap settled_labels (ap (drop (length old)) grows.is ∙ new_end old grows.more) in
    omega (arith, all, both, rest)

-- all that came since was looked at
pub counted_on : (rules : Rules) (first last : ℕ) (old new : List Settled) (seen now : Seen) → IsCounted seen old → Grows rules first last old new → now.entries ≡ length new → now.labels ≡ seen.labels + settled_labels (drop seen.entries new) → IsCounted now new
counted_on rules first last old new seen now counted grows entries labels =
    let all = grown rules first last old new grows in
    let since = ap (λ (n : ℕ). settled_labels (drop n new)) counted.entries in
    let before = counted.labels in
    record { entries = entries; labels = omega (arith, all, since, before, labels) }

-- nothing came, and nothing is looked at
pub counted_still : (old new : List Settled) (seen now : Seen) → IsCounted seen old → now ≡ seen → new ≡ old → IsCounted now new
counted_still old new seen now counted same trail = subst (λ (s : Seen). IsCounted s new) (sym same) (subst (IsCounted seen) (sym trail) counted)

-- ---- how many may come at once

few_among : (items : List Item) → length (labels_of items) ≤ length items
few_among [] = omega arith
few_among (x ∷ xs) =
    let rest = few_among xs in
    let one = label_counts (label_in x) (labels_of xs) in
    let low = at_most_one (is_some (label_in x)) in
    omega (arith, rest, one, low)

labels_few : (rules : Rules) (first last : ℕ) (l : List Settled) → All (IsStamped rules first last) l → settled_labels l ≤ length l * rules.most
labels_few rules first last [] all = omega arith
labels_few rules first last (s ∷ l) all =
    let rest = labels_few rules first last l (All-tail (IsStamped rules first last) s l all) in
    let this = All-head (IsStamped rules first last) s l all in
    let few = this.few in
    let both = length-append (labels_of s.entry.items) (labels_of_commits (commits_of l)) in
    let one = few_among s.entry.items in
    omega (arith, rest, few, both, one)

-- Where fewer were settled than are enough, a frame of each partition makes no more than may be.
pub wave_few : (rules : Rules) (enough first last : ℕ) (old new : List Settled) (seen : Seen) → IsCounted seen old → seen.labels < enough → Grows rules first last old new → length new ≤ length old + 64 * rules.count → AreFew rules enough new
wave_few rules enough first last old new seen counted low grows long =
    let all = ap settled_labels grows.is in
    let both = settled_more old grows.more in
    let size = ap (λ (l : List Settled). length l) grows.is in
    let sizes = length-append old grows.more in
    let some : length grows.more ≤ 64 * rules.count = omega (arith, long, size, sizes) in
    let more = labels_few rules first last grows.more grows.stamped in
    let most = mul-le-mul_left rules.most some in
    let before = counted.labels in
    omega (arith, all, both, more, most, before, low)

-- nothing was settled
pub first_few : (rules : Rules) (enough : ℕ) → 0 < rules.count → 0 < rules.most → AreFew rules enough []
first_few rules enough some most = let all = mul-le-mul_left rules.count most in omega (arith, all, some)
