-- A stream that changes changes as a function.
use Rattle.std.proofs.Common.{◌≡◌, ◌∙◌, ◌<◌, ◌≤◌, ◌+◌, ◌-◌, ◌==◌, ◌++◌, ℕ, suc, List, [], ◌∷◌, length, drop, map, Bool, true, false, Option, Some, None, IsSome, Result, Ok, Err, IfOk, nat_le, eqb-true, refl, ap, sym, subst, cond, arith}
use Rattle.std.proofs.lemmas.Bool.{leb-true, lt-leb, le-leb, eqb-true}
use Rattle.std.proofs.lemmas.List.{map-append, length-map}
use Rattle.std.specs.Ordering.{nat_cmp}
use Rattle.std.specs.BTreeMap.{BTreeMap, get, is_at, UpdatesBy}
use Rattle.std.specs.Cmp.{unsigned_ties}
use Rattle.dura_model.specs.Partition as plain
use Rattle.log_items.specs.Streams as streams
use Rattle.dura_value.specs.Items.{Posted as PlainPosted}
use Rattle.dura_value.specs.declared.identity.Posted.{Posted}
use Rattle.part_rows.specs.declared.streams.Outbox.{Outbox}
use Rattle.part_rows.specs.declared.streams.Inbox.{Inbox}
use Rattle.dura_value.specs.Views.{posted_of}
use Rattle.part_rows.specs.Views.{outbox_of, inbox_of, outbox_or_new, inbox_or_new}

number_same : (a b : ℕ) → is_at (nat_cmp a) b ≡ (a == b)
number_same a b = sym (unsigned_ties a b)

inbox_at : (b : Bool) (box : Inbox) (was : Option Inbox) → inbox_or_new (cond b (Some box) was) ≡ cond b (inbox_of box) (inbox_or_new was)
inbox_at true box was = refl
inbox_at false box was = refl

pub inbox_changes : (m n : BTreeMap ℕ Inbox) (source : ℕ) (box : Inbox) → UpdatesBy nat_cmp (nat_cmp source) m n (Some box)
    → (λ (q : ℕ). inbox_or_new (get nat_cmp n q)) ≡ plain.with_inbox (λ (q : ℕ). inbox_or_new (get nat_cmp m q)) source (inbox_of box)
inbox_changes m n source box updates = λ i q. (ap inbox_or_new (updates.0 q ∙ ap (λ (b : Bool). cond b (Some box) (get nat_cmp m q)) (number_same source q)) ∙ inbox_at (source == q) box (get nat_cmp m q)) i

-- what a stream becomes
abbrev Change : Type 0
Change = streams.Outbox → streams.Outbox

-- one stream changes
abbrev changed_at : Change → ℕ → (ℕ → streams.Outbox) → ℕ → streams.Outbox
changed_at f target boxes q = cond (target == q) (f (boxes q)) (boxes q)

outbox_at : (b : Bool) (box : Outbox) (was mine : Option Outbox) (f : Change) → (b ≡ true → was ≡ mine) → outbox_of box ≡ f (outbox_or_new mine)
    → outbox_or_new (cond b (Some box) was) ≡ cond b (f (outbox_or_new was)) (outbox_or_new was)
outbox_at true box was mine f found is = is ∙ ap (λ (o : Option Outbox). f (outbox_or_new o)) (sym (found refl))
outbox_at false box was mine f found is = refl

box_changes : (m n : BTreeMap ℕ Outbox) (target : ℕ) (box : Outbox) (f : Change) → UpdatesBy nat_cmp (nat_cmp target) m n (Some box) → outbox_of box ≡ f (outbox_or_new (get nat_cmp m target))
    → (λ (q : ℕ). outbox_or_new (get nat_cmp n q)) ≡ changed_at f target (λ (q : ℕ). outbox_or_new (get nat_cmp m q))
box_changes m n target box f updates is = λ i q.
    (ap outbox_or_new (updates.0 q ∙ ap (λ (b : Bool). cond b (Some box) (get nat_cmp m q)) (number_same target q))
    ∙ outbox_at (target == q) box (get nat_cmp m q) (get nat_cmp m target) f (λ same. ap (get nat_cmp m) (sym (eqb-true target q same))) is) i

abbrev behind : Posted → Change
behind posted box = record box { messages = box.messages ++ posted_of posted ∷ [] }

grown : (was now : Outbox) (posted : Posted) → now.first ≡ was.first → now.messages ≡ was.messages ++ posted ∷ [] → outbox_of now ≡ behind posted (outbox_of was)
grown was now posted first items =
    ap (λ (n : ℕ). record { first = n; messages = map posted_of now.messages }) first
    ∙ ap (λ (ps : List PlainPosted). record { first = was.first; messages = ps }) (ap (map posted_of) items ∙ map-append posted_of was.messages (posted ∷ []))

pub posted_written : (m n : BTreeMap ℕ Outbox) (target : ℕ) (was now : Outbox) (posted : Posted) → get nat_cmp m target ≡ Some was → (IsSome (get nat_cmp m target) → UpdatesBy nat_cmp (nat_cmp target) m n (Some now))
    → now.first ≡ was.first → now.messages ≡ was.messages ++ posted ∷ []
    → (λ (q : ℕ). outbox_or_new (get nat_cmp n q)) ≡ streams.with_posted (λ (q : ℕ). outbox_or_new (get nat_cmp m q)) target (posted_of posted)
posted_written m n target was now posted found writes first items =
    box_changes m n target now (behind posted) (writes (subst IsSome (sym found) refl)) (grown was now posted first items ∙ ap (λ (o : Option Outbox). behind posted (outbox_or_new o)) (sym found))

pub posted_begun : (m n : BTreeMap ℕ Outbox) (target : ℕ) (now : Outbox) (posted : Posted) → get nat_cmp m target ≡ None → UpdatesBy nat_cmp (nat_cmp target) m n (Some now)
    → now.first ≡ 0 → now.messages ≡ posted ∷ []
    → (λ (q : ℕ). outbox_or_new (get nat_cmp n q)) ≡ streams.with_posted (λ (q : ℕ). outbox_or_new (get nat_cmp m q)) target (posted_of posted)
posted_begun m n target now posted absent updates first items =
    box_changes m n target now (behind posted) updates
    (ap (λ (k : ℕ). record { first = k; messages = map posted_of now.messages }) first
    ∙ ap (λ (ps : List Posted). record { first = 0; messages = map posted_of ps }) items
    ∙ ap (λ (o : Option Outbox). behind posted (outbox_or_new o)) (sym absent))

-- ---- where a stream begins

abbrev begins_by : Bool → ℕ → streams.Outbox → streams.Outbox
begins_by b number box = cond b box (record { first = number; messages = drop (number - box.first) box.messages })

past_it : (number first : ℕ) → first < number → nat_le number first ≡ false
past_it number first less = lt-leb number first less

one_less : (number first : ℕ) → first < number → number - first ≡ suc (number - (first + 1))
one_less number first less = omega (arith, less)

at_next : (b : Bool) (number first : ℕ) (rest : List PlainPosted) → nat_le number (first + 1) ≡ b → first < number
    → record { first = number; messages = drop (number - (first + 1)) rest } ≡ begins_by b number (record { first = first + 1; messages = rest })
at_next true number first rest is less =
    let inside = leb-true number (first + 1) is in
    let same : number ≡ first + 1 = omega (arith, inside, less) in
    let none : number - (first + 1) ≡ 0 = omega (arith, inside) in
    ap (λ (k : ℕ). record { first = number; messages = drop k rest }) none ∙ ap (λ (k : ℕ). record { first = k; messages = rest }) same
at_next false number first rest is less = refl

-- one message less, and the next number
pub one_gone : (number first : ℕ) (posted : PlainPosted) (rest : List PlainPosted) → first < number
    → streams.begins_at number (record { first = first; messages = posted ∷ rest }) ≡ streams.begins_at number (record { first = first + 1; messages = rest })
one_gone number first posted rest less =
    ap (λ (b : Bool). begins_by b number (record { first = first; messages = posted ∷ rest })) (past_it number first less)
    ∙ ap (λ (k : ℕ). record { first = number; messages = drop k (posted ∷ rest) }) (one_less number first less)
    ∙ at_next (nat_le number (first + 1)) number first rest refl less

-- A stream that has let go one message more begins where it did, and isn't past the number yet.
abbrev pub Goes : ℕ → streams.Outbox → ℕ → List Posted → Type 0
Goes number start first items =
    (streams.begins_at number (record { first = first; messages = map posted_of items }) ≡ start) × (number ≤ first + length items) × (first ≤ number)

pub stepped : (number first : ℕ) (items : List Posted) (start : streams.Outbox) → first < number → Goes number start first items → Goes number start (first + 1) (drop 1 items)
stepped number first [] start less goes = let inside : number ≤ first + 0 = goes.1 in absurd (omega (arith, inside, less))
stepped number first (posted ∷ rest) start less goes =
    let inside : number ≤ first + suc (length rest) = goes.1 in
    (sym (one_gone number first (posted_of posted) (map posted_of rest) less) ∙ goes.0, omega (arith, inside), omega (arith, less))

either : (b : Bool) (box : streams.Outbox) → cond b box box ≡ box
either true box = refl
either false box = refl

unchanged : (target : ℕ) (boxes : ℕ → streams.Outbox) → changed_at (λ (box : streams.Outbox). box) target boxes ≡ boxes
unchanged target boxes = λ i q. either (target == q) (boxes q) i

-- a stream that was lent begins later, or stays
begun_written : (m n : BTreeMap ℕ Outbox) (target number : ℕ) (was now : Outbox) (b : Bool) → get nat_cmp m target ≡ Some was → (IsSome (get nat_cmp m target) → UpdatesBy nat_cmp (nat_cmp target) m n (Some now))
    → outbox_of now ≡ cond b (streams.begins_at number (outbox_of was)) (outbox_of was)
    → (λ (q : ℕ). outbox_or_new (get nat_cmp n q)) ≡ cond b (streams.with_first (λ (q : ℕ). outbox_or_new (get nat_cmp m q)) target number) (λ (q : ℕ). outbox_or_new (get nat_cmp m q))
begun_written m n target number was now true found writes is =
    box_changes m n target now (streams.begins_at number) (writes (subst IsSome (sym found) refl)) (is ∙ ap (λ (o : Option Outbox). streams.begins_at number (outbox_or_new o)) (sym found))
begun_written m n target number was now false found writes is =
    box_changes m n target now (λ (box : streams.Outbox). box) (writes (subst IsSome (sym found) refl)) (is ∙ ap outbox_or_new (sym found)) ∙ unchanged target (λ (q : ℕ). outbox_or_new (get nat_cmp m q))

-- the same where it may be refused for want of memory
pub begun_if_ok : {E : Type 0} (m n : BTreeMap ℕ Outbox) (target number : ℕ) (was now : Outbox) (r : Result Bool E) → get nat_cmp m target ≡ Some was
    → (IsSome (get nat_cmp m target) → UpdatesBy nat_cmp (nat_cmp target) m n (Some now)) → IfOk r (λ b. outbox_of now ≡ cond b (streams.begins_at number (outbox_of was)) (outbox_of was))
    → IfOk r (λ b. (λ (q : ℕ). outbox_or_new (get nat_cmp n q)) ≡ cond b (streams.with_first (λ (q : ℕ). outbox_or_new (get nat_cmp m q)) target number) (λ (q : ℕ). outbox_or_new (get nat_cmp m q)))
begun_if_ok m n target number was now (Ok b) found writes is = begun_written m n target number was now b found writes is
begun_if_ok m n target number was now (Err e) found writes is = tt

at_zero : (box : streams.Outbox) → streams.begins_at 0 box ≡ box
at_zero box = ap (λ (b : Bool). begins_by b 0 box) (le-leb 0 box.first (omega (arith)))

from_zero : (b : Bool) (box : streams.Outbox) → cond b (streams.begins_at 0 box) box ≡ box
from_zero true box = at_zero box
from_zero false box = refl

-- A stream that begins at 0 stays.
pub begun_nowhere : (m : BTreeMap ℕ Outbox) (target number : ℕ) → get nat_cmp m target ≡ None → number ≡ 0
    → streams.with_first (λ (q : ℕ). outbox_or_new (get nat_cmp m q)) target number ≡ (λ (q : ℕ). outbox_or_new (get nat_cmp m q))
begun_nowhere m target number absent is =
    ap (streams.with_first (λ (q : ℕ). outbox_or_new (get nat_cmp m q)) target) is
    ∙ (λ i q. from_zero (target == q) (outbox_or_new (get nat_cmp m q)) i)

-- where a stream that is there ends
pub end_found : (m : BTreeMap ℕ Outbox) (target : ℕ) (was : Outbox) → get nat_cmp m target ≡ Some was
    → (outbox_or_new (get nat_cmp m target)).first + length (outbox_or_new (get nat_cmp m target)).messages ≡ was.first + length was.messages
end_found m target was found =
    ap (λ (o : Option Outbox). (outbox_or_new o).first + length (outbox_or_new o).messages) found ∙ ap (λ (n : ℕ). was.first + n) (length-map was.messages posted_of)
