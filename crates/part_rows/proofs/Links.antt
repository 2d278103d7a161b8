-- The first message of a link, by its place.
use Rattle.std.proofs.Common.{◌≡◌, ◌∙◌, ◌<◌, ◌≤◌, ◌+◌, ℕ, suc, List, [], ◌∷◌, length, Bool, true, false, not, Some, None, get_or, nat_lt, refl, ap, sym, subst, drop, cond, arith}
use Rattle.std.proofs.lemmas.Bool.{ltb-true, ltb-false, lt-ltb, le-ltb}
use Rattle.std.specs.List.{position, position_or_len, remove, slice_get}
use Rattle.std.proofs.lemmas.List.{drop_more}
use Rattle.std.proofs.lemmas.Option.{slice_get_within, get_or_from_slice_get}
use Rattle.std.proofs.Math.ListN.{drop_of_length-le}
use Rattle.dura_value.specs.declared.messages.Message.{Message}
use Rattle.dura_value.specs.Ids.{Id}
use Rattle.dura_value.specs.Messages as said
use Rattle.dura_value.specs.Views.{body_of, message_of, messages_of}
use Rattle.dura_model.specs.Partition.{first_in, without_first}
use Rattle.part_rows.specs.Queues.{is_of_link}

-- The first message of the link is at this place.
pub record Found (ms : List Message) (from to : Id) (place : ℕ) : Type 0 where
  pub said : (m : Message) → first_in (messages_of ms) from to ≡ Some (body_of (get_or ms place m).body)
  pub gone : without_first (messages_of ms) from to ≡ messages_of (remove ms place)
  pub link : (m : Message) → is_of_link from to (get_or ms place m) ≡ true

found_here : (m : Message) (ms : List Message) (from to : Id) → is_of_link from to m ≡ true → Found (m ∷ ms) from to 0
found_here m ms from to is = record {
  said = λ d. ap (λ (c : Bool). cond c (Some (body_of m.body)) (first_in (messages_of ms) from to)) is;
  gone = ap (λ (c : Bool). cond c (messages_of ms) (message_of m ∷ without_first (messages_of ms) from to)) is;
  link = λ d. is;
}

found_later : (m : Message) (ms : List Message) (from to : Id) (place : ℕ) → is_of_link from to m ≡ false → Found ms from to place → Found (m ∷ ms) from to (suc place)
found_later m ms from to place is found = record {
  said = λ d. ap (λ (c : Bool). cond c (Some (body_of m.body)) (first_in (messages_of ms) from to)) is ∙ found.said d;
  gone = ap (λ (c : Bool). cond c (messages_of ms) (message_of m ∷ without_first (messages_of ms) from to)) is ∙ ap (λ (rest : List said.Message). message_of m ∷ rest) found.gone;
  link = found.link;
}

abbrev place_in : Id → Id → List Message → ℕ
place_in from to ms = position_or_len (is_of_link from to) ms

-- where the first of a list is
abbrev place_by : Bool → ℕ → ℕ
place_by b later = cond (not b) (1 + later) 0

one_more : (n : ℕ) → suc n ≡ 1 + n
one_more n = omega (arith)

found_by : (b : Bool) (m : Message) (ms : List Message) (from to : Id) → is_of_link from to m ≡ b → (place_in from to ms < length ms → Found ms from to (place_in from to ms))
    → place_by b (place_in from to ms) < suc (length ms) → Found (m ∷ ms) from to (place_by b (place_in from to ms))
found_by true m ms from to is more inside = found_here m ms from to is
found_by false m ms from to is more inside =
    subst (Found (m ∷ ms) from to) (one_more (place_in from to ms)) (found_later m ms from to (place_in from to ms) is (more (let less : 1 + place_in from to ms < suc (length ms) = inside in omega (arith, less))))

found : (ms : List Message) (from to : Id) → place_in from to ms < length ms → Found ms from to (place_in from to ms)
found [] from to inside = absurd (let none : 0 < 0 = inside in omega (arith, none))
found (m ∷ ms) from to inside = found_by (is_of_link from to m) m ms from to refl (found ms from to) inside

-- No message is of the link.
record Missing (ms : List Message) (from to : Id) : Type 0 where
  said : first_in (messages_of ms) from to ≡ None
  gone : without_first (messages_of ms) from to ≡ messages_of ms

missing_by : (b : Bool) (m : Message) (ms : List Message) (from to : Id) → is_of_link from to m ≡ b → (length ms ≤ place_in from to ms → Missing ms from to)
    → suc (length ms) ≤ place_by b (place_in from to ms) → Missing (m ∷ ms) from to
missing_by true m ms from to is more past = absurd (let none : suc (length ms) ≤ 0 = past in omega (arith, none))
missing_by false m ms from to is more past =
    let rest = more (let later : suc (length ms) ≤ 1 + place_in from to ms = past in omega (arith, later)) in
    record {
      said = ap (λ (c : Bool). cond c (Some (body_of m.body)) (first_in (messages_of ms) from to)) is ∙ rest.said;
      gone = ap (λ (c : Bool). cond c (messages_of ms) (message_of m ∷ without_first (messages_of ms) from to)) is ∙ ap (λ (others : List said.Message). message_of m ∷ others) rest.gone;
    }

missing : (ms : List Message) (from to : Id) → length ms ≤ place_in from to ms → Missing ms from to
missing [] from to past = record { said = refl; gone = refl }
missing (m ∷ ms) from to past = missing_by (is_of_link from to m) m ms from to refl (missing ms from to) past

there : (b : Bool) (n place : ℕ) → cond b (Some n) None ≡ Some place → (b ≡ true) × (n ≡ place)
there true n place is = (refl, cc is)
there false n place is = absurd (cc is)

not_there : (b : Bool) (n : ℕ) → cond b (Some n) None ≡ None → b ≡ false
not_there true n is = absurd (cc is)
not_there false n is = refl

inside_of : (n k : ℕ) → nat_lt n k ≡ true → n < k
inside_of n k is = ltb-true n k is

past_of : (n k : ℕ) → nat_lt n k ≡ false → k ≤ n
past_of n k is = ltb-false n k is

pub place_found : (ms : List Message) (from to : Id) (place : ℕ) → Some place ≡ position (is_of_link from to) ms → (place < length ms) × Found ms from to place
place_found ms from to place is =
    let both = there (nat_lt (place_in from to ms) (length ms)) (place_in from to ms) place (sym is) in
    let inside = inside_of (place_in from to ms) (length ms) both.0 in
    (subst (λ (n : ℕ). n < length ms) both.1 inside, subst (Found ms from to) both.1 (found ms from to inside))

pub place_inside : (ms : List Message) (from to : Id) (place : ℕ) → Some place ≡ position (is_of_link from to) ms → place < length ms
place_inside ms from to place is = (place_found ms from to place is).0

pub place_said : (ms : List Message) (from to : Id) (place : ℕ) (m : Message) → Some place ≡ position (is_of_link from to) ms → slice_get ms place ≡ Some m → first_in (messages_of ms) from to ≡ Some (body_of m.body)
place_said ms from to place m is at = (place_found ms from to place is).1.said m ∙ ap (λ (d : Message). Some (body_of d.body)) (get_or_from_slice_get ms place m m at)

pub place_gone : (ms : List Message) (from to : Id) (place : ℕ) → Some place ≡ position (is_of_link from to) ms → without_first (messages_of ms) from to ≡ messages_of (remove ms place)
place_gone ms from to place is = (place_found ms from to place is).1.gone

pub place_is_link : (ms : List Message) (from to : Id) (place : ℕ) (m : Message) → Some place ≡ position (is_of_link from to) ms → slice_get ms place ≡ Some m → is_of_link from to m ≡ true
place_is_link ms from to place m is at = ap (is_of_link from to) (sym (get_or_from_slice_get ms place m m at)) ∙ (place_found ms from to place is).1.link m

pub no_place_said : (ms : List Message) (from to : Id) → None ≡ position (is_of_link from to) ms → first_in (messages_of ms) from to ≡ None
no_place_said ms from to is = (missing ms from to (past_of (place_in from to ms) (length ms) (not_there (nat_lt (place_in from to ms) (length ms)) (place_in from to ms) (sym is)))).said

pub no_place_gone : (ms : List Message) (from to : Id) → None ≡ position (is_of_link from to) ms → without_first (messages_of ms) from to ≡ messages_of ms
no_place_gone ms from to is = (missing ms from to (past_of (place_in from to ms) (length ms) (not_there (nat_lt (place_in from to ms) (length ms)) (place_in from to ms) (sym is)))).gone

-- ---- one place after the other

module _ (p : Message → Bool) where
  -- where the first of what is left from a place on is
  abbrev pub place_from : List Message → ℕ → ℕ
  place_from ms place = place + position_or_len p (drop place ms)

  left : (ms : List Message) (place : ℕ) (m : Message) → slice_get ms place ≡ Some m → drop place ms ≡ m ∷ drop (place + 1) ms
  left ms place m is = drop_more ms place m (slice_get_within ms place m is) ∙ ap (λ (x : Message). x ∷ drop (place + 1) ms) (get_or_from_slice_get ms place m m is)

  one_on : (b : Bool) (place rest : ℕ) → b ≡ false → place + cond (not b) (1 + rest) 0 ≡ (place + 1) + rest
  one_on true place rest is = absurd (cc is)
  one_on false place rest is = omega (arith)

  -- the one at this place is passed over
  pub passed_over : (ms : List Message) (place : ℕ) (m : Message) → slice_get ms place ≡ Some m → p m ≡ false → place_from ms place ≡ place_from ms (place + 1)
  passed_over ms place m is closed =
      ap (λ (rest : List Message). place + position_or_len p rest) (left ms place m is) ∙ one_on (p m) place (position_or_len p (drop (place + 1) ms)) closed

  stays : (b : Bool) (place rest : ℕ) → b ≡ true → place + cond (not b) (1 + rest) 0 ≡ place
  stays true place rest is = omega (arith)
  stays false place rest is = absurd (cc is)

  lies : (n k : ℕ) → n < k → cond (nat_lt n k) (Some n) None ≡ Some n
  lies n k inside = ap (λ (b : Bool). cond b (Some n) None) (lt-ltb n k inside)

  -- the one at this place is the first
  pub here_first : (ms : List Message) (place : ℕ) (m : Message) → position_or_len p ms ≡ place_from ms place → slice_get ms place ≡ Some m → p m ≡ true → Some place ≡ position p ms
  here_first ms place m so_far is taken =
      let at = so_far ∙ ap (λ (rest : List Message). place + position_or_len p rest) (left ms place m is) ∙ stays (p m) place (position_or_len p (drop (place + 1) ms)) taken in
      sym (ap (λ (n : ℕ). cond (nat_lt n (length ms)) (Some n) None) at ∙ lies place (length ms) (slice_get_within ms place m is))

  -- there is none up to the end
  pub nowhere : (ms : List Message) (place : ℕ) → position_or_len p ms ≡ place_from ms place → length ms ≤ place → None ≡ position p ms
  nowhere ms place so_far past =
      let at : position_or_len p ms ≡ place + 0 = so_far ∙ ap (λ (rest : List Message). place + position_or_len p rest) (drop_of_length-le ms past) in
      let outside : length ms ≤ position_or_len p ms = omega (arith, at, past) in
      sym (ap (λ (b : Bool). cond b (Some (position_or_len p ms)) None) (le-ltb (position_or_len p ms) (length ms) outside))
