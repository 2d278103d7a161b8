-- The message that has waited longest of those that their receivers take.
use Rattle.std.proofs.Common.{◌≡◌, ◌∙◌, ◌+◌, ◌<◌, ◌≤◌, ◌&&◌, ℕ, List, [], ◌∷◌, drop, length, get_or, Bool, true, false, Option, Some, None, option_map, refl, ap, sym, subst, cond, arith}
use Rattle.std.specs.List.{find, slice_get}
use Rattle.std.proofs.lemmas.Option.{slice_get_within, get_or_from_slice_get, slice_get-get_or}
use Rattle.std.proofs.lemmas.List.{drop_more}
use Rattle.std.proofs.Math.ListN.{drop_of_length-le}
use Rattle.dura_value.proofs.Ids.{id_same, id_self}
use Rattle.dura_value.specs.declared.messages.Message.{Message}
use Rattle.dura_value.specs.Ids.{Id, id_eq}
use Rattle.dura_value.specs.Messages as said
use Rattle.dura_value.specs.Views.{id_of, body_of, message_of, messages_of}
use Rattle.flow_syntax.specs.Entity.{Entity}
use Rattle.dura_model.specs.Partition.{first_in}
use Rattle.part_rows.specs.Open.{lets_in}
use Rattle.std.proofs.lemmas.Bool.{and_parts}

module _ (entities : Id → Option Entity) where
  abbrev pub is_taken : Message → Bool
  is_taken m = lets_in entities (id_of m.from) (id_of m.to)

  abbrev pub SomeFirst : List Message → Message → Type 0
  SomeFirst ms m = (body : said.Body) × (first_in (messages_of ms) (id_of m.from) (id_of m.to) ≡ Some body)

  first_by : (b : Bool) (x m : Message) (ms : List Message) → SomeFirst ms m → (body : said.Body) × (cond b (Some (body_of x.body)) (first_in (messages_of ms) (id_of m.from) (id_of m.to)) ≡ Some body)
  first_by true x m ms later = (body_of x.body, refl)
  first_by false x m ms later = later

  first_self : (m : Message) (ms : List Message) → first_in (messages_of (m ∷ ms)) (id_of m.from) (id_of m.to) ≡ Some (body_of m.body)
  first_self m ms =
      ap (λ (c : Bool). cond (c && id_eq (id_of m.to) (id_of m.to)) (Some (body_of m.body)) (first_in (messages_of ms) (id_of m.from) (id_of m.to))) (id_self (id_of m.from))
      ∙ ap (λ (c : Bool). cond c (Some (body_of m.body)) (first_in (messages_of ms) (id_of m.from) (id_of m.to))) (id_self (id_of m.to))

  -- the one found, of a list with this one in front
  found_by : (b : Bool) (x m : Message) (ms : List Message) → is_taken x ≡ b → cond b (Some x) (find is_taken ms) ≡ Some m → (find is_taken ms ≡ Some m → SomeFirst ms m × (is_taken m ≡ true)) → SomeFirst (x ∷ ms) m × (is_taken m ≡ true)
  found_by true x m ms is here later = let same : x ≡ m = cc here in subst (λ (y : Message). SomeFirst (x ∷ ms) y × (is_taken y ≡ true)) same ((body_of x.body, first_self x ms), is)
  found_by false x m ms is there later = let rest = later there in (first_by (id_eq (id_of m.from) (id_of x.from) && id_eq (id_of m.to) (id_of x.to)) x m ms rest.0, rest.1)

  found : (ms : List Message) (m : Message) → find is_taken ms ≡ Some m → SomeFirst ms m × (is_taken m ≡ true)
  found [] m is = absurd (cc is)
  found (x ∷ ms) m is = found_by (is_taken x) x m ms refl is (found ms m)

  abbrev pub NoneOf : List Message → Type 0
  NoneOf ms = (from to : Id) (body : said.Body) → first_in (messages_of ms) from to ≡ Some body → lets_in entities from to ≡ false

  link_by : (b : Bool) (x : Message) (ms : List Message) (from to : Id) (body : said.Body) → id_eq from (id_of x.from) && id_eq to (id_of x.to) ≡ b → is_taken x ≡ false → NoneOf ms
      → cond b (Some (body_of x.body)) (first_in (messages_of ms) from to) ≡ Some body → lets_in entities from to ≡ false
  link_by true x ms from to body link closed later is =
      let both = and_parts (id_eq from (id_of x.from)) (id_eq to (id_of x.to)) link in
      ap (λ (f : Id). lets_in entities f to) (id_same from (id_of x.from) both.0) ∙ ap (lets_in entities (id_of x.from)) (id_same to (id_of x.to) both.1) ∙ closed
  link_by false x ms from to body link closed later is = later from to body is

  none_by : (b : Bool) (x : Message) (ms : List Message) → is_taken x ≡ b → cond b (Some x) (find is_taken ms) ≡ None → (find is_taken ms ≡ None → NoneOf ms) → NoneOf (x ∷ ms)
  none_by true x ms is none later = absurd (cc none)
  none_by false x ms is none later = λ from to body first. link_by (id_eq from (id_of x.from) && id_eq to (id_of x.to)) x ms from to body refl is (later none) first

  none_found : (ms : List Message) → find is_taken ms ≡ None → NoneOf ms
  none_found [] is = λ from to body first. absurd (cc first)
  none_found (x ∷ ms) is = none_by (is_taken x) x ms refl is (none_found ms)

  -- ---- from a place on

  left : (ms : List Message) (place : ℕ) (m : Message) → slice_get ms place ≡ Some m → drop place ms ≡ m ∷ drop (place + 1) ms
  left ms place m is = drop_more ms place m (slice_get_within ms place m is) ∙ ap (λ (x : Message). x ∷ drop (place + 1) ms) (get_or_from_slice_get ms place m m is)

  -- the one at this place is passed over
  pub passed_over : (ms : List Message) (place : ℕ) (m : Message) → slice_get ms place ≡ Some m → is_taken m ≡ false → find is_taken (drop place ms) ≡ find is_taken (drop (place + 1) ms)
  passed_over ms place m is closed = ap (find is_taken) (left ms place m is) ∙ ap (λ (b : Bool). cond b (Some m) (find is_taken (drop (place + 1) ms))) closed

  -- the one at this place is the first
  pub found_here : (ms : List Message) (place : ℕ) (m : Message) → find is_taken ms ≡ find is_taken (drop place ms) → slice_get ms place ≡ Some m → is_taken m ≡ true → SomeFirst ms m
  found_here ms place m so_far is taken =
      (found ms m (so_far ∙ ap (find is_taken) (left ms place m is) ∙ ap (λ (b : Bool). cond b (Some m) (find is_taken (drop (place + 1) ms))) taken)).0

  -- there is none up to the end
  pub found_nowhere : (ms : List Message) (place : ℕ) → find is_taken ms ≡ find is_taken (drop place ms) → length ms ≤ place → NoneOf ms
  found_nowhere ms place so_far past = none_found ms (so_far ∙ ap (find is_taken) (drop_of_length-le ms past))

  -- what is found is found among what the messages say
  seen_by : (b : Bool) (x : Message) (ms : List Message) → find (λ m. lets_in entities m.from m.to) (messages_of ms) ≡ option_map message_of (find is_taken ms)
      → cond b (Some (message_of x)) (find (λ m. lets_in entities m.from m.to) (messages_of ms)) ≡ option_map message_of (cond b (Some x) (find is_taken ms))
  seen_by true x ms later = refl
  seen_by false x ms later = later

  seen : (ms : List Message) → find (λ m. lets_in entities m.from m.to) (messages_of ms) ≡ option_map message_of (find is_taken ms)
  seen [] = refl
  seen (x ∷ ms) = seen_by (is_taken x) x ms (seen ms)

  -- the one at this place has waited longest
  pub oldest_here : (ms : List Message) (place : ℕ) (m : Message) → find is_taken ms ≡ find is_taken (drop place ms) → slice_get ms place ≡ Some m → is_taken m ≡ true
      → Some (message_of m) ≡ find (λ x. lets_in entities x.from x.to) (messages_of ms)
  oldest_here ms place m so_far is taken =
      let here = so_far ∙ ap (find is_taken) (left ms place m is) ∙ ap (λ (b : Bool). cond b (Some m) (find is_taken (drop (place + 1) ms))) taken in
      sym (seen ms ∙ ap (option_map message_of) here)

  -- none has waited
  pub oldest_nowhere : (ms : List Message) (place : ℕ) → find is_taken ms ≡ find is_taken (drop place ms) → length ms ≤ place → None ≡ find (λ x. lets_in entities x.from x.to) (messages_of ms)
  oldest_nowhere ms place so_far past = sym (seen ms ∙ ap (option_map message_of) (so_far ∙ ap (find is_taken) (drop_of_length-le ms past)))

  -- a place inside is one of a message
  pub is_there : {X : Type 0} (ms : List Message) (place : ℕ) → place < length ms → slice_get ms place ≡ None → X
  is_there ms place inside is = by ms inside is
    where
      by : {X : Type 0} (xs : List Message) → place < length xs → slice_get xs place ≡ None → X
      by [] inside is = absurd (let none : place < 0 = inside in omega (arith, none))
      by (x ∷ xs) inside is = let wrong : None ≡ Some (get_or (x ∷ xs) place x) = sym is ∙ slice_get-get_or (x ∷ xs) place x inside in absurd (cc wrong)
