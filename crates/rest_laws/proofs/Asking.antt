-- Requests that are taken up aren't due: each was taken, or waits for one in front of it. And where none is due, they are taken up.
use Rattle.std.proofs.Common.{◌≡◌, ◌∙◌, ◌&&◌, ◌||◌, ◌==◌, ℕ, Bool, true, false, cond, List, [], ◌∷◌, ◌++◌, map, get_or, Option, Some, None, refl, sym, ap, subst}
use Rattle.std.specs.Prelude.{is_some, not, bytes_eq}
use Rattle.std.specs.List.{All, AllByRecursion, find, fold, list_any}
use Rattle.std.specs.Option.{option_or}
use Rattle.std.proofs.lemmas.Bool.{eqb-true, and_parts}
use Rattle.std.proofs.lemmas.List.{map-append}
use Rattle.std.proofs.lemmas.List.Elements.{recursion_from_All, filter-append}
use Rattle.std.proofs.lemmas.List.Folds.{find-append}
use Rattle.std.proofs.Math.Bool.{and-false}
use Rattle.client_port.specs.Clients.{clients_of, requests_of, with_client}
use Rattle.dura_model.specs.Legal.{Quiet, is_taken, is_answered, may_ask, is_due}
use Rattle.dura_model.specs.Steps.{number_in, is_asking}
use Rattle.dura_model.specs.World.{World}
use Rattle.dura_value.specs.Ids.{Id, client, id_eq}
use Rattle.dura_value.specs.Messages.{Message}
use Rattle.dura_value.proofs.Ids.{id_same, same_bytes, bytes_self}
use Rattle.flow_syntax.specs.Syntax.{Flows}
use Rattle.request_reader.specs.Line.{Request}
use Rattle.rest_laws.specs.Requests.{IsRequest, was_taken, has_answer, first_open, AnswersTaken, AreTakenUp}

-- ---- clients

any_has : (P : List ℕ → Type 0) (names : List (List ℕ)) (who : List ℕ) → AllByRecursion P names → list_any (λ name. bytes_eq name who) names ≡ true → P who
any_has P [] who all is = absurd (cc is)
any_has P (name ∷ names) who all is = by (any_has P names who all.1) (bytes_eq name who) refl is
  where
    by : (list_any (λ n. bytes_eq n who) names ≡ true → P who) → (here : Bool) → bytes_eq name who ≡ here → (here || list_any (λ n. bytes_eq n who) names) ≡ true → P who
    by more true same any = subst P (same_bytes name who same) all.0
    by more false other any = more any

all_front : (P : List ℕ → Type 0) (names : List (List ℕ)) (last : List ℕ) → AllByRecursion P (names ++ last ∷ []) → AllByRecursion P names × P last
all_front P [] last all = (tt, all.0)
all_front P (name ∷ names) last all = let more = all_front P names last all.1 in ((all.0, more.0), more.1)

one_client : (P : List ℕ → Type 0) (names : List (List ℕ)) (r : Request) → AllByRecursion P (with_client names r) → AllByRecursion P names × P r.client
one_client P names r all = by (list_any (λ name. bytes_eq name r.client) names) refl all
  where
    by : (there : Bool) → list_any (λ name. bytes_eq name r.client) names ≡ there → AllByRecursion P (cond there names (names ++ r.client ∷ [])) → AllByRecursion P names × P r.client
    by true any all = (all, any_has P names r.client all any)
    by false none all = all_front P names r.client all

each_client : (P : List ℕ → Type 0) (names : List (List ℕ)) (requests : List Request) → AllByRecursion P (fold with_client names requests) → AllByRecursion P names × AllByRecursion (λ r. P r.client) requests
each_client P names [] all = (all, tt)
each_client P names (r ∷ requests) all =
    let more = each_client P (with_client names r) requests all in
    let one = one_client P names r more.0 in
    (one.0, (one.1, more.1))

-- what holds of all clients holds of each request's
of_clients : (P : List ℕ → Type 0) (requests : List Request) → All P (clients_of requests) → AllByRecursion (λ r. P r.client) requests
of_clients P requests all = (each_client P [] requests (recursion_from_All P (clients_of requests) all)).1

-- ---- lists

front_all : {X : Type 0} (P : X → Type 0) (front : List X) (x : X) (rest : List X) → AllByRecursion P (front ++ x ∷ rest) → AllByRecursion P front × P x
front_all P [] x rest all = (tt, all.0)
front_all P (y ∷ front) x rest all = let more = front_all P front x rest all.1 in ((all.0, more.0), more.1)

-- what a list is made of around one of what it is mapped to
record Split {X Y : Type 0} (f : X → Y) (l : List X) (before : List Y) (y : Y) : Type 0 where
  front : List X
  mid : X
  rest : List X
  split : l ≡ front ++ mid ∷ rest
  is_front : map f front ≡ before
  is_mid : f mid ≡ y

map_split : {X Y : Type 0} (f : X → Y) (l : List X) (before : List Y) (y : Y) (behind : List Y) → map f l ≡ before ++ y ∷ behind → Split f l before y
map_split f [] [] y behind is = absurd (cc is)
map_split f [] (z ∷ before) y behind is = absurd (cc is)
map_split f (x ∷ l) [] y behind is = record { front = []; mid = x; rest = l; split = refl; is_front = refl; is_mid = cc is }
map_split {X} f (x ∷ l) (z ∷ before) y behind is =
    let head : f x ≡ z = cc is in
    let tail : map f l ≡ before ++ y ∷ behind = cc is in
    let more = map_split f l before y behind tail in
    record { front = x ∷ more.front; mid = more.mid; rest = more.rest; split = ap (λ (t : List X). x ∷ t) {y = more.front ++ more.mid ∷ more.rest} more.split; is_front = let front_is = more.is_front in cc; is_mid = more.is_mid }

-- ---- whether a client may ask

waits_here : (from taken answered more : Bool) → from ≡ true → answered ≡ false → ((not from || taken && answered) && more) ≡ false
waits_here false taken answered more is none = absurd (cc is)
waits_here true false answered more is none = refl
waits_here true true false more is none = refl
waits_here true true true more is none = absurd (cc none)

goes_on : (from taken answered more : Bool) → taken ≡ true → answered ≡ true → more ≡ true → ((not from || taken && answered) && more) ≡ true
goes_on false taken answered more was has on = on
goes_on true true true more was has on = on
goes_on true true false more was has on = absurd (cc has)
goes_on true false answered more was has on = absurd (cc was)

goes_past : (from taken answered more : Bool) → from ≡ false → more ≡ true → ((not from || taken && answered) && more) ≡ true
goes_past false taken answered more other on = on
goes_past true taken answered more other on = absurd (cc other)

was_due : (taken may : Bool) → (not taken && may) ≡ false → may ≡ true → taken ≡ true
was_due true may is lets = refl
was_due false may is lets = let wrong : true ≡ false = sym lets ∙ is in absurd (cc wrong)

-- a client's request says whose it is and its number
says_whose : (r : Request) → IsRequest r → (r.message.from ≡ client r.client) × (number_in r.message.body ≡ r.number)
says_whose r asks =
    let m = r.message in
    let behind = (and_parts (id_eq m.from (client r.client)) _ asks).1 in (
      id_same m.from (client r.client) ((and_parts (id_eq m.from (client r.client)) _ asks).0),
      eqb-true (number_in m.body) r.number ((and_parts (number_in m.body == r.number) _ ((and_parts (is_asking m.body m.to) _ behind).1)).0),
    )

abbrev sent_by : List Request → List Message
sent_by requests = map (λ (r : Request). r.message) requests

module _ (w : World) where
  abbrev is_open : List ℕ → Request → Bool
  is_open name r = not (has_answer w name r)

  its_taken : (r : Request) → IsRequest r → is_taken w r.message ≡ was_taken w r.client r
  its_taken r asks =
      let whose = says_whose r asks in
      ap (λ (i : Id). is_some (w.taken i (number_in r.message.body))) whose.0 ∙ ap (λ (n : ℕ). is_some (w.taken (client r.client) n)) whose.1

  its_answered : (r : Request) → IsRequest r → is_answered w r.message ≡ has_answer w r.client r
  its_answered r asks =
      let whose = says_whose r asks in
      ap (λ (i : Id). is_some (w.answers i (number_in r.message.body))) whose.0 ∙ ap (λ (n : ℕ). is_some (w.answers (client r.client) n)) whose.1

  its_client : (name : List ℕ) (r : Request) → IsRequest r → id_eq r.message.from (client name) ≡ bytes_eq r.client name
  its_client name r asks = ap (λ (i : Id). id_eq i (client name)) (says_whose r asks).0

  of_client : (f : List ℕ → Request → Bool) (name : List ℕ) (r : Request) → bytes_eq r.client name ≡ true → f r.client r ≡ f name r
  of_client f name r mine = ap (λ (n : List ℕ). f n r) (same_bytes r.client name mine)

  -- a client waits for the answer to a request
  waits : (name : List ℕ) (front : List Request) → AllByRecursion IsRequest front → (x : Request) → first_open w front name ≡ Some x → may_ask w (client name) (sent_by front) ≡ false
  waits name [] all x found = absurd (cc found)
  waits name (r ∷ front) all x found = by (waits name front all.1 x) (bytes_eq r.client name) refl (has_answer w name r) refl found
    where
      behind : may_ask w (client name) (sent_by front) ≡ false → may_ask w (client name) (sent_by (r ∷ front)) ≡ false
      behind none = ap (λ (b : Bool). (not (id_eq r.message.from (client name)) || is_taken w r.message && is_answered w r.message) && b) none
          ∙ and-false (not (id_eq r.message.from (client name)) || is_taken w r.message && is_answered w r.message)

      by : (first_open w front name ≡ Some x → may_ask w (client name) (sent_by front) ≡ false) → (mine : Bool) → bytes_eq r.client name ≡ mine → (answered : Bool) → has_answer w name r ≡ answered
          → find (is_open name) (cond mine (r ∷ requests_of name front) (requests_of name front)) ≡ Some x → may_ask w (client name) (sent_by (r ∷ front)) ≡ false
      by on false other answered is at = behind (on at)
      by on true mine true is at = behind (on (sym (ap (λ (b : Bool). cond (not b) (Some r) (first_open w front name)) is) ∙ at))
      by on true mine false is at =
          waits_here (id_eq r.message.from (client name)) (is_taken w r.message) (is_answered w r.message) (may_ask w (client name) (sent_by front))
          (its_client name r all.0 ∙ mine) (its_answered r all.0 ∙ of_client (has_answer w) name r mine ∙ is)

  -- a client whose requests have their answers asks for the next
  asks_on : AnswersTaken w → (name : List ℕ) (front : List Request) → AllByRecursion IsRequest front → first_open w front name ≡ None → may_ask w (client name) (sent_by front) ≡ true
  asks_on rightly name [] all none = refl
  asks_on rightly name (r ∷ front) all none = by (asks_on rightly name front all.1) (bytes_eq r.client name) refl (has_answer w name r) refl none
    where
      by : (first_open w front name ≡ None → may_ask w (client name) (sent_by front) ≡ true) → (mine : Bool) → bytes_eq r.client name ≡ mine → (answered : Bool) → has_answer w name r ≡ answered
          → find (is_open name) (cond mine (r ∷ requests_of name front) (requests_of name front)) ≡ None → may_ask w (client name) (sent_by (r ∷ front)) ≡ true
      by on false other answered is at =
          goes_past (id_eq r.message.from (client name)) (is_taken w r.message) (is_answered w r.message) (may_ask w (client name) (sent_by front)) (its_client name r all.0 ∙ other) (on at)
      by on true mine true is at =
          goes_on (id_eq r.message.from (client name)) (is_taken w r.message) (is_answered w r.message) (may_ask w (client name) (sent_by front))
          (its_taken r all.0 ∙ of_client (was_taken w) name r mine ∙ rightly (client name) r.number is)
          (its_answered r all.0 ∙ of_client (has_answer w) name r mine ∙ is)
          (on (sym (ap (λ (b : Bool). cond (not b) (Some r) (first_open w front name)) is) ∙ at))
      by on true mine false is at = let wrong : Some r ≡ None = sym (ap (λ (b : Bool). cond (not b) (Some r) (first_open w front name)) is) ∙ at in absurd (cc wrong)

  -- where a request without an answer stands, and none of its client's in front, it is the first
  is_first : (front : List Request) (r : Request) (rest : List Request) → first_open w front r.client ≡ None → has_answer w r.client r ≡ false → first_open w (front ++ r ∷ rest) r.client ≡ Some r
  is_first front r rest none unanswered =
      let name = r.client in
      ap (find (is_open name)) (filter-append (λ (x : Request). bytes_eq x.client name) front (r ∷ rest))
      ∙ find-append (is_open name) (requests_of name front) (requests_of name (r ∷ rest))
      ∙ ap (λ (o : Option Request). option_or o (first_open w (r ∷ rest) name)) none
      ∙ ap (λ (b : Bool). find (is_open name) (cond b (r ∷ requests_of name rest) (requests_of name rest))) (bytes_self name)
      ∙ ap (λ (b : Bool). cond (not b) (Some r) (first_open w rest name)) unanswered

  -- where a client's first request without an answer stands
  record Stands (requests : List Request) (name : List ℕ) (r : Request) : Type 0 where
    front : List Request
    rest : List Request
    split : requests ≡ front ++ r ∷ rest
    none : first_open w front name ≡ None
    own : bytes_eq r.client name ≡ true

  stands : (name : List ℕ) (requests : List Request) (r : Request) → first_open w requests name ≡ Some r → Stands requests name r
  stands name [] r found = absurd (cc found)
  stands name (x ∷ requests) r found = by (stands name requests r) (bytes_eq x.client name) refl (has_answer w name x) refl found
    where
      by : (first_open w requests name ≡ Some r → Stands requests name r) → (mine : Bool) → bytes_eq x.client name ≡ mine → (answered : Bool) → has_answer w name x ≡ answered
          → find (is_open name) (cond mine (x ∷ requests_of name requests) (requests_of name requests)) ≡ Some r → Stands (x ∷ requests) name r
      by on false other answered is at =
          let more = on at in
          record {
            front = x ∷ more.front;
            rest = more.rest;
            split = ap (λ (l : List Request). x ∷ l) more.split;
            none = ap (λ (b : Bool). find (is_open name) (cond b (x ∷ requests_of name more.front) (requests_of name more.front))) other ∙ more.none;
            own = more.own;
          }
      by on true mine true is at =
          let more = on (sym (ap (λ (b : Bool). cond (not b) (Some x) (first_open w requests name)) is) ∙ at) in
          record {
            front = x ∷ more.front;
            rest = more.rest;
            split = ap (λ (l : List Request). x ∷ l) more.split;
            none = ap (λ (b : Bool). find (is_open name) (cond b (x ∷ requests_of name more.front) (requests_of name more.front))) mine
                ∙ ap (λ (b : Bool). cond (not b) (Some x) (first_open w more.front name)) is ∙ more.none;
            own = more.own;
          }
      by on true mine false is at =
          let found_is : Some x ≡ Some r = sym (ap (λ (b : Bool). cond (not b) (Some x) (first_open w requests name)) is) ∙ at in
          let same : x ≡ r = cc found_is in
          record { front = []; rest = requests; split = ap (λ (y : Request). y ∷ requests) same; none = refl; own = ap (λ (y : Request). bytes_eq y.client name) (sym same) ∙ mine }

  module _ (requests : List Request) (asked : All IsRequest requests) (rightly : AnswersTaken w) where
    all : AllByRecursion IsRequest requests
    all = recursion_from_All IsRequest requests asked

    undue_at : AreTakenUp w requests → (front : List Request) (r : Request) (rest : List Request) → requests ≡ front ++ r ∷ rest → is_due w (sent_by front) r.message ≡ false
    undue_at taken_up front r rest split = by (has_answer w r.client r) refl (first_open w front r.client) refl
      where
        its : AllByRecursion IsRequest front × IsRequest r
        its = front_all IsRequest front r rest (subst (AllByRecursion IsRequest) split all)

        was_next : first_open w requests r.client ≡ Some r → was_taken w r.client r ≡ true
        was_next =
            let P : List ℕ → Type 0 = λ name. (x : Request) → first_open w requests name ≡ Some x → was_taken w name x ≡ true in
            (front_all (λ (x : Request). P x.client) front r rest (subst (AllByRecursion (λ (x : Request). P x.client)) split (of_clients P requests taken_up))).1 r

        no_more : was_taken w r.client r ≡ true → is_due w (sent_by front) r.message ≡ false
        no_more was = ap (λ (b : Bool). not b && may_ask w r.message.from (sent_by front)) (its_taken r its.1 ∙ was)

        by : (answered : Bool) → has_answer w r.client r ≡ answered → (found : Option Request) → first_open w front r.client ≡ found → is_due w (sent_by front) r.message ≡ false
        by true is found there = no_more (rightly (client r.client) r.number is)
        by false is None there = no_more (was_next (ap (λ (l : List Request). first_open w l r.client) split ∙ is_first front r rest there is))
        by false is (Some x) there =
            ap (λ (b : Bool). not (is_taken w r.message) && b) (ap (λ (i : Id). may_ask w i (sent_by front)) (says_whose r its.1).0 ∙ waits r.client front its.0 x there)
            ∙ and-false (not (is_taken w r.message))

    pub undue : AreTakenUp w requests → (before : List Message) (request : Message) (behind : List Message) → map (λ (r : Request). r.message) requests ≡ before ++ request ∷ behind → is_due w before request ≡ false
    undue taken_up before request behind is =
        let s = map_split (λ (r : Request). r.message) requests before request behind is in
        subst (λ (l : List Message). is_due w l request ≡ false) s.is_front (subst (λ (m : Message). is_due w (sent_by s.front) m ≡ false) s.is_mid (undue_at taken_up s.front s.mid s.rest s.split))

    pub served : (flows : Flows) → AreTakenUp w requests → Quiet flows [] w → Quiet flows (map (λ (r : Request). r.message) requests) w
    served flows taken_up quiet = record { delivered = quiet.delivered; finished = quiet.finished; fired = quiet.fired; asked = undue taken_up }

    pub taken_up : (flows : Flows) → Quiet flows (map (λ (r : Request). r.message) requests) w → AreTakenUp w requests
    taken_up flows quiet k d inside = each (get_or (clients_of requests) k d)
      where
        each : (name : List ℕ) (r : Request) → first_open w requests name ≡ Some r → was_taken w name r ≡ true
        each name r found =
            let at = stands name requests r found in
            let its = front_all IsRequest at.front r at.rest (subst (AllByRecursion IsRequest) at.split all) in
            let behind = ap sent_by at.split ∙ map-append (λ (x : Request). x.message) at.front (r ∷ at.rest) in
            let whose : r.message.from ≡ client name = (says_whose r its.1).0 ∙ ap client (same_bytes r.client name at.own) in
            let may : may_ask w r.message.from (sent_by at.front) ≡ true = ap (λ (i : Id). may_ask w i (sent_by at.front)) whose ∙ asks_on rightly name at.front its.0 at.none in
            sym (its_taken r its.1 ∙ of_client (was_taken w) name r at.own) ∙ was_due (is_taken w r.message) (may_ask w r.message.from (sent_by at.front)) (quiet.asked (sent_by at.front) r.message (sent_by at.rest) behind) may
