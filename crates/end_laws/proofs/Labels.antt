-- A label that is settled was possible before: where one comes the world before it isn't quiet.
use Rattle.std.proofs.Common.{◌≡◌, ◌∙◌, ◌<◌, ◌⊎◌, ◌==◌, inl, inr, ℕ, zero, suc, Bool, true, false, cond, List, [], ◌∷◌, ◌++◌, map, length, slice_get, Option, Some, None, refl, sym, ap, subst, arith, append_assoc, append-nil, eqb-true}
use Rattle.std.specs.Prelude.{is_some, not, bytes_eq}
use Rattle.std.specs.List.{All, AllByRecursion, filter}
use Rattle.std.proofs.lemmas.Bool.{and_parts}
use Rattle.std.proofs.lemmas.List.Elements.{All-head, All-tail, recursion_from_All}
use Rattle.client_port.specs.Clients.{requests_of}
use Rattle.dura_model.proofs.Basics.{passes}
use Rattle.dura_model.specs.Legal.{Legal, Quiet, after_from}
use Rattle.dura_model.specs.Entries.{labels_of, labels_in}
use Rattle.dura_model.specs.Partition.{fresh, shown}
use Rattle.dura_model.specs.Steps.{Label, take, deliver, finish, fire, number_in, is_asking, is_client, is_request, taken, finished, timed, step}
use Rattle.dura_model.specs.World.{World, Orchestration, empty}
use Rattle.dura_value.proofs.Basics.{some_same, both_some}
use Rattle.dura_value.proofs.Ids.{id_same, same_bytes}
use Rattle.dura_value.specs.Ids.{Id, client, id_eq}
use Rattle.dura_value.specs.Items.{Item, took, got, ran, ended, fired, trim, Entry}
use Rattle.dura_value.specs.Messages.{Message}
use Rattle.dura_value.specs.declared.outcome.Outcome.{Outcome}
use Rattle.end_laws.proofs.Lists.{found_at, of_clients}
use Rattle.end_laws.proofs.Told.{stays, told_answered}
use Rattle.end_laws.proofs.Worlds.{world_at, world_after, accepted_front, numbered_by}
use Rattle.end_laws.specs.Rested.{AreAccepted}
use Rattle.end_laws.specs.Served.{IsWorldAfter}
use Rattle.flow_syntax.specs.Syntax.{Flows}
use Rattle.hub_store.specs.Moments.{SaidSoFar}
use Rattle.hub_store.specs.Moments.SaidSoFar.{silent, settles, says}
use Rattle.hub_store.specs.Trail.{Settled, Said, settling}
use Rattle.many_logs.proofs.Frames.{put_apart}
use Rattle.many_logs.proofs.Leads.{after_both}
use Rattle.many_logs.specs.Labels.{labels_of_commits, AreNumbered}
use Rattle.many_logs.specs.Placing.{Commit, states_after}
use Rattle.many_rules.proofs.Trails.{labels_split}
use Rattle.many_rules.specs.Appended.{puts_both}
use Rattle.many_rules.specs.Rules.{Rules, Answers, Follows, IsOurs, rules_at, commits_of, pairs_of}
use Rattle.request_reader.specs.Line.{Request}
use Rattle.rest_laws.proofs.Answered.{answers_taken}
use Rattle.rest_laws.proofs.Asking.{taken_up}
use Rattle.rest_laws.specs.Requests.{IsRequest, was_taken, has_answer, first_open, AnswersTaken}
use Rattle.run_rules.specs.Rules.{Told, IsAsked, IsDue, count_told}
use Rattle.trail_states.specs.HaveMade.{HaveMade}

-- ---- lists

-- where two lists are put together as two others are, one of the first two goes on into the other
two_ways : {X : Type 0} (a b c d : List X) → a ++ b ≡ c ++ d → ((m : List X) × (a ≡ c ++ m) × (d ≡ m ++ b)) ⊎ ((m : List X) × (c ≡ a ++ m) × (b ≡ m ++ d))
two_ways [] b c d is = inr (c, refl, is)
two_ways (x ∷ a) b [] d is = inl (x ∷ a, refl, sym is)
two_ways {X} (x ∷ a) b (y ∷ c) d is =
    let head : x ≡ y = cc is in
    let tail : a ++ b ≡ c ++ d = cc is in
    elim (two_ways a b c d tail) [
      | inl way ↦ inl (way.0, (λ i. head i ∷ way.1 i), way.2)
      | inr way ↦ inr (way.0, (λ i. sym head i ∷ way.1 i), way.2)
    ]

-- the entries of a frame from one of them on
settled_behind : (P : Entry → Type 0) (partition at : ℕ) (going : List Entry) (before more : List Settled) → settling partition at going ≡ before ++ more → All P going
    → (rest : List Entry) × (more ≡ settling partition at rest) × All P rest
settled_behind P partition at going [] more is all = (going, sym is, all)
settled_behind P partition at [] (one ∷ before) more is all = absurd (cc is)
settled_behind P partition at (entry ∷ going) (one ∷ before) more is all =
    let tail : settling partition at going ≡ before ++ more = cc is in
    settled_behind P partition at going before more tail (All-tail P entry going all)

labels_settling : (partition at : ℕ) (going : List Entry) → labels_of_commits (commits_of (settling partition at going)) ≡ labels_in going
labels_settling partition at [] = refl
labels_settling partition at (entry ∷ going) = ap (λ (l : List Label). labels_of entry.items ++ l) (labels_settling partition at going)

-- what passes a test stands in the list
filter_from : {X : Type 0} (P : X → Type 0) (test : X → Bool) (l : List X) (place : ℕ) (x : X) → slice_get (filter test l) place ≡ Some x → AllByRecursion P l → P x × (test x ≡ true)
filter_from P test [] place x at all = absurd (cc at)
filter_from {X} P test (y ∷ ys) place x at all = by (λ k there. filter_from P test ys k x there all.1) (test y) refl place at
  where
    by : ((k : ℕ) → slice_get (filter test ys) k ≡ Some x → P x × (test x ≡ true)) → (b : Bool) → test y ≡ b → (k : ℕ) → slice_get (cond b (y ∷ filter test ys) (filter test ys)) k ≡ Some x → P x × (test x ≡ true)
    by further false is k there = further k there
    by further true is zero there = let same : y ≡ x = cc there in (subst P same all.0, subst (λ (z : X). test z ≡ true) same is)
    by further true is (suc k) there = further k there

-- ---- what a label takes

module _ (rules : Rules) (latest : ℕ) (serves : rules.serves ≡ true) where
  -- a request that a label takes was due once these were answered
  abbrev pub TakesDue : Told → Label → Type 0
  TakesDue told (take who number message) = IsDue (rules_at rules 0) told message
  TakesDue told (deliver from to stamp) = Unit {0}
  TakesDue told (finish id task outcome) = Unit {0}
  TakesDue told (fire id task stamp) = Unit {0}

  due_at : (partition : ℕ) (told : Told) (message : Message) → IsDue (rules_at rules partition) told message → IsDue (rules_at rules 0) told message
  due_at partition told message due = record { name = due.name; place = due.place; request = due.request; asked = due.asked; sends = due.sends; answered = due.answered }

  -- of the items of one entry
  items_due : (partition : ℕ) (told : Told) (items : List Item) → All (IsAsked (rules_at rules partition) told) items → (rest : List Label) (label : Label) (more : List Label) → labels_of items ++ rest ≡ label ∷ more
      → (rest ≡ label ∷ more) ⊎ TakesDue told label
  items_due partition told [] all rest label more is = inl is
  items_due partition told (took message ∷ items) all rest label more is =
      let same : take message.from (number_in message.body) message ≡ label = cc is in
      inr (subst (TakesDue told) same (due_at partition told message (All-head (IsAsked (rules_at rules partition) told) (took message) items all)))
  items_due partition told (got source number message ∷ items) all rest label more is = items_due partition told items (All-tail (IsAsked (rules_at rules partition) told) (got source number message) items all) rest label more is
  items_due partition told (ran from to stamp ∷ items) all rest label more is = let same : deliver from to stamp ≡ label = cc is in inr (subst (TakesDue told) same tt)
  items_due partition told (ended id task outcome ∷ items) all rest label more is = let same : finish id task outcome ≡ label = cc is in inr (subst (TakesDue told) same tt)
  items_due partition told (fired id task stamp ∷ items) all rest label more is = let same : fire id task stamp ≡ label = cc is in inr (subst (TakesDue told) same tt)
  items_due partition told (trim reader number ∷ items) all rest label more is = items_due partition told items (All-tail (IsAsked (rules_at rules partition) told) (trim reader number) items all) rest label more is

  -- of entries
  entries_due : (partition : ℕ) (told : Told) (going : List Entry) → All (IsOurs rules latest told partition) going → (label : Label) (more : List Label) → labels_in going ≡ label ∷ more → TakesDue told label
  entries_due partition told [] all label more is = absurd (cc is)
  entries_due partition told (entry ∷ going) all label more is =
      elim (items_due partition told entry.items ((All-head (IsOurs rules latest told partition) entry going all).asked serves) (labels_in going) label more is) [
        | inl rest ↦ entries_due partition told going (All-tail (IsOurs rules latest told partition) entry going all) label more rest
        | inr due ↦ due
      ]

  -- ---- the first label behind what was settled

  -- The frame that has it came once this was settled and said: no label comes between this and what was settled before, or that
  -- goes on from this.
  record FirstLabel (whole before : List Settled) (label : Label) : Type 0 where
    trail : List Settled
    after : List Settled
    goes : whole ≡ trail ++ after
    told : List Said
    lines : List ℕ
    said : SaidSoFar (Follows rules latest) (Answers rules) trail told lines
    stands : ((more : List Settled) × (trail ≡ before ++ more) × (labels_of_commits (commits_of more) ≡ [])) ⊎ ((behind : List Settled) × (before ≡ trail ++ behind))
    due : TakesDue (pairs_of told) label

  first_label : {trail : List Settled} {told : List Said} {lines : List ℕ} → SaidSoFar (Follows rules latest) (Answers rules) trail told lines → (before more : List Settled) → trail ≡ before ++ more
      → (label : Label) (rest : List Label) → labels_of_commits (commits_of more) ≡ label ∷ rest → FirstLabel trail before label
  first_label silent [] [] is label rest labels = absurd (cc labels)
  first_label silent [] (one ∷ more) is label rest labels = absurd (cc is)
  first_label silent (one ∷ before) more is label rest labels = absurd (cc is)
  first_label (says so_far one line may) before more is label rest labels = first_label so_far before more is label rest labels
  first_label (settles {trail} {told} {lines} so_far partition at going follows) before more is label rest labels =
      elim (two_ways trail (settling partition at going) before more is) [
        | inl way ↦ inside (first_label so_far before) way.0 way.1 way.2
        | inr way ↦
            let behind = settled_behind (IsOurs rules latest (pairs_of told) partition) partition at going way.0 more way.2 follows.ours in
            record {
              trail = trail;
              after = frame;
              goes = refl;
              told = told;
              lines = lines;
              said = so_far;
              stands = inr (way.0, way.1);
              due = entries_due partition (pairs_of told) behind.0 behind.2 label rest
                  (sym (ap (λ (l : List Settled). labels_of_commits (commits_of l)) behind.1 ∙ labels_settling partition at behind.0) ∙ labels);
            }
      ]
    where
      frame : List Settled
      frame = settling partition at going

      -- a label that came before came so still
      sooner : FirstLabel trail before label → FirstLabel (trail ++ frame) before label
      sooner first = record {
        trail = first.trail;
        after = first.after ++ frame;
        goes = ap (λ (l : List Settled). l ++ frame) first.goes ∙ append_assoc first.trail first.after frame;
        told = first.told;
        lines = first.lines;
        said = first.said;
        stands = first.stands;
        due = first.due;
      }

      inside : ((m : List Settled) → trail ≡ before ++ m → (label : Label) (rest : List Label) → labels_of_commits (commits_of m) ≡ label ∷ rest → FirstLabel trail before label)
          → (m : List Settled) → trail ≡ before ++ m → more ≡ m ++ frame → FirstLabel (trail ++ frame) before label
      inside earlier m front both = by (labels_of_commits (commits_of m)) refl
        where
          all : labels_of_commits (commits_of m) ++ labels_of_commits (commits_of frame) ≡ label ∷ rest
          all = sym (ap (λ (l : List Settled). labels_of_commits (commits_of l)) both ∙ ap labels_of_commits (puts_both m frame) ∙ labels_split (commits_of m) (commits_of frame)) ∙ labels

          by : (found : List Label) → labels_of_commits (commits_of m) ≡ found → FirstLabel (trail ++ frame) before label
          by [] none = record {
            trail = trail;
            after = frame;
            goes = refl;
            told = told;
            lines = lines;
            said = so_far;
            stands = inl (m, front, none);
            due = entries_due partition (pairs_of told) going follows.ours label rest
                (sym (labels_settling partition at going) ∙ sym (ap (λ (l : List Label). l ++ labels_of_commits (commits_of frame)) none) ∙ all);
          }
          by (first ∷ others) some =
              let same : first ≡ label = cc (sym (ap (λ (l : List Label). l ++ labels_of_commits (commits_of frame)) some) ∙ all) in
              sooner (earlier m front label others (some ∙ ap (λ (l : Label). l ∷ others) same))

-- ---- what can't be in a quiet world

-- a client's request says whose it is, and its number
says_whose : (who : Id) (number : ℕ) (message : Message) → is_request who number message ≡ true → (message.from ≡ who) × (number_in message.body ≡ number)
says_whose who number message is =
    let one = and_parts (is_client who) _ is in
    let two = and_parts (id_eq message.from who) _ one.1 in
    let three = and_parts (is_asking message.body message.to) _ two.1 in
    let four = and_parts (number_in message.body == number) _ three.1 in
    (id_same message.from who two.0, eqb-true (number_in message.body) number four.0)

module _ (flows : Flows) (requests : List Request) (asks : All IsRequest requests) (w : World) (rightly : AnswersTaken w) (quiet : Quiet flows (map (λ (r : Request). r.message) requests) w) where
  -- a request that wasn't taken, though its client's earlier ones were answered
  not_due : (name : List ℕ) (place : ℕ) (r : Request) → slice_get (requests_of name requests) place ≡ Some r → ((i : ℕ) (x : Request) → i < place → slice_get (requests_of name requests) i ≡ Some x → has_answer w name x ≡ true)
      → w.taken (client name) r.number ≡ None → ⊥
  not_due name place r at answered none = let wrong : true ≡ false = sym its_own ∙ ap is_some none in cc wrong
    where
      unanswered : (b : Bool) → has_answer w name r ≡ b → has_answer w name r ≡ false
      unanswered false is = is
      unanswered true is = let wrong : true ≡ false = sym (rightly (client name) r.number is) ∙ ap is_some none in absurd (cc wrong)

      first : first_open w requests name ≡ Some r
      first = found_at (λ (x : Request). not (has_answer w name x)) (requests_of name requests) place (λ i x low there. ap not (answered i x low there))
          (λ x there. ap (λ (y : Request). not (has_answer w name y)) (some_same (sym there ∙ at)) ∙ ap not (unanswered (has_answer w name r) refl)) ∙ at

      Up : List ℕ → Type 0
      Up who = (x : Request) → first_open w requests who ≡ Some x → was_taken w who x ≡ true

      its_own : was_taken w name r ≡ true
      its_own =
          let found = filter_from (λ (x : Request). Up x.client) (λ (x : Request). bytes_eq x.client name) requests place r at (of_clients Up requests (taken_up w requests asks rightly flows quiet)) in
          subst Up (same_bytes r.client name found.1) found.0 r first

  -- a task that ends
  no_finish : (id : Id) (task : ℕ) (outcome : Outcome) → step flows w (finish id task outcome) ≡ None
  no_finish id task outcome = ap (finished w id task outcome (w.orchestrations id)) (quiet.finished id task) ∙ by (w.orchestrations id)
    where
      by : (o : Option Orchestration) → finished w id task outcome o None ≡ None
      by None = refl
      by (Some o) = refl

  no_fire : (id : Id) (task stamp : ℕ) → step flows w (fire id task stamp) ≡ None
  no_fire id task stamp = ap (timed w id task stamp (w.orchestrations id)) (quiet.fired id task) ∙ by (w.orchestrations id)
    where
      by : (o : Option Orchestration) → timed w id task stamp o None ≡ None
      by None = refl
      by (Some o) = refl

  -- a request is taken once
  was_free : (who : Id) (number : ℕ) (message : Message) (next : World) → taken w who number message (w.taken who number) ≡ Some next → w.taken who number ≡ None
  was_free who number message next is = by (w.taken who number) refl is
    where
      by : (o : Option Message) → w.taken who number ≡ o → taken w who number message o ≡ Some next → w.taken who number ≡ None
      by None same there = same
      by (Some other) same there = absurd (cc there)

  not_possible : (rules : Rules) (latest : ℕ) (serves : rules.serves ≡ true) (told : Told) (label : Label) (next : World) → rules.requests ≡ requests → TakesDue rules latest serves told label
      → ((name : List ℕ) (i : ℕ) (x : Request) → i < count_told told name → slice_get (requests_of name requests) i ≡ Some x → has_answer w name x ≡ true)
      → step flows w label ≡ Some next → ⊥
  not_possible rules latest serves told (deliver from to stamp) next same due answered is = let wrong : None ≡ Some next = sym (quiet.delivered from to stamp) ∙ is in cc wrong
  not_possible rules latest serves told (finish id task outcome) next same due answered is = let wrong : None ≡ Some next = sym (no_finish id task outcome) ∙ is in cc wrong
  not_possible rules latest serves told (fire id task stamp) next same due answered is = let wrong : None ≡ Some next = sym (no_fire id task stamp) ∙ is in cc wrong
  not_possible rules latest serves told (take who number message) next same due answered is =
      let asked = due in
      let step_is = passes (is_request who number message) (taken w who number message (w.taken who number)) next is in
      let own = says_whose who number message step_is.0 in
      let at : slice_get (requests_of asked.name requests) asked.place ≡ Some asked.request = ap (λ (l : List Request). slice_get (requests_of asked.name l) asked.place) (sym same) ∙ asked.asked in
      let found = filter_from IsRequest (λ (x : Request). bytes_eq x.client asked.name) requests asked.place asked.request at (recursion_from_All IsRequest requests asks) in
      let whose = says_whose (client asked.request.client) asked.request.number asked.request.message found.0 in
      let who_is : who ≡ client asked.name = sym own.0 ∙ ap (λ (m : Message). m.from) asked.sends ∙ whose.0 ∙ ap client (same_bytes asked.request.client asked.name found.1) in
      let number_is : number ≡ asked.request.number = sym own.1 ∙ ap (λ (m : Message). number_in m.body) asked.sends ∙ whose.1 in
      let free : w.taken (client asked.name) asked.request.number ≡ None = ap (w.taken (client asked.name)) (sym number_is) ∙ ap (λ (i : Id). w.taken i number) (sym who_is) ∙ was_free who number message next step_is.1 in
      not_due asked.name asked.place asked.request at (λ i x low there. let within = asked.answered in answered asked.name i x (omega (arith, low, within)) there) free

-- ---- the first label

module _ (rules : Rules) (latest : ℕ) (serves : rules.serves ≡ true) (asks : All IsRequest rules.requests) (trail : List Settled) (made : HaveMade rules trail) (accepted : AreAccepted rules trail) where
  -- what was said by then was answered in the world before the label
  answered_then : (before : List Settled) (w : World) → IsWorldAfter rules before w → (label : Label) (first : FirstLabel rules latest serves trail before label)
      → (name : List ℕ) (i : ℕ) (x : Request) → i < count_told (pairs_of first.told) name → slice_get (requests_of name rules.requests) i ≡ Some x → has_answer w name x ≡ true
  answered_then before w world label first name i x low at = by first.stands
    where
      by : ((m : List Settled) × (first.trail ≡ before ++ m) × (labels_of_commits (commits_of m) ≡ [])) ⊎ ((b : List Settled) × (before ≡ first.trail ++ b)) → has_answer w name x ≡ true
      by (inr behind) =
          let split : states_after rules.flows rules.count rules.begin (commits_of first.trail ++ commits_of behind.0) ≡ Some world.states =
          ap (states_after rules.flows rules.count rules.begin) (sym (ap commits_of behind.1 ∙ puts_both first.trail behind.0)) ∙ world.made in
          let both = put_apart rules.flows rules.count rules.begin world.states (commits_of first.trail) (commits_of behind.0) split in
          let had = told_answered rules (Follows rules latest) serves first.said both.0 both.1 name i x low at in
          subst (λ (v : World). has_answer v name x ≡ true) (sym world.world) (stays rules (commits_of behind.0) both.0 world.states both.2 name x.number had)
      by (inl more) =
          let split : states_after rules.flows rules.count rules.begin (commits_of first.trail ++ commits_of first.after) ≡ Some made.states =
          ap (states_after rules.flows rules.count rules.begin) (sym (ap commits_of first.goes ∙ puts_both first.trail first.after)) ∙ made.made in
          let both = put_apart rules.flows rules.count rules.begin made.states (commits_of first.trail) (commits_of first.after) split in
          let had = told_answered rules (Follows rules latest) serves first.said both.0 both.1 name i x low at in
          let there = world_at rules first.trail both.0 both.1
          (numbered_by rules first.trail first.after (subst (λ (l : List Settled). AreNumbered fresh (rules.recovered ++ commits_of l)) first.goes made.numbered))
          (accepted_front rules first.trail first.after (subst (AreAccepted rules) first.goes accepted)) in
          let labels : labels_of_commits (commits_of first.trail) ≡ labels_of_commits (commits_of before) =
          ap (λ (l : List Settled). labels_of_commits (commits_of l)) more.1 ∙ ap labels_of_commits (puts_both before more.0) ∙ labels_split (commits_of before) (commits_of more.0)
          ∙ ap (λ (l : List Label). labels_of_commits (commits_of before) ++ l) more.2 ∙ append-nil (labels_of_commits (commits_of before)) in
          let same : shown rules.flows rules.count both.0 ≡ w = some_same (sym (subst (λ (l : List Label). Legal rules.flows (labels_of_commits rules.recovered ++ l) (shown rules.flows rules.count both.0)) labels there.legal) ∙ world.legal) in
          subst (λ (v : World). has_answer v name x ≡ true) same had

  pub was_possible : (told : List Said) (lines : List ℕ) → SaidSoFar (Follows rules latest) (Answers rules) trail told lines → (before more : List Settled) → trail ≡ before ++ more → (w : World) → IsWorldAfter rules before w
      → 0 < length (labels_of_commits (commits_of more)) → Quiet rules.flows (map (λ (r : Request). r.message) rules.requests) w → ⊥
  was_possible told lines said before more split w world some quiet = by (labels_of_commits (commits_of more)) refl
    where
      by : (labels : List Label) → labels_of_commits (commits_of more) ≡ labels → ⊥
      by [] none = let long = ap length none in omega (arith, long, some)
      by (label ∷ rest) is =
          let first = first_label rules latest serves said before more split label rest is in
          let end = world_after rules trail made accepted in
          let run : labels_of_commits rules.recovered ++ labels_of_commits (commits_of trail) ≡ (labels_of_commits rules.recovered ++ labels_of_commits (commits_of before)) ++ label ∷ rest =
          ap (λ (l : List Settled). labels_of_commits rules.recovered ++ labels_of_commits (commits_of l)) split
          ∙ ap (λ (l : List Commit). labels_of_commits rules.recovered ++ labels_of_commits l) (puts_both before more)
          ∙ ap (λ (l : List Label). labels_of_commits rules.recovered ++ l) (labels_split (commits_of before) (commits_of more) ∙ ap (λ (l : List Label). labels_of_commits (commits_of before) ++ l) is)
          ∙ sym (append_assoc (labels_of_commits rules.recovered) (labels_of_commits (commits_of before)) (label ∷ rest)) in
          let goes : after_from rules.flows w (label ∷ rest) ≡ Some (shown rules.flows rules.count made.states) =
          sym (after_both rules.flows empty w (labels_of_commits rules.recovered ++ labels_of_commits (commits_of before)) (label ∷ rest) world.legal)
          ∙ ap (after_from rules.flows empty) (sym run) ∙ end.legal in
          let next = both_some (step rules.flows w label) (λ (v : World). after_from rules.flows v rest) (shown rules.flows rules.count made.states) goes in
          not_possible rules.flows rules.requests asks w (answers_taken rules.flows (labels_of_commits rules.recovered ++ labels_of_commits (commits_of before)) w world.legal) quiet
          rules latest serves (pairs_of first.told) label next.0 refl first.due (answered_then before w world label first) next.1
