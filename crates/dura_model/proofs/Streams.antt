-- What comes in from a stream, or is let go, changes nothing that is shown.
use Rattle.std.proofs.Common.{◌≡◌, ◌≤◌, ◌<◌, ◌+◌, ◌-◌, ◌==◌, ◌&&◌, ℕ, length, drop, Bool, true, false, cond, List, [], ◌∷◌, ◌++◌, Some, refl, sym, ap, subst, ◌∙◌, arith, eq-eqb}
use Rattle.std.specs.Prelude.{nat_le, nat_lt, not}
use Rattle.std.proofs.lemmas.Bool.{eqb-true, leb-false, and_parts, not-true}
use Rattle.std.proofs.lemmas.List.{append_assoc, drop-drop}
use Rattle.dura_value.specs.Ids.{Id, home, id_eq}
use Rattle.dura_value.specs.Items.{Identity, got, trim, Posted}
use Rattle.dura_value.specs.Messages.{Message}
use Rattle.flow_syntax.specs.Syntax.{Flows}
use Rattle.dura_model.specs.World.{World}
use Rattle.dura_model.specs.Partition.{Inbox, Partition, entry_of, with_inbox, accepted, link_in, messages_in}
use Rattle.log_items.specs.Streams.{Outbox, begins_at, with_first}
use Rattle.dura_model.specs.Placed.{IsStreamed}
use Rattle.dura_value.proofs.Ids.{id_same}
use Rattle.dura_model.proofs.Basics.{passed}
use Rattle.dura_model.proofs.Merged.{turned, merged, IsReady, link_both, link_other, is_of, outboxes_at, inboxes_at, queue_at}

-- a message that came in stands at the end of the queue in place of the head of what wasn't taken in
pub comes_in : (queue : List Message) (first number : ℕ) (stream later : List Posted) (posted : Posted) → first ≤ number → drop (number - first) stream ≡ posted ∷ later
    → (queue ++ posted.message ∷ []) ++ messages_in (drop (number + 1 - first) stream) ≡ queue ++ messages_in (drop (number - first) stream)
comes_in queue first number stream later posted begun is =
    let further : drop (number + 1 - first) stream ≡ later =
    let one_more : number + 1 - first ≡ number - first + 1 = omega (arith, begun) in
    ap (λ (k : ℕ). drop k stream) one_more ∙ sym (drop-drop 1 (number - first) stream) ∙ ap (λ (l : List Posted). drop 1 l) is in
    ap (λ (l : List Posted). (queue ++ posted.message ∷ []) ++ messages_in l) further
    ∙ append_assoc queue (posted.message ∷ []) (messages_in later)
    ∙ ap (λ (l : List Posted). queue ++ messages_in l) (sym is)

-- what is let go was read
lets_go : (number next : ℕ) (box : Outbox) (low : Bool) → nat_le number box.first ≡ low → number ≤ next
    → drop (next - (cond low box (record { first = number; messages = drop (number - box.first) box.messages })).first) (cond low box (record { first = number; messages = drop (number - box.first) box.messages })).messages
    ≡ drop (next - box.first) box.messages
lets_go number next box true is read = refl
lets_go number next box false is read =
    let high : box.first < number = leb-false number box.first is in
    drop-drop (next - number) (number - box.first) box.messages
    ∙ (let sum : number - box.first + (next - number) ≡ next - box.first = omega (arith, high, read) in ap (λ (k : ℕ). drop k box.messages) sum)

module _ (flows : Flows) (count : ℕ) (parts : ℕ → Partition) (p : ℕ) where
  abbrev world : Partition → World
  world = merged flows count parts p

  abbrev Ready : Partition → Type 0
  Ready = IsReady flows count parts p

  got_same : (q : Partition) (source : Identity) (number : ℕ) (message : Message) → (p == source.partition) ≡ false → number ≡ (q.inboxes source.partition).next → home count message.from ≡ source.partition → IsStreamed parts source p number message
      → world (record q { queue = q.queue ++ message ∷ []; inboxes = with_inbox q.inboxes source.partition (record { next = number + 1; reader = entry_of q }) }) ≡ world q
  got_same q source number message apart number_is sends streamed = λ i. record (world q) { links = λ x y. by x y (p == home count y) (source.partition == home count x) refl refl i }
    where
      boxes : ℕ → Inbox
      boxes = with_inbox q.inboxes source.partition (record { next = number + 1; reader = entry_of q })

      stream : Id → Id → Outbox
      stream x y = outboxes_at flows count parts p q.outboxes (home count x) (home count y)

      -- the link, by whether its receiver lives here
      seen : (x y : Id) → List Message → (ℕ → Inbox) → Bool → List Message
      seen x y queue inboxes here =
          link_in (cond here queue (parts (home count y)).queue ++ messages_in (drop ((cond here inboxes (parts (home count y)).inboxes (home count x)).next - (stream x y).first) (stream x y).messages)) x y

      -- the link to a receiver here, by whether its sender lives at the source
      inner : (x y : Id) → Bool → List Message
      inner x y there = link_in ((q.queue ++ message ∷ []) ++ messages_in (drop ((cond there (record { next = number + 1; reader = entry_of q }) (q.inboxes (home count x))).next - (stream x y).first) (stream x y).messages)) x y

      other : (x y : Id) → (source.partition == home count x) ≡ false → is_of x y message ≡ false
      other x y away = test (is_of x y message) refl
        where
          test : (b : Bool) → is_of x y message ≡ b → is_of x y message ≡ false
          test true is =
              let same = id_same x message.from (and_parts (id_eq x message.from) (id_eq y message.to) is).0 in
              let wrong : true ≡ false = sym (eq-eqb source.partition (home count x) (sym sends ∙ ap (home count) (sym same))) ∙ away in
              absurd (cc wrong)
          test false is = is

      stream_is : (x y : Id) → (p == home count y) ≡ true → (source.partition == home count x) ≡ true → stream x y ≡ (parts source.partition).outboxes p
      stream_is x y here there =
          let at_source = eqb-true source.partition (home count x) there in
          ap (λ (b : Bool). cond b q.outboxes (parts (home count x)).outboxes (home count y)) (ap (λ (a : ℕ). p == a) (sym at_source) ∙ apart)
          ∙ ap (λ (a : ℕ). (parts a).outboxes (home count y)) (sym at_source)
          ∙ ap ((parts source.partition).outboxes) (sym (eqb-true p (home count y) here))

      core : (x y : Id) (there : Bool) → (p == home count y) ≡ true → (source.partition == home count x) ≡ there → seen x y (q.queue ++ message ∷ []) boxes true ≡ seen x y q.queue q.inboxes true
      core x y false here there =
          let rest = messages_in (drop ((q.inboxes (home count x)).next - (stream x y).first) (stream x y).messages) in
          ap (inner x y) there
          ∙ link_both (q.queue ++ message ∷ []) rest x y
          ∙ ap (λ (l : List Message). l ++ link_in rest x y) (link_other q.queue message x y (other x y there))
          ∙ sym (link_both q.queue rest x y)
      core x y true here there =
          let box = stream x y in
          let is = stream_is x y here there in
          ap (inner x y) there
          ∙ ap (λ (l : List Message). link_in l x y)
          (comes_in q.queue box.first number box.messages streamed.later (record { entry = source; message = message })
          (subst (λ (o : Outbox). o.first ≤ number) (sym is) streamed.begun)
          (subst (λ (o : Outbox). drop (number - o.first) o.messages ≡ record { entry = source; message = message } ∷ streamed.later) (sym is) streamed.stands))
          ∙ ap (λ (n : ℕ). link_in (q.queue ++ messages_in (drop (n - box.first) box.messages)) x y) (number_is ∙ ap (λ (a : ℕ). (q.inboxes a).next) (eqb-true source.partition (home count x) there))

      by : (x y : Id) (here there : Bool) → (p == home count y) ≡ here → (source.partition == home count x) ≡ there
          → seen x y (q.queue ++ message ∷ []) boxes (p == home count y) ≡ seen x y q.queue q.inboxes (p == home count y)
      by x y false there here_is there_is = ap (seen x y (q.queue ++ message ∷ []) boxes) here_is ∙ ap (seen x y q.queue q.inboxes) (sym here_is)
      by x y true there here_is there_is = ap (seen x y (q.queue ++ message ∷ []) boxes) here_is ∙ core x y there here_is there_is ∙ ap (seen x y q.queue q.inboxes) (sym here_is)

  pub got_as : (q next : Partition) (source : Identity) (number : ℕ) (message : Message) → Ready q → (nat_lt source.partition count ≡ true → home count message.from ≡ source.partition) → IsStreamed parts source p number message
      → accepted flows count q (got source number message) ≡ Some next → world next ≡ world q
  got_as q next source number message ready sends streamed is =
      let away = source.partition == q.number in
      let low = nat_lt source.partition count in
      let in_turn = number == (q.inboxes source.partition).next in
      let lives = home count message.to == q.number in
      let after : Partition = record q { queue = q.queue ++ message ∷ []; inboxes = with_inbox q.inboxes source.partition (record { next = number + 1; reader = entry_of q }) } in
      let it = passed (not away && (low && (in_turn && lives))) after next is in
      let one = and_parts (not away) (low && (in_turn && lives)) it.0 in
      let two = and_parts low (in_turn && lives) one.1 in
      let three = and_parts in_turn lives two.1 in
      let apart : (p == source.partition) ≡ false = turned source.partition p false (ap (λ (n : ℕ). source.partition == n) (sym ready.number) ∙ not-true away one.0) in
      ap world (sym it.1) ∙ got_same q source number message apart (eqb-true number (q.inboxes source.partition).next three.0) (sends two.0) streamed

  trim_same : (q : Partition) (target number : ℕ) → (p == target) ≡ false → number ≤ ((parts target).inboxes p).next → world (record q { outboxes = with_first q.outboxes target number }) ≡ world q
  trim_same q target number apart read = λ i. record (world q) { links = λ x y. by x y (p == home count x) refl i }
    where
      next : Id → Id → ℕ
      next x y = (inboxes_at flows count parts p q.inboxes (home count y) (home count x)).next

      way_of : (x y : Id) → Outbox → List Message
      way_of x y box = link_in (queue_at flows count parts p q.queue (home count y) ++ messages_in (drop (next x y - box.first) box.messages)) x y

      seen : (x y : Id) → (ℕ → Outbox) → Bool → List Message
      seen x y boxes here = way_of x y (cond here boxes (parts (home count x)).outboxes (home count y))

      next_is : (x y : Id) → (p == home count x) ≡ true → (target == home count y) ≡ true → next x y ≡ ((parts target).inboxes p).next
      next_is x y here there =
          let at_target = eqb-true target (home count y) there in
          ap (λ (b : Bool). (cond b q.inboxes (parts (home count y)).inboxes (home count x)).next) (ap (λ (a : ℕ). p == a) (sym at_target) ∙ apart)
          ∙ ap (λ (a : ℕ). ((parts a).inboxes (home count x)).next) (sym at_target)
          ∙ ap (λ (a : ℕ). ((parts target).inboxes a).next) (sym (eqb-true p (home count x) here))

      core : (x y : Id) (there : Bool) → (p == home count x) ≡ true → (target == home count y) ≡ there → way_of x y (cond there (begins_at number (q.outboxes (home count y))) (q.outboxes (home count y))) ≡ way_of x y (q.outboxes (home count y))
      core x y false here there = refl
      core x y true here there =
          let box = q.outboxes (home count y) in
          let so_far = next_is x y here there in
          let enough : number ≤ next x y = omega (arith, so_far, read) in
          ap (λ (l : List Posted). link_in (queue_at flows count parts p q.queue (home count y) ++ messages_in l) x y) (lets_go number (next x y) box (nat_le number box.first) refl enough)

      by : (x y : Id) (here : Bool) → (p == home count x) ≡ here → seen x y (with_first q.outboxes target number) (p == home count x) ≡ seen x y q.outboxes (p == home count x)
      by x y false here = ap (seen x y (with_first q.outboxes target number)) here ∙ ap (seen x y q.outboxes) (sym here)
      by x y true here = ap (seen x y (with_first q.outboxes target number)) here ∙ core x y (target == home count y) here refl ∙ ap (seen x y q.outboxes) (sym here)

  pub trim_as : (q next : Partition) (reader : Identity) (number : ℕ) → Ready q → number ≤ ((parts reader.partition).inboxes p).next → accepted flows count q (trim reader number) ≡ Some next → world next ≡ world q
  trim_as q next reader number ready read is =
      let target = reader.partition in
      let away = target == q.number in
      let others = nat_lt target count && nat_le number ((q.outboxes target).first + length (q.outboxes target).messages) in
      let after : Partition = record q { outboxes = with_first q.outboxes target number } in
      let it = passed (not away && others) after next is in
      let one = and_parts (not away) others it.0 in
      let apart : (p == target) ≡ false = turned target p false (ap (λ (n : ℕ). target == n) (sym ready.number) ∙ not-true away one.0) in
      ap world (sym it.1) ∙ trim_same q target number apart read
