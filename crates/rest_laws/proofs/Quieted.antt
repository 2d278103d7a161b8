-- Partitions at rest show a quiet world: no link has a message that its receiver takes.
use Rattle.std.proofs.Common.{◌≡◌, ◌∙◌, ◌<◌, ◌-◌, ◌&&◌, ℕ, Bool, true, false, cond, List, [], ◌∷◌, ◌++◌, drop, Option, Some, None, refl, sym, ap, arith}
use Rattle.std.specs.Prelude.{option_map, nat_le}
use Rattle.std.proofs.lemmas.List.{append-nil, drop_all}
use Rattle.dura_model.specs.Legal.{Quiet}
use Rattle.dura_model.specs.Partition.{Partition, accepted, first_in, link_in, messages_in, shown, with_part}
use Rattle.dura_model.specs.Placed.{AreShown}
use Rattle.dura_model.specs.Steps.{step, deliver, delivered}
use Rattle.dura_model.specs.World.{World}
use Rattle.dura_model.proofs.Shown.{item_labelled, home_below}
use Rattle.dura_value.specs.Ids.{Id, id_eq, home}
use Rattle.dura_value.specs.Items.{ran, Posted}
use Rattle.dura_value.specs.Messages.{Body, Message}
use Rattle.flow_syntax.specs.Syntax.{Flows}
use Rattle.part_rows.specs.Open.{last_at, NoneOpen}
use Rattle.part_steps.proofs.Delivering.{not_taken}
use Rattle.rest_laws.specs.Rest.{HasRead, AreAtRest}

no_message : (queue : List Message) (from to : Id) → first_in queue from to ≡ None → link_in queue from to ≡ []
no_message [] from to none = refl
no_message (message ∷ queue) from to none = by (no_message queue from to) (id_eq from message.from && id_eq to message.to) none
  where
    by : (first_in queue from to ≡ None → link_in queue from to ≡ []) → (here : Bool) → cond here (Some message.body) (first_in queue from to) ≡ None → cond here (message ∷ link_in queue from to) (link_in queue from to) ≡ []
    by rest true is = absurd (cc is)
    by rest false is = rest is

nobody_asks : (before : List Message) (request : Message) (behind : List Message) → [] ≡ before ++ request ∷ behind → ⊥
nobody_asks [] request behind is = cc is
nobody_asks (first ∷ before) request behind is = cc is

module _ (flows : Flows) (count : ℕ) (parts : ℕ → Partition) (some : 0 < count) (shows : AreShown count parts) where
  abbrev world : World
  world = shown flows count parts

  below : (id : Id) → home count id < count
  below id = home_below count 0 id some

  -- where its stream was read whole and no message of it came in, a link is empty
  no_link : (from to : Id) → HasRead parts (home count from) (home count to) → first_in (parts (home count to)).queue from to ≡ None → world.links from to ≡ []
  no_link from to read none =
      let source = (parts (home count from)).outboxes (home count to) in
      let target = parts (home count to) in
      let taken = (target.inboxes (home count from)).next - source.first in
      let left : drop taken source.messages ≡ [] = drop_all taken source.messages (omega (arith, read)) in
      ap (λ (l : List Posted). link_in (target.queue ++ messages_in l) from to) left
      ∙ ap (λ (l : List Message). link_in l from to) (append-nil target.queue)
      ∙ no_message target.queue from to none

  stays : (from to : Id) (stamp : ℕ) → NoneOpen (parts (home count to)) → HasRead parts (home count from) (home count to) → step flows world (deliver from to stamp) ≡ None
  stays from to stamp none read = by (first_in (parts (home count to)).queue from to) refl
    where
      by : (found : Option Body) → first_in (parts (home count to)).queue from to ≡ found → step flows world (deliver from to stamp) ≡ None
      by None is = ap (delivered flows world from to stamp) (no_link from to read is)
      by (Some body) is =
          let p = parts (home count to) in
          let refused : accepted flows count p (ran from to stamp) ≡ None = not_taken flows count p from to stamp (ap (λ (t : Bool). t && nat_le (last_at p to) stamp) (none from to body is)) in
          let given : first_in p.queue from to ≡ None → ⊥ = λ empty. let wrong : Some body ≡ None = sym is ∙ empty in cc wrong in
          sym (item_labelled flows count parts (home count to) (ran from to stamp) (deliver from to stamp) to shows (below to) refl refl refl given)
          ∙ ap (option_map (λ (next : Partition). shown flows count (with_part parts (home count to) next))) refused

  pub rest_quiet : AreAtRest count parts → Quiet flows [] world
  rest_quiet rest = record {
    delivered = λ from to stamp. stays from to stamp (rest.quiet (home count to) (below to)).deliveries (rest.read (home count from) (home count to) (below from) (below to));
    finished = λ id task. (rest.quiet (home count id) (below id)).activities id task;
    fired = λ id task. (rest.quiet (home count id) (below id)).timers id task;
    asked = λ before request behind is. absurd (nobody_asks before request behind is);
  }
