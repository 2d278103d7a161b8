-- Items are labels, of the states of all partitions.
use Rattle.std.proofs.Common.{◌≡◌, ◌<◌, ◌⊎◌, inl, inr, ℕ, true, List, [], Option, Some, None, refl, sym, ap, subst, ◌∙◌, arith, ◌-◌, ◌∷◌, take, drop}
use Rattle.std.specs.Prelude.{option_map, nat_lt}
use Rattle.std.specs.List.{Contains}
use Rattle.std.proofs.lemmas.List.{take-append-drop}
use Rattle.std.proofs.lemmas.List.Elements.{Contains-append_right}
use Rattle.std.proofs.lemmas.Bool.{ltb-true}
use Rattle.dura_value.specs.Ids.{Id, home}
use Rattle.dura_value.specs.Items.{Identity, Item, took, got, ran, ended, fired, trim, Posted}
use Rattle.dura_value.specs.Messages.{Body, Message}
use Rattle.flow_syntax.specs.Syntax.{Flows}
use Rattle.dura_model.specs.World.{World}
use Rattle.dura_model.specs.Steps.{Label, take as take_in, deliver, finish, fire, number_in, step}
use Rattle.dura_model.specs.Partition.{Partition, first_in, delivered_in, accepted, label_in, shown, with_part}
use Rattle.log_items.specs.Streams.{Outbox}
use Rattle.dura_model.specs.Placed.{IsOther, IsStreamed, AreShown, happens_at, IsGiven, IsOfStreams, IsLabelled, ShowsNothing}
use Rattle.dura_model.proofs.Merged.{merged, IsReady, shown_merged, merged_shown}
use Rattle.dura_model.proofs.Items.{took_as, fired_as, ended_as, ran_as}
use Rattle.dura_model.proofs.Streams.{got_as, trim_as}
use Rattle.dura_value.proofs.Basics.{some_same}

-- an id lives below the number of partitions
pub home_below : (count p : ℕ) (id : Id) → p < count → home count id < count
home_below count p id below = omega (arith, below)

-- what is left of a list is of it
pub dropped_in : {X : Type 0} (k : ℕ) (xs : List X) (x : X) → Contains (drop k xs) x → Contains xs x
dropped_in k xs x has = subst (λ (l : List _). Contains l x) (take-append-drop k xs) (Contains-append_right (take k xs) (drop k xs) x has)

module _ (flows : Flows) (count : ℕ) (parts : ℕ → Partition) (p : ℕ) where
  pub ready_of : AreShown count parts → p < count → IsReady flows count parts p (parts p)
  ready_of shows below =
      let here = shows.each p below in
      record {
        number = here.number;
        alone = by (here.outboxes.others p);
        readers = λ to away. (shows.readers p (home count to) below (home_below count p to below)).to_end;
      }
    where
      by : IsOther count p p ⊎ ((parts p).outboxes p ≡ record { first = 0; messages = [] }) → ((parts p).outboxes p).messages ≡ []
      by (inl other) = absurd (other.apart refl)
      by (inr nothing) = ap (λ (box : Outbox). box.messages) nothing

  -- what is shown, by the world that is looked at
  labelled : (item : Item) (label : Label) → option_map (merged flows count parts p) (accepted flows count (parts p) item) ≡ step flows (merged flows count parts p (parts p)) label → IsLabelled flows count parts p item label
  labelled item label is =
      ap (λ (f : Partition → World). option_map f (accepted flows count (parts p) item)) (λ i next. shown_merged flows count parts p next i)
      ∙ is
      ∙ ap (λ (w : World). step flows w label) (merged_shown flows count parts p)

  pub silent : (next : Partition) → merged flows count parts p next ≡ merged flows count parts p (parts p) → shown flows count (with_part parts p next) ≡ shown flows count parts
  silent next is = shown_merged flows count parts p next ∙ is ∙ merged_shown flows count parts p

  home_of : (id other : Id) → Some other ≡ Some id → home count id ≡ p → home count other ≡ p
  home_of id other is here = ap (home count) (some_same is) ∙ here

  there_is : (found : Option Body) → (found ≡ None → ⊥) → (body : Body) × (found ≡ Some body)
  there_is None is = absurd (is refl)
  there_is (Some body) is = (body, refl)

  pub item_labelled : (item : Item) (label : Label) (id : Id) → AreShown count parts → p < count → label_in item ≡ Some label → happens_at item ≡ Some id → home count id ≡ p → IsGiven (parts p) item → IsLabelled flows count parts p item label
  item_labelled (took message) label id shows below is at here given =
      subst (IsLabelled flows count parts p (took message)) (some_same is)
      (labelled (took message) (take_in message.from (number_in message.body) message) (took_as flows count parts p (parts p) message (ready_of shows below) (home_of id message.from at here)))
  item_labelled (ran from to stamp) label id shows below is at here given =
      let found = there_is (first_in (parts p).queue from to) given in
      subst (IsLabelled flows count parts p (ran from to stamp)) (some_same is)
      (labelled (ran from to stamp) (deliver from to stamp) (ran_as flows count parts p (parts p) from to stamp found.0 (ready_of shows below) (home_of id to at here) found.1))
  item_labelled (ended other task outcome) label id shows below is at here given =
      subst (IsLabelled flows count parts p (ended other task outcome)) (some_same is)
      (labelled (ended other task outcome) (finish other task outcome) (ended_as flows count parts p (parts p) other task outcome (ready_of shows below) (home_of id other at here) given))
  item_labelled (fired other task stamp) label id shows below is at here given =
      subst (IsLabelled flows count parts p (fired other task stamp)) (some_same is)
      (labelled (fired other task stamp) (fire other task stamp) (fired_as flows count parts p (parts p) other task stamp (ready_of shows below) (home_of id other at here)))
  item_labelled (got source number message) label id shows below is at here given = absurd (cc is)
  item_labelled (trim reader number) label id shows below is at here given = absurd (cc is)

  stream_sender : (source : Identity) (number : ℕ) (message : Message) → AreShown count parts → IsStreamed parts source p number message → nat_lt source.partition count ≡ true → home count message.from ≡ source.partition
  stream_sender source number message shows streamed low =
      let box = (parts source.partition).outboxes p in
      let posted : Posted = record { entry = source; message = message } in
      let head : Contains (posted ∷ streamed.later) posted = (0, omega arith, refl) in
      let left = subst (λ (l : List Posted). Contains l posted) (sym streamed.stands) head in
      (shows.each source.partition (ltb-true source.partition count low)).outboxes.senders p posted (dropped_in (number - box.first) box.messages posted left)

  pub item_silent : (item : Item) → AreShown count parts → p < count → label_in item ≡ None → IsOfStreams parts p item → ShowsNothing flows count parts p item
  item_silent (got source number message) shows below is given next accepts =
      silent next (got_as flows count parts p (parts p) next source number message (ready_of shows below) (stream_sender source number message shows given) given accepts)
  item_silent (trim reader number) shows below is given next accepts = silent next (trim_as flows count parts p (parts p) next reader number (ready_of shows below) given accepts)
  item_silent (took message) shows below is given next accepts = absurd (cc is)
  item_silent (ran from to stamp) shows below is given next accepts = absurd (cc is)
  item_silent (ended id task outcome) shows below is given next accepts = absurd (cc is)
  item_silent (fired id task stamp) shows below is given next accepts = absurd (cc is)

  -- a link of which no message came in isn't delivered
  pub link_waits : (q : Partition) (from to : Id) (stamp : ℕ) → first_in q.queue from to ≡ None → accepted flows count q (ran from to stamp) ≡ None
  link_waits q from to stamp nothing = ap (delivered_in flows count q from to stamp) nothing
