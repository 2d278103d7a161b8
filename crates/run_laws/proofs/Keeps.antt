-- What holds of every world that a legal run reaches.
use Rattle.std.proofs.Common.{◌≡◌, ℕ, Bool, true, false, cond, List, [], ◌∷◌, ◌++◌, Option, Some, None, refl, sym, ap, subst, ◌∙◌}
use Rattle.dura_value.specs.Ids.{Id, id_eq}
use Rattle.dura_value.specs.Messages.{Spot, Body, start, raise, query, wait, result, operate, lock, granted, release, Message}
use Rattle.flow_syntax.specs.Syntax.{Flows}
use Rattle.flow_syntax.specs.Machine.{Section, outside, acquiring, inside, Asked, an_activity, a_timer}
use Rattle.flow_syntax.specs.Entity.{Entity}
use Rattle.dura_model.specs.World.{World, Orchestration, at_link}
use Rattle.dura_value.specs.ById.{at_id, at_number}
use Rattle.dura_model.specs.Deliveries.{Effect, to_instance, is_over}
use Rattle.dura_model.specs.Steps.{sent, asked, given_up, stands_as, is_instance}
use Rattle.dura_model.specs.Legal.{holder_of}
use Rattle.run_laws.proofs.MessageKinds.{kind_of, is_other}
use Rattle.run_laws.proofs.Counts.{case_id}
use Rattle.run_laws.proofs.Does.{IsSettled}
use Rattle.run_laws.proofs.Effects.{section_of, over_of, Sits, Behaves, other_behaves, grant_behaves}
use Rattle.run_laws.proofs.Grants.{not_both, entity_there, grant_found, grant_popped}
use Rattle.run_laws.proofs.Instances.{Placed, pushed, does_keeps}
use Rattle.run_laws.proofs.Moves.{lock_found}
use Rattle.run_laws.proofs.Releases.{release_named}
use Rattle.run_laws.proofs.Tallies.{Place, quiet, locking, granting, is_entity, SoundLock, Sound, Tally, shifts_one, other_popped}
use Rattle.dura_value.proofs.Basics.{some_same}

-- an instance, and the place
pub record Fits (id : Id) (o : Option Orchestration) (place : Place) : Type 0 where
  pub sits : Sits id o
  pub placed : Placed (section_of o) place
  pub settled : IsSettled (section_of o) (over_of o)

abbrev pub holders : (Id → Option Entity) → Id → Option Id
holders entities id = holder_of (entities id)

-- there are places that tally with the links and the holders and fit the instances
pub record Invariant (instances : Id → Option Orchestration) (entities : Id → Option Entity) (links : Id → Id → List Message) : Type 0 where
  pub places : Id → Place
  pub tally : Tally places links (holders entities)
  pub fits : (id : Id) → Fits id (instances id) (places id)

abbrev pub Keeps : World → Type 0
Keeps w = Invariant w.orchestrations w.entities w.links

-- ---- what a world has after it

-- a world with these instances, entities and links
pub record With (instances : Id → Option Orchestration) (entities : Id → Option Entity) (links : Id → Id → List Message) (w : World) : Type 0 where
  pub instances_are : w.orchestrations ≡ instances
  pub entities_are : w.entities ≡ entities
  pub links_are : w.links ≡ links

pub keeps_with : (instances : Id → Option Orchestration) (entities : Id → Option Entity) (links : Id → Id → List Message) (w : World) → With instances entities links w → Invariant instances entities links → Keeps w
keeps_with instances entities links w has invariant =
    subst (λ (i : Id → Option Orchestration). Invariant i w.entities w.links) (sym has.instances_are)
    (subst (λ (e : Id → Option Entity). Invariant instances e w.links) (sym has.entities_are)
    (subst (λ (l : Id → Id → List Message). Invariant instances entities l) (sym has.links_are) invariant))

pub sent_with : (w : World) (messages : List Message) → With w.orchestrations w.entities (pushed w.links messages) (sent w messages)
sent_with w [] = record { instances_are = refl; entities_are = refl; links_are = refl }
sent_with w (message ∷ messages) =
    let has = sent_with (record w { links = at_link w.links message.from message.to (w.links message.from message.to ++ message ∷ []) }) messages in
    record { instances_are = has.instances_are; entities_are = has.entities_are; links_are = has.links_are }

asked_with : (w : World) (id : Id) (asks : List Asked) → With w.orchestrations w.entities w.links (asked w id asks)
asked_with w id [] = record { instances_are = refl; entities_are = refl; links_are = refl }
asked_with w id (an_activity task name argument ∷ more) =
    let has = asked_with (record w { activities = at_number w.activities id task (Some (record { name = name; argument = argument })) }) id more in
    record { instances_are = has.instances_are; entities_are = has.entities_are; links_are = has.links_are }
asked_with w id (a_timer task due ∷ more) =
    let has = asked_with (record w { timers = at_number w.timers id task (Some due) }) id more in record { instances_are = has.instances_are; entities_are = has.entities_are; links_are = has.links_are }

given_with : (w : World) (id : Id) (gives : Bool) → With w.orchestrations w.entities w.links (given_up w id gives)
given_with w id false = record { instances_are = refl; entities_are = refl; links_are = refl }
given_with w id true = record { instances_are = refl; entities_are = refl; links_are = refl }

pub stands_with : (w : World) (id : Id) (e : Effect) → With (at_id w.orchestrations id e.instance) w.entities (pushed w.links e.sent) (stands_as w id e)
stands_with w id e =
    let v = record w { orchestrations = at_id w.orchestrations id e.instance } in
    let given = given_with v id e.gives_up in
    let asks = asked_with (given_up v id e.gives_up) id e.asked in
    let sends = sent_with (asked (given_up v id e.gives_up) id e.asked) e.sent in
    record {
      instances_are = sends.instances_are ∙ asks.instances_are ∙ given.instances_are;
      entities_are = sends.entities_are ∙ asks.entities_are ∙ given.entities_are;
      links_are = sends.links_are ∙ ap (λ (l : Id → Id → List Message). pushed l e.sent) (asks.links_are ∙ given.links_are);
    }

pub guarded : (test : Bool) (x y : World) → cond test (Some x) None ≡ Some y → (test ≡ true) × (x ≡ y)
guarded true x y is = (refl, some_same is)
guarded false x y is = absurd (cc is)

-- ---- an instance moves

pub instance_keeps : (instances : Id → Option Orchestration) (entities : Id → Option Entity) (links : Id → Id → List Message) (places : Id → Place) (id : Id) (section : Section) (over : Bool) (e : Effect) → is_instance id ≡ true
    → Tally places links (holders entities) → Placed section (places id) → ((other : Id) → id_eq id other ≡ false → Fits other (instances other) (places other)) → Behaves id section over e
    → Invariant (at_id instances id e.instance) entities (pushed links e.sent)
instance_keeps instances entities links places id section over e instance tally placed fits behaves =
    let kept = does_keeps id section (section_of e.instance) over (over_of e.instance) e.sent behaves.does places links (holders entities) instance placed tally in
    let shift = shifts_one id instances e.instance in
    record {
      places = kept.later;
      tally = kept.tally;
      fits = case_id id (λ other. Fits other (at_id instances id e.instance other) (kept.later other))
          (subst (λ (o : Option Orchestration). Fits id o (kept.later id)) (sym shift.here) (record { sits = behaves.sits; placed = kept.placed; settled = behaves.settled }))
          (λ other apart.
          subst (λ (o : Option Orchestration). Fits other o (kept.later other)) (sym (shift.there other apart)) (subst (λ (place : Place). Fits other (instances other) place) (sym (kept.apart other apart)) (fits other apart)));
    }

grant_section : (section : Section) (place : Place) (task : ℕ) (set : List Spot) (from : Id) → place ≡ granting task set from → Placed section place → section ≡ acquiring task set
grant_section outside place task set from is placed = let both : quiet [] ≡ granting task set from = sym placed ∙ is in absurd (cc both)
grant_section (inside held) place task set from is placed = let both : quiet held ≡ granting task set from = sym placed ∙ is in absurd (cc both)
grant_section (acquiring asked wanted) place task set from is placed =
    let parts : (task ≡ asked) × (set ≡ wanted) = subst (Placed (acquiring asked wanted)) is placed in let t = parts.0 in let s = parts.1 in cc (t, s)

-- ---- a message is delivered to an instance

module _ (flows : Flows) (w : World) (invariant : Keeps w) (from to : Id) (message : Message) (rest : List Message) (there : w.links from to ≡ message ∷ rest) where
  abbrev tally : Tally invariant.places w.links (holders w.entities)
  tally = invariant.tally

  abbrev places : Id → Place
  places = invariant.places

  abbrev popped : Id → Id → List Message
  popped = at_link w.links from to rest

  -- a lock and a release come to entities, a grant to an instance
  pub lock_place : (id : Id) (task : ℕ) (set : List Spot) (index : ℕ) → message.body ≡ lock id task set index → places id ≡ locking task set index from to
  lock_place id task set index is = lock_found id places w.links (holders w.entities) task set index from to message rest there (ap kind_of is) tally

  pub lock_sound : (id : Id) (task : ℕ) (set : List Spot) (index : ℕ) → message.body ≡ lock id task set index → SoundLock id set index from to
  lock_sound id task set index is = subst (Sound id) (lock_place id task set index is) (tally.sound id)

  pub lock_comes : (id : Id) (task : ℕ) (set : List Spot) (index : ℕ) → message.body ≡ lock id task set index → is_entity to ≡ true
  lock_comes id task set index is = entity_there set index to (lock_sound id task set index is).is_at

  pub release_comes : message.body ≡ release → is_entity to ≡ true
  release_comes is = (tally.holder to from (release_named from to places w.links (holders w.entities) message rest there (ap kind_of is) tally)).1

  grant_place : (task : ℕ) → message.body ≡ granted task → (set : List Spot) × (places to ≡ granting task set from)
  grant_place task is = grant_found to places w.links (holders w.entities) task from message rest there (ap kind_of is) tally

  pub grant_comes : (task : ℕ) → message.body ≡ granted task → is_instance to ≡ true
  grant_comes task is =
      let found = grant_place task is in let sound : (is_instance to ≡ true) × (_ ≡ true) = subst (Sound to) found.1 (tally.sound to) in sound.0

  pub other_tally : kind_of message.body ≡ is_other → Tally places popped (holders w.entities)
  other_tally is = other_popped places w.links (holders w.entities) from to message rest there is tally

  abbrev Arrived : (stamp : ℕ) → Body → Type 0
  Arrived stamp body =
      let e = to_instance flows (w.orchestrations to) from to stamp body in Invariant (at_id w.orchestrations to e.instance) w.entities (pushed popped e.sent)

  plain_arrives : (stamp : ℕ) (body : Body) → message.body ≡ body → kind_of body ≡ is_other → is_instance to ≡ true → Arrived stamp body
  plain_arrives stamp body is plain instance =
      let fits = invariant.fits to in
      instance_keeps w.orchestrations w.entities popped places to (section_of (w.orchestrations to)) (over_of (w.orchestrations to)) (to_instance flows (w.orchestrations to) from to stamp body) instance (other_tally (ap kind_of is ∙ plain)) fits.placed
      (λ other apart. invariant.fits other) (other_behaves flows to from (w.orchestrations to) stamp body instance fits.sits fits.settled plain)

  grant_arrives : (stamp : ℕ) (task : ℕ) (set : List Spot) (o : Option Orchestration) → message.body ≡ granted task → places to ≡ granting task set from → is_instance to ≡ true → Fits to o (places to)
      → Invariant (at_id w.orchestrations to (to_instance flows o from to stamp (granted task)).instance) w.entities (pushed popped (to_instance flows o from to stamp (granted task)).sent)
  grant_arrives stamp task set None is place instance fits = let both : quiet [] ≡ granting task set from = sym fits.placed ∙ place in absurd (cc both)
  grant_arrives stamp task set (Some o) is place instance fits =
      let later = at_id places to (quiet set) in
      let shift = shifts_one to places (quiet set) in
      instance_keeps w.orchestrations w.entities popped later to (inside set) (is_over o.machine.progress) (to_instance flows (Some o) from to stamp (granted task)) instance
      (grant_popped to places later w.links (holders w.entities) task set from message rest there (ap kind_of is) place shift tally) shift.here
      (λ other apart. subst (Fits other (w.orchestrations other)) (sym (shift.there other apart)) (invariant.fits other))
      (grant_behaves flows to from o task set stamp fits.sits (grant_section o.machine.section (places to) task set from place fits.placed))

  pub arrives : (stamp : ℕ) (body : Body) → message.body ≡ body → is_instance to ≡ true → Arrived stamp body
  arrives stamp (start argument reply) is instance = plain_arrives stamp (start argument reply) is refl instance
  arrives stamp (raise event value number) is instance = plain_arrives stamp (raise event value number) is refl instance
  arrives stamp (query number) is instance = plain_arrives stamp (query number) is refl instance
  arrives stamp (wait number) is instance = plain_arrives stamp (wait number) is refl instance
  arrives stamp (result reply answer) is instance = plain_arrives stamp (result reply answer) is refl instance
  arrives stamp (operate operation argument reply) is instance = plain_arrives stamp (operate operation argument reply) is refl instance
  arrives stamp (lock id task set index) is instance = absurd (not_both to instance (lock_comes id task set index is))
  arrives stamp (granted task) is instance = let found = grant_place task is in grant_arrives stamp task found.0 (w.orchestrations to) is found.1 instance (invariant.fits to)
  arrives stamp release is instance = absurd (not_both to instance (release_comes is))
