-- A message is delivered to an entity or a client.
use Rattle.std.proofs.Common.{◌≡◌, ℕ, zero, suc, true, false, List, [], ◌∷◌, ◌++◌, Option, Some, None, refl, sym, ap, subst, ◌∙◌}
use Rattle.dura_value.specs.declared.data.Value.{Value}
use Rattle.dura_value.specs.Ids.{Id, client}
use Rattle.dura_value.specs.Messages.{Reply, to_nobody, to_task, to_request, Answer, Spot, entity_at, Body, start, raise, query, wait, result, operate, lock, granted, release, Message}
use Rattle.flow_syntax.specs.Syntax.{Block, Flows, class_of}
use Rattle.flow_syntax.specs.Machine.{Section, outside, acquiring, inside}
use Rattle.flow_syntax.specs.Entity.{Entity, Delivered, takes, answering, operated, operation_of, lock_goes_on, deliver as deliver_to}
use Rattle.dura_model.specs.World.{World, at_link}
use Rattle.dura_value.specs.ById.{at_id}
use Rattle.dura_model.specs.Steps.{is_instance, entity_of, answered, to_client}
use Rattle.dura_model.specs.Legal.{holder_of}
use Rattle.run_laws.proofs.MessageKinds.{kind_of, is_other}
use Rattle.run_laws.proofs.Counts.{case_id}
use Rattle.run_laws.proofs.Does.{Plain}
use Rattle.run_laws.proofs.Effects.{section_of}
use Rattle.run_laws.proofs.Grants.{not_both, lock_free, taken, grant_pushed}
use Rattle.run_laws.proofs.Instances.{Placed, pushed}
use Rattle.run_laws.proofs.Keeps.{Fits, Invariant, Keeps, With, holders, lock_place, lock_sound, lock_comes, release_comes, grant_comes, other_tally}
use Rattle.run_laws.proofs.Moves.{lock_pushed, lock_popped}
use Rattle.run_laws.proofs.Releases.{release_popped}
use Rattle.run_laws.proofs.Tallies.{Place, quiet, locking, granting, first, is_entity, SoundLock, Tally, Shifts, shifts_one, shifts_then, other_pushed}

-- messages that have nothing to do with sections
pub plain_pushed : (id : Id) (messages : List Message) (places : Id → Place) (links : Id → Id → List Message) (holders : Id → Option Id) → Plain id messages → Tally places links holders → Tally places (pushed links messages) holders
plain_pushed id [] places links holders plain tally = tally
plain_pushed id (message ∷ messages) places links holders plain tally =
    plain_pushed id messages places (at_link links message.from message.to (links message.from message.to ++ message ∷ [])) holders plain.2 (other_pushed places links holders message.from message.to message plain.1 tally)

-- holders that are the same at each id
same_holders : (places : Id → Place) (links : Id → Id → List Message) (h now : Id → Option Id) → ((b : Id) → now b ≡ h b) → Tally places links h → Tally places links now
same_holders places links h now same tally = subst (Tally places links) (λ i b. sym (same b) i) tally

pub entity_holder : (flows : Flows) (class : List ℕ) (there : Option Entity) → (entity_of flows class there).holder ≡ holder_of there
entity_holder flows class None = refl
entity_holder flows class (Some e) = refl

-- ---- what an entity makes of a message that has nothing to do with sections

pub record Plainly (id : Id) (e : Entity) (d : Delivered) : Type 0 where
  pub holder : d.entity.holder ≡ e.holder
  pub plain : Plain id d.sent

answering_plain : (id to : Id) (reply : Reply) (answer : Answer) → Plain id (answering id to reply answer)
answering_plain id to to_nobody answer = tt
answering_plain id to (to_task number) answer = (refl, refl, tt)
answering_plain id to (to_request number) answer = (refl, refl, tt)

operated_plain : (e : Entity) (from to : Id) (argument : Value) (reply : Reply) (body : Option Block) → Plainly to e (operated e from to argument reply body)
operated_plain e from to argument reply None = record { holder = refl; plain = answering_plain to from reply _ }
operated_plain e from to argument reply (Some body) = record { holder = refl; plain = answering_plain to from reply _ }

delivered_plain : (flows : Flows) (e : Entity) (class : List ℕ) (from to : Id) (body : Body) → kind_of body ≡ is_other → Plainly to e (deliver_to flows e class from to body)
delivered_plain flows e class from to (operate operation argument reply) is = operated_plain e from to argument reply (operation_of (class_of flows class) operation)
delivered_plain flows e class from to (query number) is = record { holder = refl; plain = (refl, refl, tt) }
delivered_plain flows e class from to (start argument reply) is = record { holder = refl; plain = tt }
delivered_plain flows e class from to (raise event value number) is = record { holder = refl; plain = tt }
delivered_plain flows e class from to (wait number) is = record { holder = refl; plain = tt }
delivered_plain flows e class from to (result reply answer) is = record { holder = refl; plain = tt }
delivered_plain flows e class from to (lock id task set index) is = absurd (cc is)
delivered_plain flows e class from to (granted task) is = absurd (cc is)
delivered_plain flows e class from to release is = absurd (cc is)

-- ---- a lock

-- behind the last entity of a set all are counted
first_all : (set : List Spot) (count : ℕ) → entity_at set count ≡ None → first count set ≡ set
first_all [] zero is = refl
first_all [] (suc count) is = refl
first_all (spot ∷ set) zero is = absurd (cc is)
first_all (spot ∷ set) (suc count) is = ap (λ (rest : List Spot). spot ∷ rest) (first_all set count is)

-- a lock's place goes with the section at each index, and so does the grant's
placed_on : (section : Section) (task : ℕ) (set : List Spot) (index : ℕ) (from at : Id) (place : Place) → place ≡ locking task set index from at → Placed section place
    → ((other : ℕ) (a b : Id) → Placed section (locking task set other a b)) × ((a : Id) → Placed section (granting task set a))
placed_on outside task set index from at place is placed = let both : quiet [] ≡ locking task set index from at = sym placed ∙ is in absurd (cc both)
placed_on (inside held) task set index from at place is placed = let both : quiet held ≡ locking task set index from at = sym placed ∙ is in absurd (cc both)
placed_on (acquiring asked wanted) task set index from at place is placed = let same : (task ≡ asked) × (set ≡ wanted) = subst (Placed (acquiring asked wanted)) is placed in (λ other a b. same, λ a. same)

module _ (flows : Flows) (w : World) (invariant : Keeps w) (from to : Id) (message : Message) (rest : List Message) (there : w.links from to ≡ message ∷ rest) where
  abbrev places : Id → Place
  places = invariant.places

  abbrev popped : Id → Id → List Message
  popped = at_link w.links from to rest

  abbrev with_entity : Entity → Id → Option Entity
  with_entity e = at_id w.entities to (Some e)

  entity_shift : (e : Entity) → Shifts to (holders w.entities) (holders (with_entity e)) e.holder
  entity_shift e = let shift = shifts_one to w.entities (Some e) in record { here = ap holder_of shift.here; there = λ id apart. ap holder_of (shift.there id apart) }

  plain_reaches : (class : List ℕ) (e : Entity) (body : Body) → message.body ≡ body → kind_of body ≡ is_other → e.holder ≡ holder_of (w.entities to)
      → Invariant w.orchestrations (with_entity (deliver_to flows e class from to body).entity) (pushed popped (deliver_to flows e class from to body).sent)
  plain_reaches class e body is plain same =
      let d = deliver_to flows e class from to body in
      let plainly = delivered_plain flows e class from to body plain in
      let shift = entity_shift d.entity in
      record {
        places = places;
        tally = plain_pushed to d.sent places popped (holders (with_entity d.entity)) plainly.plain
            (same_holders places popped (holders w.entities) (holders (with_entity d.entity)) (case_id to (λ b. holders (with_entity d.entity) b ≡ holders w.entities b) (shift.here ∙ plainly.holder ∙ same) shift.there)
            (other_tally flows w invariant from to message rest there (ap kind_of is ∙ plain)));
        fits = invariant.fits;
      }

  release_reaches : (class : List ℕ) (e : Entity) → message.body ≡ release → Invariant w.orchestrations (with_entity (deliver_to flows e class from to release).entity) popped
  release_reaches class e is =
      let d = deliver_to flows e class from to release in
      record {
        places = places;
        tally = release_popped from to places w.links (holders w.entities) (holders (with_entity d.entity)) message rest there (ap kind_of is) (entity_shift d.entity) invariant.tally;
        fits = invariant.fits;
      }

  -- the lock is taken, and the next message is sent: to the next entity, or to the instance
  goes_further : (id : Id) (task : ℕ) (set : List Spot) (index : ℕ) (now : Id → Option Id) (middle : Id → Place) → is_entity to ≡ true → SoundLock id set index from to → middle id ≡ quiet (first (suc index) set) → Tally middle popped now → (next : Option Id)
      → entity_at set (suc index) ≡ next → (place : Place) × (Tally (at_id middle id place) (pushed popped (lock_goes_on to id task set (suc index) next ∷ [])) now)
      × ((section : Section) → ((other : ℕ) (a b : Id) → Placed section (locking task set other a b)) → ((a : Id) → Placed section (granting task set a)) → Placed section place)
  goes_further id task set index now middle is_one sound is tally (Some next) more =
      let place = locking task set (suc index) to next in
      let message : Message = record { from = to; to = next; body = lock id task set (suc index) } in (
        place,
        lock_pushed id middle (at_id middle id place) popped now task set (suc index) to next message refl is (shifts_one id middle place) (record { instance = sound.instance; rising = sound.rising; is_at = more; sender = is_one }) tally,
        λ section locks grants. locks (suc index) to next,
      )
  goes_further id task set index now middle is_one sound is tally None more =
      let place = granting task set to in
      let message : Message = record { from = to; to = id; body = granted task } in (
        place,
        grant_pushed id middle (at_id middle id place) popped now task set to message refl (is ∙ ap quiet (first_all set (suc index) more)) (shifts_one id middle place) sound.instance sound.rising tally,
        λ section locks grants. grants to,
      )

  lock_reaches : (class : List ℕ) (e : Entity) (id : Id) (task : ℕ) (set : List Spot) (index : ℕ) → message.body ≡ lock id task set index → e.holder ≡ holder_of (w.entities to) → takes e.holder from ≡ true
      → Invariant w.orchestrations (with_entity (deliver_to flows e class from to (lock id task set index)).entity) (pushed popped (deliver_to flows e class from to (lock id task set index)).sent)
  lock_reaches class e id task set index is same lets =
      let d = deliver_to flows e class from to (lock id task set index) in
      let place = lock_place flows w invariant from to message rest there id task set index is in
      let sound = lock_sound flows w invariant from to message rest there id task set index is in
      let free = lock_free id from to places w.links (holders w.entities) task set index message rest there (ap kind_of is) place sound.sender invariant.tally e.holder (sym same) lets in
      let now = holders (with_entity d.entity) in
      let before = quiet (first index set) in
      let after = quiet (first (suc index) set) in
      let one = at_id places id before in
      let shift_one = shifts_one id places before in
      let two = at_id one id after in
      let shift_two = shifts_one id one after in
      let left = lock_popped id places one w.links (holders w.entities) task set index from to message rest there (ap kind_of is) place shift_one invariant.tally in
      let had = taken id to one two popped (holders w.entities) now set index sound.instance sound.is_at shift_one.here shift_two free (entity_shift d.entity) left in
      let further = goes_further id task set index now two (lock_comes flows w invariant from to message rest there id task set index is) sound shift_two.here had (entity_at set (suc index)) refl in
      let shift = shifts_then id places one (at_id two id further.0) before further.0 shift_one (shifts_then id one two (at_id two id further.0) after further.0 shift_two (shifts_one id two further.0)) in
      record {
        places = at_id two id further.0;
        tally = further.1;
        fits = case_id id (λ other. Fits other (w.orchestrations other) (at_id two id further.0 other))
            (let fits = invariant.fits id in
            let on = placed_on (section_of (w.orchestrations id)) task set index from to (places id) place fits.placed in
            subst (Fits id (w.orchestrations id)) (sym shift.here) (record { sits = fits.sits; placed = further.2 (section_of (w.orchestrations id)) on.0 on.1; settled = fits.settled }))
            (λ other apart. subst (Fits other (w.orchestrations other)) (sym (shift.there other apart)) (invariant.fits other));
      }

  pub reaches : (class : List ℕ) (e : Entity) (body : Body) → message.body ≡ body → is_entity to ≡ true → e.holder ≡ holder_of (w.entities to) → takes e.holder from ≡ true
      → Invariant w.orchestrations (with_entity (deliver_to flows e class from to body).entity) (pushed popped (deliver_to flows e class from to body).sent)
  reaches class e (start argument reply) is is_one same lets = plain_reaches class e (start argument reply) is refl same
  reaches class e (raise event value number) is is_one same lets = plain_reaches class e (raise event value number) is refl same
  reaches class e (query number) is is_one same lets = plain_reaches class e (query number) is refl same
  reaches class e (wait number) is is_one same lets = plain_reaches class e (wait number) is refl same
  reaches class e (result reply answer) is is_one same lets = plain_reaches class e (result reply answer) is refl same
  reaches class e (operate operation argument reply) is is_one same lets = plain_reaches class e (operate operation argument reply) is refl same
  reaches class e (lock id task set index) is is_one same lets = lock_reaches class e id task set index is same lets
  reaches class e (granted task) is is_one same lets = absurd (not_both to (grant_comes flows w invariant from to message rest there task is) is_one)
  reaches class e release is is_one same lets = release_reaches class e is

  -- ---- a client

  not_client : (name : List ℕ) → to ≡ client name → is_entity to ≡ true → ⊥
  not_client name same is = let none : false ≡ true = ap is_entity (sym same) ∙ is in cc none

  no_instance : (name : List ℕ) → to ≡ client name → is_instance to ≡ true → ⊥
  no_instance name same is = let none : false ≡ true = ap is_instance (sym same) ∙ is in cc none

  pub client_told : (name : List ℕ) (body : Body) → to ≡ client name → message.body ≡ body → Invariant w.orchestrations w.entities popped
  client_told name body same is = record { places = places; tally = other_tally flows w invariant from to message rest there (ap kind_of is ∙ by body is); fits = invariant.fits }
    where
      by : (body : Body) → message.body ≡ body → kind_of body ≡ is_other
      by (start argument reply) is = refl
      by (raise event value number) is = refl
      by (query number) is = refl
      by (wait number) is = refl
      by (result reply answer) is = refl
      by (operate operation argument reply) is = refl
      by (lock id task set index) is = absurd (not_client name same (lock_comes flows w invariant from to message rest there id task set index is))
      by (granted task) is = absurd (no_instance name same (grant_comes flows w invariant from to message rest there task is))
      by release is = absurd (not_client name same (release_comes flows w invariant from to message rest there is))

answered_with : (w : World) (to : Id) (number : ℕ) (answer : Answer) (before : Option Message) → With w.orchestrations w.entities w.links (answered w to number answer before)
answered_with w to number answer None = record { instances_are = refl; entities_are = refl; links_are = refl }
answered_with w to number answer (Some message) = record { instances_are = refl; entities_are = refl; links_are = refl }

pub client_with : (w : World) (to : Id) (body : Body) → With w.orchestrations w.entities w.links (to_client w to body)
client_with w to (result (to_request number) answer) = answered_with w to number answer (w.taken to number)
client_with w to (result to_nobody answer) = record { instances_are = refl; entities_are = refl; links_are = refl }
client_with w to (result (to_task number) answer) = record { instances_are = refl; entities_are = refl; links_are = refl }
client_with w to (start argument reply) = record { instances_are = refl; entities_are = refl; links_are = refl }
client_with w to (raise event value number) = record { instances_are = refl; entities_are = refl; links_are = refl }
client_with w to (query number) = record { instances_are = refl; entities_are = refl; links_are = refl }
client_with w to (wait number) = record { instances_are = refl; entities_are = refl; links_are = refl }
client_with w to (operate operation argument reply) = record { instances_are = refl; entities_are = refl; links_are = refl }
client_with w to (lock id task set index) = record { instances_are = refl; entities_are = refl; links_are = refl }
client_with w to (granted task) = record { instances_are = refl; entities_are = refl; links_are = refl }
client_with w to release = record { instances_are = refl; entities_are = refl; links_are = refl }
