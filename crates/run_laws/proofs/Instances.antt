-- What an instance does keeps the tally.
use Rattle.std.proofs.Common.{◌≡◌, zero, Bool, true, false, List, [], ◌∷◌, ◌++◌, Option, refl, sym, subst, ◌∙◌}
use Rattle.dura_value.specs.Ids.{Id, id_eq}
use Rattle.dura_value.specs.Messages.{Spot, at_spot, lock, release, Message}
use Rattle.flow_syntax.specs.Machine.{Section, outside, acquiring, inside, releasing}
use Rattle.dura_model.specs.World.{at_link}
use Rattle.dura_value.specs.ById.{at_id}
use Rattle.dura_model.specs.Steps.{is_instance}
use Rattle.run_laws.proofs.Does.{Does, rests, sends, enters, stalls, leaves, ends}
use Rattle.run_laws.proofs.Moves.{lock_pushed}
use Rattle.run_laws.proofs.Releases.{release_pushed}
use Rattle.run_laws.proofs.Tallies.{Place, quiet, locking, granting, Tally, Shifts, shifts_one, other_pushed}

-- a machine's section, and the place; an empty set that is waited for has no lock under way
abbrev pub Placed : Section → Place → Type 0
Placed outside place = place ≡ quiet []
Placed (inside set) place = place ≡ quiet set
Placed (acquiring task set) (quiet held) = (held ≡ []) × (set ≡ [])
Placed (acquiring task set) (locking asked wanted index from at) = (asked ≡ task) × (wanted ≡ set)
Placed (acquiring task set) (granting asked wanted from) = (asked ≡ task) × (wanted ≡ set)

-- messages join the ends of their links
abbrev pub pushed : (Id → Id → List Message) → List Message → Id → Id → List Message
pushed links [] = links
pushed links (message ∷ messages) = pushed (at_link links message.from message.to (links message.from message.to ++ message ∷ [])) messages

-- Another place for this id alone, with which the tally is right and this section goes.
pub record Kept (id : Id) (places : Id → Place) (links : Id → Id → List Message) (holders : Id → Option Id) (section : Section) : Type 0 where
  pub later : Id → Place
  pub apart : (other : Id) → id_eq id other ≡ false → later other ≡ places other
  pub tally : Tally later links holders
  pub placed : Placed section (later id)

-- from another place on
kept_from : (id : Id) (places later : Id → Place) (place : Place) (links : Id → Id → List Message) (holders : Id → Option Id) (section : Section) → Shifts id places later place → Kept id later links holders section → Kept id places links holders section
kept_from id places later place links holders section shift kept =
    record { later = kept.later; apart = λ other apart. kept.apart other apart ∙ shift.there other apart; tally = kept.tally; placed = kept.placed }

leaving_keeps : (id : Id) (set : List Spot) (messages : List Message) (section : Section) (places : Id → Place) (links : Id → Id → List Message) (holders : Id → Option Id) → places id ≡ quiet set → Tally places links holders
    → ((p : Id → Place) (l : Id → Id → List Message) → p id ≡ quiet [] → Tally p l holders → Kept id p (pushed l messages) holders section)
    → Kept id places (pushed links (releasing id set ++ messages)) holders section
leaving_keeps id [] messages section places links holders is tally after = after places links is tally
leaving_keeps id (spot ∷ set) messages section places links holders is tally after =
    let later = at_id places id (quiet set) in
    let shift = shifts_one id places (quiet set) in
    let message : Message = record { from = id; to = at_spot spot; body = release } in
    kept_from id places later (quiet set) (pushed links (releasing id (spot ∷ set) ++ messages)) holders section shift
    (leaving_keeps id set messages section later (at_link links id (at_spot spot) (links id (at_spot spot) ++ message ∷ [])) holders shift.here (release_pushed id places later links holders spot set message refl is shift tally) after)

pub does_keeps : (id : Id) (section end : Section) (over ended : Bool) (messages : List Message) → Does id section over messages end ended → (places : Id → Place) (links : Id → Id → List Message) (holders : Id → Option Id) → is_instance id ≡ true
    → Placed section (places id) → Tally places links holders → Kept id places (pushed links messages) holders end
does_keeps id section end over ended messages rests places links holders instance placed tally = record { later = places; apart = λ other apart. refl; tally = tally; placed = placed }
does_keeps id section end over ended messages (sends {messages = rest} message from other does) places links holders instance placed tally =
    does_keeps id section end over ended rest does places (at_link links message.from message.to (links message.from message.to ++ message ∷ [])) holders instance placed
    (other_pushed places links holders message.from message.to message other tally)
does_keeps id section end over ended messages (enters {messages = rest} task set at rising there does) places links holders instance placed tally =
    let place = locking task set zero id at in
    let later = at_id places id place in
    let shift = shifts_one id places place in
    let message : Message = record { from = id; to = at; body = lock id task set zero } in
    kept_from id places later place (pushed links (message ∷ rest)) holders end shift
    (does_keeps id (acquiring task set) end over ended rest does later (at_link links id at (links id at ++ message ∷ [])) holders instance (subst (Placed (acquiring task set)) (sym shift.here) (refl, refl))
    (lock_pushed id places later links holders task set zero id at message refl placed shift (record { instance = instance; rising = rising; is_at = there; sender = refl }) tally))
does_keeps id section end over ended messages (stalls {messages = rest} task does) places links holders instance placed tally =
    does_keeps id (acquiring task []) end over ended rest does places links holders instance (subst (Placed (acquiring task [])) (sym placed) (refl, refl)) tally
does_keeps id section end over ended messages (leaves {messages = rest} set does) places links holders instance placed tally =
    leaving_keeps id set rest end places links holders placed tally (λ p l is tally. does_keeps id outside end over ended rest does p l holders instance is tally)
does_keeps id section end over ended messages (ends {messages = rest} apart does) places links holders instance placed tally =
    does_keeps id section end true ended rest does places links holders instance placed tally
