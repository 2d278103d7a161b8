-- What an instance may do.
use Rattle.std.proofs.Common.{◌≡◌, ℕ, zero, Bool, true, false, List, [], ◌∷◌, ◌++◌, Some, refl, sym, subst, append_assoc}
use Rattle.dura_value.specs.Ids.{Id}
use Rattle.dura_value.specs.Messages.{Spot, entity_at, lock, Message}
use Rattle.flow_syntax.specs.Machine.{Section, outside, acquiring, inside, releasing}
use Rattle.run_laws.proofs.MessageKinds.{kind_of, is_other}
use Rattle.run_laws.proofs.Sets.{is_rising}

abbrev pub is_inside : Section → Bool
is_inside (inside set) = true
is_inside other = false

-- whoever has ended isn't inside
abbrev pub IsSettled : Section → Bool → Type 0
IsSettled (inside set) over = over ≡ false
IsSettled other over = Unit {0}

-- From this section on, ended or not, an instance sends these messages and comes to that section, ended or not: it stays;
-- it sends what has nothing to do with sections; it sends the lock of a set; it waits for an empty set; it gives its set
-- back; it ends.
pub data Does (id : Id) : Section → Bool → List Message → Section → Bool → Type 0 where
  rests : {section : Section} {over : Bool} → Does id section over [] section over
  sends : {section later : Section} {over ended : Bool} {messages : List Message} (message : Message) → message.from ≡ id → kind_of message.body ≡ is_other → Does id section over messages later ended → Does id section over (message ∷ messages) later ended
  enters : {later : Section} {over ended : Bool} {messages : List Message} (task : ℕ) (set : List Spot) (at : Id) → is_rising set ≡ true → entity_at set zero ≡ Some at → Does id (acquiring task set) over messages later ended
      → Does id outside over (record { from = id; to = at; body = lock id task set zero } ∷ messages) later ended
  stalls : {later : Section} {over ended : Bool} {messages : List Message} (task : ℕ) → Does id (acquiring task []) over messages later ended → Does id outside over messages later ended
  leaves : {later : Section} {over ended : Bool} {messages : List Message} (set : List Spot) → Does id outside over messages later ended → Does id (inside set) over (releasing id set ++ messages) later ended
  ends : {section later : Section} {over ended : Bool} {messages : List Message} → is_inside section ≡ false → Does id section true messages later ended → Does id section over messages later ended

-- all of these are from the instance and have nothing to do with sections
abbrev pub Plain : Id → List Message → Type 0
Plain id [] = Unit {0}
Plain id (message ∷ messages) = (message.from ≡ id) × (kind_of message.body ≡ is_other) × Plain id messages

pub plain_does : (id : Id) (before messages : List Message) (section later : Section) (over ended : Bool) → Plain id before → Does id section over messages later ended → Does id section over (before ++ messages) later ended
plain_does id [] messages section later over ended plain does = does
plain_does id (message ∷ before) messages section later over ended plain does = sends message plain.0 plain.1 (plain_does id before messages section later over ended plain.2 does)

-- one after the other
pub does_then : (id : Id) (section middle later : Section) (over between ended : Bool) (messages more : List Message) → Does id section over messages middle between → Does id middle between more later ended
    → Does id section over (messages ++ more) later ended
does_then id section middle later over between ended messages more rests does = does
does_then id section middle later over between ended messages more (sends {messages = rest} message is other first) does = sends message is other (does_then id section middle later over between ended rest more first does)
does_then id section middle later over between ended messages more (enters {messages = rest} task set at rising is first) does = enters task set at rising is (does_then id (acquiring task set) middle later over between ended rest more first does)
does_then id section middle later over between ended messages more (stalls {messages = rest} task first) does = stalls task (does_then id (acquiring task []) middle later over between ended rest more first does)
does_then id section middle later over between ended messages more (leaves {messages = rest} set first) does =
    subst (λ (all : List Message). Does id (inside set) over all later ended) (sym (append_assoc (releasing id set) rest more)) (leaves set (does_then id outside middle later over between ended rest more first does))
does_then id section middle later over between ended messages more (ends {messages = rest} apart first) does = ends apart (does_then id section middle later true between ended rest more first does)

pub not_inside_settled : (section : Section) (over : Bool) → is_inside section ≡ false → IsSettled section over
not_inside_settled outside over is = tt
not_inside_settled (acquiring task set) over is = tt
not_inside_settled (inside set) over is = absurd (cc is)

pub not_over_settled : (section : Section) → IsSettled section false
not_over_settled outside = tt
not_over_settled (acquiring task set) = tt
not_over_settled (inside set) = refl

pub does_settled : (id : Id) (section later : Section) (over ended : Bool) (messages : List Message) → Does id section over messages later ended → IsSettled section over → IsSettled later ended
does_settled id section later over ended messages rests settled = settled
does_settled id section later over ended messages (sends {messages = rest} message is other does) settled = does_settled id section later over ended rest does settled
does_settled id section later over ended messages (enters {messages = rest} task set at rising is does) settled = does_settled id (acquiring task set) later over ended rest does tt
does_settled id section later over ended messages (stalls {messages = rest} task does) settled = does_settled id (acquiring task []) later over ended rest does tt
does_settled id section later over ended messages (leaves {messages = rest} set does) settled = does_settled id outside later over ended rest does tt
does_settled id section later over ended messages (ends {messages = rest} apart does) settled = does_settled id section later true ended rest does (not_inside_settled section true apart)
