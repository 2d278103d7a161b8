-- Room for messages, while it is made and while it is used.
use Rattle.std.proofs.Common.{◌≡◌, ◌≢◌, inl, inr, ℕ, suc, ◌+◌, ◌==◌, ◌<◌, ◌≤◌, Bool, true, false, cond, List, [], ◌∷◌, ◌++◌, length, get_or, Some, Result, Ok, Err, OnOk, refl, sym, ◌∙◌, ap, subst, arith}
use Rattle.std.specs.List.{slice_get}
use Rattle.std.specs.Result.{is_err}
use Rattle.std.specs.VecDeque.{deque_len, deque_capacity}
use Rattle.std.proofs.Math.ListN.{set}
use Rattle.std.proofs.lemmas.Bool.{cases_eq}
use Rattle.std.proofs.lemmas.List.{length-set, get_or-set_same, get_or-set_other}
use Rattle.std.proofs.lemmas.Option.{slice_get-get_or, slice_get_within, get_or_from_slice_get}
use Rattle.commit_gate.specs.declared.ledger.Stream.{Stream}
use Rattle.commit_gate.specs.Room.{count_to, HaveRoom}
use Rattle.log_items.specs.Streams.{Sent}

-- one that goes there, and one that doesn't
pub counted : (target : ℕ) (one : Sent) (more : List Sent) → one.to ≡ target → count_to target (one ∷ more) ≡ suc (count_to target more)
counted target one more is = subst (λ (k : ℕ). cond (one.to == k) (suc (count_to target more)) (count_to target more) ≡ suc (count_to target more)) is (let same : (one.to == one.to) ≡ true = grind arith in ap (λ (b : Bool). cond b (suc (count_to target more)) (count_to target more)) same)

passed_by : (target : ℕ) (one : Sent) (more : List Sent) (test : Bool) → (one.to == target) ≡ test → one.to ≢ target → cond test (suc (count_to target more)) (count_to target more) ≡ count_to target more
passed_by target one more true is apart = absurd (apart (grind (arith, is)))
passed_by target one more false is apart = refl

pub passed : (target : ℕ) (one : Sent) (more : List Sent) → one.to ≢ target → count_to target (one ∷ more) ≡ count_to target more
passed target one more apart = passed_by target one more (one.to == target) refl apart

plus : (test : Bool) (a b : ℕ) → cond test (suc (a + b)) (a + b) ≡ cond test (suc a) a + b
plus true a b = omega arith
plus false a b = refl

pub count_append : (target : ℕ) (a b : List Sent) → count_to target (a ++ b) ≡ count_to target a + count_to target b
count_append target [] b = omega arith
count_append target (one ∷ a) b =
    ap (λ (n : ℕ). cond (one.to == target) (suc n) n) (count_append target a b) ∙ plus (one.to == target) (count_to target a) (count_to target b)

-- where there is room for these, there is for the first
pub room_for : (boxes : List Stream) (one : Sent) (more : List Sent) (now : Stream) → one.to < length boxes → now ≡ get_or boxes one.to now → HaveRoom boxes (one ∷ more) → deque_len now.messages + suc (count_to one.to more) ≤ deque_capacity now.messages
room_for boxes one more now low is room =
    let at : slice_get boxes one.to ≡ Some now = slice_get-get_or boxes one.to now low ∙ ap (λ (s : Stream). Some s) (sym is) in
    subst (λ (n : ℕ). deque_len now.messages + n ≤ deque_capacity now.messages) (counted one.to one more refl) (room one.to now at)

-- and once it is there, for the others
pub room_left : (boxes : List Stream) (one : Sent) (more : List Sent) (now then : Stream) → one.to < length boxes → now ≡ get_or boxes one.to now → deque_len then.messages ≡ deque_len now.messages + 1 → deque_capacity then.messages ≡ deque_capacity now.messages
    → HaveRoom boxes (one ∷ more) → HaveRoom (set boxes one.to then) more
room_left boxes one more now then low is longer same room target stream at = elim (cases_eq target one.to) [
  | inl here ↦
      let this : then ≡ stream = sym (get_or-set_same boxes one.to then then low) ∙ ap (λ (k : ℕ). get_or (set boxes one.to then) k then) (sym here) ∙ get_or_from_slice_get (set boxes one.to then) target stream then at in
      let enough = room_for boxes one more now low is room in
      let fits : deque_len then.messages + count_to one.to more ≤ deque_capacity then.messages = omega (arith, enough, longer, same) in
      subst (λ (k : ℕ). deque_len stream.messages + count_to k more ≤ deque_capacity stream.messages) (sym here)
      (subst (λ (s : Stream). deque_len s.messages + count_to one.to more ≤ deque_capacity s.messages) this fits)
  | inr apart ↦
      let within : target < length boxes = subst (λ (n : ℕ). target < n) (length-set boxes one.to then) (slice_get_within (set boxes one.to then) target stream at) in
      let before : slice_get boxes target ≡ Some stream =
      slice_get-get_or boxes target stream within ∙ ap (λ (s : Stream). Some s) (sym (get_or-set_other boxes one.to target then stream apart) ∙ get_or_from_slice_get (set boxes one.to then) target stream stream at) in
      subst (λ (n : ℕ). deque_len stream.messages + n ≤ deque_capacity stream.messages) (passed target one more (λ is. apart (sym is))) (room target stream before)
]

-- the first so many have room, and one more
pub room_more : (boxes : List Stream) (i : ℕ) (then : Stream) (sent : List Sent) → i < length boxes → deque_len then.messages + count_to i sent ≤ deque_capacity then.messages
    → ((target : ℕ) (stream : Stream) → target < i → slice_get boxes target ≡ Some stream → deque_len stream.messages + count_to target sent ≤ deque_capacity stream.messages)
    → (target : ℕ) (stream : Stream) → target < i + 1 → slice_get (set boxes i then) target ≡ Some stream → deque_len stream.messages + count_to target sent ≤ deque_capacity stream.messages
room_more boxes i then sent low fits below target stream under at = elim (cases_eq target i) [
  | inl here ↦
      let this : then ≡ stream = sym (get_or-set_same boxes i then then low) ∙ ap (λ (k : ℕ). get_or (set boxes i then) k then) (sym here) ∙ get_or_from_slice_get (set boxes i then) target stream then at in
      subst (λ (k : ℕ). deque_len stream.messages + count_to k sent ≤ deque_capacity stream.messages) (sym here)
      (subst (λ (s : Stream). deque_len s.messages + count_to i sent ≤ deque_capacity s.messages) this fits)
  | inr apart ↦
      let within : target < length boxes = subst (λ (n : ℕ). target < n) (length-set boxes i then) (slice_get_within (set boxes i then) target stream at) in
      let before : slice_get boxes target ≡ Some stream =
      slice_get-get_or boxes target stream within ∙ ap (λ (s : Stream). Some s) (sym (get_or-set_other boxes i target then stream apart) ∙ get_or_from_slice_get (set boxes i then) target stream stream at) in
      below target stream (omega (arith, under, apart)) before
]

-- what an answer says that is no Err
pub ok_here : {T E : Type 0} (r : Result T E) (P : Type 0) {told : Bool} → told ≡ false → told ≡ is_err r → OnOk r P → P
ok_here (Ok x) P fell is holds = holds
ok_here (Err e) P fell is holds = absurd (cc (fell, is))
