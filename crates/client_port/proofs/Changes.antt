-- Where a client's queue stands, and what a change of it makes of all.
use Rattle.std.proofs.Common.{◌≡◌, ℕ, suc, ◌+◌, ◌-◌, ◌≤◌, List, [], ◌∷◌, ◌++◌, get_or, true, false, Bool, cond, Option, Some, None, refl, ap, sym, ◌∙◌, arith}
use Rattle.std.specs.Prelude.{map, fold, ◌||◌}
use Rattle.std.specs.List.{position_from, list_any}
use Rattle.std.specs.Str.{bytes_eq}
use Rattle.std.proofs.Math.ListN.{set}
use Rattle.std.proofs.lemmas.List.{map-append}
use Rattle.std.proofs.lemmas.List.Sums.{fold-append}
use Rattle.std.specs.declared.alloc.Global.{Global}
use Rattle.std.specs.declared.vec.Vec.{Vec}
use Rattle.dura_value.specs.declared.messages.Request.{Request as OwnRequest}
use Rattle.request_reader.specs.Line.{Request, request_of}
use Rattle.client_port.specs.Ports.{Queue, is_of, at_client, due_of, first_due, with_last, with_request}
use Rattle.client_port.specs.Views.{queue_of}
use Rattle.client_port.specs.declared.queues.Queue.{Queue as OwnQueue}
use Rattle.dura_value.proofs.Basics.{position_low}

-- ---- a change

change_by : (f : Queue → Queue) (name : List ℕ) (h x y : OwnQueue) (xs : List OwnQueue) (k i : ℕ) (b : Bool) → bytes_eq h.client name ≡ b → cond b (Some k) (position_from (is_of name) (k + 1) (map queue_of xs)) ≡ Some i → x ≡ get_or (h ∷ xs) (i - k) x → queue_of y ≡ f (queue_of x)
    → (k + 1 ≤ i → position_from (is_of name) (k + 1) (map queue_of xs) ≡ Some i → x ≡ get_or xs (i - (k + 1)) x → map queue_of (set xs (i - (k + 1)) y) ≡ at_client f name (map queue_of xs))
    → map queue_of (set (h ∷ xs) (i - k) y) ≡ cond b (f (queue_of h) ∷ map queue_of xs) (queue_of h ∷ at_client f name (map queue_of xs))
change_by f name h x y xs k i true test at is same rest =
    let first : i - k ≡ 0 = (let equal : k ≡ i = cc in omega arith) in
    let head : x ≡ h = rw first at is in
    rw first (ap (λ q. q ∷ map queue_of xs) (same ∙ rw head refl))
change_by f name h x y xs k i false test at is same rest =
    let above : k + 1 ≤ i = position_low (is_of name) (k + 1) i (map queue_of xs) at in
    let further : i - k ≡ suc (i - (k + 1)) = omega arith in
    rw further (ap (λ qs. queue_of h ∷ qs) (rest above at (rw further at is)))

changed_from : (f : Queue → Queue) (name : List ℕ) (k i : ℕ) (xs : List OwnQueue) (x y : OwnQueue) → position_from (is_of name) k (map queue_of xs) ≡ Some i → x ≡ get_or xs (i - k) x → queue_of y ≡ f (queue_of x) → map queue_of (set xs (i - k) y) ≡ at_client f name (map queue_of xs)
changed_from f name k i [] x y at is same = absurd (cc at)
changed_from f name k i (h ∷ xs) x y at is same = change_by f name h x y xs k i (bytes_eq h.client name) refl at is same (λ above found item. changed_from f name (k + 1) i xs x y found item same)

-- the queue at the client's place was changed
pub changed : (f : Queue → Queue) (name : List ℕ) (i : ℕ) (xs : List OwnQueue) (x y : OwnQueue) → Some i ≡ position_from (is_of name) 0 (map queue_of xs) → x ≡ get_or xs i x → queue_of y ≡ f (queue_of x) → map queue_of (set xs i y) ≡ at_client f name (map queue_of xs)
changed f name i xs x y at is same =
    let first : i ≡ i - 0 = omega arith in
    rw first (changed_from f name 0 i xs x y (sym at) (rw first at is) same)

-- ---- requests

none_by : {X : Type 0} (b c : Bool) (k : X) (o : Option X) → (o ≡ None → c ≡ false) → cond b (Some k) o ≡ None → b || c ≡ false
none_by true c k o rest is = absurd (cc is)
none_by false c k o rest is = rest is

some_by : {X : Type 0} (b c : Bool) (k i : X) (o : Option X) → (o ≡ Some i → c ≡ true) → cond b (Some k) o ≡ Some i → b || c ≡ true
some_by true c k i o rest is = refl
some_by false c k i o rest is = rest is

pub nowhere_any : {X : Type 0} (p : X → Bool) (k : ℕ) (xs : List X) → position_from p k xs ≡ None → list_any p xs ≡ false
nowhere_any p k [] at = refl
nowhere_any p k (x ∷ xs) at = none_by (p x) (list_any p xs) k (position_from p (k + 1) xs) (nowhere_any p (k + 1) xs) at

pub somewhere_any : {X : Type 0} (p : X → Bool) (k i : ℕ) (xs : List X) → position_from p k xs ≡ Some i → list_any p xs ≡ true
somewhere_any p k i [] at = absurd (cc at)
somewhere_any p k i (x ∷ xs) at = some_by (p x) (list_any p xs) k i (position_from p (k + 1) xs) (somewhere_any p (k + 1) i xs) at

pub joined : (r : Request) (i : ℕ) (xs : List OwnQueue) (x y : OwnQueue) → Some i ≡ position_from (is_of r.client) 0 (map queue_of xs) → x ≡ get_or xs i x → queue_of y ≡ with_last r (queue_of x) → map queue_of (set xs i y) ≡ with_request (map queue_of xs) r
joined r i xs x y at is same = changed (with_last r) r.client i xs x y at is same ∙ rw (somewhere_any (is_of r.client) 0 i (map queue_of xs) (sym at)) refl

pub joined_at : (r : OwnRequest) (i : ℕ) (xs : List OwnQueue) (x : OwnQueue) (requests : Vec OwnRequest Global) → Some i ≡ position_from (is_of r.client) 0 (map queue_of xs) → x ≡ get_or xs i x → requests.items ≡ x.requests.items ++ r ∷ [] → map queue_of (set xs i (record { client = x.client; requests = requests; said = x.said })) ≡ with_request (map queue_of xs) (request_of r)
joined_at r i xs x requests at is more = joined (request_of r) i xs x (record { client = x.client; requests = requests; said = x.said }) at is (rw (more, map-append request_of x.requests.items (r ∷ [])) refl)

pub opened : (r : Request) (xs : List OwnQueue) (y : OwnQueue) → None ≡ position_from (is_of r.client) 0 (map queue_of xs) → queue_of y ≡ record { client = r.client; requests = r ∷ []; said = 0 } → map queue_of (xs ++ y ∷ []) ≡ with_request (map queue_of xs) r
opened r xs y at same = map-append queue_of xs (y ∷ []) ∙ rw (same, nowhere_any (is_of r.client) 0 (map queue_of xs) (sym at)) refl

-- a request more was taken up
pub one_more : (qs more : List OwnQueue) (rs : List OwnRequest) (r : OwnRequest) → map queue_of qs ≡ fold with_request [] (map request_of rs) → map queue_of more ≡ with_request (map queue_of qs) (request_of r) → map queue_of more ≡ fold with_request [] (map request_of (rs ++ r ∷ []))
one_more qs more rs r before same = same ∙ sym (rw (map-append request_of rs (r ∷ []), fold-append with_request [] (map request_of rs) (request_of r ∷ []), ← before) refl)

-- ---- what is due

same_by : {X Y : Type 0} (b : Bool) (k : X) (o : Option X) (first rest it : Y) → (o ≡ None → rest ≡ it) → cond b (Some k) o ≡ None → cond b first rest ≡ it
same_by true k o first rest it h is = absurd (cc is)
same_by false k o first rest it h is = h is

pub unchanged : (f : Queue → Queue) (name : List ℕ) (k : ℕ) (qs : List Queue) → position_from (is_of name) k qs ≡ None → at_client f name qs ≡ qs
unchanged f name k [] at = refl
unchanged f name k (q ∷ qs) at = same_by (is_of name q) k (position_from (is_of name) (k + 1) qs) (f q ∷ qs) (q ∷ at_client f name qs) (q ∷ qs) (λ is. ap (λ rest. q ∷ rest) (unchanged f name (k + 1) qs is)) at

pub undue : (name : List ℕ) (k : ℕ) (qs : List Queue) → position_from (is_of name) k qs ≡ None → due_of name qs ≡ None
undue name k [] at = refl
undue name k (q ∷ qs) at = same_by (is_of name q) k (position_from (is_of name) (k + 1) qs) (first_due q) (due_of name qs) None (undue name (k + 1) qs) at

due_by : (name : List ℕ) (h x : OwnQueue) (xs : List OwnQueue) (k i : ℕ) (b : Bool) → cond b (Some k) (position_from (is_of name) (k + 1) (map queue_of xs)) ≡ Some i → x ≡ get_or (h ∷ xs) (i - k) x
    → (position_from (is_of name) (k + 1) (map queue_of xs) ≡ Some i → x ≡ get_or xs (i - (k + 1)) x → due_of name (map queue_of xs) ≡ first_due (queue_of x))
    → cond b (first_due (queue_of h)) (due_of name (map queue_of xs)) ≡ first_due (queue_of x)
due_by name h x xs k i true at is rest =
    let first : i - k ≡ 0 = (let equal : k ≡ i = cc in omega arith) in
    let head : x ≡ h = rw first at is in
    rw head refl
due_by name h x xs k i false at is rest =
    let above : k + 1 ≤ i = position_low (is_of name) (k + 1) i (map queue_of xs) at in
    let further : i - k ≡ suc (i - (k + 1)) = omega arith in
    rest at (rw further at is)

due_from : (name : List ℕ) (k i : ℕ) (xs : List OwnQueue) (x : OwnQueue) → position_from (is_of name) k (map queue_of xs) ≡ Some i → x ≡ get_or xs (i - k) x → due_of name (map queue_of xs) ≡ first_due (queue_of x)
due_from name k i [] x at is = absurd (cc at)
due_from name k i (h ∷ xs) x at is = due_by name h x xs k i (bytes_eq h.client name) at is (λ found item. due_from name (k + 1) i xs x found item)

pub due_at : (name : List ℕ) (i : ℕ) (xs : List OwnQueue) (x : OwnQueue) → Some i ≡ position_from (is_of name) 0 (map queue_of xs) → x ≡ get_or xs i x → due_of name (map queue_of xs) ≡ first_due (queue_of x)
due_at name i xs x at is = let first : i ≡ i - 0 = omega arith in due_from name 0 i xs x (sym at) (rw first at is)
