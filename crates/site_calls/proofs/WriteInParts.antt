-- A write, as far as its calls have come.
use Rattle.std.proofs.Common.{◌≡◌, ℕ, ◌+◌, ◌≤◌, List, ◌∷◌, ◌++◌, length, take, drop, Ok, Err, sym, ◌∙◌, ap, subst, arith, length-append, length-take, length-drop}
use Rattle.std.proofs.lemmas.List.{take-take, take_at, take_all}
use Rattle.site_calls.specs.Events.{Event, Unseen, Standing, put, lost, after, replay}
use Rattle.site_calls.specs.Runs.{WritesOnce, IsWriting}

-- the bytes that are known after a call
put_long : (count : ℕ) (bytes known : List ℕ) → count ≤ length bytes → length known ≤ length bytes
    → length (take count bytes ++ drop (length (take count bytes)) known) ≤ length bytes
put_long count bytes known within short =
    omega (arith, length-append (take count bytes) (drop (length (take count bytes)) known), length-drop (length (take count bytes)) known, length-take count bytes)

put_front : (count : ℕ) (bytes rest : List ℕ) → count ≤ length bytes → take count (take count bytes ++ rest) ≡ take count bytes
put_front count bytes rest within = take_at (take count bytes) rest count (omega (arith, length-take count bytes))

lost_front : (count : ℕ) (bytes rest : List ℕ) → count ≤ length bytes → take count (take (length bytes) (take count bytes ++ rest)) ≡ take count bytes
lost_front count bytes rest within = take-take count (length bytes) (take count bytes ++ rest) within ∙ put_front count bytes rest within

pub writing_put : (file at done count next : ℕ) (bytes : List ℕ) (unseen : Unseen) (start : Standing) (old new : List Event) → next ≡ done + count → done + count ≤ length bytes
    → new ≡ put (take (done + count) bytes) ∷ old
    → IsWriting file at bytes done start (replay unseen old)
    → IsWriting file at bytes next start (replay unseen new)
writing_put file at done count next bytes unseen start old new further within is writing =
    subst (λ (n : ℕ). IsWriting file at bytes n start (replay unseen new)) (sym further) (record {
      known = take (done + count) bytes ++ drop (length (take (done + count) bytes)) writing.known;
      no_longer = put_long (done + count) bytes writing.known within writing.no_longer;
      front = put_front (done + count) bytes (drop (length (take (done + count) bytes)) writing.known) within;
      step = ap (replay unseen) is ∙ ap (after (unseen.left (length old)) (put (take (done + count) bytes))) writing.step;
    })

pub writing_lost : (file at done next : ℕ) (bytes : List ℕ) (unseen : Unseen) (start : Standing) (old new : List Event) → next ≡ done → done ≤ length bytes
    → new ≡ lost (take done bytes) ∷ old
    → IsWriting file at bytes done start (replay unseen old)
    → IsWriting file at bytes next start (replay unseen new)
writing_lost file at done next bytes unseen start old new same within is writing =
    let left = unseen.left (length old) in
    subst (λ (n : ℕ). IsWriting file at bytes n start (replay unseen new)) (sym same) (record {
      known = take (length bytes) (take done bytes ++ drop (length (take done bytes)) left);
      no_longer = omega (arith, length-take (length bytes) (take done bytes ++ drop (length (take done bytes)) left));
      front = lost_front done bytes (drop (length (take done bytes)) left) within;
      step = ap (replay unseen) is ∙ ap (after left (lost (take done bytes))) writing.step;
    })

-- the write once it ends
pub writing_done : {T E : Type 0} (file at done : ℕ) (bytes : List ℕ) (start now : Standing) (value : T) → done ≡ length bytes → IsWriting file at bytes done start now → WritesOnce {T = T} {E = E} file at bytes start now (Ok value)
writing_done file at done bytes start now value is writing = record {
  known = writing.known;
  no_longer = writing.no_longer;
  step = writing.step;
  ok = sym (take_all done writing.known (omega (arith, writing.no_longer))) ∙ writing.front ∙ take_all done bytes (omega arith);
}

pub writing_fails : {T E : Type 0} (file at done : ℕ) (bytes : List ℕ) (start now : Standing) (error : E) → IsWriting file at bytes done start now → WritesOnce {T = T} {E = E} file at bytes start now (Err error)
writing_fails file at done bytes start now error writing = record { known = writing.known; no_longer = writing.no_longer; step = writing.step; ok = tt }
