-- A read, as far as its calls have come.
use Rattle.std.proofs.Common.{◌≡◌, ℕ, ◌+◌, ◌-◌, ◌<◌, ◌≤◌, List, ◌∷◌, length, take, drop, ◌∙◌, ap, subst, arith, length-take, length-drop}
use Rattle.site_model.specs.History.{content_of}
use Rattle.site_calls.specs.Events.{Event, Unseen, got, replay, IsHonest, Agrees}
use Rattle.site_calls.specs.Runs.{StandsStill, IsNoted}

-- so many bytes from this offset on are the front of the buffer
pub record IsReading (content : List ℕ) (at done : ℕ) (out : List ℕ) : Type 0 where
  pub within : done ≤ length content - at
  pub front : take done out ≡ take done (drop at content)

-- what an honest answer says
agrees_is : (content : List ℕ) (at done : ℕ) (out : List ℕ) → done ≤ length out
    → take done out ≡ take (length (take done out)) (drop at content) → IsReading content at done out
agrees_is content at done out within is =
    let long : length (take done out) ≡ done = omega (arith, length-take done out) in
    let front : take done out ≡ take done (drop at content) = is ∙ ap (λ (n : ℕ). take n (drop at content)) long in
    record {
      within = omega (arith, ap length front, length-take done (drop at content), length-drop at content);
      front = front;
    }

-- what the newest answer says of the file at the start of the read
honest_got : (file at want count : ℕ) (bytes : List ℕ) (unseen : Unseen) (old mid new : List Event) → StandsStill old mid
    → new ≡ got file at want count bytes ∷ mid → IsHonest unseen new → Agrees (got file at want count bytes) (replay unseen old).steps
honest_got file at want count bytes unseen old mid new still is honest =
    let agrees : Agrees (got file at want count bytes) (replay unseen mid).steps = (subst (IsHonest unseen) is honest).1 in
    subst (λ m. Agrees (got file at want count bytes) m.steps) (still unseen) agrees

module _ (file at want done count : ℕ) (out : List ℕ) (unseen : Unseen) (old mid new : List Event) (still : StandsStill old mid) (noted : IsNoted (got file at want count (take (done + count) out)) mid new)
    (honest : IsHonest unseen new) (within : done + count ≤ length out) where
  newest : Agrees (got file at want count (take (done + count) out)) (replay unseen old).steps
  newest = honest_got file at want count (take (done + count) out) unseen old noted.before new (λ u. noted.still u ∙ still u) noted.newest honest

  pub reading_more : IsReading (content_of file (replay unseen old).steps) at (done + count) out
  reading_more = agrees_is (content_of file (replay unseen old).steps) at (done + count) out within newest.0

  -- the answer that gave nothing tells that the file ends
  pub reading_ends : count ≡ 0 → done < want → length (content_of file (replay unseen old).steps) - at ≤ done
  reading_ends none short = omega (arith, newest.1 none (omega (arith, length-take (done + count) out)), length-take (done + count) out)
