-- A line, as far as it is printed.
use Rattle.std.proofs.Common.{◌≡◌, ℕ, ◌+◌, ◌-◌, ◌^◌, ◌≤◌, min, List, [], ◌∷◌, ◌++◌, length, take, drop, refl, sym, ◌∙◌, ap, subst, arith, length-take, length-drop}
use Rattle.std.proofs.Math.Seq.{take-add}
use Rattle.site_model.specs.History.{Step, said, saying}
use Rattle.site_calls.specs.declared.known.Known.{Known}
use Rattle.site_calls.specs.Known.{Knows}
use Rattle.site_calls.specs.Events.{Event, Unseen, printed, after, replay}
use Rattle.site_calls.specs.Runs.{StandsStill, IsNoted}

saying-append : (front back : List ℕ) (steps : List Step) → saying (front ++ back) steps ≡ saying back (saying front steps)
saying-append [] back steps = refl
saying-append (byte ∷ front) back steps = saying-append front back (said byte ∷ steps)

pub length-saying : (line : List ℕ) (steps : List Step) → length (saying line steps) ≡ length steps + length line
length-saying [] steps = omega arith
length-saying (byte ∷ line) steps = omega (arith, length-saying line (said byte ∷ steps))

pub said_more : (done count : ℕ) (line : List ℕ) (unseen : Unseen) (start : List Step) (old new : List Event) → IsNoted (printed (take count (drop done line))) old new
    → (replay unseen old).steps ≡ saying (take done line) start
    → (replay unseen new).steps ≡ saying (take (done + count) line) start
said_more done count line unseen start old new noted before =
    ap (λ events. (replay unseen events).steps) noted.newest
    ∙ ap (saying (take count (drop done line))) (ap (λ m. m.steps) (noted.still unseen) ∙ before)
    ∙ sym (saying-append (take done line) (take count (drop done line)) start)
    ∙ ap (λ (l : List ℕ). saying l start) (sym (take-add done count line))

-- the steps are counted up to the last number
pub known_said : (done count : ℕ) (line : List ℕ) (unseen : Unseen) (known further : Known) (old new : List Event) → done + count ≤ length line
    → IsNoted (printed (take count (drop done line))) old new → further ≡ record known { moment = min (known.moment + count) (2 ^ 64 - 1) }
    → Knows known (replay unseen old) → Knows further (replay unseen new)
known_said done count line unseen known further old new within noted counted knows =
    let part = take count (drop done line) in
    let before = noted.before in
    let long : length part ≡ count = omega (arith, length-take count (drop done line), length-drop done line) in
    let knew : Knows known (replay unseen before) = subst (Knows known) (sym (noted.still unseen)) knows in
    subst (Knows further) (ap (replay unseen) (sym noted.newest))
    (subst (λ k. Knows k (after (unseen.left (length before)) (printed part) (replay unseen before))) (sym counted) (record {
      moment = omega (arith, knew.moment, length-saying part (replay unseen before).steps);
      loose = knew.loose;
      broken = knew.broken;
    }))

pub known_still : (known : Known) (unseen : Unseen) (old new : List Event) → StandsStill old new → Knows known (replay unseen old) → Knows known (replay unseen new)
known_still known unseen old new still knows = subst (Knows known) (sym (still unseen)) knows
