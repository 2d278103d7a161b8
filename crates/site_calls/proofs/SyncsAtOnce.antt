-- Several files that were made safe at once.
use Rattle.std.proofs.Common.{◌≡◌, Bool, true, false, ◌||◌, ℕ, ◌+◌, ◌^◌, ◌-◌, ◌≤◌, min, List, [], ◌∷◌, ◌++◌, length, Ok, refl, sym, ◌∙◌, ap, subst, cond, arith}
use Rattle.site_model.specs.History.{on, synced, syncing}
use Rattle.site_model.specs.Calls.{SyncsAll}
use Rattle.site_model.proofs.Syncing.{length-syncing, synced_all}
use Rattle.site_calls.specs.declared.known.Known.{Known}
use Rattle.site_calls.specs.Events.{Event, Unseen, flushed, flushing, replay, IsHonest}
use Rattle.site_calls.specs.Failures.{count_of}
use Rattle.site_calls.specs.Known.{Knows}

pub flushing-push : (files : List ℕ) (file : ℕ) (events : List Event) → flushing (files ++ file ∷ []) events ≡ flushed file true ∷ flushing files events
flushing-push [] file events = refl
flushing-push (first ∷ files) file events = flushing-push files file (flushed first true ∷ events)

pub honest_flushing : (unseen : Unseen) (files : List ℕ) (events : List Event) → IsHonest unseen (flushing files events) → IsHonest unseen events
honest_flushing unseen [] events honest = honest
honest_flushing unseen (file ∷ files) events honest = (honest_flushing unseen files (flushed file true ∷ events) honest).0

-- no call is taken back
pub kept_flushing : (is_such : Event → Bool) (files : List ℕ) (events : List Event) → count_of is_such events ≤ count_of is_such (flushing files events)
kept_flushing is_such [] events = omega arith
kept_flushing is_such (file ∷ files) events = omega (arith, kept_flushing is_such files (flushed file true ∷ events))

-- where syncs count, each is one step, and nothing else changes
pub record EachCounts (unseen : Unseen) (files : List ℕ) (events : List Event) : Type 0 where
  pub steps : (replay unseen (flushing files events)).steps ≡ syncing files (replay unseen events).steps
  pub loose : (replay unseen (flushing files events)).loose ≡ (replay unseen events).loose
  pub broken : (replay unseen (flushing files events)).broken ≡ (replay unseen events).broken

neither : {a b : Bool} → a ≡ false → b ≡ false → (a || b) ≡ false
neither {b = b} p q = ap (λ x. x || b) p ∙ q

pub each_counts : (unseen : Unseen) (files : List ℕ) (events : List Event) → (replay unseen events).loose ≡ false → (replay unseen events).broken ≡ false → EachCounts unseen files events
each_counts unseen [] events named unbroken = record { steps = refl; loose = refl; broken = refl }
each_counts unseen (file ∷ files) events named unbroken =
    let rest = each_counts unseen files (flushed file true ∷ events) named unbroken in
    let m = replay unseen events in
    record {
      steps = rest.steps ∙ ap (λ (b : Bool). syncing files (cond b m.steps (on file synced ∷ m.steps))) (neither named unbroken);
      loose = rest.loose;
      broken = rest.broken;
    }

module _ (files : List ℕ) (unseen : Unseen) (known : Known) (old new : List Event) (named : known.is_loose ≡ false) (unbroken : known.is_broken ≡ false) (is : new ≡ flushing files old) where
  -- the steps are counted up to the last number
  pub known_flushed : (further : Known) → further ≡ record known { moment = min (known.moment + length files) (2 ^ 64 - 1) } → Knows known (replay unseen old) → Knows further (replay unseen new)
  known_flushed further counted knows =
      let all = each_counts unseen files old (sym knows.loose ∙ named) (sym knows.broken ∙ unbroken) in
      subst (λ k. Knows k (replay unseen new)) (sym counted) (subst (λ events. Knows (record known { moment = min (known.moment + length files) (2 ^ 64 - 1) }) (replay unseen events)) (sym is) (record {
        moment = omega (arith, knows.moment, ap length all.steps, length-syncing files (replay unseen old).steps);
        loose = knows.loose ∙ sym all.loose;
        broken = knows.broken ∙ sym all.broken;
      }))

  pub done_flushed : {E : Type 0} → Knows known (replay unseen old) → SyncsAll {E = E} files (replay unseen old).steps (replay unseen new).steps (Ok (tt {0}))
  done_flushed knows =
      let all = each_counts unseen files old (sym knows.loose ∙ named) (sym knows.broken ∙ unbroken) in
      synced_all files (replay unseen old).steps (replay unseen new).steps (Ok (tt {0})) (ap (λ events. (replay unseen events).steps) is ∙ all.steps)
