-- What a call goes by the clock, one step after another, and when it begins.
use Rattle.std.proofs.Common.{◌≡◌, ◌≤◌, ◌<◌, ◌∙◌, ◌⊎◌, inl, inr, ℕ, max, Bool, true, false, List, [], ◌∷◌, ◌++◌, refl, ap, append_assoc, sym, subst, arith}
use Rattle.std.proofs.Math.Nat.{eq-or-lt_of_le}
use Rattle.std.specs.List.{All}
use Rattle.engine_rounds.specs.Heard.{ByClock, GoesByClock, BeginsAt, heard_of}
use Rattle.engine_rounds.specs.Heard.BeginsAt.{first_given, none_given}
use Rattle.engine_rounds.specs.Heard.GoesByClock.{begins, hears, settles}
use Rattle.engine_rounds.specs.declared.serving.Came.{Came}
use Rattle.engine_rounds.specs.declared.serving.Came.TheVariants as cames
use Rattle.gated_store.specs.declared.local.Gated as gated_types
use Rattle.gated_store.specs.declared.store.GatedStore.{GatedStore}
use Rattle.hub_store.specs.Changes.{trail_in}
use Rattle.hub_store.specs.Trail.{Settled}
use Rattle.hub_store.specs.declared.start.Start as starts
use Rattle.many_rules.specs.Rules.{Rules}
use Rattle.node_core.specs.Growing.{IsStamped}
use Rattle.node_core.specs.declared.halt.Halt.TheVariants as halts
use Rattle.round_steps.specs.Labels.{settled_labels}
use Rattle.round_steps.specs.Serving.{GoesOn}
use Rattle.site_model.specs.Calls.{HasRisen}
use Rattle.site_model.specs.Readings.{Reading, asked, stamp_of}
use Rattle.site_model.specs.declared.site.Site as sites

module _ (rules : Rules) (enough : ℕ) (before : List Reading) (first : ℕ) (trail : List Settled) where
  -- one course behind another
  courses : {mid : List Reading} {moment : ℕ} {settled : List Settled} → GoesByClock rules enough before first trail mid moment settled → {now : List Reading} {last : ℕ} {all : List Settled} → GoesByClock rules enough mid moment settled now last all
      → GoesByClock rules enough before first trail now last all
  courses one begins = one
  courses one (hears two few reading) = hears (courses one two) few reading
  courses one (settles two more stamped) = settles (courses one two) more stamped

module _ {V L : Type 0} {G : sites.Ghosts V} {K : starts.Ghosts (gated_types.Gated L)} (rules : Rules) (enough : ℕ) where
  pub clock_not : (readings : List Reading) (s : GatedStore V L G K) → ByClock rules enough readings s readings s
  clock_not readings s = begins

  -- it gave nothing
  pub clock_still : (before now : List Reading) (s : GatedStore V L G K) → now ≡ before → ByClock rules enough before s now s
  clock_still before now s is = subst (λ (r : List Reading). GoesByClock rules enough before s.logs.latest (trail_in s.logs) r s.logs.latest (trail_in s.logs)) (sym is) begins

  pub clock_then : (before mid now : List Reading) (a b c : GatedStore V L G K) → ByClock rules enough before a mid b → ByClock rules enough mid b now c → ByClock rules enough before a now c
  clock_then before mid now a b c one two = courses rules enough before a.logs.latest (trail_in a.logs) one two

  -- what is settled at one moment
  pub clock_goes : (readings : List Reading) (a b : GatedStore V L G K) → GoesOn rules a b → b.logs.latest ≡ a.logs.latest → ByClock rules enough readings a readings b
  clock_goes readings a b goes same =
      let grows = goes.grows.grows in
      let stamped : All (IsStamped rules a.logs.latest a.logs.latest) grows.more = subst (λ (n : ℕ). All (IsStamped rules a.logs.latest n) grows.more) same grows.stamped in
      subst (λ (t : List Settled). GoesByClock rules enough readings a.logs.latest (trail_in a.logs) readings b.logs.latest t) (sym grows.is)
      (subst (λ (n : ℕ). GoesByClock rules enough readings a.logs.latest (trail_in a.logs) readings n (trail_in a.logs ++ grows.more)) (sym same) (settles begins grows.more stamped))

  -- a reading is heard
  pub clock_hears : (before now : List Reading) (reading : Reading) (a b : GatedStore V L G K) → now ≡ reading ∷ before → b.logs.latest ≡ max a.logs.latest (stamp_of reading) → trail_in b.logs ≡ trail_in a.logs → settled_labels (trail_in a.logs) < enough → ByClock rules enough before a now b
  clock_hears before now reading a b is latest trail few =
      subst (λ (r : List Reading). GoesByClock rules enough before a.logs.latest (trail_in a.logs) r b.logs.latest (trail_in b.logs)) (sym is)
      (subst (λ (n : ℕ). GoesByClock rules enough before a.logs.latest (trail_in a.logs) (reading ∷ before) n (trail_in b.logs)) (sym latest)
      (subst (λ (t : List Settled). GoesByClock rules enough before a.logs.latest (trail_in a.logs) (reading ∷ before) (max a.logs.latest (stamp_of reading)) t) (sym trail) (hears begins few reading)))

  -- a reading is heard behind what was settled
  pub clock_goes_then : (before now : List Reading) (a b c : GatedStore V L G K) → GoesOn rules a b → b.logs.latest ≡ a.logs.latest → ByClock rules enough before b now c → ByClock rules enough before a now c
  clock_goes_then before now a b c goes same then = clock_then before before now a b c (clock_goes before a b goes same) then

  -- more is settled behind it
  pub clock_then_goes : (before now : List Reading) (a b c : GatedStore V L G K) → ByClock rules enough before a now b → GoesOn rules b c → c.logs.latest ≡ b.logs.latest → ByClock rules enough before a now c
  clock_then_goes before now a b c first goes same = clock_then before now now a b c first (clock_goes now b c goes same)

-- the clock gave the moment first, or it failed
pub begins_so : (rules : Rules) (enough : ℕ) (before mid now : List Reading) (latest : ℕ) (trail : List Settled) (came : Came) (since : ℕ) (was_heard : Bool) → (was_heard ≡ true → mid ≡ asked since ∷ before) → (was_heard ≡ false → (since ≡ 0) × (mid ≡ before))
    → ((by : ℕ) × (by ≤ latest) × GoesByClock rules enough mid since [] now by trail) → (was_heard ≡ false → (came ≡ cames.Halted halts.ClockFault) × (now ≡ mid) × (trail ≡ [])) → BeginsAt rules enough (heard_of before now latest) trail came since
begins_so rules enough before mid now latest trail came since true first silent course unheard = first_given since course.0 course.1 (subst (λ (r : List Reading). GoesByClock rules enough r since [] now course.0 trail) (first refl) course.2)
begins_so rules enough before mid now latest trail came since false first silent course unheard =
    let none = silent refl in
    let over = unheard refl in
    subst (BeginsAt rules enough (heard_of before now latest) trail came) (sym none.0) (none_given (over.1 ∙ none.1) over.2 over.0)

-- a count that rose by then has risen
pub fault_then : (before mid now : ℕ) (was_heard : Bool) → before ≤ mid → mid ≤ now → (was_heard ≡ false → HasRisen before mid) → (was_heard ≡ true → HasRisen mid now) → HasRisen before now
fault_then before mid now true low high early late = elim (late refl) [
  | inl risen ↦ inl (omega (arith, low, risen))
  | inr full ↦ elim (eq-or-lt_of_le low) [ inl same ↦ inr (omega (arith, full, same)) | inr risen ↦ inl (omega (arith, risen, high)) ]
]
fault_then before mid now false low high early late = elim (early refl) [
  | inl risen ↦ inl (omega (arith, risen, high))
  | inr full ↦ inr full
]
