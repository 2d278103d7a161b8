-- Worlds of one partition, as lives begin with them.
use Rattle.std.proofs.Common.{◌≡◌, ◌<◌, ◌∷◌, ℕ, Bool, true, false, List, [], Some, Ok, if◌then◌else◌, ◌==◌, refl, sym, subst, arith, slice_get, inl, inr}
use Rattle.std.specs.List.{Contains}
use Rattle.std.proofs.Math.Nat.{le_of_eq}
use Rattle.std.proofs.lemmas.List.Elements.{Contains-push_cases}
use Rattle.cell_frames.specs.Joined.{StoreView, Joined}
use Rattle.dura_model.proofs.Kept.{fresh_shown}
use Rattle.dura_model.specs.Entries.{placed}
use Rattle.dura_model.specs.Partition.{Partition, fresh, with_part, enter}
use Rattle.dura_model.specs.Placed.{Belongs, IsReader}
use Rattle.dura_value.specs.Dependencies.{named_by}
use Rattle.dura_value.specs.Items.{Identity}
use Rattle.hub_store.specs.Trail.{Settled, Said, of_part}
use Rattle.log_items.specs.declared.items.Packet.{Packet}
use Rattle.many_logs.specs.Labels.{AreNumbered, state_next}
use Rattle.many_rules.specs.Rules.{commits_of}
use Rattle.open_logs.proofs.Pushed.{pushed}
use Rattle.part_items.specs.Numbered.{IsNumbered}
use Rattle.spec_cell.specs.Views.{CellView, HasFacts}
use Rattle.spec_tracker.specs.declared.marks.Marks.{Marks}
use Rattle.trail_states.specs.HaveMade.{HaveMade}
use Rattle.world_core.specs.World.{WorldView, AreHeard}
use Rattle.world_steps.specs.Known.{AreMarksOf}
use Rattle.world_examples.specs.Courses.{alone, first_cell, begun, beside}
use Rattle.world_examples.specs.Worlds.{empty}
use Rattle.world_laws.proofs.Marks.{marks_hold}
use Rattle.world_laws.specs.Lives.{IsNewLife, IsWell}
use Rattle.world_laws.specs.Made.{MarksHold}

-- with this settled and said
abbrev pub store_with : List Settled → List Said → StoreView
store_with trail told = record empty.store { trail = trail; told = told }

abbrev pub world_with : List Settled → List Said → Bool → List Packet → List Marks → Bool → WorldView
world_with trail told halted packets marks ended = record (begun marks) { store = store_with trail told; halted = halted; packets = packets; ended = ended }

-- there is one cell
only : (P : ℕ → CellView → Type 0) → P 0 first_cell → (partition : ℕ) (c : CellView) → slice_get (first_cell ∷ []) partition ≡ Some c → P partition c
only P is = pushed P [] first_cell (λ place c there. absurd (cc there)) is

cell_joined : (trail : List Settled) (told : List Said) → of_part 0 trail ≡ [] → Joined alone (store_with trail told) 0 first_cell
cell_joined trail told none = record {
  goes = record {
    number = refl;
    mine = sym none;
    ours = record { ours = λ k d low. absurd (omega (arith, low)); run = λ base is serves. absurd (cc serves) };
    waits = record { asked = λ serves. absurd (cc serves); run = λ base is serves. absurd (cc serves) };
    of_call = omega arith;
    since = omega arith;
    timely = omega arith;
    fresh = λ serves. absurd (cc serves);
    unlost = record { unlost = λ k entry is. absurd (cc is); latest = λ k d low. absurd (omega (arith, low)) };
    read = record { held = λ k d low. absurd (omega (arith, low)); waits = λ k d low. absurd (omega (arith, low)) };
  };
  out = record { rests = λ is. (refl, refl); goes = λ some. absurd (omega (arith, some)) };
}

cell_facts : HasFacts alone.flows 1 (fresh 0) first_cell
cell_facts = record {
  base = fresh 0;
  ahead = fresh 0;
  settled = refl;
  made = refl;
  given = tt;
  numbered = tt;
  younger = omega arith;
  fit = λ k d low. absurd (omega (arith, low));
  room = omega arith;
  by = omega arith;
  within = omega arith;
  waits = λ k d low. absurd (omega (arith, low));
}

-- nothing that is settled names anything
abbrev pub NamesNone : List Settled → Type 0
NamesNone trail = (one : Settled) (d : Identity) → Contains trail one → Contains (named_by one.entry.items) d → ⊥

pub well_with : (trail : List Settled) (told : List Said) (halted : Bool) (packets : List Packet) (marks : List Marks) (ended : Bool) → of_part 0 trail ≡ [] → HaveMade alone trail → NamesNone trail → (ended ≡ false → halted ≡ false) → AreHeard alone (store_with trail told) marks
    → IsWell alone (world_with trail told halted packets marks ended)
well_with trail told halted packets marks ended none have names on heard = record {
  stands = record {
    some = omega arith;
    few = omega arith;
    most = omega arith;
    many = refl;
    going = on;
    whole = λ on. refl;
    joined = λ on. only (λ p c. (c.going ≡ true) × Joined alone (store_with trail told) p c) (refl, cell_joined trail told none);
    heard = heard;
  };
  ground = λ on. record {
    begun = refl;
    have = have;
    frames = λ p low. tt;
    facts = only (λ p c. HasFacts alone.flows 1 (fresh p) c) cell_facts;
    unlost = λ e known lost. absurd (let none : lost.there.0 < 0 = lost.there.1 in omega (arith, none));
    floors = λ p past. refl;
    named = λ one d there of_it. absurd (names one d there of_it);
  };
}

-- nothing is settled
pub nothing_made : HaveMade alone []
nothing_made = record { states = fresh; made = refl; shown = fresh_shown 1; numbered = λ p. tt; each = λ p low. refl }

pub nothing_names : NamesNone []
nothing_names one d there of_it = absurd (let none : there.0 < 0 = there.1 in omega (arith, none))

-- an entry is settled where there is no partition
states_beside : ℕ → Partition
states_beside = with_part fresh 1 (enter 0 (fresh 1))

pub beside_made : HaveMade alone (beside ∷ [])
unfolding states_beside
beside_made = record {
  states = states_beside;
  made = refl;
  shown = record {
    each = λ place low. subst (λ (n : ℕ). Belongs 1 n (states_beside n)) (let e : 0 ≡ place = omega (arith, low) in e) ((fresh_shown 1).each 0 (omega arith));
    readers = λ source target low below.
        subst (λ (n : ℕ). IsReader states_beside n target) (let e : 0 ≡ source = omega (arith, low) in e)
        (subst (λ (n : ℕ). IsReader states_beside 0 n) (let e : 0 ≡ target = omega (arith, below) in e) (record { from_first = omega arith; to_end = omega arith }));
  };
  numbered = numbered;
  each = λ p low. subst (λ (n : ℕ). placed alone.flows 1 (fresh n) (of_part n (beside ∷ [])) ≡ Ok (states_beside n)) (let e : 0 ≡ p = omega (arith, low) in e) refl;
}
  where
    numbered : AreNumbered fresh (commits_of (beside ∷ []))
    numbered p = by (1 == p)
      where
        by : (test : Bool) → IsNumbered (state_next (fresh p)) (if test then beside.entry ∷ [] else [])
        by true = (refl, omega arith, tt)
        by false = tt

pub beside_names : NamesNone (beside ∷ [])
beside_names one d there of_it = elim (Contains-push_cases [] beside one there) [
  | inl none ↦ absurd (let e : none.0 < 0 = none.1 in omega (arith, e))
  | inr same ↦ absurd (let none : Contains [] d = subst (λ (s : Settled). Contains (named_by s.entry.items) d) (sym same) of_it in let e : none.0 < 0 = none.1 in omega (arith, e))
]

-- ---- what is known of the logs

-- what is known first is all that is known
first_known : (first marks : Marks) → Contains (first ∷ []) marks → first ≡ marks
first_known first marks inside = elim (Contains-push_cases [] first marks inside) [
  | inl none ↦ absurd (let e : none.0 < 0 = none.1 in omega (arith, e))
  | inr same ↦ same
]

pub first_heard : (s : StoreView) (first : Marks) → AreMarksOf alone s first → AreHeard alone s (first ∷ [])
first_heard s first known marks read inside there = le_of_eq (known.reads read (subst (λ (m : Marks). Contains m.reads.items read) (sym (first_known first marks inside)) there))

pub none_heard : (s : StoreView) → AreHeard alone s []
none_heard s marks read inside there = absurd (let e : inside.0 < 0 = inside.1 in omega (arith, e))

pub first_holds : (s : StoreView) (first : Marks) → AreMarksOf alone s first → (marks : Marks) → Contains (first ∷ []) marks → MarksHold alone s marks
first_holds s first known marks inside = subst (MarksHold alone s) (first_known first marks inside) (marks_hold alone s first known)

pub none_holds : (s : StoreView) (marks : Marks) → Contains [] marks → MarksHold alone s marks
none_holds s marks inside = absurd (let e : inside.0 < 0 = inside.1 in omega (arith, e))

pub new_with : (trail : List Settled) (told : List Said) (halted : Bool) (marks : List Marks) (ended : Bool) → ((one : Marks) → Contains marks one → MarksHold alone (store_with trail told) one) → IsNewLife alone (world_with trail told halted [] marks ended)
new_with trail told halted marks ended hold = record {
  settled = only (λ p c. c.slot.mine ≡ []) refl;
  held = only (λ p c. c.entries ≡ []) refl;
  waits = only (λ p c. c.waits ≡ []) refl;
  packets = refl;
  marks = hold;
}
