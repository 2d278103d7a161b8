-- A frame behind the call that makes all files safe, by the stage that it had come to.
use Rattle.std.proofs.Common.{◌≡◌, ◌+◌, ◌≤◌, ◌<◌, inl, inr, ℕ, zero, suc, Bool, true, false, max, List, [], ◌∷◌, length, refl, sym, ◌∙◌, ap, subst, arith}
use Rattle.std.proofs.Math.ListN.{set}
use Rattle.std.proofs.lemmas.Bool.{cases_eq, cases_lt}
use Rattle.std.proofs.lemmas.List.{set-set, length-set, get_or-set_same, get_or-set_other}
use Rattle.site_model.specs.History.{Change, synced}
use Rattle.commit_log.specs.declared.header.Header.{Header}
use Rattle.commit_log.specs.declared.states.Bodied.{Bodied}
use Rattle.commit_log.specs.declared.states.Synced.{Synced}
use Rattle.commit_log.specs.declared.states.Gated.{Gated}
use Rattle.commit_log.specs.declared.states.BrokenBody.{BrokenBody}
use Rattle.commit_log.specs.declared.states.BrokenGate.{BrokenGate}
use Rattle.commit_log.specs.States.{IsBodied, IsSynced, IsGated, IsBrokenBody, IsBrokenGate}
use Rattle.log_items.specs.declared.frames.Entry as rows
use Rattle.log_items.specs.Plain.{entries_of}
use Rattle.part_items.specs.Spelling.{spell_frame}
use Rattle.hub_store.specs.declared.way.Way.{Way}
use Rattle.hub_store.specs.declared.way.Way.TheVariants as ways
use Rattle.hub_store.specs.declared.way.Way.TheVariants.{Resting, Away}
use Rattle.hub_store.specs.Waiting.{waits, stage_behind, IsBehind}
use Rattle.hub_store.specs.Ways.{stage_of, way_of}
use Rattle.hub_store.proofs.Safes.{safe_behind}

reaches : (gate next other more : ℕ) → other ≡ gate → more ≡ next → max other more + 1 ≡ max gate next + 1
reaches gate next other more same then = λ i. max (same i) (then i) + 1

pub bodied_safe : (log : Bodied) (frame : List rows.Entry) (now : Synced) → (now.file ≡ log.file) × (now.gate ≡ log.gate) × (now.next ≡ log.next)
    → ((h : Header) (payloads : List (List ℕ)) (payload : List ℕ) (changes : List Change) → IsBodied changes h payloads payload log.gate log.next → IsSynced (synced ∷ changes) h payloads payload now.gate now.next)
    → IsBehind true (ways.Bodied log frame) (ways.Synced now frame)
bodied_safe log frame now place after = record {
  stage = refl;
  going = refl;
  due = refl;
  reach = reaches log.gate log.next now.gate now.next place.1 place.2;
  stays = λ idle. absurd (cc idle);
  fits = λ is file h payloads changes fits. (place.0 ∙ fits.0, after h payloads (spell_frame (entries_of frame)) changes fits.1);
}

pub bodied_broken : (log : Bodied) (frame : List rows.Entry) (now : BrokenBody) → (now.file ≡ log.file) × (now.gate ≡ log.gate) × (now.next ≡ log.next)
    → ((h : Header) (payloads : List (List ℕ)) (payload : List ℕ) (changes : List Change) → IsBodied changes h payloads payload log.gate log.next → IsBrokenBody changes h payloads now.gate × IsBrokenBody (synced ∷ changes) h payloads now.gate)
    → IsBehind false (ways.Bodied log frame) (ways.BrokenBody now frame)
bodied_broken log frame now place after = record {
  stage = refl;
  going = refl;
  due = refl;
  reach = reaches log.gate log.next now.gate now.next place.1 place.2;
  stays = λ idle. absurd (cc idle);
  fits = λ is file h payloads changes fits. let both = after h payloads (spell_frame (entries_of frame)) changes fits.1 in ((place.0 ∙ fits.0, both.0), (place.0 ∙ fits.0, both.1));
}

pub gated_safe : (log : Gated) (frame : List rows.Entry) → IsBehind true (ways.Gated log frame) (ways.Safe log frame)
gated_safe log frame = record {
  stage = refl;
  going = refl;
  due = refl;
  reach = refl;
  stays = λ idle. absurd (cc idle);
  fits = λ is file h payloads changes fits. (fits.0, safe_behind h payloads (spell_frame (entries_of frame)) log.gate log.next changes fits.1 fits.2);
}

pub gated_broken : (log : Gated) (frame : List rows.Entry) (now : BrokenGate) → (now.file ≡ log.file) × (now.gate ≡ log.gate) × (now.next ≡ log.next)
    → ((h : Header) (payloads : List (List ℕ)) (payload : List ℕ) (changes : List Change) → IsGated changes h payloads payload log.gate log.next
    → IsBrokenGate changes h payloads payload now.gate now.next × IsBrokenGate (synced ∷ changes) h payloads payload now.gate now.next)
    → IsBehind false (ways.Gated log frame) (ways.BrokenGate now frame)
gated_broken log frame now place after = record {
  stage = refl;
  going = refl;
  due = refl;
  reach = reaches log.gate log.next now.gate now.next place.1 place.2;
  stays = λ idle. absurd (cc idle);
  fits = λ is file h payloads changes fits. let both = after h payloads (spell_frame (entries_of frame)) changes fits.1 in ((place.0 ∙ fits.0, both.0), (place.0 ∙ fits.0, both.1));
}

-- what doesn't wait stays
stage_stays : (safe : Bool) (way : Way) → waits (stage_of way) ≡ false → stage_of way ≡ stage_behind safe (stage_of way)
stage_stays true (ways.Resting log) idle = refl
stage_stays true (ways.Bodied log frame) idle = absurd (cc idle)
stage_stays true (ways.Synced log frame) idle = refl
stage_stays true (ways.Gated log frame) idle = absurd (cc idle)
stage_stays true (ways.Safe log frame) idle = refl
stage_stays true (ways.BrokenBody log frame) idle = refl
stage_stays true (ways.BrokenGate log frame) idle = refl
stage_stays true ways.Away idle = refl
stage_stays false (ways.Resting log) idle = refl
stage_stays false (ways.Bodied log frame) idle = absurd (cc idle)
stage_stays false (ways.Synced log frame) idle = refl
stage_stays false (ways.Gated log frame) idle = absurd (cc idle)
stage_stays false (ways.Safe log frame) idle = refl
stage_stays false (ways.BrokenBody log frame) idle = refl
stage_stays false (ways.BrokenGate log frame) idle = refl
stage_stays false ways.Away idle = refl

pub way_stays : (safe : Bool) (way : Way) → waits (stage_of way) ≡ false → IsBehind safe way way
way_stays safe way idle = record {
  stage = stage_stays safe way idle;
  going = refl;
  due = refl;
  reach = refl;
  stays = λ same. refl;
  fits = λ is. absurd (let both : false ≡ true = sym idle ∙ is in cc both);
}

-- ---- one after another

-- so many of them are behind it
pub record AreLed (safe : Bool) (old now : List Way) (place : ℕ) : Type 0 where
  pub count : length now ≡ length old
  pub led : (p : ℕ) → p < place → IsBehind safe (way_of old p) (way_of now p)
  pub rest : (p : ℕ) → place ≤ p → way_of now p ≡ way_of old p

pub one_led : (safe : Bool) (old now mid new : List Way) (place : ℕ) (way : Way) → AreLed safe old now place → place < length now → mid ≡ set now place Away → new ≡ set mid place way → IsBehind safe (way_of now place) way
    → AreLed safe old new (place + 1)
one_led safe old now mid new place way before below taken put behind =
    let is : new ≡ set now place way = put ∙ ap (λ (l : List Way). set l place way) taken ∙ set-set now place Away way in
    let there : way_of new place ≡ way = ap (λ (l : List Way). way_of l place) is ∙ get_or-set_same now place way Away below in
    record {
      count = ap length is ∙ length-set now place way ∙ before.count;
      led = λ p low. elim (cases_eq p place) [
        | inl own ↦
            subst (λ (n : ℕ). IsBehind safe (way_of old n) (way_of new n)) (sym own)
            (subst (λ (w : Way). IsBehind safe (way_of old place) w) (sym there) (subst (λ (w : Way). IsBehind safe w way) (before.rest place (omega arith)) behind))
        | inr other ↦
            subst (IsBehind safe (way_of old p)) (sym (ap (λ (l : List Way). way_of l p) is ∙ get_or-set_other now place p way Away other)) (before.led p (omega (arith, low, other)))
      ];
      rest = λ p high. ap (λ (l : List Way). way_of l p) is ∙ get_or-set_other now place p way Away (λ same. omega (arith, same, high)) ∙ before.rest p (omega (arith, high));
    }

-- past the last there is none
none_past : (list : List Way) (p : ℕ) → length list ≤ p → way_of list p ≡ Away
none_past [] p high = refl
none_past (way ∷ list) zero high = absurd (omega (arith, high))
none_past (way ∷ list) (suc p) high = none_past list p (omega (arith, high))

pub all_led : (safe : Bool) (old now : List Way) (place : ℕ) → AreLed safe old now place → length old ≤ place → (p : ℕ) → IsBehind safe (way_of old p) (way_of now p)
all_led safe old now place led all p = elim (cases_lt p place) [
  | inl low ↦ led.led p low
  | inr high ↦
      let none : way_of old p ≡ Away = none_past old p (omega (arith, all, high)) in
      let same : way_of now p ≡ way_of old p = led.rest p high in
      subst (IsBehind safe (way_of old p)) (sym same) (subst (λ (w : Way). IsBehind safe w w) (sym none) (way_stays safe Away refl))
]
