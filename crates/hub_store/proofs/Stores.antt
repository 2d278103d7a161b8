-- A store behind a call on one partition's log.
use Rattle.std.proofs.Common.{◌≡◌, ◌≢◌, inl, inr, ℕ, ◌+◌, ◌<◌, ◌≤◌, Bool, false, List, [], ◌∷◌, ◌++◌, length, None, Some, le_refl, le_trans, refl, sym, ◌∙◌, ap, subst, arith}
use Rattle.std.proofs.Math.ListN.{set}
use Rattle.std.proofs.lemmas.Bool.{cases_eq}
use Rattle.std.proofs.lemmas.List.{set-set, length-set, map-append, get_or-set_same, get_or-set_other}
use Rattle.std.proofs.lemmas.List.Sums.{sum_by-set}
use Rattle.std.specs.List.{sum_by}
use Rattle.std.specs.Vec.{vec_len, vec_capacity}
use Rattle.std.specs.Global.{Vec}
use Rattle.site_model.specs.declared.site.Site as sites
use Rattle.hub_store.specs.declared.start.Start as starts
use Rattle.hub_store.specs.declared.store.Store.{Store}
use Rattle.hub_store.specs.declared.trail.Settled as rows
use Rattle.hub_store.specs.declared.trail.Said as requests
use Rattle.hub_store.specs.declared.way.Way.{Way}
use Rattle.hub_store.specs.declared.way.Way.TheVariants.{Away}
use Rattle.dura_value.specs.Items.{Entry}
use Rattle.hub_store.specs.Changes.{asked, KeepsStore}
use Rattle.hub_store.specs.Plain.{trail_of, said_of, told_of}
use Rattle.hub_store.specs.Short.{KeepsShort}
use Rattle.hub_store.specs.Trail.{Settled, Said, of_part}
use Rattle.hub_store.specs.Sound.{IsTold, IsSound}
use Rattle.hub_store.specs.Ways.{way_of, going_in, due_in}
use Rattle.hub_store.proofs.Shortness.{short_put}

-- a way that was taken out, and another put in
pub put_for : (old mid new : List Way) (p : ℕ) (way : Way) → mid ≡ set old p Away → new ≡ set mid p way → new ≡ set old p way
put_for old mid new p way taken is = is ∙ ap (λ (l : List Way). set l p way) taken ∙ set-set old p Away way

-- the other ways stay
pub others_stay : (old new : List Way) (p : ℕ) (way : Way) → new ≡ set old p way → (other : ℕ) → other ≢ p → way_of new other ≡ way_of old other
others_stay old new p way is other apart = ap (λ (l : List Way). way_of l other) is ∙ get_or-set_other old p other way Away apart

-- a store keeps what it has
pub keeps_still : {V N : Type 0} {G : sites.Ghosts V} {H : starts.Ghosts N} (partition : ℕ) (store : Store V N G H) → KeepsStore partition store store
keeps_still {G = G} partition store = record {
  tells = λ tells. tells;
  others = λ other apart. refl;
  said = refl;
  segment = refl;
  latest = refl;
  whole = refl;
  later = le_refl (G.disk_faults store.site);
  say_faults = refl;
}

-- and what one call keeps and then another does, both keep
pub keeps_on : {V N : Type 0} {G : sites.Ghosts V} {H : starts.Ghosts N} (partition : ℕ) (old mid new : Store V N G H) → KeepsStore partition old mid → KeepsStore partition mid new → KeepsStore partition old new
keeps_on partition old mid new before after = record {
  tells = λ tells. before.tells (after.tells tells);
  others = λ other apart. after.others other apart ∙ before.others other apart;
  said = after.said ∙ before.said;
  segment = after.segment ∙ before.segment;
  latest = after.latest ∙ before.latest;
  whole = after.whole ∙ before.whole;
  later = le_trans before.later after.later;
  say_faults = after.say_faults ∙ before.say_faults;
}

-- a way with a frame is not taken out
pub with_frame : (way : Way) (going : List Entry) → going_in way ≡ Some going → way ≢ Away
with_frame way going has is = let none : None ≡ Some going = ap going_in (sym is) ∙ has in cc

-- all ways stand where one was put in
none_away : (ways : List Way) (p count : ℕ) (way : Way) → length ways ≡ count → p < count → way ≢ Away → ((q : ℕ) → q < count → way_of ways q ≢ Away) → (q : ℕ) → q < count → way_of (set ways p way) q ≢ Away
none_away ways p count way many below here there q inside is = elim (cases_eq q p) [
  | inl same ↦ here (sym (get_or-set_same ways p way Away (omega (arith, many, below))) ∙ ap (λ (r : ℕ). way_of (set ways p way) r) (sym same) ∙ is)
  | inr other ↦ there q inside (sym (get_or-set_other ways p q way Away other) ∙ is)
]

-- where only one partition's frame moved
pub sound_on : {V N : Type 0} {G : sites.Ghosts V} {H : starts.Ghosts N} (old new : Store V N G H) (p : ℕ) (way : Way) → IsSound old → p < H.origin.count → way ≢ Away → new.ways.items ≡ set old.ways.items p way
    → due_in way ≡ due_in (way_of old.ways.items p) → new.trail ≡ old.trail → new.due ≡ old.due → old.cut ≡ false → new.cut ≡ old.cut
    → (G.tells new.site → IsTold (H.may_follow new.latest) H.may_say H.origin (G.history new.site) (set old.ways.items p way) (trail_of old.trail.items) (told_of new.told.items) new.cut)
    → new.segment ≡ old.segment → (G.tells new.site → G.tells old.site) → (G.tells new.site → KeepsShort old.segment (of_part p (trail_of old.trail.items)) way) → IsSound new
sound_on {V} {N} {G} {H} old new p way sound below here ways due trail dues whole same_cut told segment back short =
    let inside : p < length old.ways.items = omega (arith, sound.count) in
    let sums = sum_by-set due_in old.ways.items p way Away inside in
    let same : sum_by due_in (set old.ways.items p way) ≡ old.due = omega (arith, sums, due, sound.due) in
    record {
      count = ap length ways ∙ length-set old.ways.items p way ∙ sound.count;
      there = λ q below_too. subst (λ (w : List Way). way_of w q ≢ Away) (sym ways) (none_away old.ways.items p H.origin.count way sound.count below here sound.there q below_too);
      apart = sound.apart;
      headers = sound.headers;
      due = ap (sum_by due_in) ways ∙ same ∙ sym dues;
      room = subst (λ (t : Vec rows.Settled). vec_len t + new.due ≤ vec_capacity t) (sym trail) (omega (arith, sound.room, dues));
      uncut = λ still. same_cut ∙ whole;
      told = λ tells.
          subst (λ (w : List Way). IsTold (H.may_follow new.latest) H.may_say H.origin (G.history new.site) w (trail_of new.trail.items) (told_of new.told.items) new.cut) (sym ways)
          (subst (λ (t : Vec rows.Settled). IsTold (H.may_follow new.latest) H.may_say H.origin (G.history new.site) (set old.ways.items p way) (trail_of t.items) (told_of new.told.items) new.cut) (sym trail) (told tells));
      short = λ tells q below_too.
          subst (λ (n : ℕ). KeepsShort n (of_part q (trail_of new.trail.items)) (way_of new.ways.items q)) (sym segment)
          (subst (λ (w : List Way). KeepsShort old.segment (of_part q (trail_of new.trail.items)) (way_of w q)) (sym ways)
          (subst (λ (t : Vec rows.Settled). KeepsShort old.segment (of_part q (trail_of t.items)) (way_of (set old.ways.items p way) q)) (sym trail)
          (short_put old.ways.items p H.origin.count way old.segment (trail_of old.trail.items) (trail_of old.trail.items) sound.count below (short tells) (λ other apart. refl) (sound.short (back tells)) q below_too)));
    }

-- the frame of one partition is one of those that the trail has room for
pub due_of_one : {V N : Type 0} {G : sites.Ghosts V} {H : starts.Ghosts N} (store : Store V N G H) (p : ℕ) → IsSound store → p < H.origin.count → due_in (way_of store.ways.items p) ≤ store.due
due_of_one store p sound below =
    let inside : p < length store.ways.items = omega (arith, sound.count) in
    let sums = sum_by-set due_in store.ways.items p Away Away inside in
    omega (arith, sums, sound.due)

-- where one partition's frame moved and the trail may have grown
pub sound_any : {V N : Type 0} {G : sites.Ghosts V} {H : starts.Ghosts N} (old new : Store V N G H) (p : ℕ) (way : Way) (trail : List Settled) → IsSound old → p < H.origin.count → way ≢ Away → new.ways.items ≡ set old.ways.items p way
    → due_in way + old.due ≡ new.due + due_in (way_of old.ways.items p) → vec_len new.trail + new.due ≤ vec_capacity new.trail → trail_of new.trail.items ≡ trail → old.cut ≡ false → new.cut ≡ old.cut
    → (G.tells new.site → IsTold (H.may_follow new.latest) H.may_say H.origin (G.history new.site) (set old.ways.items p way) trail (told_of new.told.items) new.cut)
    → new.segment ≡ old.segment → (G.tells new.site → G.tells old.site) → ((q : ℕ) → q ≢ p → of_part q trail ≡ of_part q (trail_of old.trail.items)) → (G.tells new.site → KeepsShort old.segment (of_part p trail) way) → IsSound new
sound_any {V} {N} {G} {H} old new p way trail sound below here ways due room grown whole same_cut told segment back same_parts short =
    let inside : p < length old.ways.items = omega (arith, sound.count) in
    let sums = sum_by-set due_in old.ways.items p way Away inside in
    let same : sum_by due_in (set old.ways.items p way) ≡ new.due = omega (arith, sums, due, sound.due) in
    record {
      count = ap length ways ∙ length-set old.ways.items p way ∙ sound.count;
      there = λ q below_too. subst (λ (w : List Way). way_of w q ≢ Away) (sym ways) (none_away old.ways.items p H.origin.count way sound.count below here sound.there q below_too);
      apart = sound.apart;
      headers = sound.headers;
      due = ap (sum_by due_in) ways ∙ same;
      room = room;
      uncut = λ still. same_cut ∙ whole;
      told = λ tells.
          subst (λ (w : List Way). IsTold (H.may_follow new.latest) H.may_say H.origin (G.history new.site) w (trail_of new.trail.items) (told_of new.told.items) new.cut) (sym ways)
          (subst (λ (t : List Settled). IsTold (H.may_follow new.latest) H.may_say H.origin (G.history new.site) (set old.ways.items p way) t (told_of new.told.items) new.cut) (sym grown) (told tells));
      short = λ tells q below_too.
          subst (λ (n : ℕ). KeepsShort n (of_part q (trail_of new.trail.items)) (way_of new.ways.items q)) (sym segment)
          (subst (λ (w : List Way). KeepsShort old.segment (of_part q (trail_of new.trail.items)) (way_of w q)) (sym ways)
          (subst (λ (t : List Settled). KeepsShort old.segment (of_part q t) (way_of (set old.ways.items p way) q)) (sym grown)
          (short_put old.ways.items p H.origin.count way old.segment (trail_of old.trail.items) trail sound.count below (short tells) same_parts (sound.short (back tells)) q below_too)));
    }

-- where only more was said
pub sound_told : {V N : Type 0} {G : sites.Ghosts V} {H : starts.Ghosts N} (old new : Store V N G H) (told : List Said) → IsSound old → new.ways ≡ old.ways → new.trail ≡ old.trail → new.due ≡ old.due → told_of new.told.items ≡ told → (new.halted ≡ false → new.cut ≡ false)
    → (G.tells new.site → IsTold (H.may_follow new.latest) H.may_say H.origin (G.history new.site) old.ways.items (trail_of old.trail.items) told new.cut) → new.segment ≡ old.segment → (G.tells new.site → G.tells old.site) → IsSound new
sound_told {V} {N} {G} {H} old new told sound ways trail due said uncut stands segment back = record {
  count = ap (λ (w : Vec Way). length w.items) ways ∙ sound.count;
  there = λ q below. subst (λ (w : Vec Way). way_of w.items q ≢ Away) (sym ways) (sound.there q below);
  apart = sound.apart;
  headers = sound.headers;
  due = ap (λ (w : Vec Way). sum_by due_in w.items) ways ∙ sound.due ∙ sym due;
  room = subst (λ (t : Vec rows.Settled). vec_len t + new.due ≤ vec_capacity t) (sym trail) (omega (arith, sound.room, due));
  uncut = uncut;
  told = λ tells.
      subst (λ (s : List Said). IsTold (H.may_follow new.latest) H.may_say H.origin (G.history new.site) new.ways.items (trail_of new.trail.items) s new.cut) (sym said)
      (subst (λ (t : Vec rows.Settled). IsTold (H.may_follow new.latest) H.may_say H.origin (G.history new.site) new.ways.items (trail_of t.items) told new.cut) (sym trail)
      (subst (λ (w : Vec Way). IsTold (H.may_follow new.latest) H.may_say H.origin (G.history new.site) w.items (trail_of old.trail.items) told new.cut) (sym ways) (stands tells)));
  short = λ tells q below.
      subst (λ (n : ℕ). KeepsShort n (of_part q (trail_of new.trail.items)) (way_of new.ways.items q)) (sym segment)
      (subst (λ (w : Vec Way). KeepsShort old.segment (of_part q (trail_of new.trail.items)) (way_of w.items q)) (sym ways)
      (subst (λ (t : Vec rows.Settled). KeepsShort old.segment (of_part q (trail_of t.items)) (way_of old.ways.items q)) (sym trail) (sound.short (back tells) q below)));
}

-- where the trail only got more room
pub sound_roomier : {V N : Type 0} {G : sites.Ghosts V} {H : starts.Ghosts N} (old new : Store V N G H) → IsSound old → new.site ≡ old.site → new.ways ≡ old.ways → new.due ≡ old.due → new.told ≡ old.told → new.halted ≡ old.halted → new.cut ≡ old.cut → new.latest ≡ old.latest
    → new.trail.items ≡ old.trail.items → vec_len new.trail ≡ vec_len old.trail → vec_capacity old.trail ≤ vec_capacity new.trail → new.segment ≡ old.segment → IsSound new
sound_roomier {V} {N} {G} {H} old new sound site ways due told halted same_cut latest items len roomier segment = record {
  count = ap (λ (w : Vec Way). length w.items) ways ∙ sound.count;
  there = λ q below. subst (λ (w : Vec Way). way_of w.items q ≢ Away) (sym ways) (sound.there q below);
  apart = sound.apart;
  headers = sound.headers;
  due = ap (λ (w : Vec Way). sum_by due_in w.items) ways ∙ sound.due ∙ sym due;
  room = omega (arith, sound.room, due, len, roomier);
  uncut = λ still. same_cut ∙ sound.uncut (sym halted ∙ still);
  told = λ tells.
      let stands = sound.told (subst G.tells site tells) in
      subst (λ (t : List Settled). IsTold (H.may_follow new.latest) H.may_say H.origin (G.history new.site) new.ways.items t (told_of new.told.items) new.cut) (sym (ap trail_of items))
      (subst (λ (v : V). IsTold (H.may_follow new.latest) H.may_say H.origin (G.history v) new.ways.items (trail_of old.trail.items) (told_of new.told.items) new.cut) (sym site)
      (subst (λ (w : Vec Way). IsTold (H.may_follow new.latest) H.may_say H.origin (G.history old.site) w.items (trail_of old.trail.items) (told_of new.told.items) new.cut) (sym ways)
      (subst (λ (s : Vec requests.Said). IsTold (H.may_follow new.latest) H.may_say H.origin (G.history old.site) old.ways.items (trail_of old.trail.items) (told_of s.items) new.cut) (sym told)
      (subst (λ (b : Bool). IsTold (H.may_follow new.latest) H.may_say H.origin (G.history old.site) old.ways.items (trail_of old.trail.items) (told_of old.told.items) b) (sym same_cut)
      (subst (λ (n : ℕ). IsTold (H.may_follow n) H.may_say H.origin (G.history old.site) old.ways.items (trail_of old.trail.items) (told_of old.told.items) old.cut) (sym latest) stands)))));
  short = λ tells q below.
      subst (λ (n : ℕ). KeepsShort n (of_part q (trail_of new.trail.items)) (way_of new.ways.items q)) (sym segment)
      (subst (λ (w : Vec Way). KeepsShort old.segment (of_part q (trail_of new.trail.items)) (way_of w.items q)) (sym ways)
      (subst (λ (t : List rows.Settled). KeepsShort old.segment (of_part q (trail_of t)) (way_of old.ways.items q)) (sym items) (sound.short (subst G.tells site tells) q below)));
}

-- one request more was answered
pub told_more : (old mid new : List requests.Said) (row : requests.Said) (client : List ℕ) (number : ℕ) → mid ≡ old → new ≡ mid ++ row ∷ [] → row.client ≡ client → row.number ≡ number
    → told_of new ≡ told_of old ++ asked client number ∷ []
told_more old mid new row client number same is client_is number_is =
    ap told_of (is ∙ ap (λ (l : List requests.Said). l ++ row ∷ []) same) ∙ map-append said_of old (row ∷ [])
    ∙ ap (λ (one : Said). told_of old ++ one ∷ []) (ap (λ (name : List ℕ). asked name row.number) client_is ∙ ap (asked client) number_is)
