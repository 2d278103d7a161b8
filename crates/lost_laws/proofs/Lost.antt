-- Nothing that an entry of the trail depends on is lost, nor of a frame whose gate was tried.
use Rattle.std.proofs.Common.{◌≡◌, inl, inr, ℕ, ◌<◌, ◌≤◌, true, List, [], ◌∷◌, ◌++◌, map, length, Option, Some, refl, sym, ◌∙◌, ap, subst, arith}
use Rattle.std.specs.List.{Contains}
use Rattle.std.proofs.lemmas.Bool.{cases_eq}
use Rattle.std.proofs.lemmas.List.{map-append, length-map, get_or-map, get_or_past}
use Rattle.std.proofs.lemmas.List.Elements.{Contains-append_right}
use Rattle.std.proofs.lemmas.Option.{slice_get_cases}
use Rattle.commit_gate.proofs.Losing.{known_kept}
use Rattle.commit_gate.specs.Ledgers.{Ledger, IsKnown, log_length}
use Rattle.commit_gate.specs.Views.{floors_in, floors_of, whole_of}
use Rattle.commit_gate.specs.declared.ledger.Ledger as declared
use Rattle.dura_value.specs.Dependencies.{Lost}
use Rattle.dura_value.specs.Items.{Identity, Entry, Floor}
use Rattle.gated_store.proofs.Grounds.{trail_causal}
use Rattle.gated_store.proofs.Moving.{floors_are, known_unlost}
use Rattle.gated_store.specs.Causal.{identity_of, IsThere}
use Rattle.gated_store.specs.Following.{own_after, others_after}
use Rattle.gated_store.specs.Follows.{ledgers_at, GoesOnThere}
use Rattle.gated_store.specs.Kept.{LedgerFits, Fits, Grown, IsMade, IsMetAt}
use Rattle.gated_store.specs.Kept.Grown.{one_more}
use Rattle.hub_store.specs.Trail.{Settled, Said, of_part, settling}
use Rattle.hub_store.specs.Ways.{is_tried, stage_of, way_of}
use Rattle.hub_store.specs.declared.way.Stage.{Stage}
use Rattle.hub_store.specs.declared.way.Way.{Way}
use Rattle.hub_store.specs.declared.way.Way.TheVariants.{Away}
use Rattle.log_items.specs.Entries.{identity_at, identities_at}
use Rattle.lost_laws.proofs.There.{depends_there, there_known}
use Rattle.lost_laws.specs.DependsOn.{NoneLost}

contains_map : {X Y : Type 0} (f : X → Y) (xs : List X) (x : X) → Contains xs x → Contains (map f xs) (f x)
contains_map f xs x (k, low, is) = (k, omega (arith, low, length-map xs f), get_or-map f xs k x (f x) low ∙ ap f is)

settling_named : (p at : ℕ) (frame : List Entry) → map identity_of (settling p at frame) ≡ identities_at p frame
settling_named p at [] = refl
settling_named p at (entry ∷ frame) = ap (λ (l : List Identity). identity_at p entry ∷ l) (settling_named p at frame)

-- there is no floor of a partition that isn't there
past_kept : (list : List declared.Ledger) (e : Identity) → length list ≤ e.partition → Lost (floors_of list e.partition) e → ⊥
past_kept list e past lost =
    let none : floors_of list e.partition ≡ [] = get_or_past (map floors_in list) e.partition [] (omega (arith, past, length-map list floors_in)) in
    let there = subst (λ (f : List Floor). Contains f lost.floor) none lost.there in
    let low : there.0 < 0 = there.1 in
    omega (arith, low)

-- a frame whose gate was tried is of a partition that is there
pub tried_below : (count p : ℕ) (ways : List Way) → length ways ≡ count → is_tried (stage_of (way_of ways p)) ≡ true → p < count
tried_below count p ways many tried = elim (slice_get_cases ways p).1 [
  | inl row ↦ omega (arith, row.1, many)
  | inr past ↦
      let away : way_of ways p ≡ Away = get_or_past ways p Away past.0 in
      absurd (cc (away, tried))
]

module _ (count : ℕ) (ledgers : ℕ → List Entry → Ledger) (readers : ℕ → ℕ → Identity) (may_make : ℕ → List Entry → List Said → ℕ → List Entry → Type 0) (goes : (latest : ℕ) (mine : List Entry) (told : List Said) (partition : ℕ) (going : List Entry) → may_make latest mine told partition going → GoesOnThere ledgers mine partition going)
    (latest : ℕ) (trail : List Settled) (told : List Said) (going : ℕ → Option (List Entry)) (stage : ℕ → Stage) (list : List declared.Ledger) (fits : Fits count ledgers readers may_make latest trail told going stage list) where
  abbrev begin : ℕ → Ledger
  begin p = ledgers p []

  -- ---- nothing that is known is lost

  settled_kept : (e : Identity) → IsKnown (ledgers_at ledgers trail e.partition) e → Lost (floors_of list e.partition) e → ⊥
  settled_kept e known = elim (slice_get_cases list e.partition).1 [
    | inl row ↦ known_unlost count ledgers readers may_make latest trail told going stage list fits e (omega (arith, row.1, fits.many)) known
    | inr past ↦ past_kept list e past.0
  ]

  frame_kept : (p at : ℕ) (frame : List Entry) → going p ≡ Some frame → (e : Identity) → IsKnown (ledgers_at ledgers (trail ++ settling p at frame) e.partition) e → Lost (floors_of list e.partition) e → ⊥
  frame_kept p at frame way e known = elim (cases_eq e.partition p) [
    | inr apart ↦ settled_kept e (subst (λ (l : List Entry). IsKnown (ledgers e.partition l) e) (others_after trail p at frame e.partition apart) known)
    | inl is ↦ elim (slice_get_cases list e.partition).1 [
      | inr past ↦ past_kept list e past.0
      | inl (ledger, low, there, same) ↦
          let fit = fits.each e.partition ledger there in
          let comes = subst (λ (o : Option (List Entry)). LedgerFits ledgers readers count e.partition (of_part e.partition trail) o ledger) (ap going is ∙ way) fit in
          let own : ledgers_at ledgers (trail ++ settling p at frame) e.partition ≡ ledgers e.partition (of_part e.partition trail ++ frame) =
          subst (λ (q : ℕ). ledgers q (of_part q (trail ++ settling p at frame)) ≡ ledgers q (of_part q trail ++ frame)) (sym is) (ap (ledgers p) (own_after trail p at frame)) in
          let shown : IsKnown (whole_of ledger) e = subst (λ (l : Ledger). IsKnown l e) (own ∙ sym comes.comes.1) known in
          subst (λ (f : List Floor). (Lost f e → ⊥)) (sym (floors_are list e.partition ledger low (sym same))) (known_kept (whole_of ledger) (floors_in ledger) e fit.unlost shown)
    ]
  ]

  -- ---- nor what is depended on

  none_lost : (now : List Settled) → Grown ledgers may_make now → ((e : Identity) → IsKnown (ledgers_at ledgers now e.partition) e → Lost (floors_of list e.partition) e → ⊥) → (e : Identity) → IsThere begin now e → NoneLost begin now (floors_of list) e
  none_lost now grown kept e there d either = kept d (there_known ledgers may_make goes grown d (elim either [
    | inl is ↦ subst (IsThere begin now) (sym is) there
    | inr depends ↦ depends_there ledgers (λ t p. log_length (ledgers_at ledgers t p)) now (trail_causal ledgers may_make goes fits.first grown) depends
  ]))

  pub settled_none : (one : Settled) → Contains trail one → NoneLost begin trail (floors_of list) (identity_of one)
  settled_none one there = none_lost trail fits.grown settled_kept (identity_of one) (inr (contains_map identity_of trail one there))

  pub gated_none : (p at : ℕ) (frame : List Entry) (entry : Entry) → p < count → is_tried (stage p) ≡ true → going p ≡ Some frame → Contains frame entry → NoneLost begin (trail ++ settling p at frame) (floors_of list) (identity_at p entry)
  gated_none p at frame entry below tried way there =
      let now = trail ++ settling p at frame in
      let makes = subst (IsMade may_make latest (of_part p trail) told p) way (fits.made p below) in
      let met = subst (IsMetAt ledgers trail p) way (fits.met p below tried) in
      let grown : Grown ledgers may_make now = one_more latest told p at frame fits.grown (record { makes = makes; met = met }) in
      none_lost now grown (frame_kept p at frame way) (identity_at p entry)
      (inr (subst (λ (l : List Identity). Contains l (identity_at p entry)) (sym (map-append identity_of trail (settling p at frame)))
      (Contains-append_right (map identity_of trail) (map identity_of (settling p at frame)) (identity_at p entry)
      (subst (λ (l : List Identity). Contains l (identity_at p entry)) (sym (settling_named p at frame)) (contains_map (identity_at p) frame entry there)))))
