-- What settling a frame leaves.
use Rattle.std.proofs.Common.{◌≡◌, ◌≢◌, inl, inr, ℕ, ◌<◌, Bool, false, List, [], ◌∷◌, ◌++◌, cond, length, Ok, refl, sym, ◌∙◌, ap, subst, append_assoc, arith}
use Rattle.std.specs.List.{All, AllByRecursion}
use Rattle.std.proofs.Math.ListN.{set}
use Rattle.std.proofs.lemmas.Bool.{eq-eqb, ne_eqb, cases_eq}
use Rattle.std.proofs.lemmas.List.{append-nil, get_or-set_same, get_or-set_other}
use Rattle.std.proofs.lemmas.List.Elements.{All-from_recursion}
use Rattle.site_model.specs.History.{Change, Step, changes_of, Leaves}
use Rattle.site_model.specs.Moments.{Always}
use Rattle.site_model.proofs.Paths.{last}
use Rattle.commit_log.specs.Segment.{first_gate}
use Rattle.commit_log.specs.States.{IsResting}
use Rattle.commit_log.proofs.Steps.{resting_images}
use Rattle.commit_log.specs.declared.states.Resting.{Resting}
use Rattle.dura_value.specs.Items.{Entry}
use Rattle.part_items.specs.Spelling.{spell_frame}
use Rattle.part_items.specs.Kept as kept
use Rattle.part_items.specs.Kept.{first_of, decoded}
use Rattle.hub_store.specs.declared.way.Way.{Way}
use Rattle.hub_store.specs.declared.way.Way.TheVariants as places
use Rattle.hub_store.specs.declared.way.Way.TheVariants.{Away}
use Rattle.hub_store.specs.Origin.{Origin, AreApart}
use Rattle.hub_store.specs.Trail.{Settled, Said, of_part, settling}
use Rattle.hub_store.specs.Moments.{WroteGate, LeavesLog, StandsWith}
use Rattle.hub_store.specs.Moments.SaidSoFar.{settles as told_settles}
use Rattle.hub_store.specs.Runs.Runs.{settles as run_settles}
use Rattle.hub_store.specs.Ways.{LogFits, way_of}
use Rattle.hub_store.specs.Sound.{IsTold}
use Rattle.hub_store.proofs.EveryMoment.{runs_along}
use Rattle.hub_store.proofs.Payloads.{kept_payloads}
use Rattle.hub_store.proofs.Standing.{OnLog, stands_on, other_log}

-- the entries of a partition: of its own frame all, of another's none
pub of_part-append : (p : ℕ) (trail more : List Settled) → of_part p (trail ++ more) ≡ of_part p trail ++ of_part p more
of_part-append p [] more = refl
of_part-append p (one ∷ trail) more = elim (cases_eq one.partition p) [
  | inl is ↦
      ap (λ b. cond b (one.entry ∷ of_part p (trail ++ more)) (of_part p (trail ++ more))) (eq-eqb one.partition p is)
      ∙ ap (λ (l : List Entry). one.entry ∷ l) (of_part-append p trail more)
      ∙ ap (λ b. cond b (one.entry ∷ of_part p trail) (of_part p trail) ++ of_part p more) (sym (eq-eqb one.partition p is))
  | inr other ↦
      ap (λ b. cond b (one.entry ∷ of_part p (trail ++ more)) (of_part p (trail ++ more))) (ne_eqb one.partition p other)
      ∙ of_part-append p trail more
      ∙ ap (λ b. cond b (one.entry ∷ of_part p trail) (of_part p trail) ++ of_part p more) (sym (ne_eqb one.partition p other))
]

pub own_part : (p at : ℕ) (going : List Entry) → of_part p (settling p at going) ≡ going
own_part p at [] = refl
own_part p at (entry ∷ going) =
    ap (λ b. cond b (entry ∷ of_part p (settling p at going)) (of_part p (settling p at going))) (eq-eqb p p refl) ∙ ap (λ (l : List Entry). entry ∷ l) (own_part p at going)

pub no_part : (p q at : ℕ) (going : List Entry) → (p ≡ q → ⊥) → of_part q (settling p at going) ≡ []
no_part p q at [] other = refl
no_part p q at (entry ∷ going) other =
    ap (λ b. cond b (entry ∷ of_part q (settling p at going)) (of_part q (settling p at going))) (ne_eqb p q other) ∙ no_part p q at going other

-- all of a frame is settled at one moment
all_at : (p at : ℕ) (going : List Entry) → AllByRecursion (λ one. one.at ≡ at) (settling p at going)
all_at p at [] = tt
all_at p at (entry ∷ going) = (refl, all_at p at going)

module _ (MayFollow : List Settled → List Said → ℕ → List Entry → Type 0) (MaySay : List Settled → List Said → Said → List ℕ → Type 0) (o : Origin)
    (still : (trail : List Settled) (told : List Said) (partition at : ℕ) (going : List Entry) (other : ℕ) (theirs : List Entry) → other ≢ partition → MayFollow trail told partition going → MayFollow trail told other theirs → MayFollow (trail ++ settling partition at going) told other theirs) where
  -- another partition's log, once a frame was settled that might be
  log_more : (p at : ℕ) (going : List Entry) (q : ℕ) (trail : List Settled) (told : List Said) (changes : List Change) (image : List ℕ) → q ≢ p → MayFollow trail told p going → LeavesLog MayFollow MaySay (o.logs q) q trail told changes image
      → LeavesLog MayFollow MaySay (o.logs q) q (trail ++ settling p at going) told changes image
  log_more p at going q trail told changes image apart may leaves =
      let more = settling p at going in
      let none : of_part q more ≡ [] = no_part p q at going (λ is. apart (sym is)) in
      let same : of_part q (trail ++ more) ≡ of_part q trail = of_part-append q trail more ∙ ap (λ (l : List Entry). of_part q trail ++ l) none ∙ append-nil (of_part q trail) in
      elim leaves [
        | inl keeps ↦ inl (keeps.0, keeps.1 ∙ ap (λ (l : List Entry). kept.keeps (o.logs q).header ((o.logs q).entries ++ l) keeps.0) (sym same))
        | inr next ↦
            inr (record {
              going = next.going;
              follows = still trail told p at going q next.going apart may next.follows;
              gate = subst (λ (l : List Entry). WroteGate (o.logs q) l changes) (sym same) next.gate;
              keeps = (next.keeps.0, next.keeps.1 ∙ ap (λ (l : List Entry). kept.keeps (o.logs q).header ((o.logs q).entries ++ (l ++ next.going)) next.keeps.0) (sym same));
            })
      ]

  -- the log with its new frame, and the others
  pub told_settled : (p : ℕ) (log : Resting) (trail : List Settled) (told : List Said) (going : List Entry) (payloads : List (List ℕ)) (old new : List Step) (ways : List Way) (cut now_cut : Bool) (at : ℕ)
      → AreApart o → length ways ≡ o.count → p < o.count → cut ≡ false → at ≡ length new → MayFollow trail told p going → IsTold MayFollow MaySay o old ways trail told cut → Always (OnLog MayFollow MaySay o p trail told old) old new
      → decoded first_gate (first_of (o.logs p).header) (payloads ++ spell_frame going ∷ []) ≡ Ok ((o.logs p).entries ++ of_part p trail ++ going) → log.file ≡ (o.logs p).file
      → IsResting (changes_of (o.logs p).file new) (o.logs p).header (payloads ++ spell_frame going ∷ []) log.gate → IsTold MayFollow MaySay o new (set ways p (places.Resting log)) (trail ++ settling p at going) told now_cut
  told_settled p log trail told going payloads old new ways cut now_cut at apart many below uncut at_is follows stood path reads file_is rests =
      let more = settling p at going in
      let h = (o.logs p).header in
      let file = (o.logs p).file in
      let own : of_part p (trail ++ more) ≡ of_part p trail ++ going = of_part-append p trail more ∙ ap (λ (l : List Entry). of_part p trail ++ l) (own_part p at going) in
      let all : decoded first_gate (first_of h) (payloads ++ spell_frame going ∷ []) ≡ Ok ((o.logs p).entries ++ of_part p (trail ++ more)) =
      reads ∙ ap (λ (l : List Entry). Ok l) (append_assoc (o.logs p).entries (of_part p trail) going ∙ ap (λ (l : List Entry). (o.logs p).entries ++ l) (sym own)) in
      let before = stood.rests uncut in
      let there : StandsWith MayFollow MaySay o new trail told [] = stands_on MayFollow MaySay o p trail told old new apart below before (last path) in
      let image_of : (image : List ℕ) → Leaves (changes_of file new) image → LeavesLog MayFollow MaySay (o.logs p) p (trail ++ more) told (changes_of file new) image =
      λ image left. inl (log.gate, kept_payloads h (payloads ++ spell_frame going ∷ []) log.gate ((o.logs p).entries ++ of_part p (trail ++ more)) image (resting_images h (payloads ++ spell_frame going ∷ []) log.gate (changes_of file new) rests image left) all) in
      let stands : StandsWith MayFollow MaySay o new (trail ++ more) told [] = record {
        lines = there.lines;
        rightly = told_settles there.rightly p at going follows;
        spoken = there.spoken;
        images = λ q inside. elim (cases_eq q p) [
          | inl is ↦ subst (λ (r : ℕ). (image : List ℕ) → Leaves (changes_of (o.logs r).file new) image → LeavesLog MayFollow MaySay (o.logs r) r (trail ++ more) told (changes_of (o.logs r).file new) image) (sym is) image_of
          | inr other ↦ λ image left. log_more p at going q trail told (changes_of (o.logs q).file new) image other follows (there.images q inside image left)
        ];
        others = there.others;
      } in
      let own_fits : LogFits (o.logs p) (of_part p (trail ++ more)) (changes_of file new) (places.Resting log) = record { payloads = payloads ++ spell_frame going ∷ []; kept = all; next = tt; fits = (file_is, rests) } in
      record {
        runs = run_settles more
            (runs_along stood.runs path (λ steps here. record { told = told; part = []; stands = stands_on MayFollow MaySay o p trail told old steps apart below before here; speaking = inl refl }))
            (subst (λ (n : ℕ). All (λ (one : Settled). one.at ≡ n) more) at_is (All-from_recursion (λ (one : Settled). one.at ≡ at) more (all_at p at going)))
            (record { told = told; part = []; stands = stands; speaking = inl refl });
        logs = λ q inside. elim (cases_eq q p) [
          | inl is ↦ subst (λ (r : ℕ). LogFits (o.logs r) (of_part r (trail ++ more)) (changes_of (o.logs r).file new) (way_of (set ways p (places.Resting log)) r)) (sym is)
              (subst (LogFits (o.logs p) (of_part p (trail ++ more)) (changes_of file new)) (sym (get_or-set_same ways p (places.Resting log) Away (omega arith))) own_fits)
          | inr other ↦ other_fits q inside other
        ];
        rests = λ still_going. stands;
      }
    where
      other_fits : (q : ℕ) → q < o.count → (q ≡ p → ⊥) → LogFits (o.logs q) (of_part q (trail ++ settling p at going)) (changes_of (o.logs q).file new) (way_of (set ways p (places.Resting log)) q)
      other_fits q inside other =
          let same : of_part q (trail ++ settling p at going) ≡ of_part q trail = of_part-append q trail (settling p at going) ∙ ap (λ (l : List Entry). of_part q trail ++ l) (no_part p q at going (λ e. other (sym e))) ∙ append-nil (of_part q trail) in
          subst (λ (l : List Entry). LogFits (o.logs q) l (changes_of (o.logs q).file new) (way_of (set ways p (places.Resting log)) q)) (sym same)
          (subst (λ (changes : List Change). LogFits (o.logs q) (of_part q trail) changes (way_of (set ways p (places.Resting log)) q)) (sym (other_log MayFollow MaySay o p q old new apart below inside other (last path).only))
          (subst (LogFits (o.logs q) (of_part q trail) (changes_of (o.logs q).file old)) (sym (get_or-set_other ways p q (places.Resting log) Away other)) (stood.logs q inside)))
