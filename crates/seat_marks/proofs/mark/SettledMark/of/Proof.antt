-- `of` makes a struct of no bytes, at the entries of the trail that are the partition's.
use Rattle.std.proofs.Common.{ℕ, List, [], ◌∷◌, refl, w32}
use Rattle.std.proofs.raw_atomic.Walks.{proved}
use base.Fml.{ftrue, flft}
use mir.Syntax.{named}
use mir.Val.{Val, vstruct, vcons, vnil}
use types.Kit.{‵, ◌⊛◌, ◌$◌, ◌∵◌, !, qed, done, keep, move, split, join, suffices}
use types.Run.{no_more, and_then, returns, enter}
use types.Part.{agg}
use types.ByLocal.{alloc_all, pass_all, free_all, look_at, get, sets}
use denote.Builtin.{u32}
use denote.Exit.{yes}
use denote.Plain.{uint_vals, uint_Tells}
use denote.Shadow.{pure_i}
use denote.Signature.{plain, shr_slice_of}
use denote.Slice.{ShrSlice, shr_slice_vals, shr_slice_Tells}
use denote.Steps.{nothing}
use denote.Triple.Walked.{Stays, says, stay_dropped, Goes-dropped, ends_at}
use Rattle.hub_store.specs.declared.trail.Settled.{Settled}
use Rattle.hub_store.specs.contracts.trail.Settled.{the_row as S}
use Rattle.hub_store.specs.Plain.{trail_of}
use Rattle.hub_store.specs.Trail.{of_part}
use Rattle.seat_marks.specs.declared.mark.SettledMark.{SettledMark}
use Rattle.seat_marks.specs.contracts.mark.SettledMark.{the_row as R}
use Rattle.seat_marks.specs.contracts.mark.SettledMark.of as f
use Rattle.seat_marks.proofs.mark.SettledMark.of.Statement.{statement}
use Rattle.seat_marks.proofs.mark.SettledMark.of.Code as code

-- as the machine has it: a struct with the marker, which has no field
abbrev stored : Val
stored = vstruct (vcons (vstruct vnil) vnil)

abbrev marked : ℕ → List Settled → SettledMark
marked part trail = record { marker = record {}; mine = of_part part (trail_of trail) }

-- nothing is left of the number and of the slice
abbrev stayed : Stays f.ended.signature.params f.ended.kept
stayed = (stay_dropped (plain (λ _. u32)) yes, (stay_dropped (shr_slice_of (0 ∷ []) tt (plain (λ _. S))) yes, tt))

pub of_spec : {M : Type 1} → statement M
of_spec 𝓤 𝓛 𝓜 𝓡 wired =
    let c = f.clauses 𝓛 𝓜.mem 𝓡.returns in
    proved 𝓛 f.ended stayed c 𝓜 𝓡
    (Goes-dropped 𝓛 1 (plain (λ _. u32)) yes (λ κs x w. refl), (Goes-dropped 𝓛 1 (shr_slice_of (0 ∷ []) tt (plain (λ _. S))) yes (λ κs x w. refl), tt))
    f.Key.name code.function (code.unfolded 𝓤 𝓛.H 𝓜 𝓡 wired)
    (λ κs. (uint_vals w32, (shr_slice_vals, tt))) (λ κs. (uint_Tells w32, (shr_slice_Tells (named 0) κs.0 S, tt)))
    (λ κs qs bounds a _ are.
    let ns = uint_vals w32 a.0 in let ts = shr_slice_vals a.1.0 in let new = marked a.0 a.1.0.now in
    qed 𝓛 (((‵ (flft κs.0 qs.0) ⊛ ‵ ftrue) ⊛ ‵ (u32.own_val a.0 ns) ⊛ ‵ ((ShrSlice (named 0) κs.0 S).own_val a.1.0 ts) ⊛ ‵ ftrue) ∷ ‵ ftrue ∷ []) ∵
    split ! $ keep ! (0 ∷ []) $
    -- [the token]
    enter ! _ _ _ _ _ $
    alloc_all ! (λ l. pass_all ! refl ((tt, record { fits = are.0.1 }), ((tt, (tt, (record { fits = are.1.0.0.1.0 }, tt))), tt)) $
    -- the marker, and the struct with it
    sets ! (agg ! (no_more !)) refl (tt, tt) $
    sets ! (agg ! (and_then ! (get ! refl) (no_more !))) refl (tt, (tt, tt)) $
    returns ! (look_at ! 0 refl) $ free_all ! refl $
    pure_i ! (R.own_val new (stored ∷ [])) ((λ vss. (tt, ((λ uss. (tt, tt)), tt))), tt) (((vstruct vnil ∷ [], tt), (refl, ((tt, (refl, tt)), tt))), tt) $
    suffices ! _ (ends_at 𝓛 f.ended stayed c ((κs, qs, bounds, a, (ns, (ts, tt))), tt) stored new (tt, (tt, tt)) (tt, (tt, tt))) $ says ! refl $
    -- [what the mark owns, which is nothing; the token]
    nothing ! $ nothing ! $ join ! $ nothing ! $ join ! $ move ! (2 ∷ []) $ done !))
